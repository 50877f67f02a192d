use Rattle.ipdl_script.proofs.ScriptLaws.{chain_exactly}
use Rattle.ipdl_script.proofs.chains.chain_exactly.Goals as goal

pub returns : goal.returns
returns c = chain_exactly
