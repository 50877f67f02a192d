use Rattle.ipdl_script.proofs.ScriptLaws.{one_chain}
use Rattle.ipdl_script.proofs.chains.one_chain.Goals as goal

pub returns : goal.returns
returns c = one_chain
