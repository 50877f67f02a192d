use Rattle.ipdl_script.proofs.MeaningLaws.{chain_ends}
use Rattle.ipdl_script.proofs.chains.chain_leads_across.Goals as goal

pub returns : goal.returns
returns c = λ x so_far t chain h. (h.first, chain_ends x so_far t chain h)
