use Rattle.ipdl_script.proofs.MeaningLaws.{chain_means}
use Rattle.ipdl_script.proofs.chains.chain_means.Goals as goal

pub returns : goal.returns
returns c = λ x tables lemmas so_far t chain h left right. chain_means x so_far t chain h tables lemmas left right
