use Rattle.ipdl_truth.proofs.Interpretations.{agree-everywhere_under_all}
use Rattle.ipdl_truth.proofs.laws.agree_under_all.Goals as goal

pub returns : goal.returns
returns c = agree-everywhere_under_all
