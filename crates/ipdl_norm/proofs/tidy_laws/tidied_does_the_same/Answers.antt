use Rattle.ipdl_norm.proofs.TidyMeanings.{tidied_does_the_same}
use Rattle.ipdl_norm.proofs.tidy_laws.tidied_does_the_same.Goals as goal

pub returns : goal.returns
returns c = tidied_does_the_same
