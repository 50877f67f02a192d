use Rattle.ipdl_norm.proofs.TidyMeanings.{tidied_is_typed}
use Rattle.ipdl_norm.proofs.tidy_laws.tidied_is_typed.Goals as goal

pub returns : goal.returns
returns c = tidied_is_typed
