use Rattle.ipdl_norm.proofs.TidyMeanings.{tidied_at_place}
use Rattle.ipdl_norm.proofs.tidy_laws.tidied_at_place.Goals as goal

pub returns : goal.returns
returns c = tidied_at_place
