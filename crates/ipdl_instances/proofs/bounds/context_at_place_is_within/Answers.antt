use Rattle.ipdl_instances.proofs.WithinLaws.{IsContextWithin-context_at}
use Rattle.ipdl_instances.proofs.bounds.context_at_place_is_within.Goals as goal

pub returns : goal.returns
returns c = IsContextWithin-context_at
