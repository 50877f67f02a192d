use Rattle.ipdl_instances.proofs.WithinLaws.{IsContextWithin-nested}
use Rattle.ipdl_instances.proofs.bounds.nested_is_within.Goals as goal

pub returns : goal.returns
returns c = IsContextWithin-nested
