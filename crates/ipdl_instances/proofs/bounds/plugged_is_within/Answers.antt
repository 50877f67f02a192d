use Rattle.ipdl_instances.proofs.WithinLaws.{IsProtocolWithin-plugged, parts_within}
use Rattle.ipdl_instances.proofs.bounds.plugged_is_within.Goals as goal

pub returns-clause-whole : goal.returns-clause-whole
returns-clause-whole c = IsProtocolWithin-plugged

pub returns-clause-parts : goal.returns-clause-parts
returns-clause-parts c = parts_within
