use Rattle.ipdl_instances.proofs.WithinLaws.{IsProtocolWithin-renamed, IsContextWithin-renamed}
use Rattle.ipdl_instances.proofs.bounds.renamed_is_within.Goals as goal

pub returns-clause-protocol : goal.returns-clause-protocol
returns-clause-protocol c = IsProtocolWithin-renamed

pub returns-clause-context : goal.returns-clause-context
returns-clause-context c = IsContextWithin-renamed
