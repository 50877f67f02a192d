use Rattle.ipdl_instances.proofs.Composed.{hidden_channels-renamed, hidden_around-renamed}
use Rattle.ipdl_instances.proofs.composition.hidden_channels_of_renamed.Goals as goal

pub returns-clause-protocol : goal.returns-clause-protocol
returns-clause-protocol c = hidden_channels-renamed

pub returns-clause-context : goal.returns-clause-context
returns-clause-context c = hidden_around-renamed
