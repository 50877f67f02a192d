use Rattle.ipdl_instances.proofs.Carried.{free_channels_of_interface}
use Rattle.ipdl_instances.proofs.carrying.free_channels_of_interface.Goals as goal

pub returns : goal.returns
returns c = free_channels_of_interface
