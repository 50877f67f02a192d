use Rattle.ipdl_embed.proofs.Followed.{hidden_on_way-hidden_around}
use Rattle.ipdl_instances.proofs.carrying.hidden_around_place.Goals as goal

pub returns : goal.returns
returns c = hidden_on_way-hidden_around
