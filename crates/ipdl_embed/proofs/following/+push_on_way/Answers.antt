use Rattle.ipdl_term.specs.Views.{protocol_of}
use Rattle.ipdl_embed.specs.Following.{names_of}
use Rattle.ipdl_embed.proofs.Followed.{hidden_on_way-none}
use Rattle.ipdl_embed.proofs.following.+push_on_way.Goals as goal

pub returns-in_default : goal.returns-in_default
returns-in_default t c =
    hidden_on_way-none (protocol_of c.args.whole.now) c.args.place.now (names_of c.args.names.now.items) c.in_default.ensures.cases
