use Rattle.ipdl_term.specs.Renaming.{hidden_channels}
use Rattle.ipdl_term.specs.Views.{protocol_of}
use Rattle.ipdl_uses.proofs.HiddenSets.{two_added}
use Rattle.ipdl_uses.proofs.hidden.hidden_in_either.Goals as goal

pub returns : goal.returns
returns c =
    two_added (hidden_channels (protocol_of c.args.first.now)) (hidden_channels (protocol_of c.args.second.now)) c.empty-names.result
    c.add_hidden.new.names c.add_hidden-2.new.names c.empty-names.ensures c.in_ok-add_hidden.ensures c.in_ok-add_hidden-2.ensures
