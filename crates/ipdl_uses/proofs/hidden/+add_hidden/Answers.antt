use Rattle.std.proofs.lemmas.Result.{on_ok_weaker}
use Rattle.ipdl_uses.proofs.HiddenSets.{added}
use Rattle.ipdl_term.specs.Renaming.{hidden_channels}
use Rattle.ipdl_term.specs.Views.{protocol_of}
use Rattle.ipdl_uses.proofs.hidden.+add_hidden.Goals as goal

pub returns-in_ok-add_hidden-in-Par : goal.returns-in_ok-add_hidden-in-Par
returns-in_ok-add_hidden-in-Par t c =
    rw (c.in-Par.is, ← c.deref.ensures, ← c.deref-in-Par.ensures)
    (on_ok_weaker c.add_hidden-in-Par.result
    (added (hidden_channels (protocol_of c.deref.result.now)) (hidden_channels (protocol_of c.deref-in-Par.result.now)) c.args.names.now c.add_hidden.new.names c.add_hidden-in-Par.new.names c.in_ok-add_hidden-in-Par.ensures)
    c.add_hidden-in-Par.ensures)
