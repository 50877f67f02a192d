use Rattle.std.proofs.Common.{sym, subst}
use Rattle.std.specs.Map.{values_of}
use Rattle.ipdl_term.specs.Channels.{AreDisjoint}
use Rattle.ipdl_term.specs.Renaming.{hidden_channels}
use Rattle.ipdl_term.specs.Steps.{direction_of}
use Rattle.ipdl_uses.proofs.FreeSides.{side_is_free}
use Rattle.ipdl_uses.specs.Views.{lemma_of}
use Rattle.ipdl_uses.proofs.refusing.check_side.Goals as goal

pub in_new_names-requires : goal.in_new_names-requires
in_new_names-requires c =
    let names = values_of c.args.renaming.now in
    subst (λ side. AreDisjoint names (hidden_channels side)) (sym c.side_of.ensures)
    (side_is_free names (lemma_of c.args.known.now).chain (direction_of c.args.dir) c.requires.free)
