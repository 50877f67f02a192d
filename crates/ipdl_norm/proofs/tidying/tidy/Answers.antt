-- The numbers of a reaction have room where the greatest one and the binders have.
use Rattle.ipdl_norm.proofs.Growing.{room_in_whole}
use Rattle.ipdl_term.specs.Views.{reaction_of}
use Rattle.ipdl_norm.proofs.tidying.tidy.Goals as goal

pub tidy_counted-requires : goal.tidy_counted-requires
tidy_counted-requires c = room_in_whole (reaction_of c.args.term.now) c.requires
