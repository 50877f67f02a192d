-- What a protocol stands in, as the program tells it.
use Rattle.ipdl_term.specs.declared.sizes.Within.{Within}
use Rattle.ipdl_term.specs.declared.sizes.Within.TheVariants.{Other, Par, New}
use Rattle.ipdl_term.specs.Sizes.{Spine, no_spine, par_spine, new_spine}

abbrev pub spine_of : Within → Spine
spine_of Other = no_spine
spine_of Par = par_spine
spine_of New = new_spine
