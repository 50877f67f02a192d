-- The widths of the binders around a place.
use Rattle.std.specs.Prelude.{ℕ, List, ◌∷◌, reverse}
use Rattle.ipdl_typing.specs.declared.binder_widths.BinderWidths.{BinderWidths, Inner'}
use Rattle.ipdl_typing.specs.declared.binder_widths.BinderWidths.TheVariants.{Given}

-- that of variable 0 first
abbrev pub widths_of : BinderWidths → List ℕ
widths_of (Given widths) = reverse widths.now
widths_of (Inner' _ outside w) = w ∷ widths_of outside
