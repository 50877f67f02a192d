-- The path of a place.
use Rattle.std.specs.Prelude.{ℕ, List, [], ◌∷◌, ◌++◌}
use Rattle.ipdl_typing.specs.declared.place.Place.{Place, Child'}
use Rattle.ipdl_typing.specs.declared.place.Place.TheVariants.{Root}

-- the numbers of the children on the way, the root's first
abbrev pub path_of : Place → List ℕ
path_of Root = []
path_of (Child' _ above n) = path_of above ++ n ∷ []
