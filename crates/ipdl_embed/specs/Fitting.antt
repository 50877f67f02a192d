-- Whether the new names of an interface's channels are visible with the channels' widths.
use Rattle.std.specs.Prelude.{ℕ, ◌+◌, Bool, false, nat_eq, List, [], ◌∷◌, Option, Some, None, option_map, if◌then◌else◌}
use Rattle.ipdl_term.specs.Renaming.{Renaming}
use Rattle.ipdl_term.specs.Typing.{Scope}
use Rattle.ipdl_term.specs.declared.interface.Port.{Port}

-- whether it is the width that is seen
abbrev pub is_width : Option ℕ → ℕ → Bool
is_width None w = false
is_width (Some v) w = nat_eq v w

-- whether the port's new name is visible with the port's width
abbrev pub is_visible : Scope → Renaming → Port → Bool
is_visible scope f port = is_width (scope (f port.name)) port.width

-- the number of the first port of which that does not hold
abbrev pub first_unfit : Scope → Renaming → List Port → Option ℕ
first_unfit scope f [] = None
first_unfit scope f (port ∷ ports) =
    if is_visible scope f port then option_map (λ n. n + 1) (first_unfit scope f ports) else Some 0
