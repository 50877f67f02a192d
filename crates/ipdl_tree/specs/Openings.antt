-- The parentheses that are open, and the trees in a row that stand between them.
use Rattle.std.specs.Prelude.{ℕ, ◌≤◌, List, [], ◌∷◌, map, reverse, take, drop}
use Rattle.ipdl_tree.specs.declared.groups.Opening.{Opening}
use Rattle.ipdl_tree.specs.declared.tree.Tree.{Tree}
use Rattle.ipdl_tree.specs.Reading.{Group}
use Rattle.ipdl_tree.specs.Views.{located}

-- the groups that are open, the innermost first, with the trees in a row: those of each begin at its place
abbrev pub open_groups : List Opening → List Tree → List Group
open_groups [] trees = []
open_groups (g ∷ gs) trees = record { start = g.pos.0; parts = map located (drop g.first trees) } ∷ open_groups gs (take g.first trees)

-- so many trees reach to each place, and each place is not before the one of the group around
abbrev pub AreWithin : List Opening → ℕ → Type 0
AreWithin [] count = Unit {0}
AreWithin (g ∷ gs) count = (g.first ≤ count) × AreWithin gs g.first

-- the groups that are open, of the program's openings, the innermost last, and their trees
abbrev pub groups_of : List Opening × List Tree → List Group
groups_of g = open_groups (reverse g.0) g.1
