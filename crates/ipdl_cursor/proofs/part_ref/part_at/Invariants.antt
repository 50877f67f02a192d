use Rattle.std.proofs.Common.{◌≡◌, drop}
use Rattle.ipdl_term.specs.Places.{term_at}
use Rattle.ipdl_cursor.specs.Views.{part_of}
use Rattle.ipdl_cursor.proofs.part_ref.part_at.Given as goal

-- what is left leads from here to where the whole place leads
abbrev pub invariant-loop-number : goal.invariant-loop-number
invariant-loop-number l = term_at (part_of l.part) (drop l.number-index l.place) ≡ term_at (part_of l.fn.whole) l.place
