use Rattle.ipdl_linear.proofs.Places.{IsPlacesUpTo}
use Rattle.ipdl_linear.proofs.numbering.Numbering.places.Given as goal

abbrev pub invariant-loop-place : goal.invariant-loop-place
invariant-loop-place l = IsPlacesUpTo l.fn.self l.self l.source l.forms.items l.place
