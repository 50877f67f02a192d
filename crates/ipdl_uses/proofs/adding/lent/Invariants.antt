use Rattle.std.proofs.Common.{◌≡◌, take}
use Rattle.ipdl_uses.specs.Adding.{lent_terms}
use Rattle.ipdl_uses.proofs.adding.lent.Given as goal

-- those so far are lent
abbrev pub invariant-loop-term : goal.invariant-loop-term
invariant-loop-term l = lent_terms l.made.items ≡ take l.term-index l.terms
