use Rattle.std.proofs.Common.{◌≡◌, ◌++◌, take}
use Rattle.ipdl_uses.proofs.carrying.joined.Given as goal

-- the outer one and what of the inner one was pushed
abbrev pub invariant-loop-child : goal.invariant-loop-child
invariant-loop-child l = l.path ≡ l.fn.outer ++ take l.child-index l.parts
