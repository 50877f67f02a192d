use Rattle.std.proofs.Common.{◌≡◌, map, take}
use Rattle.ipdl_linear.specs.Operations.{constant_number}
use Rattle.ipdl_linear.proofs.leaves.constants.Given as goal

abbrev pub invariant-loop-place : goal.invariant-loop-place
invariant-loop-place l = l.forms.items ≡ map constant_number (take l.place l.bits)
