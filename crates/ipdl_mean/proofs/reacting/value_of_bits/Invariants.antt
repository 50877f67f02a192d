use Rattle.std.proofs.Common.{◌≡◌, take}
use Rattle.ipdl_mean.proofs.reacting.value_of_bits.Given as goal

-- the bits so far
abbrev pub invariant-loop-bit : goal.invariant-loop-bit
invariant-loop-bit l = l.value ≡ take l.bit-index l.tape
