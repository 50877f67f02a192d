use Rattle.std.proofs.Common.{◌≡◌, take}
use Rattle.ipdl_top.specs.Requests.{tape_of}
use Rattle.ipdl_top.proofs.answering.tape_bits.Given as goal

-- the bits of the digits so far
abbrev pub invariant-loop-c : goal.invariant-loop-c
invariant-loop-c l = l.bits.items ≡ tape_of (take l.c-index l.c-items)
