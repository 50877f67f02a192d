use Rattle.ipdl_linear.proofs.BitByBit.{IsBitwiseUpTo}
use Rattle.ipdl_linear.proofs.numbering.Numbering.bitwise.Given as goal

abbrev pub invariant-loop-i : goal.invariant-loop-i
invariant-loop-i l = IsBitwiseUpTo l.fn.self l.self l.operator l.ps l.qs l.forms.items l.i
