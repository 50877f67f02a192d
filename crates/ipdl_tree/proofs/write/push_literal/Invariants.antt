use Rattle.std.proofs.Common.{◌≡◌, ◌++◌, take, map}
use Rattle.ipdl_tree.specs.Spelling.{bit_digit}
use Rattle.ipdl_tree.proofs.write.push_literal.Given as goal

abbrev pub invariant-loop-index : goal.invariant-loop-index
invariant-loop-index l = l.text.items ≡ l.initial.text.items ++ map bit_digit (take l.index l.fn.bits)
