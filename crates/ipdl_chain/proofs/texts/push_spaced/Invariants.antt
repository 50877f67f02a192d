use Rattle.std.proofs.Common.{◌≡◌, ◌++◌, map, drop}
use Rattle.std.specs.Fmt.{decimal}
use Rattle.ipdl_printing.specs.Texts.{spaced}
use Rattle.ipdl_printing.proofs.Blanks.{with_blanks}
use Rattle.ipdl_chain.proofs.texts.push_spaced.Given as goal

-- what is written, and the numbers to come, are the text
abbrev pub invariant-loop-number : goal.invariant-loop-number
invariant-loop-number l =
    l.text.items ++ with_blanks (map decimal (drop l.number-index l.others))
    ≡ l.fn.text.items ++ spaced (map decimal l.numbers)
