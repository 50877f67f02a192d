use Rattle.std.proofs.Common.{◌≡◌, ◌++◌, map, drop}
use Rattle.std.specs.Prelude.{codes}
use Rattle.ipdl_top.specs.Lines.{value_text, after_blanks}
use Rattle.ipdl_top.proofs.causes.difference_text.Given as goal

-- what is written, and the values to come, are the text
abbrev pub invariant-loop-depth : goal.invariant-loop-depth
invariant-loop-depth l =
    l.text.items ++ after_blanks (map value_text (drop l.depth-index l.valuation))
    ≡ codes "NotSame" ++ after_blanks (map value_text l.valuation)
