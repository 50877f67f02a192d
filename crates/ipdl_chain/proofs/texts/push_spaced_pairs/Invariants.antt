use Rattle.std.proofs.Common.{◌≡◌, ◌++◌, map, drop}
use Rattle.ipdl_printing.specs.Texts.{spaced}
use Rattle.ipdl_printing.proofs.Blanks.{with_blanks}
use Rattle.ipdl_chain.specs.ChainTexts.{pair_text}
use Rattle.ipdl_chain.proofs.texts.push_spaced_pairs.Given as goal

-- what is written, and the pairs to come, are the text
abbrev pub invariant-loop-pair : goal.invariant-loop-pair
invariant-loop-pair l =
    l.text.items ++ with_blanks (map pair_text (drop l.pair-index l.others))
    ≡ l.fn.text.items ++ spaced (map pair_text l.pairs)
