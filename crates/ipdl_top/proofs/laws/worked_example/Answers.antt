use Rattle.std.proofs.Common.{refl, arith}
use Rattle.std.proofs.lemmas.Fmt.{decimal_digit}
use Rattle.ipdl_chain.specs.ChainTexts.{chain_text}
use Rattle.ipdl_top.specs.Chains.{proved_text}
use Rattle.ipdl_top.specs.Summaries.{summary_text}
use Rattle.ipdl_top.proofs.Worked.{SpellsDocument-worked, IsWithinLimits-worked, IsProvedDocument-worked, HasShortChains-worked}
use Rattle.ipdl_top.proofs.laws.worked_example.Goals as goal

pub returns-clause-written : goal.returns-clause-written
returns-clause-written c = rw (decimal_digit 1 (omega arith)) refl

pub returns-clause-spelled : goal.returns-clause-spelled
returns-clause-spelled c = SpellsDocument-worked

pub returns-clause-within : goal.returns-clause-within
returns-clause-within c = IsWithinLimits-worked

pub returns-clause-proved : goal.returns-clause-proved
returns-clause-proved c = IsProvedDocument-worked

pub returns-clause-short : goal.returns-clause-short
returns-clause-short c = HasShortChains-worked

pub returns-clause-printed : goal.returns-clause-printed
unfolding proved_text chain_text
returns-clause-printed c = rw (decimal_digit 0 (omega arith), decimal_digit 1 (omega arith)) refl

pub returns-clause-summed : goal.returns-clause-summed
unfolding summary_text
returns-clause-summed c =
    rw (decimal_digit 0 (omega arith), decimal_digit 1 (omega arith), decimal_digit 2 (omega arith), decimal_digit 3 (omega arith), decimal_digit 7 (omega arith)) refl

pub returns-clause-refused : goal.returns-clause-refused
returns-clause-refused c = rw (decimal_digit 0 (omega arith)) refl

pub returns-clause-wrong : goal.returns-clause-wrong
returns-clause-wrong c = rw (decimal_digit 0 (omega arith), decimal_digit 2 (omega arith)) refl
