use Rattle.std.proofs.Common.{sym, ◌∙◌}
use Rattle.ipdl_truth.proofs.Bits.{differ_told}
use Rattle.ipdl_truth.proofs.enumeration.differ.Goals as goal

pub returns-then-are_met-clause-differ : goal.returns-then-are_met-clause-differ
returns-then-are_met-clause-differ c = λ t agree.
    (differ_told c.value_of.result c.value_of-then-are_met.result c.ne.result c.ne.ensures).0 t (c.value_of.ensures ∙ agree ∙ sym c.value_of-then-are_met.ensures)

pub returns-then-are_met-clause-agree : goal.returns-then-are_met-clause-agree
returns-then-are_met-clause-agree c = λ f met.
    sym c.value_of.ensures ∙ (differ_told c.value_of.result c.value_of-then-are_met.result c.ne.result c.ne.ensures).1 f ∙ c.value_of-then-are_met.ensures
