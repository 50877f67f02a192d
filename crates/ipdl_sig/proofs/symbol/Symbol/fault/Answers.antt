use Rattle.std.proofs.Common.{sym, ◌∙◌}
use Rattle.ipdl_sig.proofs.Faults.{shape_faults-table, shape_faults-table_length}
use Rattle.ipdl_sig.proofs.symbol.Symbol.fault.Goals as goal

pub returns-then-got-want-clause-value : goal.returns-then-got-want-clause-value
returns-then-got-want-clause-value c =
    (shape_faults-table c.args.self.now c.in-Some-values.values c.try_from.result (sym c.in_default.ensures) c.in-Some-values.is (rw (← c.as_slice.ensures) c.try_from.ensures) (sym c.unwrap_or-got.ensures ∙ c.if-got-want.true)).1

pub returns-then-got-want-clause-formed : goal.returns-then-got-want-clause-formed
returns-then-got-want-clause-formed c =
    (shape_faults-table c.args.self.now c.in-Some-values.values c.try_from.result (sym c.in_default.ensures) c.in-Some-values.is (rw (← c.as_slice.ensures) c.try_from.ensures) (sym c.unwrap_or-got.ensures ∙ c.if-got-want.true)).0

pub returns-clause-value : goal.returns-clause-value
returns-clause-value c =
    rw c.unwrap_or-got.ensures (shape_faults-table_length c.args.self.now c.in-Some-values.values c.try_from.result (sym c.in_default.ensures) c.in-Some-values.is (rw (← c.as_slice.ensures) c.try_from.ensures) (λ same. c.if-got-want.false (c.unwrap_or-got.ensures ∙ same)))
