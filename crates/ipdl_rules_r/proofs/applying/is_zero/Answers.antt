use Rattle.std.proofs.Common.{sym, ◌∙◌}
use Rattle.ipdl_rules_r.proofs.Found.{is_zero}
use Rattle.ipdl_rules_r.proofs.applying.is_zero.Goals as goal

pub returns-then-width-eq1 : goal.returns-then-width-eq1
returns-then-width-eq1 c =
    is_zero c.args.bits.now c.value.result (sym c.width.ensures.value ∙ c.if-width-eq1.true) c.value.ensures
