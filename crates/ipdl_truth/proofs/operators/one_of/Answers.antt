use Rattle.std.proofs.Common.{arith}
use Rattle.ipdl_truth.proofs.Bits.{chosen_by_one, chosen_by_other}
use Rattle.ipdl_truth.proofs.operators.one_of.Goals as goal

pub returns-then-value-eq1 : goal.returns-then-value-eq1
returns-then-value-eq1 c =
    chosen_by_one c.args.test c.args.a c.args.b (omega (arith, c.width.ensures.value)) (omega (arith, c.value.ensures))

pub returns-else-value-eq1 : goal.returns-else-value-eq1
returns-else-value-eq1 c =
    chosen_by_other c.args.test c.args.a c.args.b (omega (arith, c.width.ensures.value)) (λ e. omega (arith, e, c.value.ensures))
