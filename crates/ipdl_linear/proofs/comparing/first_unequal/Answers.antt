use Rattle.std.proofs.Common.{◌≡◌, length, sym, arith}
use Rattle.ipdl_linear.proofs.Differences.{unequal_at, all_equal, one_goes_on}
use Rattle.ipdl_linear.proofs.comparing.first_unequal.Goals as goal

pub returns-then-a-i : goal.returns-then-a-i
returns-then-a-i c = sym (unequal_at c.args.a.now c.args.b.now c.loop-i.i (omega arith) (omega arith) c.loop-i.invariant c.if-a-i.true)

pub returns-then-a-b : goal.returns-then-a-b
returns-then-a-b c =
    let same : length c.args.a.now ≡ length c.args.b.now = c.if-a-b.true in
    sym (all_equal c.args.a.now c.args.b.now same (λ k h. c.loop-i.invariant k (omega arith)))

pub returns-else-a-b : goal.returns-else-a-b
returns-else-a-b c =
    sym (one_goes_on c.args.a.now c.args.b.now c.min-common.result c.min-common.ensures c.if-a-b.false (λ k h. c.loop-i.invariant k (omega arith)))
