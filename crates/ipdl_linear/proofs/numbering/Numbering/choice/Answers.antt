use Rattle.std.proofs.lemmas.Result.{IfOk-weaker}
use Rattle.ipdl_linear.proofs.BitByBit.{choice-combines}
use Rattle.ipdl_linear.proofs.Growing.{IsGrowth-then}
use Rattle.ipdl_linear.specs.Entries.{IsGrowth}
use Rattle.ipdl_linear.proofs.numbering.Numbering.choice.Goals as goal

-- after the first two steps
two : (c : goal.After-plus-2) → IsGrowth c.args.self.now c.times.new.self
two c = IsGrowth-then c.args.self.now c.plus.new.self c.times.new.self c.in_ok-sum.ensures.growth c.in_ok-part.ensures.growth

pub returns-clause-growth : goal.returns-clause-growth
returns-clause-growth c =
    IfOk-weaker c.plus-2.result _ _ (λ n third. IsGrowth-then c.args.self.now c.times.new.self c.plus-2.new.self (two c) third) c.plus-2.ensures.growth

pub returns-clause-form : goal.returns-clause-form
returns-clause-form c =
    IfOk-weaker c.plus-2.result _ _
    (λ n third. choice-combines c.args.self.now c.plus.new.self c.times.new.self c.plus-2.new.self c.args.test c.args.p c.args.q c.in_ok-sum.sum c.in_ok-part.part n
    c.in_ok-sum.ensures.growth c.in_ok-part.ensures.growth c.in_ok-sum.ensures.form c.in_ok-part.ensures.form third) c.plus-2.ensures.form
