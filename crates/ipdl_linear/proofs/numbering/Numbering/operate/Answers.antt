use Rattle.std.proofs.lemmas.Result.{IfOk-weaker}
use Rattle.ipdl_linear.proofs.BitByBit.{plus-operation, times-operation, negation-operation, choice-operation}
use Rattle.ipdl_linear.proofs.numbering.Numbering.operate.Goals as goal

pub returns-in-Plus-clause-form : goal.returns-in-Plus-clause-form
returns-in-Plus-clause-form c =
    IfOk-weaker c.plus.result _ _ (λ n made. plus-operation c.args.self.now c.plus.new.self c.args.operator c.args.p c.args.q n c.in-Plus.is made) c.plus.ensures.form

pub returns-in-Times-clause-form : goal.returns-in-Times-clause-form
returns-in-Times-clause-form c =
    IfOk-weaker c.times.result _ _ (λ n made. times-operation c.args.self.now c.times.new.self c.args.operator c.args.p c.args.q n c.in-Times.is made) c.times.ensures.form

pub returns-in-Negation-clause-form : goal.returns-in-Negation-clause-form
returns-in-Negation-clause-form c =
    IfOk-weaker c.plus-in-Negation.result _ _
    (λ n made. negation-operation c.args.self.now c.plus-in-Negation.new.self c.args.operator c.args.p c.args.q n c.in-Negation.is made) c.plus-in-Negation.ensures.form

pub returns-in-Choice-clause-form : goal.returns-in-Choice-clause-form
returns-in-Choice-clause-form c =
    IfOk-weaker c.choice.result _ _
    (λ n made. choice-operation c.args.self.now c.choice.new.self c.args.operator c.in-Choice.test c.args.p c.args.q n c.in-Choice.is made) c.choice.ensures.form
