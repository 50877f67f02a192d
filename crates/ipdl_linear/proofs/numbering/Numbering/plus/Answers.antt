use Rattle.std.proofs.Common.{◌∙◌, ap₂}
use Rattle.std.proofs.lemmas.Result.{IfOk-weaker}
use Rattle.ipdl_linear.proofs.Growing.{plus-growth, plus-combines}
use Rattle.ipdl_linear.specs.Numbers.{merged}
use Rattle.ipdl_linear.proofs.numbering.Numbering.plus.Goals as goal

pub returns-clause-growth : goal.returns-clause-growth
returns-clause-growth c =
    IfOk-weaker c.number.result _ _
    (λ n added. plus-growth c.args.self.now c.number.new.self c.args.p c.args.q n c.in_ok-atoms.atoms.items (c.in_ok-atoms.ensures ∙ ap₂ merged c.atoms.ensures c.atoms-2.ensures) added) c.number.ensures

pub returns-clause-form : goal.returns-clause-form
returns-clause-form c =
    IfOk-weaker c.number.result _ _
    (λ n added. plus-combines c.args.self.now c.number.new.self c.args.p c.args.q n c.in_ok-atoms.atoms.items (c.in_ok-atoms.ensures ∙ ap₂ merged c.atoms.ensures c.atoms-2.ensures) added) c.number.ensures
