use Rattle.std.proofs.Common.{reverse}
use Rattle.std.proofs.lemmas.Result.{IfOk-weaker}
use Rattle.ipdl_linear.proofs.Places.{leaf-literal, leaf-variable}
use Rattle.ipdl_linear.proofs.numbering.Numbering.leaf.Goals as goal

pub returns-in-Lit-clause-forms : goal.returns-in-Lit-clause-forms
returns-in-Lit-clause-forms c =
    IfOk-weaker c.constants.result _ _ (λ ns are. leaf-literal c.args.self.now (reverse c.args.widths.now) ns.items c.args.term.now c.in-Lit.bits c.in-Lit.is are) c.constants.ensures

pub returns-in-Var-clause-forms : goal.returns-in-Var-clause-forms
returns-in-Var-clause-forms c =
    IfOk-weaker c.places.result _ _
    (λ ns made. leaf-variable c.args.self.now c.places.new.self (reverse c.args.widths.now) ns.items c.args.term.now c.in-Var.number c.variable_width.result c.in-Var.is c.variable_width.ensures made)
    c.places.ensures.forms
