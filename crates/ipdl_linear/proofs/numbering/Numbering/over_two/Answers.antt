use Rattle.std.proofs.Common.{ap}
use Rattle.std.proofs.lemmas.Result.{IfOk-weaker}
use Rattle.ipdl_linear.proofs.Walks.{over-exclusive, over-conjunction, over-concatenation, over-equality}
use Rattle.ipdl_term.specs.Views.{expression_of}
use Rattle.ipdl_linear.proofs.numbering.Numbering.over_two.Goals as goal

pub returns-in-Xor-clause-forms : goal.returns-in-Xor-clause-forms
returns-in-Xor-clause-forms c =
    IfOk-weaker c.bitwise.result _ _
    (λ ns made. over-exclusive c.args.self.now c.bitwise.new.self (expression_of c.args.term.now) _ _ c.args.a.items c.args.b.items c.as_slice.result.now c.as_slice-in-Xor.result.now ns.items
    (ap expression_of c.in-Xor.is) c.as_slice.ensures.value c.as_slice-in-Xor.ensures.value made) c.bitwise.ensures.forms

pub returns-in-And-clause-forms : goal.returns-in-And-clause-forms
returns-in-And-clause-forms c =
    IfOk-weaker c.bitwise-in-And.result _ _
    (λ ns made. over-conjunction c.args.self.now c.bitwise-in-And.new.self (expression_of c.args.term.now) _ _ c.args.a.items c.args.b.items c.as_slice-in-And.result.now c.as_slice-in-And-2.result.now ns.items
    (ap expression_of c.in-And.is) c.as_slice-in-And.ensures.value c.as_slice-in-And-2.ensures.value made) c.bitwise-in-And.ensures.forms

pub returns-in_ok-extend_from_slice-in-Cat-clause-forms : goal.returns-in_ok-extend_from_slice-in-Cat-clause-forms
returns-in_ok-extend_from_slice-in-Cat-clause-forms c =
    over-concatenation c.args.self.now (expression_of c.args.term.now) _ _ c.args.a.items c.args.b.items c.as_slice-in-Cat.result.now c.extend_from_slice.new.self.items
    (ap expression_of c.in-Cat.is) c.as_slice-in-Cat.ensures.value c.in_ok-extend_from_slice-in-Cat.ensures.items

pub returns-in-Same-clause-forms : goal.returns-in-Same-clause-forms
returns-in-Same-clause-forms c =
    IfOk-weaker c.equality.result _ _
    (λ ns made. over-equality c.args.self.now c.equality.new.self (expression_of c.args.term.now) _ _ c.args.a.items c.args.b.items c.as_slice-in-Same.result.now c.as_slice-in-Same-2.result.now ns.items
    (ap expression_of c.in-Same.is) c.as_slice-in-Same.ensures.value c.as_slice-in-Same-2.ensures.value made) c.equality.ensures.forms
