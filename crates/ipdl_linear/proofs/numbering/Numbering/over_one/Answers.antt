use Rattle.std.proofs.Common.{ap}
use Rattle.std.proofs.lemmas.Result.{IfOk-weaker}
use Rattle.ipdl_linear.proofs.Walks.{over-application, over-negation, over-segment}
use Rattle.ipdl_term.specs.Views.{expression_of}
use Rattle.ipdl_typing.specs.Signatures.{signature_of}
use Rattle.ipdl_linear.proofs.numbering.Numbering.over_one.Goals as goal

pub returns-in-Apply-clause-forms : goal.returns-in-Apply-clause-forms
returns-in-Apply-clause-forms c =
    IfOk-weaker c.places.result _ _
    (λ ns made. over-application c.args.self.now c.places.new.self (signature_of c.args.sig.now) (expression_of c.args.term.now) _ c.in-Apply.number c.result_width-width.result c.args.a.items ns.items
    (ap expression_of c.in-Apply.is) c.result_width-width.ensures made) c.places.ensures.forms

pub returns-in-Not-clause-forms : goal.returns-in-Not-clause-forms
returns-in-Not-clause-forms c =
    IfOk-weaker c.bitwise.result _ _
    (λ ns made. over-negation c.args.self.now c.bitwise.new.self (signature_of c.args.sig.now) (expression_of c.args.term.now) _ c.args.a.items c.as_slice.result.now c.as_slice-in-Not.result.now ns.items
    (ap expression_of c.in-Not.is) c.as_slice.ensures.value c.as_slice-in-Not.ensures.value made) c.bitwise.ensures.forms

pub returns-in-Cut-clause-forms : goal.returns-in-Cut-clause-forms
returns-in-Cut-clause-forms c =
    IfOk-weaker c.part.result _ _
    (λ ns are. over-segment c.args.self.now (signature_of c.args.sig.now) (expression_of c.args.term.now) _ c.in-Cut.from c.in-Cut.count c.args.a.items c.as_slice-in-Cut.result.now ns.items
    (ap expression_of c.in-Cut.is) c.as_slice-in-Cut.ensures.value are) c.part.ensures
