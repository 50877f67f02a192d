use Rattle.ipdl_linear.proofs.Walks.{equality-stands}
use Rattle.ipdl_linear.proofs.numbering.Numbering.equality.Goals as goal

pub returns-clause-forms : goal.returns-clause-forms
returns-clause-forms c =
    equality-stands c.args.self.now c.bitwise.new.self c.are_zero.new.self c.args.a.now c.args.b.now c.in_ok-sums.sums.items c.in_ok-vec.field-0.items c.in_ok-form.form
    c.in_ok-sums.ensures.growth c.in_ok-sums.ensures.forms c.in_ok-form.ensures.form c.in_ok-vec.ensures.items
