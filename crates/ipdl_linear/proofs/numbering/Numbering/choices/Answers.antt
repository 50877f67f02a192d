use Rattle.std.proofs.Common.{sym}
use Rattle.std.proofs.lemmas.Result.{IfOk-weaker}
use Rattle.ipdl_linear.proofs.BitByBit.{choices-stand}
use Rattle.ipdl_linear.proofs.numbering.Numbering.choices.Goals as goal

pub returns-in-Some-clause-forms : goal.returns-in-Some-clause-forms
returns-in-Some-clause-forms c =
    IfOk-weaker c.bitwise.result _ _
    (λ ns made. choices-stand c.args.self.now c.bitwise.new.self c.args.tests.now c.args.ps.now c.args.qs.now ns.items c.in-Some.test.now (sym c.in-Some.ensures.value) made) c.bitwise.ensures.forms
