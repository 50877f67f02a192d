use Rattle.std.proofs.Common.{◌+◌, sym, subst, arith}
use Rattle.ipdl_linear.proofs.BitByBit.{IsBitwiseUpTo, IsBitwiseUpTo-next, bitwise-stand}
use Rattle.ipdl_linear.proofs.numbering.Numbering.bitwise.Goals as goal

pub loop-i-preserved : goal.loop-i-preserved
loop-i-preserved c =
    subst (λ ns. IsBitwiseUpTo c.args.self.now c.operate.new.self c.args.operator c.args.ps.now c.args.qs.now ns (c.loop-i.i + 1)) (sym c.in_ok-push.ensures.items)
    (IsBitwiseUpTo-next c.args.self.now c.loop-i.self c.operate.new.self c.args.operator c.args.ps.now c.args.qs.now c.loop-i.forms.items c.loop-i.i c.in_ok-form.form
    (omega arith) c.loop-i.invariant c.in_ok-form.ensures.growth c.in_ok-form.ensures.form)

pub returns-clause-forms : goal.returns-clause-forms
returns-clause-forms c =
    bitwise-stand c.args.self.now c.loop-i.self c.args.operator c.args.ps.now c.args.qs.now c.loop-i.forms.items c.loop-i.i (omega arith) c.loop-i.invariant
