use Rattle.std.proofs.Common.{◌<◌, ◌+◌, length, arith}
use Rattle.ipdl_linear.proofs.Places.{bit_is_one, bit_is_zero, bit_within}
use Rattle.ipdl_linear.proofs.leaves.bit_form.Goals as goal

pub returns-in-Ok : goal.returns-in-Ok
returns-in-Ok c = bit_is_one c.args.bits c.in-Ok.bit c.args.place c.value.result c.in-Ok.ensures.value c.value.ensures c.if-value-eq1.true

pub returns-in_default : goal.returns-in_default
returns-in_default c = bit_is_zero c.args.bits c.in-Ok.bit c.args.place c.value.result c.in-Ok.ensures.value c.value.ensures c.if-value-eq1.false

pub returns-in_default-2 : goal.returns-in_default-2
returns-in_default-2 c = λ b there.
    let within = bit_within c.args.bits c.args.place b there in
    let past : length c.args.bits < c.args.place + 1 = rw c.in_default.is at c.cut.ensures.past in
    absurd (omega arith)
