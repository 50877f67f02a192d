use Rattle.std.proofs.Common.{◌∙◌, arith}
use Rattle.ipdl_linear.proofs.Places.{constants_next}
use Rattle.ipdl_linear.proofs.leaves.constants.Goals as goal

pub loop-place-preserved : goal.loop-place-preserved
loop-place-preserved c =
    c.in_ok-push.ensures.items ∙ constants_next c.args.bits c.loop-place.forms.items c.loop-place.place c.bit_form.result (omega arith) c.loop-place.invariant c.bit_form.ensures
