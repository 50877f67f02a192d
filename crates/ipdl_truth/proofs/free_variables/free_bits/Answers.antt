use Rattle.std.proofs.Common.{◌≡◌, ◌-◌, true, false, sym, ap, ◌∙◌, arith}
use Rattle.ipdl_truth.specs.FreeVariables.{total_width, occurs}
use Rattle.ipdl_truth.specs.Questions.{expressions_in}
use Rattle.ipdl_truth.specs.Views.{asked_of}
use Rattle.ipdl_truth.proofs.Walks.{free_of-used, free_of-unused}
use Rattle.ipdl_truth.proofs.free_variables.free_bits.Goals as goal
use Rattle.ipdl_truth.proofs.free_variables.free_bits.Goals.{then-is_used, else-is_used}

pub loop-width-preserved : goal.loop-width-preserved
loop-width-preserved c =
    let es = expressions_in (asked_of c.args.question.now) in
    let i = c.loop-width.width-index in
    let inside = c.loop-width.inside in
    let xs = c.args.question.now.widths.now in
    elim c.if-is_used.branch [
      | then-is_used w ↦
          let used : occurs es (inside - 1) ≡ true = sym c.is_used.ensures ∙ w.if-is_used.true in
          let step = ap total_width (free_of-used es i inside xs c.loop-width-test.true c.loop-width.invariant.inside used) in
          record { inside = omega arith; few = omega (arith, w.bits-is, w.from-bits.ensures, c.loop-width.invariant.few); sum = omega (arith, step, w.bits-is, w.from-bits.ensures, c.loop-width.invariant.sum) }
      | else-is_used w ↦
          let unused : occurs es (inside - 1) ≡ false = sym c.is_used.ensures ∙ w.if-is_used.false in
          let step = ap total_width (free_of-unused es i inside xs c.loop-width-test.true c.loop-width.invariant.inside unused) in
          record { inside = omega arith; few = omega arith; sum = omega (arith, step, c.loop-width.invariant.sum) }
    ]
