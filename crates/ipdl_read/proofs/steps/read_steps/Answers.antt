use Rattle.std.proofs.Common.{◌≤◌, suc, map, subst, arith}
use Rattle.std.proofs.lemmas.Result.{err_from_is_err_and}
use Rattle.ipdl_tree.specs.Trees.{Forest}
use Rattle.ipdl_tree.specs.Views.{located, all_located}
use Rattle.ipdl_term.specs.Steps.{step_of}
use Rattle.ipdl_read.specs.Earlier.{earlier_of}
use Rattle.ipdl_read_terms.proofs.PathForms.{all_located-drop}
use Rattle.ipdl_read.proofs.StepReading.{AreStepsSoFar, AreStepsSoFar-fault, AreStepsSoFar-spelled}
use Rattle.ipdl_read.proofs.steps.read_steps.Goals as goal

pub returns-in_err-read_step-clause-first : goal.returns-in_err-read_step-clause-first
returns-in_err-read_step-clause-first c =
    let p = err_from_is_err_and c.from_residual.result c.from_residual.ensures.1 in
    let E = earlier_of c.args.earlier.now in
    let read = map step_of c.loop-part.steps in
    let next = all_located-drop c.args.parts.now c.part-item.result c.loop-part.part-index c.loop-part-test.true c.part-item.is in
    let P : Forest → Type 0 = λ ts. AreStepsSoFar E c.args.before c.loop-part.count read ts (all_located c.args.parts.now) in
    let room : suc c.loop-part.count ≤ 2_048 = omega (arith, c.if-count-number.false, c.number.ensures) in
    rw (p.1, p.2)
    (AreStepsSoFar-fault E c.args.before c.loop-part.count read c.in_err-read_step.field-0.0 (located c.part-item.result) _ (all_located c.args.parts.now) (subst P next c.loop-part.invariant) room c.in_err-read_step.ensures.first)

pub returns-clause-spelled : goal.returns-clause-spelled
returns-clause-spelled c =
    AreStepsSoFar-spelled (earlier_of c.args.earlier.now) c.args.before c.loop-part.count (map step_of c.loop-part.steps) c.args.parts.now c.loop-part.part-index (all_located c.args.parts.now) c.loop-part-test.false c.loop-part.invariant
