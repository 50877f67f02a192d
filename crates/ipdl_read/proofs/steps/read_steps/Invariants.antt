use Rattle.std.proofs.Common.{map, drop}
use Rattle.ipdl_tree.specs.Views.{all_located}
use Rattle.ipdl_term.specs.Steps.{step_of}
use Rattle.ipdl_read.specs.Earlier.{earlier_of}
use Rattle.ipdl_read.proofs.StepReading.{AreStepsSoFar}
use Rattle.ipdl_read.proofs.steps.read_steps.Given as goal

-- the steps so far are read
abbrev pub invariant-loop-part : goal.invariant-loop-part
invariant-loop-part l =
    AreStepsSoFar (earlier_of l.earlier) l.before l.count (map step_of l.steps) (all_located (drop l.part-index l.parts)) (all_located l.parts)
