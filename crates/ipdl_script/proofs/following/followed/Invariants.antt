use Rattle.std.proofs.Common.{drop, map}
use Rattle.ipdl_script.proofs.Scripts.{IsFollowed}
use Rattle.ipdl_script.specs.Views.{setting_of, side_of}
use Rattle.ipdl_term.specs.Steps.{step_of}
use Rattle.ipdl_term.specs.Views.{protocol_of}
use Rattle.ipdl_script.proofs.following.followed.Given as goal

abbrev pub invariant-loop-step : goal.invariant-loop-step
invariant-loop-step l =
    IsFollowed (setting_of l.setting) l.neighbours (side_of l.side) (protocol_of l.from) (map step_of l.steps) l.trail l.so_far l.number (map step_of (drop l.step-index l.steps))
