use Rattle.std.proofs.Common.{◌≡◌, ◌<◌, List, length}
use Rattle.ipdl_term.specs.Terms.{Value}
use Rattle.ipdl_truth.specs.Agreement.{IsAllowed, AgreeOn}
use Rattle.ipdl_truth.specs.FreeVariables.{reading}
use Rattle.ipdl_truth.specs.Questions.{valuation_of}
use Rattle.ipdl_truth.specs.Views.{asked_of}
use Rattle.ipdl_truth.proofs.enumeration.first_difference.Given as goal

-- there are values for all binders, and on all valuations before this one the expressions agree
abbrev pub invariant-loop-number : goal.invariant-loop-number
invariant-loop-number l = record {
  binders : length l.env ≡ length l.question.widths.now;
  agree : (others : List Value) → IsAllowed (asked_of l.question) others → reading (valuation_of (asked_of l.question) others) < l.number → AgreeOn (asked_of l.question) others;
}
