-- What the calls answer, in the words of the tests. That memory ran out tells nothing.
use Rattle.std.specs.Prelude.{◌≡◌, ℕ, Option, Some, None, Result, Ok, Err}
use Rattle.ipdl_chain.specs.Views.{HasOneTermMore, chain_of}
use Rattle.ipdl_chain.specs.declared.chain.Chain.{Chain as HeldChain}
use Rattle.ipdl_script.specs.Scripts.{Theorem, Wrong, wrong_step, first_wrong, chain_of_scripts}
use Rattle.ipdl_script.specs.Steps.{Setting, Refusal, over, step_refusal, after_step}
use Rattle.ipdl_script.specs.Views.{side_of, refusal_of, wrong_of}
use Rattle.ipdl_script.specs.declared.fault.ScriptFault.{ScriptFault}
use Rattle.ipdl_script.specs.declared.fault.ScriptFault.TheVariants as F
use Rattle.ipdl_script.specs.declared.fault.StepFault.{StepFault}
use Rattle.ipdl_script.specs.declared.fault.StepFault.TheVariants as S
use Rattle.ipdl_term.specs.Steps.{Step}
use Rattle.ipdl_term.specs.Terms.{Protocol}
use Rattle.ipdl_term.specs.Views.{protocol_of}
use Rattle.ipdl_term.specs.declared.protocol.Proto.{Proto}

-- ---- a step

-- the fault is the refusal
abbrev pub TellsRefusal : StepFault → Option Refusal → Type 0
TellsRefusal (S.Refused cause) refusal = refusal ≡ Some (refusal_of cause)
TellsRefusal (S.Over limit) refusal = refusal ≡ Some (over limit)
TellsRefusal S.Memory refusal = Unit {0}

-- the whole term to which the step leads where it stands, and else why it is refused
abbrev pub StepsFrom : Result Proto StepFault → Setting → (before : Protocol) → Step → Type 0
StepsFrom (Ok after) x before step = (step_refusal x before step ≡ None) × (protocol_of after ≡ after_step x before step)
StepsFrom (Err fault) x before step = TellsRefusal fault (step_refusal x before step)

-- ---- the scripts of a theorem

-- the fault is what is wrong
abbrev pub TellsWrong : ScriptFault → Option Wrong → Type 0
TellsWrong (F.Wrong wrong) first = first ≡ Some (wrong_of wrong)
TellsWrong (F.Over limit side step) first = first ≡ Some (wrong_step (side_of side) step (over limit))
TellsWrong F.Memory first = Unit {0}

-- nothing is wrong, and it is the chain of the scripts, with all of its terms
pub record IsChainOfScripts (chain : HeldChain) (x : Setting) (so_far : ℕ) (t : Theorem) : Type 0 where
  pub right : first_wrong x so_far t ≡ None
  pub made : chain_of chain ≡ chain_of_scripts x t
  pub complete : HasOneTermMore chain

-- the chain, and else what is wrong first
abbrev pub AnswersTheorem : Result HeldChain ScriptFault → Setting → (so_far : ℕ) → Theorem → Type 0
AnswersTheorem (Ok chain) x so_far t = IsChainOfScripts chain x so_far t
AnswersTheorem (Err fault) x so_far t = TellsWrong fault (first_wrong x so_far t)
