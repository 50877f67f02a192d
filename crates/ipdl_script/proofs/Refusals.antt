-- What a call tells of the first of two groups of tests, it tells of both.
use Rattle.std.proofs.Common.{◌≡◌, List, [], ◌∷◌, ◌++◌, Option, Some, None, Result, refl, ap, subst, sym}
use Rattle.std.specs.Option.{option_or}
use Rattle.ipdl_script.specs.Answers.{TellsRefusal, TellsWrong}
use Rattle.ipdl_script.specs.Scripts.{Wrong}
use Rattle.ipdl_script.specs.Steps.{Refusal, first_refusal}
use Rattle.ipdl_script.specs.TestGroups.{AnswersTest}
use Rattle.ipdl_script.specs.declared.fault.ScriptFault.{ScriptFault}
use Rattle.ipdl_script.specs.declared.fault.ScriptFault.TheVariants as F
use Rattle.ipdl_script.specs.declared.fault.StepFault.{StepFault}
use Rattle.ipdl_script.specs.declared.fault.StepFault.TheVariants.{Refused, Over, Memory}

pub told_first : (fault : StepFault) (test later : Option Refusal) → TellsRefusal fault test → TellsRefusal fault (option_or test later)
told_first (Refused cause) test later h = ap (λ t. option_or t later) h
told_first (Over limit) test later h = ap (λ t. option_or t later) h
told_first Memory test later h = tt

pub told_later : (fault : StepFault) (test later : Option Refusal) → test ≡ None → TellsRefusal fault later → TellsRefusal fault (option_or test later)
told_later fault test later passed h = subst (λ t. TellsRefusal fault (option_or t later)) (sym passed) h

pub none_told : (test later : Option Refusal) → test ≡ None → later ≡ None → option_or test later ≡ None
none_told test later passed h = subst (λ t. option_or t later ≡ None) (sym passed) h

-- the refusals of two groups
pub first_refusal-append : (tests later : List (Option Refusal)) → first_refusal (tests ++ later) ≡ option_or (first_refusal tests) (first_refusal later)
first_refusal-append [] later = refl
first_refusal-append (None ∷ tests) later = first_refusal-append tests later
first_refusal-append (Some refusal ∷ tests) later = refl

-- a call that comes after a test that passes tells the refusal of both
pub answers_later : {X : Type 0} (r : Result X StepFault) (test later : Option Refusal) → test ≡ None → AnswersTest r later → AnswersTest r (option_or test later)
answers_later r test later passed h = subst (λ t. AnswersTest r (option_or t later)) (sym passed) h

-- ---- the same of scripts

pub wrong_first : (fault : ScriptFault) (wrong later : Option Wrong) → TellsWrong fault wrong → TellsWrong fault (option_or wrong later)
wrong_first (F.Wrong told) wrong later h = ap (λ w. option_or w later) h
wrong_first (F.Over limit side step) wrong later h = ap (λ w. option_or w later) h
wrong_first F.Memory wrong later h = tt

pub wrong_later : (fault : ScriptFault) (wrong later : Option Wrong) → wrong ≡ None → TellsWrong fault later → TellsWrong fault (option_or wrong later)
wrong_later fault wrong later passed h = subst (λ w. TellsWrong fault (option_or w later)) (sym passed) h

pub none_wrong : (wrong later : Option Wrong) → wrong ≡ None → later ≡ None → option_or wrong later ≡ None
none_wrong wrong later passed h = subst (λ w. option_or w later ≡ None) (sym passed) h

pub ruleset telling = (told_first, told_later, none_told)
