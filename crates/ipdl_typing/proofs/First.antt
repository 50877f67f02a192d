-- The first of several failures, and what a call answers where some of its checks are known.
use Rattle.std.proofs.Common.{◌≡◌, ℕ, false, true, Bool, List, [], ◌∷◌, ◌++◌, refl, sym, subst}
use Rattle.std.specs.Prelude.{Some, Result, Ok, Err, IfOk, OnOk, IfErr}
use Rattle.std.specs.Result.{IsErrAnd}
use Rattle.std.proofs.lemmas.Result.{err_from_is_err_and}
use Rattle.ipdl_typing.specs.Checks.{Failure, Cause, checked, first_failure}
use Rattle.ipdl_typing.specs.Answers.{Tells, TellsFirstFailure, AnswersChecks, AnswersWidth, failure_of}
use Rattle.ipdl_typing.specs.declared.fault.TypeFault.{TypeFault}

-- ---- lists of failures

-- the first failure of a list is that of a longer one
first_failure-append : (fs gs : List Failure) (f : Failure) → first_failure fs ≡ Some f → first_failure (fs ++ gs) ≡ Some f
first_failure-append [] gs f is = cc
first_failure-append (g ∷ fs) gs f is = is

-- the first failure of the checks in front
pub TellsFirstFailure-in_front : (fault : TypeFault) (fs gs : List Failure) → TellsFirstFailure fault fs → TellsFirstFailure fault (fs ++ gs)
TellsFirstFailure-in_front fault fs gs first =
    record { told = λ ill is. first_failure-append fs gs (failure_of ill) (first.told ill is) }

-- where the checks before hold, the first failure of the later ones
pub TellsFirstFailure-after : (fault : TypeFault) (fs gs : List Failure) → fs ≡ [] → TellsFirstFailure fault gs → TellsFirstFailure fault (fs ++ gs)
TellsFirstFailure-after fault fs gs clean first =
    subst (λ l. TellsFirstFailure fault (l ++ gs)) (sym clean) first

-- no failure in two lists
pub clean-append : (fs gs : List Failure) → fs ≡ [] → gs ≡ [] → fs ++ gs ≡ []
clean-append fs gs left right = rw (left, right) refl

-- a check that does not hold fails at its place
pub TellsFirstFailure-checked : (fault : TypeFault) (b : Bool) (path : List ℕ) (cause : Cause) → b ≡ false → Tells fault (record { path = path; cause = cause }) → TellsFirstFailure fault (checked b path cause)
TellsFirstFailure-checked fault b path cause fails tells =
    record { told = λ ill is. rw (fails, tells.told ill is) refl }

-- a check that holds
pub clean-checked : (b : Bool) (path : List ℕ) (cause : Cause) → b ≡ true → checked b path cause ≡ []
clean-checked b path cause holds = rw holds refl

-- ---- what a call answers

-- where the checks before hold, the answer of the later ones
pub AnswersChecks-after : {X : Type 0} (r : Result X TypeFault) (fs gs : List Failure) → fs ≡ [] → AnswersChecks r gs → AnswersChecks r (fs ++ gs)
AnswersChecks-after r fs gs clean later = subst (λ l. AnswersChecks r (l ++ gs)) (sym clean) later

-- the same of a width
pub AnswersWidth-after : (r : Result ℕ TypeFault) (width : ℕ) (fs gs : List Failure) → fs ≡ [] → AnswersWidth r width gs → AnswersWidth r width (fs ++ gs)
AnswersWidth-after r width fs gs clean later = subst (λ l. AnswersWidth r width (l ++ gs)) (sym clean) later

-- an answer that says yes
pub OnOk-checks : {X : Type 0} (r : Result X TypeFault) (fs : List Failure) → AnswersChecks r fs → OnOk r (fs ≡ [])
OnOk-checks (Ok x) fs answer = answer
OnOk-checks (Err fault) fs answer = tt

-- and one that tells a failure
pub IfErr-checks : {X : Type 0} (r : Result X TypeFault) (fs : List Failure) → AnswersChecks r fs → IfErr r (λ fault. TellsFirstFailure fault fs)
IfErr-checks (Ok x) fs answer = tt
IfErr-checks (Err fault) fs answer = answer

-- an answer with a width
pub OnOk-width : (r : Result ℕ TypeFault) (width : ℕ) (fs : List Failure) → AnswersWidth r width fs → OnOk r (fs ≡ [])
OnOk-width (Ok w) width fs answer = answer.1
OnOk-width (Err fault) width fs answer = tt

-- and one that tells a failure
pub IfErr-width : (r : Result ℕ TypeFault) (width : ℕ) (fs : List Failure) → AnswersWidth r width fs → IfErr r (λ fault. TellsFirstFailure fault fs)
IfErr-width (Ok w) width fs answer = tt
IfErr-width (Err fault) width fs answer = answer

-- what the width says, where no check fails
pub IfOk-width : (r : Result ℕ TypeFault) (width : ℕ) (fs : List Failure) (P : ℕ → Type 0) → AnswersWidth r width fs → (fs ≡ [] → P width) → IfOk r P
IfOk-width (Ok w) width fs P answer typed = subst P (sym answer.0) (typed answer.1)
IfOk-width (Err fault) width fs P answer typed = tt

-- an error that a call passes on
pub AnswersWidth-error : (r : Result ℕ TypeFault) (fault : TypeFault) (v : ℕ) (fs : List Failure) → IsErrAnd r (λ e. e ≡ fault) → TellsFirstFailure fault fs → AnswersWidth r v fs
AnswersWidth-error r fault v fs is first =
    let p = err_from_is_err_and r is in
    rw (p.1, p.2) first

-- the same where there is no width
pub AnswersChecks-error : {X : Type 0} (r : Result X TypeFault) (fault : TypeFault) (fs : List Failure) → IsErrAnd r (λ e. e ≡ fault) → TellsFirstFailure fault fs → AnswersChecks r fs
AnswersChecks-error r fault fs is first =
    let p = err_from_is_err_and r is in
    rw (p.1, p.2) first

-- what holds of the later checks, where those before hold
pub after-clean : (Q : List Failure → Type 0) (fs gs : List Failure) → fs ≡ [] → Q gs → Q (fs ++ gs)
after-clean Q fs gs clean later = subst (λ l. Q (l ++ gs)) (sym clean) later
