-- What the calls answer, in the words of the checks.
use Rattle.std.specs.Prelude.{◌≡◌, ℕ, List, [], Some, Result, Ok, Err}
use Rattle.ipdl_typing.specs.Checks.{Cause, width, unbound, no_symbol, unwritten, not_output, twice, new_unwritten, missing, interface, Failure, first_failure}
use Rattle.ipdl_typing.specs.declared.fault.Ill.{Ill as Told}
use Rattle.ipdl_typing.specs.declared.fault.IllCause.{IllCause}
use Rattle.ipdl_typing.specs.declared.fault.IllCause.TheVariants as C
use Rattle.ipdl_typing.specs.declared.fault.TypeFault.{TypeFault}
use Rattle.ipdl_typing.specs.declared.fault.TypeFault.TheVariants as T

-- the cause that the program's stands for
abbrev pub cause_of : IllCause → Cause
cause_of (C.Width want got) = width want got
cause_of (C.Unbound n) = unbound n
cause_of (C.NoSymbol n) = no_symbol n
cause_of (C.Unwritten c) = unwritten c
cause_of (C.NotOutput c) = not_output c
cause_of (C.Twice c) = twice c
cause_of (C.NewUnwritten c) = new_unwritten c
cause_of (C.Missing c) = missing c
cause_of (C.Interface c) = interface c

-- the failure that the program tells
abbrev pub failure_of : Told → Failure
failure_of ill = record { path = ill.path; cause = cause_of ill.cause }

-- the fault is this failure, want of memory apart
pub record Tells (fault : TypeFault) (f : Failure) : Type 0 where
  pub told : (ill : Told) → fault ≡ T.Ill ill → failure_of ill ≡ f

-- the fault is the first of the failures, want of memory apart
pub record TellsFirstFailure (fault : TypeFault) (fs : List Failure) : Type 0 where
  pub told : (ill : Told) → fault ≡ T.Ill ill → first_failure fs ≡ Some (failure_of ill)

-- a call says yes where no check fails, and else tells the first that does
abbrev pub AnswersChecks : {X : Type 0} → Result X TypeFault → List Failure → Type 0
AnswersChecks (Ok x) fs = fs ≡ []
AnswersChecks (Err fault) fs = TellsFirstFailure fault fs

-- a call answers the width where no check fails, and else tells the first that does
abbrev pub AnswersWidth : Result ℕ TypeFault → ℕ → List Failure → Type 0
AnswersWidth (Ok w) v fs = (w ≡ v) × (fs ≡ [])
AnswersWidth (Err fault) v fs = TellsFirstFailure fault fs
