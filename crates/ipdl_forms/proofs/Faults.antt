-- The first of the faults.
use Rattle.std.proofs.Common.{◌≡◌, Bool, true, false, List, [], ◌∷◌, ◌++◌, refl, sym, subst}
use Rattle.std.specs.Prelude.{Some, Result, Ok, Err, OnOk, IfOk, IfErr}
use Rattle.ipdl_forms.specs.declared.fault.DocFault.{DocFault}
use Rattle.ipdl_forms.specs.Faults.{tested, first_fault, TellsFirst}

-- the first fault of a list is that of a longer one
first_fault-append : (fs gs : List DocFault) (f : DocFault) → first_fault fs ≡ Some f → first_fault (fs ++ gs) ≡ Some f
first_fault-append [] gs f is = cc
first_fault-append (g ∷ fs) gs f is = is

-- the first fault of the tests in front
pub TellsFirst-in_front : (fault : DocFault) (fs gs : List DocFault) → TellsFirst fault fs → TellsFirst fault (fs ++ gs)
TellsFirst-in_front fault fs gs first =
    record { told = λ other. first_fault-append fs gs fault (first.told other) }

-- where the tests before hold, the first fault of the later ones
pub TellsFirst-after : (fault : DocFault) (fs gs : List DocFault) → fs ≡ [] → TellsFirst fault gs → TellsFirst fault (fs ++ gs)
TellsFirst-after fault fs gs clean first =
    subst (λ l. TellsFirst fault (l ++ gs)) (sym clean) first

-- no fault in two lists
pub clean-append : (fs gs : List DocFault) → fs ≡ [] → gs ≡ [] → fs ++ gs ≡ []
clean-append fs gs left right = rw (left, right) refl

-- a test that does not hold
pub TellsFirst-tested : (fault : DocFault) (b : Bool) → b ≡ false → TellsFirst fault (tested b fault)
TellsFirst-tested fault b fails = record { told = λ other. rw fails refl }

-- two lists that make an empty one are empty
pub append-clean : (fs gs : List DocFault) → fs ++ gs ≡ [] → (fs ≡ []) × (gs ≡ [])
append-clean [] gs clean = (refl, clean)
append-clean (f ∷ fs) gs clean = cc

-- a test without a fault holds
pub tested-holds : (b : Bool) (fault : DocFault) → tested b fault ≡ [] → b ≡ true
tested-holds true fault clean = refl
tested-holds false fault clean = cc

-- what follows from what is said of each outcome
pub OnOk-map : {A E : Type 0} (r : Result A E) (P Q : Type 0) → (P → Q) → OnOk r P → OnOk r Q
OnOk-map (Ok x) P Q more holds = more holds
OnOk-map (Err e) P Q more holds = holds

pub IfErr-map : {A E : Type 0} (r : Result A E) (P Q : E → Type 0) → ((e : E) → P e → Q e) → IfErr r P → IfErr r Q
IfErr-map (Ok x) P Q more holds = holds
IfErr-map (Err e) P Q more holds = more e holds

pub IfOk-map : {A E : Type 0} (r : Result A E) (P Q : A → Type 0) → ((x : A) → P x → Q x) → IfOk r P → IfOk r Q
IfOk-map (Ok x) P Q more holds = more x holds
IfOk-map (Err e) P Q more holds = holds
