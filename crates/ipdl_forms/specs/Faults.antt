-- The tests that fail where a document is read, in reading order. The first one is told.
use Rattle.std.specs.Prelude.{◌≡◌, ◌≢◌, ℕ, Bool, true, false, List, [], ◌∷◌, Option, Some, None}
use Rattle.ipdl_base.specs.declared.limit.Limit.{Limit}
use Rattle.ipdl_tree.specs.Trees.{Located, offset_of}
use Rattle.ipdl_forms.specs.declared.fault.FormCause.{FormCause}
use Rattle.ipdl_forms.specs.declared.fault.FormCause.TheVariants.{NotAForm}
use Rattle.ipdl_forms.specs.Lists.{is_word}
use Rattle.ipdl_forms.specs.declared.fault.DocFault.{DocFault}
use Rattle.ipdl_forms.specs.declared.fault.DocFault.TheVariants.{Form, Over, Memory}

-- the fault of a form at an offset
abbrev pub form_fault : FormCause → ℕ → DocFault
form_fault cause offset = Form (record { 0 = offset }) cause

-- the fault of a limit that is passed at an offset
abbrev pub over_fault : Limit → ℕ → DocFault
over_fault limit offset = Over limit (record { 0 = offset })

-- the faults of one test
abbrev pub tested : Bool → DocFault → List DocFault
tested true fault = []
tested false fault = fault ∷ []

-- the tree is a word
abbrev pub word_faults : Located → List DocFault
word_faults t = tested (is_word t) (form_fault NotAForm (offset_of t))

-- the first of the faults, if there is one
abbrev pub first_fault : List DocFault → Option DocFault
first_fault [] = None
first_fault (fault ∷ faults) = Some fault

-- the fault is the first of these, want of memory apart
pub record TellsFirst (fault : DocFault) (faults : List DocFault) : Type 0 where
  pub told : fault ≢ Memory → first_fault faults ≡ Some fault
