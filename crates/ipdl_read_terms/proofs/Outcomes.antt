-- What a reader answers, said of other tests and of more of the value.
use Rattle.std.proofs.Common.{◌≡◌, List, sym, ◌∙◌, subst}
use Rattle.std.specs.Prelude.{Result, Ok, Err}
use Rattle.ipdl_forms.specs.declared.fault.DocFault.{DocFault}
use Rattle.ipdl_forms.specs.Faults.{TellsFirst}
use Rattle.ipdl_read_terms.specs.Outcomes.{IsRead}

-- the same tests, and what follows of the value
pub IsRead-as : {A : Type 0} (r : Result A DocFault) (P Q : A → Type 0) (fs gs : List DocFault) → ((x : A) → P x → Q x) → gs ≡ fs → IsRead P fs r → IsRead Q gs r
IsRead-as (Ok x) P Q fs gs more same read = (more x read.0, same ∙ read.1)
IsRead-as (Err fault) P Q fs gs more same read = subst (TellsFirst fault) (sym same) read
