-- What a reader answers: the value that a tree spells where no test fails, and else the first test that fails.
use Rattle.std.specs.Prelude.{◌≡◌, List, [], Result, Ok, Err}
use Rattle.ipdl_forms.specs.declared.fault.DocFault.{DocFault}
use Rattle.ipdl_forms.specs.Faults.{TellsFirst}

-- a value that is asked for and no fault, or the first of the faults
abbrev pub IsRead : {A : Type 0} → (A → Type 0) → List DocFault → Result A DocFault → Type 0
IsRead Spells faults (Ok value) = Spells value × (faults ≡ [])
IsRead Spells faults (Err fault) = TellsFirst fault faults
