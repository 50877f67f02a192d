use Rattle.ipdl_forms.proofs.PlainFaults.{first_told}
use Rattle.ipdl_forms.proofs.laws.first_fault_is_told.Goals as goal

pub returns : goal.returns
returns c = first_told
