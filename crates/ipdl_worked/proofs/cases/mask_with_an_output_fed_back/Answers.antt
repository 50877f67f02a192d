use Rattle.ipdl_worked.proofs.CaseLaws.{context_closes, mask_typed, mask_instance, mask_equal}
use Rattle.ipdl_worked.proofs.cases.mask_with_an_output_fed_back.Goals as goal

pub returns-clause-typed : goal.returns-clause-typed
returns-clause-typed c = mask_typed

pub returns-clause-instance : goal.returns-clause-instance
returns-clause-instance c = mask_instance

pub returns-clause-equal : goal.returns-clause-equal
returns-clause-equal c = mask_equal

pub returns-clause-closes : goal.returns-clause-closes
returns-clause-closes c = context_closes
