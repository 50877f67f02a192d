use Rattle.ipdl_worked.proofs.CaseLaws.{fold_typed, fold_instance, fold_equal}
use Rattle.ipdl_worked.proofs.cases.fold_of_two_stuck_channels.Goals as goal

pub returns-clause-typed : goal.returns-clause-typed
returns-clause-typed c = fold_typed

pub returns-clause-instance : goal.returns-clause-instance
returns-clause-instance c = fold_instance

pub returns-clause-equal : goal.returns-clause-equal
returns-clause-equal c = fold_equal
