use Rattle.ipdl_worked.proofs.CaseLaws.{constant_typed, constant_instance, constant_equal}
use Rattle.ipdl_worked.proofs.cases.drop_before_a_constant.Goals as goal

pub returns-clause-typed : goal.returns-clause-typed
returns-clause-typed c = constant_typed

pub returns-clause-instance : goal.returns-clause-instance
returns-clause-instance c = constant_instance

pub returns-clause-equal : goal.returns-clause-equal
returns-clause-equal c = constant_equal
