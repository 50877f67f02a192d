use Rattle.ipdl_worked.proofs.CaseLaws.{arm_typed, arm_instance, arm_equal}
use Rattle.ipdl_worked.proofs.cases.drop_of_a_read_in_an_arm.Goals as goal

pub returns-clause-typed : goal.returns-clause-typed
returns-clause-typed c = arm_typed

pub returns-clause-instance : goal.returns-clause-instance
returns-clause-instance c = arm_instance

pub returns-clause-equal : goal.returns-clause-equal
returns-clause-equal c = arm_equal
