use Rattle.ipdl_worked.proofs.CaseLaws.{subst_typed, subst_instance, subst_equal}
use Rattle.ipdl_worked.proofs.cases.subst_at_a_place_that_is_not_reached.Goals as goal

pub returns-clause-typed : goal.returns-clause-typed
returns-clause-typed c = subst_typed

pub returns-clause-instance : goal.returns-clause-instance
returns-clause-instance c = subst_instance

pub returns-clause-equal : goal.returns-clause-equal
returns-clause-equal c = subst_equal
