use Rattle.std.proofs.Common.{refl}
use Rattle.ipdl_truth.proofs.tests.is_where_set.Goals as goal

pub agree-requires-clause-left : goal.agree-requires-clause-left
agree-requires-clause-left c = (1, refl)
