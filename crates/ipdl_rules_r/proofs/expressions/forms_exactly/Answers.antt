use Rattle.ipdl_rules_r.proofs.FormAnswers.{forms_exactly}
use Rattle.ipdl_rules_r.proofs.expressions.forms_exactly.Goals as goal

pub returns : goal.returns
returns c = forms_exactly
