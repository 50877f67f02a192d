use Rattle.ipdl_forms.proofs.OuterNames.{outer_number-name, outer_number-decimal}
use Rattle.ipdl_forms.proofs.laws.outer_names.Goals as goal

pub returns : goal.returns
returns c = λ name n. (outer_number-name name n, λ (is, below). outer_number-decimal name n is below)
