use Rattle.ipdl_forms.proofs.OneItems.{one_document}
use Rattle.ipdl_forms.proofs.laws.one_document.Goals as goal

pub returns : goal.returns
returns c = one_document
