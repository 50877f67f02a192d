use Rattle.ipdl_forms.proofs.CleanItems.{clean_document}
use Rattle.ipdl_forms.proofs.WithinLimits.{within_document}
use Rattle.ipdl_forms.proofs.laws.document_is_read.Goals as goal

pub returns-clause-clean : goal.returns-clause-clean
returns-clause-clean c = clean_document

pub returns-clause-within : goal.returns-clause-within
returns-clause-within c = within_document
