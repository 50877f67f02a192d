use Rattle.ipdl_forms.specs.Documents.{document_of}
use Rattle.ipdl_top.proofs.Stopped.{Settles-check}
use Rattle.ipdl_top.proofs.answering.answer_to_check.Goals as goal

pub returns : goal.returns
returns c =
    Settles-check (document_of c.args.document.now) c.requires.spelled.0 c.proved_text.result c.requires.spelled.1 c.requires.typed c.proved_text.ensures.tests c.proved_text.ensures.text
