use Rattle.ipdl_forms.specs.Documents.{document_of}
use Rattle.ipdl_top.specs.declared.request.Request.TheVariants.{Check, Types}
use Rattle.ipdl_top.proofs.Stopped.{Settles-at, Settles-types}
use Rattle.ipdl_top.proofs.answering.answer_to_typed.Goals as goal

pub returns-in-Check : goal.returns-in-Check
returns-in-Check c =
    Settles-at c.args.request.now Check (document_of c.args.document.now) c.answer_to_check.result c.in-Check.is c.answer_to_check.ensures

pub returns-in-Types : goal.returns-in-Types
returns-in-Types c =
    Settles-at c.args.request.now Types (document_of c.args.document.now) c.answer_to_types.result c.in-Types.is
    (Settles-types (document_of c.args.document.now) c.answer_to_types.result c.requires.typed c.answer_to_types.ensures.text c.answer_to_types.ensures.memory)
