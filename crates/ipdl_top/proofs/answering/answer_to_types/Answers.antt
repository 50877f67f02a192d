use Rattle.ipdl_forms.specs.Documents.{document_of}
use Rattle.ipdl_top.proofs.Counts.{AreCounted-typed}
use Rattle.ipdl_top.proofs.answering.answer_to_types.Goals as goal

pub summary_text-requires : goal.summary_text-requires
summary_text-requires c =
    let d = document_of c.args.document.now in AreCounted-typed d.symbols d.entries d.entries c.requires.within.1 c.requires.typed
