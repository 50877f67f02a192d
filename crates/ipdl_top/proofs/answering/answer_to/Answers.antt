use Rattle.ipdl_tree.specs.Views.{located}
use Rattle.ipdl_forms.specs.Documents.{document_of}
use Rattle.ipdl_forms.proofs.WithinLimits.{within_document}
use Rattle.ipdl_top.specs.Told.{request_of}
use Rattle.ipdl_top.proofs.Stopped.{Settles-unspelled, Settles-faulty, Settles-document}
use Rattle.ipdl_top.proofs.answering.answer_to.Goals as goal

pub returns-in-Err : goal.returns-in-Err
returns-in-Err c =
    Settles-unspelled (request_of c.args.request.now) c.args.bytes.now c.in-Err.fault c.tree_stop.result c.requires c.in-Err.ensures.refused c.tree_stop.ensures

pub returns : goal.returns
returns c =
    Settles-faulty (request_of c.args.request.now) c.args.bytes.now (located c.in-Ok.tree) c.in-Err-read_document.fault c.document_stop.result c.requires c.in-Ok.ensures.spelled c.in-Ok.ensures.shallow c.in-Err-read_document.ensures.first c.document_stop.ensures

pub answer_to_document-requires-clause-within : goal.answer_to_document-requires-clause-within
answer_to_document-requires-clause-within c =
    within_document (document_of c.in-Ok-read_document.document) (located c.in-Ok.tree) c.in-Ok-read_document.ensures.spelled c.in-Ok-read_document.ensures.clean

pub returns-in-Ok-read_document : goal.returns-in-Ok-read_document
returns-in-Ok-read_document c =
    let d = document_of c.in-Ok-read_document.document in
    let t = located c.in-Ok.tree in
    Settles-document (request_of c.args.request.now) c.args.bytes.now t d c.answer_to_document.result c.requires
    (record {
      tree = record { spelled = c.in-Ok.ensures.spelled; shallow = c.in-Ok.ensures.shallow };
      spelled = c.in-Ok-read_document.ensures.spelled;
      within = within_document d t c.in-Ok-read_document.ensures.spelled c.in-Ok-read_document.ensures.clean;
    })
    c.answer_to_document.ensures
