use Rattle.ipdl_forms.specs.Documents.{document_of}
use Rattle.ipdl_top.specs.Told.{request_of}
use Rattle.ipdl_top.proofs.ItemTypes.{IsTypedDocument-none}
use Rattle.ipdl_top.proofs.Named.{HaveSides-spelled}
use Rattle.ipdl_top.proofs.Stopped.{Settles-ill, Settles-asked}
use Rattle.ipdl_top.proofs.answering.answer_to_document.Goals as goal

pub answer_to_typed-requires-clause-typed : goal.answer_to_typed-requires-clause-typed
answer_to_typed-requires-clause-typed c =
    IsTypedDocument-none (document_of c.args.document.now) (HaveSides-spelled (document_of c.args.document.now) c.requires.spelled.0 c.requires.spelled.1) c.in-Ok.ensures

pub returns-in-Ok : goal.returns-in-Ok
returns-in-Ok c =
    Settles-asked (request_of c.args.request.now) (document_of c.args.document.now) c.answer_to_typed.result
    (IsTypedDocument-none (document_of c.args.document.now) (HaveSides-spelled (document_of c.args.document.now) c.requires.spelled.0 c.requires.spelled.1) c.in-Ok.ensures)
    c.answer_to_typed.ensures

pub returns-in-Err : goal.returns-in-Err
returns-in-Err c =
    Settles-ill (request_of c.args.request.now) (document_of c.args.document.now) c.in-Err.stop c.in-Err.ensures
