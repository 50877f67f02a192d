use Rattle.std.proofs.Common.{refl}
use Rattle.ipdl_forms.specs.Networks.{network_named}
use Rattle.ipdl_forms.specs.Documents.{document_of}
use Rattle.ipdl_top.proofs.Fitting.{AreFitNetworks-spelled, IsTypedNetwork-named}
use Rattle.ipdl_top.proofs.answering.answer_to_run.Goals as goal

pub run_text-requires-clause-typed : goal.run_text-requires-clause-typed
run_text-requires-clause-typed c =
    let d = document_of c.args.document.now in
    IsTypedNetwork-named d.symbols d.entries c.text.result.now
    (AreFitNetworks-spelled d c.requires.spelled.0 c.requires.spelled.1 c.requires.within c.requires.typed)
    (network_named d.entries c.text.result.now) refl
