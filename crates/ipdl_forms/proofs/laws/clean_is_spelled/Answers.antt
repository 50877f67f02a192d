use Rattle.ipdl_forms.proofs.Fits.{expression_nodes-fit, reaction_nodes-fit, protocol_nodes-fit}
use Rattle.ipdl_forms.proofs.Spelled.{expression_spelled}
use Rattle.ipdl_forms.proofs.SpelledItems.{document_within}
use Rattle.ipdl_forms.proofs.SpelledProtocols.{protocol_spelled}
use Rattle.ipdl_forms.proofs.SpelledReactions.{reaction_spelled}
use Rattle.ipdl_forms.proofs.laws.clean_is_spelled.Goals as goal

pub returns-clause-expressions : goal.returns-clause-expressions
returns-clause-expressions c = λ scope count t clean.
    let e = expression_spelled t scope count clean in (e.0, e.1, expression_nodes-fit scope e.0 count t e.1 clean)

pub returns-clause-reactions : goal.returns-clause-reactions
returns-clause-reactions c = λ scope count t clean.
    let r = reaction_spelled t scope count clean in (r.0, r.1, reaction_nodes-fit scope r.0 count t r.1 clean)

pub returns-clause-protocols : goal.returns-clause-protocols
returns-clause-protocols c = λ scope count t clean.
    let p = protocol_spelled t scope count clean in (p.0, p.1, protocol_nodes-fit scope p.0 count t p.1 clean)

pub returns-clause-documents : goal.returns-clause-documents
returns-clause-documents c = document_within
