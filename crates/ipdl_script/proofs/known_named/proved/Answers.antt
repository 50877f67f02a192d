use Rattle.std.proofs.Common.{Some, None, length, ◌∙◌}
use Rattle.ipdl_forms.specs.Documents.{document_of}
use Rattle.ipdl_script.proofs.KnownLemmas.{proved_there, theorem_there, holds_of_found}
use Rattle.ipdl_uses.specs.Views.{IsKept}
use Rattle.ipdl_script.proofs.known_named.proved.Goals as goal

pub returns-in_err-chain-clause-value : goal.returns-in_err-chain-clause-value
returns-in_err-chain-clause-value c =
    rw c.from_residual.ensures (theorem_there (document_of c.args.document.now).entries c.args.chains.now c.args.name.now None c.in_err-chain.ensures)

pub returns-in_err-left-clause-value : goal.returns-in_err-left-clause-value
returns-in_err-left-clause-value c =
    rw c.from_residual-in_err-left.ensures
    (proved_there c.args.document.now c.in_ok-chain.chain.now None c.in_err-left.ensures.value
    ∙ theorem_there (document_of c.args.document.now).entries c.args.chains.now c.args.name.now (Some c.in_ok-chain.chain.now) c.in_ok-chain.ensures)

pub returns-clause-value : goal.returns-clause-value
returns-clause-value c =
    proved_there c.args.document.now c.in_ok-chain.chain.now (Some c.in_ok-left.left.now) c.in_ok-left.ensures.value
    ∙ theorem_there (document_of c.args.document.now).entries c.args.chains.now c.args.name.now (Some c.in_ok-chain.chain.now) c.in_ok-chain.ensures

pub returns-clause-kept : goal.returns-clause-kept
returns-clause-kept c =
    λ kept. holds_of_found (IsKept (length c.args.document.now.sig)) c.args.chains.now c.args.name.now c.in_ok-chain.chain.now c.in_ok-chain.ensures kept
