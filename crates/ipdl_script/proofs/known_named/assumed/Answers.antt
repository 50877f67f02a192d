use Rattle.std.proofs.Common.{Some, None, ap, ◌∙◌}
use Rattle.ipdl_script.proofs.KnownLemmas.{assumed_there}
use Rattle.ipdl_script.specs.NamedItems.{assumption_named}
use Rattle.ipdl_script.proofs.known_named.assumed.Goals as goal

pub returns-in_err-assumption-clause-value : goal.returns-in_err-assumption-clause-value
returns-in_err-assumption-clause-value c =
    rw c.from_residual.ensures
    (assumed_there c.args.document.now c.args.name.now None (c.in_err-assumption.ensures ∙ ap (λ items. assumption_named items c.args.name.now) c.as_slice.ensures))

pub returns-clause-value : goal.returns-clause-value
returns-clause-value c =
    c.between.ensures.value
    ∙ assumed_there c.args.document.now c.args.name.now (Some c.in_ok-assumption.assumption.now)
    (c.in_ok-assumption.ensures ∙ ap (λ items. assumption_named items c.args.name.now) c.as_slice.ensures)
