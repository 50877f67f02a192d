use Rattle.std.proofs.Common.{ap, ap₂, sym, ◌∙◌, ◌≡◌, ◌++◌, ◌∷◌, []}
use Rattle.ipdl_mean.specs.Running.{written_in}
use Rattle.ipdl_mean.proofs.Runs.{both_run}
use Rattle.ipdl_term.specs.Networks.{value_of}
use Rattle.ipdl_term.specs.Terms.{binding}
use Rattle.ipdl_term.specs.Views.{reaction_of}
use Rattle.ipdl_truth.specs.Tables.{tables_of}
use Rattle.ipdl_typing.specs.Signatures.{signature_of}
use Rattle.ipdl_mean.proofs.reacting.+react.Goals as goal

pub returns-in_ok-value-in-Bind-clause-ends : goal.returns-in_ok-value-in-Bind-clause-ends
returns-in_ok-value-in-Bind-clause-ends t c = λ writers.
    let r = reaction_of c.deref-in-Bind.result.now in
    let s = reaction_of c.deref-in-Bind-2.result.now in
    let is : reaction_of c.args.reaction.now ≡ binding c.in-Bind.field-0 r s = ap reaction_of c.in-Bind.is ∙ ap₂ (λ x y. binding c.in-Bind.field-0 (reaction_of x) (reaction_of y)) (sym c.deref-in-Bind.ensures) (sym c.deref-in-Bind-2.ensures) in
    both_run (tables_of (signature_of c.args.around.now.sig.now)) c.in-Bind.field-0 (reaction_of c.args.reaction.now) r s is
    c.args.run.now.env.items c.push.new.self.items
    (λ d. value_of c.args.around.now.own (writers d) (written_in c.args.around.now.values.now))
    c.in-Some.first (c.in_ok-push-in-Bind.ensures.items ∙ ap (λ env. env ++ c.in-Some.first ∷ []) c.in_ok-first-in-Bind.ensures.env) c.in_ok-first-in-Bind.field-0 c.in_ok-value-in-Bind.value c.in-Some.is
    c.args.run.now.tape.now c.react-in-Bind.new.run.tape.now c.react-in-Bind-2.new.run.tape.now
    writers c.args.run.now.writers.now c.react-in-Bind.new.run.writers.now c.react-in-Bind-2.new.run.writers.now
    (c.in_ok-first-in-Bind.ensures.ends writers) (c.in_ok-value-in-Bind.ensures.ends writers)
