use Rattle.std.proofs.Common.{◌≡◌, ◌+◌, ◌-◌, ◌≤◌, [], length, get_or, sym, ap, ◌∙◌, arith}
use Rattle.std.proofs.lemmas.List.{get_or_default}
use Rattle.ipdl_truth.proofs.Variables.{variable_value-reverse, variable_value-none}
use Rattle.ipdl_truth.proofs.evaluation.variable_value.Goals as goal

pub returns-in-Some : goal.returns-in-Some
returns-in-Some c =
    let env = c.args.env.now in
    let n = c.args.number in
    let i = c.in-Some.index in
    let told : (n + 1 ≤ length env) × (i ≡ length env - (n + 1)) = c.in-Some.ensures in
    let at : i ≡ length env - 1 - n = omega (arith, told.0, told.1) in
    c.index-env-index.is
    ∙ get_or_default env i c.index-env-index.result [] (omega (arith, told.0, told.1))
    ∙ ap (λ k. get_or env k []) at
    ∙ sym (variable_value-reverse env n (omega (arith, told.0)))

pub returns-in-None : goal.returns-in-None
returns-in-None c =
    let past = c.in-None.ensures in
    c.nothing.ensures ∙ sym (variable_value-none c.args.env.now c.args.number (omega (arith, past)))
