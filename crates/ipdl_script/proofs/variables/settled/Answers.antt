use Rattle.std.proofs.Common.{◌≡◌, ℕ, Option, Some, None, Err, refl, ap}
use Rattle.ipdl_script.specs.Steps.{variable_test}
use Rattle.ipdl_script.proofs.variables.settled.Goals as goal

none_is_told : (u : Option ℕ) → ((n : ℕ) → u ≡ Some n → ⊥) → variable_test u ≡ None
none_is_told None h = refl
none_is_told (Some n) h = absurd (h n refl)

pub returns-in_ok-boxed-in-Ok-clause-test : goal.returns-in_ok-boxed-in-Ok-clause-test
returns-in_ok-boxed-in-Ok-clause-test c = none_is_told _ (λ n is. let e = (c.in-Ok.ensures.no_variable n).1 is in cc)

pub returns-in-Err-NoVariable-clause-test : goal.returns-in-Err-NoVariable-clause-test
returns-in-Err-NoVariable-clause-test c =
    let told = ap variable_test ((c.in-Err-NoVariable.ensures.no_variable c.in-Err-NoVariable.number).0 (ap Err c.in-Err-NoVariable.field-0-is)) in
    let number = c.in-Err-NoVariable.number-is in
    cc
