-- What the answer of a test tells.
use Rattle.std.proofs.Common.{◌≡◌, Bool, sym, ◌∙◌}
use Rattle.std.specs.Prelude.{IsTrue, ◌↔◌}
use Rattle.std.specs.Bool.{Decides}

-- an answer that is a test's tells what the test decides
pub told : {P : Type 0} (answer test : Bool) → answer ≡ test → Decides test P → IsTrue answer ↔ P
told answer test is decides = (λ t. decides.0 (sym is ∙ t), λ p. is ∙ decides.1 p)
