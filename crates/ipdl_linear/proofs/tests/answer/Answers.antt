use Rattle.std.proofs.Common.{◌≡◌, ℕ, zero, suc, ◌<◌, [], ◌∷◌, Some, refl, arith}
use Rattle.std.specs.Prelude.{slice_get}
use Rattle.ipdl_linear.proofs.tests.answer.Goals as goal

-- there are two variables
typed : (n : ℕ) → n < 2 → (w : ℕ) × (slice_get (1 ∷ 1 ∷ []) n ≡ Some w)
typed zero h = (1, refl)
typed (suc zero) h = (1, refl)
typed (suc (suc n)) h = absurd (omega arith)

pub same_form-requires-clause-left : goal.same_form-requires-clause-left
same_form-requires-clause-left c = typed c.args.left c.requires.left

pub same_form-requires-clause-right : goal.same_form-requires-clause-right
same_form-requires-clause-right c = typed c.args.right c.requires.right
