-- What each request owes, so that there is one reply to it: of a document whose items are well typed one refusal, or
-- else one text.
use Rattle.std.proofs.Common.{◌≡◌, ℕ, List, ◌⊎◌}
use Rattle.ipdl_top.specs.Statuses.{Refusal}

pub record IsOwed (refuses : Refusal → Type 0) (answers : List ℕ → Type 0) : Type 0 where
  pub one_refusal : (r s : Refusal) → refuses r → refuses s → r ≡ s
  pub one_text : (text other : List ℕ) → answers text → answers other → text ≡ other
  pub not_both : (r : Refusal) (text : List ℕ) → refuses r → answers text → ⊥

-- there is the one or the other
abbrev pub IsThereOne : (Refusal → Type 0) → (List ℕ → Type 0) → Type 0
IsThereOne refuses answers = ((r : Refusal) × refuses r) ⊎ ((text : List ℕ) × answers text)
