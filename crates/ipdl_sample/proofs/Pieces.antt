-- Texts that are put together piece by piece.
use Rattle.std.proofs.Common.{◌≡◌, ℕ, suc, ◌+◌, ◌-◌, ◌<◌, List, [], ◌++◌, refl, ap, ◌∙◌, sym, append_assoc, arith}
use Rattle.ipdl_sample.specs.Samples.{entry_text, items_text}

-- ports: words and a number twice, and words
pub ports_pieces : (a n b c s₀ s₁ s₂ s₃ : List ℕ) → s₁ ≡ s₀ ++ (a ++ n) → s₂ ≡ s₁ ++ (b ++ n) → s₃ ≡ s₂ ++ c → s₃ ≡ s₀ ++ (a ++ n ++ b ++ n ++ c)
ports_pieces a n b c s₀ s₁ s₂ s₃ e₁ e₂ e₃ = e₃ ∙ rw (e₂, e₁) (simp append_assoc)

-- the left protocol
pub left_pieces : (a i p b n c d e f s₀ s₁ s₂ s₃ s₄ s₅ s₆ s₇ : List ℕ) → s₁ ≡ s₀ ++ (a ++ i) → s₂ ≡ s₁ ++ p → s₃ ≡ s₂ ++ (b ++ n) → s₄ ≡ s₃ ++ (c ++ n) → s₅ ≡ s₄ ++ (d ++ n) → s₆ ≡ s₅ ++ (e ++ n) → s₇ ≡ s₆ ++ f → s₇ ≡ s₀ ++ (a ++ i ++ p ++ b ++ n ++ c ++ n ++ d ++ n ++ e ++ n ++ f)
left_pieces a i p b n c d e f s₀ s₁ s₂ s₃ s₄ s₅ s₆ s₇ e₁ e₂ e₃ e₄ e₅ e₆ e₇ = e₇ ∙ rw (e₆, e₅, e₄, e₃, e₂, e₁) (simp append_assoc)

-- the right protocol
pub right_pieces : (a i p b n c d s₀ s₁ s₂ s₃ s₄ s₅ : List ℕ) → s₁ ≡ s₀ ++ (a ++ i) → s₂ ≡ s₁ ++ p → s₃ ≡ s₂ ++ (b ++ n) → s₄ ≡ s₃ ++ (c ++ n) → s₅ ≡ s₄ ++ d → s₅ ≡ s₀ ++ (a ++ i ++ p ++ b ++ n ++ c ++ n ++ d)
right_pieces a i p b n c d s₀ s₁ s₂ s₃ s₄ s₅ e₁ e₂ e₃ e₄ e₅ = e₅ ∙ rw (e₄, e₃, e₂, e₁) (simp append_assoc)

-- the theorem
pub theorem_pieces : (a i b c d s₀ s₁ s₂ s₃ s₄ : List ℕ) → s₁ ≡ s₀ ++ (a ++ i) → s₂ ≡ s₁ ++ (b ++ i) → s₃ ≡ s₂ ++ (c ++ i) → s₄ ≡ s₃ ++ d → s₄ ≡ s₀ ++ (a ++ i ++ b ++ i ++ c ++ i ++ d)
theorem_pieces a i b c d s₀ s₁ s₂ s₃ s₄ e₁ e₂ e₃ e₄ = e₄ ∙ rw (e₃, e₂, e₁) (simp append_assoc)

-- three items, each behind a blank
pub entry_pieces : (b x y z s₀ s₁ s₂ s₃ s₄ s₅ s₆ : List ℕ) → s₁ ≡ s₀ ++ b → s₂ ≡ s₁ ++ x → s₃ ≡ s₂ ++ b → s₄ ≡ s₃ ++ y → s₅ ≡ s₄ ++ b → s₆ ≡ s₅ ++ z → s₆ ≡ s₀ ++ (b ++ x ++ b ++ y ++ b ++ z)
entry_pieces b x y z s₀ s₁ s₂ s₃ s₄ s₅ s₆ e₁ e₂ e₃ e₄ e₅ e₆ = e₆ ∙ rw (e₅, e₄, e₃, e₂, e₁) (simp append_assoc)

-- the document
pub sample_pieces : (a b c s₀ s₁ s₂ s₃ : List ℕ) → s₁ ≡ s₀ ++ a → s₂ ≡ s₁ ++ b → s₃ ≡ s₂ ++ c → s₃ ≡ s₀ ++ (a ++ b ++ c)
sample_pieces a b c s₀ s₁ s₂ s₃ e₁ e₂ e₃ = e₃ ∙ rw (e₂, e₁) (simp append_assoc)

-- the first number's items, and the others
pub items_text-first : (i count : ℕ) → i < count → items_text i (count - i) ≡ entry_text i ++ items_text (suc i) (count - suc i)
items_text-first i count below =
    let more : count - i ≡ suc (count - suc i) = omega (arith, below) in
    ap (items_text i) more

-- after the items of a number those of the next ones follow
pub items_pieces : (s₀ s₁ whole : List ℕ) (i count : ℕ) → i < count → s₁ ≡ s₀ ++ entry_text i → s₀ ++ items_text i (count - i) ≡ whole → s₁ ++ items_text (i + 1) (count - (i + 1)) ≡ whole
items_pieces s₀ s₁ whole i count below written all =
    let next : i + 1 ≡ suc i = omega (arith) in
    rw (written, next) (append_assoc s₀ (entry_text i) (items_text (suc i) (count - suc i)))
    ∙ ap (λ more. s₀ ++ more) (sym (items_text-first i count below)) ∙ all
