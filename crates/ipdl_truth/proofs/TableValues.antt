-- The value of a table at an argument.
use Rattle.std.proofs.Common.{◌≡◌, ℕ, zero, suc, ◌+◌, ◌^◌, ◌<◌, ◌≤◌, Bool, true, false, List, [], ◌∷◌, length, get_or, refl, sym, ap, ◌∙◌, subst, arith}
use Rattle.std.specs.Prelude.{if◌then◌else◌}
use Rattle.ipdl_base.specs.Bits.{bits_of, number_of, same_bits}
use Rattle.ipdl_base.specs.BitsLaws.{same_bits-Decides, number_of-bits_of_below}
use Rattle.ipdl_term.specs.Interpretations.{table_entries, entry_value}
use Rattle.ipdl_term.specs.Terms.{Value}
use Rattle.ipdl_truth.proofs.Bits.{bits_of-number_of}

-- the entry of another number is passed
other_entry : (from n i : ℕ) (a : Value) → length a ≡ from → number_of a ≡ n → i < 2 ^ from → (n ≡ i → ⊥) → same_bits (bits_of from i) a ≡ false
other_entry from n i a width is below other = go (same_bits (bits_of from i) a) refl
  where
    go : (b : Bool) → same_bits (bits_of from i) a ≡ b → b ≡ false
    go false e = refl
    go true e = absurd (other (sym is ∙ ap number_of (sym ((same_bits-Decides (bits_of from i) a).0 e)) ∙ number_of-bits_of_below from i below))

-- the entry of the argument's own number
own_entry : (from n : ℕ) (a : Value) → length a ≡ from → number_of a ≡ n → same_bits (bits_of from n) a ≡ true
own_entry from n a width is =
    let e : bits_of from n ≡ a = subst (λ w. bits_of w n ≡ a) width (subst (λ m. bits_of (length a) m ≡ a) is (bits_of-number_of a)) in
    (same_bits-Decides (bits_of from n) a).1 e

-- from the entry number i on
entry_from : (from n k i : ℕ) (values : List Value) (a default : Value) → length a ≡ from → number_of a ≡ n → n ≡ i + k → k < length values → i + length values ≤ 2 ^ from → entry_value (table_entries from i values) a default ≡ get_or values k default
entry_from from n k i [] a default width is at within few = absurd (omega arith)
entry_from from n zero i (v ∷ values) a default width is at within few =
    let e : i ≡ n = omega arith in
    let own : same_bits (bits_of from i) a ≡ true = own_entry from i a width (is ∙ sym e) in
    ap (λ b. if b then v else entry_value (table_entries from (suc i) values) a default) own
entry_from from n (suc k) i (v ∷ values) a default width is at within few =
    let ne : n ≡ i → ⊥ = λ e. omega arith in
    let other : same_bits (bits_of from i) a ≡ false = other_entry from n i a width is (omega arith) ne in
    ap (λ b. if b then v else entry_value (table_entries from (suc i) values) a default) other
    ∙ entry_from from n k (suc i) values a default width is (omega arith) (omega arith) (omega arith)

-- a table of all its values
pub table_value : (from : ℕ) (values : List Value) (a default : Value) → length a ≡ from → number_of a < length values → length values ≤ 2 ^ from → entry_value (table_entries from 0 values) a default ≡ get_or values (number_of a) default
table_value from values a default width within few =
    entry_from from (number_of a) (number_of a) 0 values a default width refl (omega arith) within (omega arith)
