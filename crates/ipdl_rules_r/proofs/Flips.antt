-- A flip whose value is used: a sum over all values of its width. Two flips are one, and a flip may be masked.
use Rattle.std.proofs.Common.{◌≡◌, ℕ, zero, suc, ◌+◌, ◌-◌, Bool, true, false, List, [], ◌∷◌, ◌++◌, length, Some, refl, sym, ap, ap₂, ◌∙◌, arith, length-append}
use Rattle.std.proofs.lemmas.Bool.Decides.{nat_tests}
use Rattle.std.proofs.lemmas.List.{take_at, drop_at, take_all}
use Rattle.std.specs.Prelude.{nat_le, nat_eq}
use Rattle.ipdl_base.specs.Bits.{xor_bits}
use Rattle.ipdl_laws.proofs.Chances.{first_bits_of_append}
use Rattle.ipdl_laws.proofs.Sets.{by_test}
use Rattle.ipdl_laws.proofs.Totals.{total_equal, total_append}
use Rattle.ipdl_laws.specs.ReactionTotals.{Weight, reaction_total}
use Rattle.ipdl_laws.proofs.Rewritten.{outcome_without, evaluation_of_lowered, outcome_of_replaced, outcome_of_joined}
use Rattle.ipdl_rules_r.proofs.SameOutcomes.{totals_of_same_outcomes}
use Rattle.ipdl_rules_r.specs.SameTotals.{HaveSameTotals}
use Rattle.ipdl_term.specs.Counts.{total}
use Rattle.ipdl_term.specs.Interpretations.{Interpretation, cut_value, at_one_width, evaluation}
use Rattle.ipdl_term.specs.Reactions.{outcome_value, first_bits, continued, reaction_outcome}
use Rattle.ipdl_term.specs.Rewriting.{lowered_expression, replaced_reaction, joined_reaction}
use Rattle.ipdl_term.specs.Terms.{Value, Expression, variable, exclusive, Reaction, flipping, binding}
use Rattle.ipdl_term.specs.Valuations.{Valuation}
use Rattle.ipdl_term.specs.Variables.{expression_uses, reaction_uses}

module _ (J : Interpretation) (env : List Value) (inputs : Valuation) where
  -- over the bits of the flip and m bits more
  total-flip : (k w : ℕ) (s : Reaction) (m : ℕ) (weight : Weight) → reaction_total J (binding k (flipping w) s) env inputs (w + m) weight ≡ total w (λ u. reaction_total J s (u ∷ env) inputs m weight)
  total-flip k w s m weight =
      total_append w m (λ t. weight (outcome_value (reaction_outcome J (binding k (flipping w) s) env inputs t))) ∙
      total_equal w _ _ (λ u e. total_equal m _ _ (λ t l. ap (λ o. weight (outcome_value (continued o (λ v rest. reaction_outcome J s (v ∷ env) inputs rest)))) (taken u t e)))
    where
      taken : (u t : List Bool) → length u ≡ w → first_bits w (u ++ t) ≡ Some (u, t)
      taken u t e = ap (λ n. first_bits n (u ++ t)) (sym e) ∙ first_bits_of_append J u t

  -- behind one flip, two reactions whose totals have one sum over its values
  pub same_behind_flip : (k w : ℕ) (s x : Reaction) → ((weight : Weight) (m : ℕ) → total w (λ u. reaction_total J s (u ∷ env) inputs m weight) ≡ total w (λ u. reaction_total J x (u ∷ env) inputs m weight)) →
      HaveSameTotals J env inputs (binding k (flipping w) s) (binding k (flipping w) x)
  same_behind_flip k w s x same weight n h l =
      let e : n ≡ w + (n - w) = omega (arith, h) in
      ap (λ i. reaction_total J (binding k (flipping w) s) env inputs i weight) e ∙
      total-flip k w s (n - w) weight ∙
      same weight (n - w) ∙
      sym (total-flip k w x (n - w) weight) ∙
      ap (λ i. reaction_total J (binding k (flipping w) x) env inputs i weight) (sym e)

-- ---- join

-- the two cuts of two values one after the other
cut_value-first : (v : ℕ) (a b : Value) → length a ≡ v → cut_value 0 v (a ++ b) ≡ a
cut_value-first v a b h =
    let l : length (a ++ b) ≡ length a + length b = length-append a b in
    let e : nat_le (0 + v) (length (a ++ b)) ≡ true = grind (arith, nat_tests) in
    rw e (take_at a b v h)

cut_value-second : (v w : ℕ) (a b : Value) → length a ≡ v → length b ≡ w → cut_value v w (a ++ b) ≡ b
cut_value-second v w a b h k =
    let l : length (a ++ b) ≡ length a + length b = length-append a b in
    let e : nat_le (v + w) (length (a ++ b)) ≡ true = grind (arith, nat_tests) in
    rw (e, drop_at a b v h) (take_all w b (omega arith))

module _ (J : Interpretation) (env : List Value) (inputs : Valuation) where
  pub join_is_as_likely : (v w : ℕ) (s : Reaction) → HaveSameTotals J env inputs (binding v (flipping v) (binding w (flipping w) s)) (binding (v + w) (flipping (v + w)) (joined_reaction v w s))
  join_is_as_likely v w s weight n h k =
      let m = n - (v + w) in
      let in_turn : n ≡ v + (w + m) = omega (arith, h) in
      let at_once : n ≡ v + w + m = omega (arith, h) in
      ap (λ i. reaction_total J (binding v (flipping v) (binding w (flipping w) s)) env inputs i weight) in_turn ∙
      total-flip J env inputs v v (binding w (flipping w) s) (w + m) weight ∙
      total_equal v _ _ (λ a la. total-flip J (a ∷ env) inputs w w s m weight ∙ total_equal w _ _ (λ b lb. totals_of_same_outcomes J s (joined_reaction v w s) (b ∷ a ∷ env) ((a ++ b) ∷ env) inputs m weight (λ t. by_cuts a b t la lb))) ∙
      sym (total_append v w (λ z. reaction_total J (joined_reaction v w s) (z ∷ env) inputs m weight)) ∙
      sym (total-flip J env inputs (v + w) (v + w) (joined_reaction v w s) m weight) ∙
      ap (λ i. reaction_total J (binding (v + w) (flipping (v + w)) (joined_reaction v w s)) env inputs i weight) (sym at_once)
    where
      by_cuts : (a b t : List Bool) → length a ≡ v → length b ≡ w → reaction_outcome J s (b ∷ a ∷ env) inputs t ≡ reaction_outcome J (joined_reaction v w s) ((a ++ b) ∷ env) inputs t
      by_cuts a b t la lb =
          sym (outcome_of_joined J env (a ++ b) v w s inputs t ∙ ap₂ (λ y x. reaction_outcome J s (y ∷ x ∷ env) inputs t) (cut_value-second v w a b la lb) (cut_value-first v a b la))

-- ---- mask

-- all values of a width, each combined with one of them
total-xor_bits : (w : ℕ) (m : Value) (g : Value → ℕ) → length m ≡ w → total w (λ u. g (xor_bits u m)) ≡ total w g
total-xor_bits zero [] g h = refl
total-xor_bits zero (b ∷ m) g h = absurd (omega arith)
total-xor_bits (suc w) [] g h = absurd (omega arith)
total-xor_bits (suc w) (false ∷ m) g h =
    ap₂ ◌+◌ (total-xor_bits w m (λ u. g (false ∷ u)) (omega arith)) (total-xor_bits w m (λ u. g (true ∷ u)) (omega arith))
total-xor_bits (suc w) (true ∷ m) g h =
    ap₂ ◌+◌ (total-xor_bits w m (λ u. g (true ∷ u)) (omega arith)) (total-xor_bits w m (λ u. g (false ∷ u)) (omega arith)) ∙ omega arith

module _ (J : Interpretation) (env : List Value) (inputs : Valuation) where
  -- where the variable occurs, the value of the expression has the width
  pub mask_by_width : (w : ℕ) (s : Reaction) (e : Expression) → expression_uses e 0 ≡ false → (reaction_uses s 0 ≡ true → length (evaluation J env (lowered_expression e)) ≡ w) →
      HaveSameTotals J env inputs (binding w (flipping w) s) (binding w (flipping w) (replaced_reaction s (exclusive (variable 0) e)))
  mask_by_width w s e unused wide = same_behind_flip J env inputs w w s masked (λ weight m. by_test (reaction_uses s 0)
      (λ used.
      sym (total-xor_bits w mask (λ u. reaction_total J s (u ∷ env) inputs m weight) (wide used)) ∙
      total_equal w _ _ (λ u l. totals_of_same_outcomes J s masked (xor_bits u mask ∷ env) (u ∷ env) inputs m weight (λ t.
      ap (λ x. reaction_outcome J s (x ∷ env) inputs t) (masked_value u l (wide used)) ∙ sym (outcome_of_replaced J env u s (exclusive (variable 0) e) inputs t))))
      (λ none.
      total_equal w _ _ (λ u l. totals_of_same_outcomes J s masked (u ∷ env) (u ∷ env) inputs m weight (λ t.
      outcome_without J env u (evaluation J (u ∷ env) (exclusive (variable 0) e)) [] s inputs t none ∙ sym (outcome_of_replaced J env u s (exclusive (variable 0) e) inputs t)))))
    where
      -- the value of the expression, which is the same at each value of the flip
      mask : Value
      mask = evaluation J env (lowered_expression e)

      masked : Reaction
      masked = replaced_reaction s (exclusive (variable 0) e)

      masked_value : (u : Value) → length u ≡ w → length mask ≡ w → xor_bits u mask ≡ evaluation J (u ∷ env) (exclusive (variable 0) e)
      masked_value u l k =
          let t : nat_eq (length u) (length mask) ≡ true = grind (arith, nat_tests) in
          sym (ap (λ x. at_one_width u x (xor_bits u x)) (sym (evaluation_of_lowered J env u e unused)) ∙ rw t)
