-- The product law of a binding, and the laws of totals of reactions.
use Rattle.std.proofs.Common.{◌≡◌, ℕ, zero, suc, ◌+◌, ◌-◌, ◌*◌, ◌^◌, ◌<◌, ◌≤◌, ◌≢◌, ◌⊎◌, inl, inr, Bool, true, false, List, [], ◌∷◌, length, Option, Some, None, refl, sym, ap, ap₂, ◌∙◌, arith, pow-add, pow-suc}
use Rattle.std.proofs.lemmas.Bool.{cases_lt}
use Rattle.std.specs.Prelude.{IfSome}
use mathlib.Core.Path.{fun_ext}
use Rattle.ipdl_base.specs.Bits.{same_bits}
use Rattle.ipdl_base.specs.BitsLaws.{same_bits-Decides}
use Rattle.ipdl_term.specs.Channels.{has}
use Rattle.ipdl_term.specs.Counts.{total, one_if, same_value}
use Rattle.ipdl_term.specs.Interpretations.{Interpretation}
use Rattle.ipdl_term.specs.Protocols.{written}
use Rattle.ipdl_term.specs.Reactions.{outcome_value, Outcome, reaction_outcome, reaction_coins}
use Rattle.ipdl_term.specs.Terms.{Value, Channel, Reaction, binding, assignment}
use Rattle.ipdl_term.specs.Typing.{Scope}
use Rattle.ipdl_term.specs.Valuations.{Valuation, nothing, only, all_taken_out}
use Rattle.ipdl_laws.specs.Alike.{FitsScope, loop_total, Alike}
use Rattle.ipdl_laws.specs.ReactionTotals.{Weight, reaction_total, value_count, weight_by, weight_then, OutcomeFits, total_to}
use Rattle.ipdl_laws.proofs.Chances.{chance_then, chance, reaction_total-chance, chance_equal, chance-scale}
use Rattle.ipdl_laws.proofs.Loops.{loop_valuation-assignment}
use Rattle.ipdl_laws.proofs.Totals.{total_equal, total-scale, total-scale_right, total-add, total-const, total-total}
use Rattle.ipdl_laws.proofs.Sets.{by_test, if-true, has-single}
use Rattle.ipdl_term.proofs.ChannelSets.{same_channel-itself}
use Rattle.ipdl_laws.proofs.Widths.{FitsScope-nothing, FitsScope-all_taken_out}

module _ (J : Interpretation) where
  -- one bit more doubles the total of a reaction
  pub reaction_total_doubles : (r : Reaction) (env : List Value) (inputs : Valuation) (n : ℕ) (weight : Weight) → reaction_coins r ≤ n → reaction_total J r env inputs (n + 1) weight ≡ 2 * reaction_total J r env inputs n weight
  reaction_total_doubles r env inputs n weight h =
      let e : n + 1 - reaction_coins r ≡ suc (n - reaction_coins r) = omega arith in
      let x = chance J r env inputs weight in
      reaction_total-chance J r env inputs weight (n + 1) (omega arith) ∙
      ap (λ m. 2 ^ m * x) e ∙
      doubled (n - reaction_coins r) x ∙
      ap (λ y. 2 * y) (sym (reaction_total-chance J r env inputs weight n h))
    where
      doubled : (m x : ℕ) → 2 ^ suc m * x ≡ 2 * (2 ^ m * x)
      doubled m x = rw (pow-suc 2 m) (omega arith)

  -- powers of two for a first part of a coins and a second of b, on n bits each
  powers : (a b n x : ℕ) → a + b ≤ n → 2 ^ n * (2 ^ (n - (a + b)) * x) ≡ 2 ^ (n - a) * (2 ^ (n - b) * x)
  powers a b n x h =
      let e : n + (n - (a + b)) ≡ (n - a) + (n - b) = omega arith in
      let l : 2 ^ n * (2 ^ (n - (a + b)) * x) ≡ (2 ^ n * 2 ^ (n - (a + b))) * x = omega arith in
      let r : (2 ^ (n - a) * 2 ^ (n - b)) * x ≡ 2 ^ (n - a) * (2 ^ (n - b) * x) = omega arith in
      l ∙ ap (λ y. y * x) (sym (pow-add 2 n (n - (a + b))) ∙ ap (λ m. 2 ^ m) e ∙ pow-add 2 (n - a) (n - b)) ∙ r

  -- the weight of what the second part goes on from, over n bits, as a multiple of that over its own coins
  weight_then_is : (s : Reaction) (env : List Value) (inputs : Valuation) (n : ℕ) (weight : Weight) → reaction_coins s ≤ n → (o : Option Value) → weight_then J s env inputs n weight o ≡ 2 ^ (n - reaction_coins s) * chance_then (reaction_coins s) weight (λ v. chance J s (v ∷ env) inputs weight) o
  weight_then_is s env inputs n weight h None =
      let e : n ≡ (n - reaction_coins s) + reaction_coins s = omega arith in
      ap (λ m. 2 ^ m * weight None) e ∙ rw (pow-add 2 (n - reaction_coins s) (reaction_coins s)) (omega arith)
  weight_then_is s env inputs n weight h (Some v) = reaction_total-chance J s (v ∷ env) inputs weight n h

  -- the total of a binding, as that of its first part by the totals of its second
  pub reaction_total-binding : (w : ℕ) (r s : Reaction) (env : List Value) (inputs : Valuation) (n : ℕ) (weight : Weight) → reaction_coins (binding w r s) ≤ n →
      2 ^ n * reaction_total J (binding w r s) env inputs n weight ≡ reaction_total J r env inputs n (weight_then J s env inputs n weight)
  reaction_total-binding w r s env inputs n weight h =
      let a = reaction_coins r in
      let b = reaction_coins s in
      let x = chance J r env inputs (chance_then b weight (λ v. chance J s (v ∷ env) inputs weight)) in
      ap (λ y. 2 ^ n * y) (reaction_total-chance J (binding w r s) env inputs weight n h) ∙
      powers a b n x h ∙
      ap (λ y. 2 ^ (n - a) * y) (
      sym (chance-scale J r env inputs (2 ^ (n - b)) _) ∙
      chance_equal J r env inputs _ (weight_then J s env inputs n weight) (λ o. sym (weight_then_is s env inputs n weight (omega arith) o))) ∙
      sym (reaction_total-chance J r env inputs (weight_then J s env inputs n weight) n (omega arith))

  -- ---- by values

  -- a sum over all values of a width, of which one counts
  total-same_bits : (w : ℕ) (v : Value) (f : Value → ℕ) → length v ≡ w → total w (λ u. one_if (same_bits v u) * f u) ≡ f v
  total-same_bits zero [] f h = omega arith
  total-same_bits zero (b ∷ v) f h = absurd (omega arith)
  total-same_bits (suc w) [] f h = absurd (omega arith)
  total-same_bits (suc w) (false ∷ v) f h =
      ap₂ ◌+◌ (total-same_bits w v (λ u. f (false ∷ u)) (omega arith)) (none w (λ u. f (true ∷ u))) ∙ omega arith
    where
      none : (w : ℕ) (g : Value → ℕ) → total w (λ u. 0 * g u) ≡ 0
      none w g = total-scale w 0 g ∙ omega arith
  total-same_bits (suc w) (true ∷ v) f h =
      ap₂ ◌+◌ (none w (λ u. f (false ∷ u))) (total-same_bits w v (λ u. f (true ∷ u)) (omega arith)) ∙ omega arith
    where
      none : (w : ℕ) (g : Value → ℕ) → total w (λ u. 0 * g u) ≡ 0
      none w g = total-scale w 0 g ∙ omega arith

  -- what an outcome weighs, as a sum over all values of its width
  weight_by_values : (w : ℕ) (o : Outcome) (f : Value → ℕ) → OutcomeFits w o → weight_by 0 f (outcome_value o) ≡ total w (λ u. one_if (same_value (outcome_value o) (Some u)) * f u)
  weight_by_values w None f h = sym (total-scale w 0 f ∙ omega arith)
  weight_by_values w (Some o) f h = sym (total-same_bits w o.0 f h)

  -- a total as a sum over all values
  pub reaction_total_by_values : (w : ℕ) (r : Reaction) (env : List Value) (inputs : Valuation) (n : ℕ) (f : Value → ℕ) → ((t : List Bool) → OutcomeFits w (reaction_outcome J r env inputs t)) →
      reaction_total J r env inputs n (weight_by 0 f) ≡ total w (λ u. value_count J r env inputs n u * f u)
  reaction_total_by_values w r env inputs n f fits =
      total_equal n _ (λ t. total w (λ u. one_if (same_value (outcome_value (reaction_outcome J r env inputs t)) (Some u)) * f u)) (λ t e. weight_by_values w (reaction_outcome J r env inputs t) f (fits t)) ∙
      total-total n w (λ t u. one_if (same_value (outcome_value (reaction_outcome J r env inputs t)) (Some u)) * f u) ∙
      total_equal w _ _ (λ u e. total-scale_right n (f u) (λ t. one_if (same_value (outcome_value (reaction_outcome J r env inputs t)) (Some u))))

  -- ---- by values of any width

  -- the sum of nothing
  total-none : (w : ℕ) (f : Value → ℕ) → ((u : Value) → length u ≡ w → f u ≡ 0) → total w f ≡ 0
  total-none w f h = total_equal w f (λ u. 0) h ∙ total-const w 0 ∙ omega arith

  -- where values of other widths count, none does
  total-other_width : (w : ℕ) (v : Value) (f : Value → ℕ) → length v ≢ w → total w (λ u. one_if (same_bits v u) * f u) ≡ 0
  total-other_width w v f h = total-none w _ (λ u e. by_test (same_bits v u)
      (λ k. absurd (h (ap length ((same_bits-Decides v u).0 k) ∙ e)))
      (λ k. ap (λ b. one_if b * f u) k ∙ omega arith))

  -- a sum to a width, of which one value counts
  total_to-same_bits : (k : ℕ) (v : Value) (f : Value → ℕ) → length v ≤ k → total_to k (λ u. one_if (same_bits v u) * f u) ≡ f v
  total_to-same_bits zero v f h = total-same_bits zero v f (omega arith)
  total_to-same_bits (suc k) v f h = go (cases_lt (length v) (suc k)) (λ l. total_to-same_bits k v f l)
    where
      below : (k : ℕ) → k < length v → total_to k (λ u. one_if (same_bits v u) * f u) ≡ 0
      below zero l = total-other_width zero v f (λ e. absurd (omega arith))
      below (suc k) l = ap₂ ◌+◌ (below k (omega arith)) (total-other_width (suc k) v f (λ e. absurd (omega arith))) ∙ omega arith

      go : (length v < suc k) ⊎ (suc k ≤ length v) → (length v ≤ k → total_to k (λ u. one_if (same_bits v u) * f u) ≡ f v) → total_to (suc k) (λ u. one_if (same_bits v u) * f u) ≡ f v
      go (inl l) before = ap₂ ◌+◌ (before (omega arith)) (total-other_width (suc k) v f (λ e. absurd (omega arith))) ∙ omega arith
      go (inr l) before = ap₂ ◌+◌ (below k (omega arith)) (total-same_bits (suc k) v f (omega arith)) ∙ omega arith

  -- a sum to a width, of nothing
  total_to-zero : (k : ℕ) (f : Value → ℕ) → total_to k (λ u. 0 * f u) ≡ 0
  total_to-zero zero f = total-scale zero 0 f ∙ omega arith
  total_to-zero (suc k) f = ap₂ ◌+◌ (total_to-zero k f) (total-scale (suc k) 0 f) ∙ omega arith

  -- what an outcome weighs, as a sum over all values that are no wider than this
  weight_to_values : (k : ℕ) (o : Option Value) (f : Value → ℕ) → (IfSome o (λ v. length v ≤ k)) → weight_by 0 f o ≡ total_to k (λ u. one_if (same_value o (Some u)) * f u)
  weight_to_values k None f h = sym (total_to-zero k f)
  weight_to_values k (Some v) f h = sym (total_to-same_bits k v f h)

  -- the order of a sum over tapes and one to a width
  total-total_to : (n k : ℕ) (f : List Bool → Value → ℕ) → total n (λ t. total_to k (λ u. f t u)) ≡ total_to k (λ u. total n (λ t. f t u))
  total-total_to n zero f = total-total n zero f
  total-total_to n (suc k) f =
      total-add n (λ t. total_to k (λ u. f t u)) (λ t. total (suc k) (λ u. f t u)) ∙ ap₂ ◌+◌ (total-total_to n k f) (total-total n (suc k) f)

  -- equal functions have equal sums to a width
  total_to_equal : (k : ℕ) (f g : Value → ℕ) → ((u : Value) → f u ≡ g u) → total_to k f ≡ total_to k g
  total_to_equal k f g h = ap (total_to k) (fun_ext h)

  -- the width of what an outcome gives, none where it is stuck
  abbrev given_width : Option Value → ℕ
  given_width None = 0
  given_width (Some v) = length v

  within_width : (o : Option Value) (k : ℕ) → given_width o ≤ k → IfSome o (λ v. length v ≤ k)
  within_width None k h = tt
  within_width (Some v) k h = h

  -- a number that no value of a function over all tapes of a length goes past
  abbrev enough : ℕ → (List Bool → ℕ) → ℕ
  enough zero f = f []
  enough (suc n) f = enough n (λ t. f (false ∷ t)) + enough n (λ t. f (true ∷ t))

  le-enough : (n : ℕ) (f : List Bool → ℕ) (t : List Bool) → length t ≡ n → f t ≤ enough n f
  le-enough zero f [] e = omega arith
  le-enough zero f (b ∷ t) e = absurd (omega arith)
  le-enough (suc n) f [] e = absurd (omega arith)
  le-enough (suc n) f (false ∷ t) e = let h = le-enough n (λ t. f (false ∷ t)) t (omega arith) in omega arith
  le-enough (suc n) f (true ∷ t) e = let h = le-enough n (λ t. f (true ∷ t)) t (omega arith) in omega arith

  -- a total as a sum over all values that are no wider than any that the reaction gives
  reaction_total_to_values : (r : Reaction) (env : List Value) (inputs : Valuation) (n k : ℕ) (f : Value → ℕ) → enough n (λ t. given_width (outcome_value (reaction_outcome J r env inputs t))) ≤ k →
      reaction_total J r env inputs n (weight_by 0 f) ≡ total_to k (λ u. value_count J r env inputs n u * f u)
  reaction_total_to_values r env inputs n k f wide =
      total_equal n _ (λ t. total_to k (λ u. one_if (same_value (outcome_value (reaction_outcome J r env inputs t)) (Some u)) * f u)) (λ t e.
      let below = le-enough n (λ t. given_width (outcome_value (reaction_outcome J r env inputs t))) t e in
      weight_to_values k (outcome_value (reaction_outcome J r env inputs t)) f (within_width _ k (omega arith))) ∙
      total-total_to n k (λ t u. one_if (same_value (outcome_value (reaction_outcome J r env inputs t)) (Some u)) * f u) ∙
      total_to_equal k _ _ (λ u. total-scale_right n (f u) (λ t. one_if (same_value (outcome_value (reaction_outcome J r env inputs t)) (Some u))))

  -- a weight that being stuck has none of
  weight_then_counts : (s : Reaction) (env : List Value) (inputs : Valuation) (n : ℕ) (v : Value) (o : Option Value) → weight_then J s env inputs n (λ x. one_if (same_value x (Some v))) o ≡ weight_by 0 (λ u. value_count J s (u ∷ env) inputs n v) o
  weight_then_counts s env inputs n v None = omega arith
  weight_then_counts s env inputs n v (Some u) = refl

  -- the count of a value of a binding, by the values between
  pub value_count-binding : (w : ℕ) (r s : Reaction) (env : List Value) (inputs : Valuation) (n : ℕ) (v : Value) → reaction_coins (binding w r s) ≤ n → ((t : List Bool) → OutcomeFits w (reaction_outcome J r env inputs t)) →
      2 ^ n * value_count J (binding w r s) env inputs n v ≡ total w (λ u. value_count J r env inputs n u * value_count J s (u ∷ env) inputs n v)
  value_count-binding w r s env inputs n v h fits =
      reaction_total-binding w r s env inputs n (λ x. one_if (same_value x (Some v))) h ∙
      ap (reaction_total J r env inputs n) (fun_ext (weight_then_counts s env inputs n v)) ∙
      reaction_total_by_values w r env inputs n (λ u. value_count J s (u ∷ env) inputs n v) fits

  -- the count of a value of a binding, by all values between, from some width on
  pub value_count-binding_to : (w : ℕ) (r s : Reaction) (env : List Value) (inputs : Valuation) (n : ℕ) (v : Value) → reaction_coins (binding w r s) ≤ n →
      (greatest : ℕ) × ((width : ℕ) → greatest ≤ width → 2 ^ n * value_count J (binding w r s) env inputs n v ≡ total_to width (λ u. value_count J r env inputs n u * value_count J s (u ∷ env) inputs n v))
  value_count-binding_to w r s env inputs n v h = (
    enough n (λ t. given_width (outcome_value (reaction_outcome J r env inputs t))),
    λ width wide.
        reaction_total-binding w r s env inputs n (λ x. one_if (same_value x (Some v))) h ∙
        ap (reaction_total J r env inputs n) (fun_ext (weight_then_counts s env inputs n v)) ∙
        reaction_total_to_values r env inputs n width (λ u. value_count J s (u ∷ env) inputs n v) wide,
  )

  -- ---- assignments

  -- what is written where an assignment has this value, or none
  abbrev pub written_value : Channel → Option Value → Valuation
  written_value c None = nothing
  written_value c (Some v) = only c v

  -- what is written of an outcome
  pub written_is : (c : Channel) (o : Outcome) → written c o ≡ written_value c (outcome_value o)
  written_is c None = refl
  written_is c (Some o) = refl

  -- reactions of equal totals, wherever the channel is not written around them, make alike assignments
  pub alike_assignments : (scope : Scope) (c : Channel) (r s : Reaction) →
      ((inputs : Valuation) → FitsScope scope inputs → inputs c ≡ None → (weight : Weight) (n : ℕ) → reaction_coins r ≤ n → reaction_coins s ≤ n → reaction_total J r [] inputs n weight ≡ reaction_total J s [] inputs n weight) →
      Alike J scope (assignment c r) (assignment c s)
  alike_assignments scope c r s same = record {
    same_outputs = λ d. refl;
    totals = λ response is_response weight n hr hs.
        let inputs = all_taken_out (c ∷ []) (response nothing) in
        let fits = FitsScope-all_taken_out scope (c ∷ []) (response nothing) (is_response.keeps nothing (FitsScope-nothing scope)) in
        let without_own : inputs c ≡ None = if-true (has (c ∷ []) c) _ _ (has-single c c ∙ same_channel-itself c) in
        let of : (x : Reaction) → loop_total J (assignment c x) n response weight ≡ reaction_total J x [] inputs n (λ o. weight (written_value c o)) =
        λ x. total_equal n _ _ (λ t e. ap weight (loop_valuation-assignment J c x response is_response.monotone t ∙ written_is c _)) in
        of r ∙ same inputs fits without_own (λ o. weight (written_value c o)) n hr hs ∙ sym (of s);
  }
