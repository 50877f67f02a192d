-- The totals of a reaction that stands in the place of a read: those of the reading one, by what the reaction gives.
use Rattle.std.proofs.Common.{◌≡◌, ℕ, ◌+◌, ◌-◌, ◌*◌, ◌^◌, ◌≤◌, Bool, true, false, List, [], ◌∷◌, Option, Some, None, refl, sym, ap, ◌∙◌, arith, pow-add, pow_pos}
use mathlib.Core.Path.{fun_ext}
use Rattle.ipdl_laws.proofs.Chances.{chance, total-chosen, reaction_total-chance}
use Rattle.ipdl_laws.proofs.ClosedReactions.{outcome_closed}
use Rattle.ipdl_laws.proofs.FilledReactions.{coins_filled}
use Rattle.ipdl_laws.proofs.Products.{reaction_total-binding}
use Rattle.ipdl_laws.proofs.ReadingLaws.{reaction_outcome_agree}
use Rattle.ipdl_laws.proofs.Sets.{by_test, if-false, not_both, at_same_channel, in_neither}
use Rattle.ipdl_laws.proofs.Totals.{total_equal, total-scale, total-const, total-total, cancelled}
use Rattle.ipdl_laws.proofs.TwoAssignments.{with_value-at}
use Rattle.ipdl_laws.specs.Assignments.{with_value}
use Rattle.ipdl_laws.specs.ReactionContexts.{ReactionContext, reaction_hole, in_then, in_else, in_first, in_second, filled, context_reads, IsClosed}
use Rattle.ipdl_laws.specs.ReactionTotals.{Weight, reaction_total, weight_then}
use Rattle.ipdl_term.specs.Channels.{same_channel, has, reads}
use Rattle.ipdl_term.specs.Counts.{total}
use Rattle.ipdl_term.specs.Interpretations.{Interpretation, chosen, evaluation}
use Rattle.ipdl_term.specs.Reactions.{Outcome, outcome_value, with_tape, reaction_outcome, reaction_coins}
use Rattle.ipdl_term.specs.Terms.{Value, Channel, Reaction, reading}
use Rattle.ipdl_term.specs.Valuations.{Valuation}

-- a power of two cancelled
pub without_power : (n x y : ℕ) → 2 ^ n * x ≡ 2 ^ n * y → x ≡ y
without_power n x y e = cancelled (2 ^ n) x y (pow_pos n) e

module _ (J : Interpretation) where
  -- ---- laws of totals

  -- more bits than enough
  pub reaction_total_more : (r : Reaction) (env : List Value) (inputs : Valuation) (m n : ℕ) (weight : Weight) → reaction_coins r ≤ m → m ≤ n → reaction_total J r env inputs n weight ≡ 2 ^ (n - m) * reaction_total J r env inputs m weight
  reaction_total_more r env inputs m n weight h k =
      let a = reaction_coins r in
      let e : n - a ≡ (n - m) + (m - a) = omega arith in
      reaction_total-chance J r env inputs weight n (omega arith) ∙
      ap (λ i. 2 ^ i * chance J r env inputs weight) e ∙
      rw (pow-add 2 (n - m) (m - a)) (regrouped (2 ^ (n - m)) (2 ^ (m - a)) (chance J r env inputs weight)) ∙
      ap (λ x. 2 ^ (n - m) * x) (sym (reaction_total-chance J r env inputs weight m h))
    where
      regrouped : (x y z : ℕ) → x * y * z ≡ x * (y * z)
      regrouped x y z = omega arith

  -- one of two totals
  reaction_total-branching : (v : Value) (r s : List Bool → Outcome) (n : ℕ) (weight : Weight) →
      total n (λ t. weight (outcome_value (chosen v (r t) (s t) (s t)))) ≡ chosen v (total n (λ t. weight (outcome_value (r t)))) (total n (λ t. weight (outcome_value (s t)))) (total n (λ t. weight (outcome_value (s t))))
  reaction_total-branching v r s n weight = total-chosen J v n r s (λ o. weight (outcome_value o)) _ _ refl refl

  -- equal weights
  pub reaction_total_equal : (r : Reaction) (env : List Value) (inputs : Valuation) (n : ℕ) (f g : Weight) → ((o : Option Value) → f o ≡ g o) → reaction_total J r env inputs n f ≡ reaction_total J r env inputs n g
  reaction_total_equal r env inputs n f g h = ap (reaction_total J r env inputs n) (fun_ext h)

  -- multiples of a weight
  pub reaction_total_scale : (r : Reaction) (env : List Value) (inputs : Valuation) (n k : ℕ) (f : Weight) → reaction_total J r env inputs n (λ o. k * f o) ≡ k * reaction_total J r env inputs n f
  reaction_total_scale r env inputs n k f = total-scale n k (λ t. f (outcome_value (reaction_outcome J r env inputs t)))

  -- one weight
  reaction_total_const : (r : Reaction) (env : List Value) (inputs : Valuation) (n k : ℕ) → reaction_total J r env inputs n (λ o. k) ≡ 2 ^ n * k
  reaction_total_const r env inputs n k = total-const n k

  -- a reaction that does not read a channel has one total whatever is written there
  reaction_total_unread : (s : Reaction) (c : Channel) (o : Option Value) (env : List Value) (inputs : Valuation) (n : ℕ) (weight : Weight) → has (reads s) c ≡ false → reaction_total J s env (with_value c o inputs) n weight ≡ reaction_total J s env inputs n weight
  reaction_total_unread s c o env inputs n weight h =
      total_equal n _ _ (λ t e. ap (λ x. weight (outcome_value x)) (reaction_outcome_agree J s env (with_value c o inputs) inputs t (λ d k. by_test (same_channel c d)
      (λ l. not_both (has (reads s) d) k (at_same_channel (λ x. has (reads s) x ≡ false) c d l h))
      (λ l. if-false (same_channel c d) _ _ l))))

  -- ---- a reaction in the hole

  -- the totals of a reaction, by what another one gives in the hole
  module _ (r : Reaction) (c : Channel) (closed : IsClosed r) (inputs : Valuation) (n : ℕ) where
    abbrev with_read : ReactionContext → List Value → Weight → Option Value → ℕ
    with_read C env weight o = reaction_total J (filled C (reading c)) env (with_value c o inputs) n weight

    -- one of two arms, of which the one with the hole has the totals
    chosen_totals : (v : Value) (x y : ℕ) (f : Weight) → 2 ^ n * x ≡ reaction_total J r [] inputs n f → 2 ^ n * chosen v x y y ≡ reaction_total J r [] inputs n (λ o. chosen v (f o) y y)
    chosen_totals [] x y f h = sym (reaction_total_const r [] inputs n y)
    chosen_totals (true ∷ []) x y f h = h
    chosen_totals (false ∷ []) x y f h = sym (reaction_total_const r [] inputs n y)
    chosen_totals (b ∷ d ∷ bits) x y f h = sym (reaction_total_const r [] inputs n y)

    chosen_totals_else : (v : Value) (x y : ℕ) (f : Weight) → 2 ^ n * x ≡ reaction_total J r [] inputs n f → 2 ^ n * chosen v y x x ≡ reaction_total J r [] inputs n (λ o. chosen v y (f o) (f o))
    chosen_totals_else [] x y f h = h
    chosen_totals_else (true ∷ []) x y f h = sym (reaction_total_const r [] inputs n y)
    chosen_totals_else (false ∷ []) x y f h = h
    chosen_totals_else (b ∷ d ∷ bits) x y f h = h

    -- what follows is the same with a value at the channel
    weight_then_unread : (s : Reaction) (o : Option Value) (env : List Value) (weight : Weight) → has (reads s) c ≡ false → (x : Option Value) → weight_then J s env (with_value c o inputs) n weight x ≡ weight_then J s env inputs n weight x
    weight_then_unread s o env weight h None = refl
    weight_then_unread s o env weight h (Some v) = reaction_total_unread s c o (v ∷ env) inputs n weight h

    pub totals_filled : (C : ReactionContext) → has (context_reads C) c ≡ false → reaction_coins (filled C (reading c)) + reaction_coins r ≤ n → (env : List Value) (weight : Weight) →
        2 ^ n * reaction_total J (filled C r) env inputs n weight ≡ reaction_total J r [] inputs n (with_read C env weight)
    totals_filled reaction_hole lone enough env weight =
        ap (λ x. 2 ^ n * x) (total_equal n _ _ (λ t e. ap (λ x. weight (outcome_value x)) (outcome_closed J r env [] inputs t closed))) ∙
        sym (reaction_total_scale r [] inputs n (2 ^ n) weight) ∙
        reaction_total_equal r [] inputs n (λ o. 2 ^ n * weight o) (with_read reaction_hole env weight) (λ o.
        sym (total-const n (weight o)) ∙
        total_equal n _ _ (λ t e. ap weight (sym (ap (λ x. outcome_value (with_tape x t)) (with_value-at c o inputs) ∙ value_of o t))))
      where
        value_of : (o : Option Value) (t : List Bool) → outcome_value (with_tape o t) ≡ o
        value_of None t = refl
        value_of (Some v) t = refl
    totals_filled (in_then e C s) lone enough env weight =
        let apart = in_neither (context_reads C) (reads s) c lone in
        let v = evaluation J env e in
        ap (λ x. 2 ^ n * x) (reaction_total-branching v (λ t. reaction_outcome J (filled C r) env inputs t) (λ t. reaction_outcome J s env inputs t) n weight) ∙
        chosen_totals v _ (reaction_total J s env inputs n weight) (with_read C env weight) (totals_filled C apart.0 (omega arith) env weight) ∙
        reaction_total_equal r [] inputs n _ (with_read (in_then e C s) env weight) (λ o.
        ap (λ y. chosen v (with_read C env weight o) y y) (sym (reaction_total_unread s c o env inputs n weight apart.1)) ∙
        sym (reaction_total-branching v (λ t. reaction_outcome J (filled C (reading c)) env (with_value c o inputs) t) (λ t. reaction_outcome J s env (with_value c o inputs) t) n weight))
    totals_filled (in_else e s C) lone enough env weight =
        let apart = in_neither (reads s) (context_reads C) c lone in
        let v = evaluation J env e in
        ap (λ x. 2 ^ n * x) (reaction_total-branching v (λ t. reaction_outcome J s env inputs t) (λ t. reaction_outcome J (filled C r) env inputs t) n weight) ∙
        chosen_totals_else v _ (reaction_total J s env inputs n weight) (with_read C env weight) (totals_filled C apart.1 (omega arith) env weight) ∙
        reaction_total_equal r [] inputs n _ (with_read (in_else e s C) env weight) (λ o.
        ap (λ y. chosen v y (with_read C env weight o) (with_read C env weight o)) (sym (reaction_total_unread s c o env inputs n weight apart.0)) ∙
        sym (reaction_total-branching v (λ t. reaction_outcome J s env (with_value c o inputs) t) (λ t. reaction_outcome J (filled C (reading c)) env (with_value c o inputs) t) n weight))
    totals_filled (in_first w C s) lone enough env weight =
        let apart = in_neither (context_reads C) (reads s) c lone in
        let next = weight_then J s env inputs n weight in
        without_power n _ _ (
        ap (λ x. 2 ^ n * x) (reaction_total-binding J w (filled C r) s env inputs n weight (omega (arith, coins_filled C r c))) ∙
        totals_filled C apart.0 (omega arith) env next ∙
        reaction_total_equal r [] inputs n (with_read C env next) (λ o. 2 ^ n * with_read (in_first w C s) env weight o) (λ o.
        sym (reaction_total-binding J w (filled C (reading c)) s env (with_value c o inputs) n weight (omega arith) ∙
        reaction_total_equal (filled C (reading c)) env (with_value c o inputs) n _ next (weight_then_unread s o env weight apart.1))) ∙
        reaction_total_scale r [] inputs n (2 ^ n) (with_read (in_first w C s) env weight))
    totals_filled (in_second w s C) lone enough env weight =
        let apart = in_neither (reads s) (context_reads C) c lone in
        let after : Option Value → Weight = λ o. weight_then J (filled C (reading c)) env (with_value c o inputs) n weight in
        without_power n _ _ (
        ap (λ x. 2 ^ n * x) (reaction_total-binding J w s (filled C r) env inputs n weight (omega (arith, coins_filled C r c))) ∙
        sym (reaction_total_scale s env inputs n (2 ^ n) (weight_then J (filled C r) env inputs n weight)) ∙
        reaction_total_equal s env inputs n _ (λ x. reaction_total J r [] inputs n (λ o. after o x)) (each_then (λ v. totals_filled C apart.1 (omega arith) (v ∷ env) weight)) ∙
        total-total n n (λ u t. after (outcome_value (reaction_outcome J r [] inputs t)) (outcome_value (reaction_outcome J s env inputs u))) ∙
        reaction_total_equal r [] inputs n _ (λ o. 2 ^ n * with_read (in_second w s C) env weight o) (λ o.
        sym (reaction_total-binding J w s (filled C (reading c)) env (with_value c o inputs) n weight (omega arith) ∙
        reaction_total_unread s c o env inputs n (after o) apart.0)) ∙
        reaction_total_scale r [] inputs n (2 ^ n) (with_read (in_second w s C) env weight))
      where
        each_then : ((v : Value) → 2 ^ n * reaction_total J (filled C r) (v ∷ env) inputs n weight ≡ reaction_total J r [] inputs n (with_read C (v ∷ env) weight)) →
            (x : Option Value) → 2 ^ n * weight_then J (filled C r) env inputs n weight x ≡ reaction_total J r [] inputs n (λ o. weight_then J (filled C (reading c)) env (with_value c o inputs) n weight x)
        each_then ih None = sym (reaction_total_const r [] inputs n (2 ^ n * weight None))
        each_then ih (Some v) = ih v
