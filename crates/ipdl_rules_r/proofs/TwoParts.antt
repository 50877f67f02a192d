-- The rules `dropr` and `swap`: a first part that is not looked at may be left out, or come second.
use Rattle.std.proofs.Common.{◌≡◌, ℕ, ◌*◌, ◌^◌, ◌≤◌, Bool, false, List, [], ◌∷◌, Option, Some, None, refl, sym, ap, ◌∙◌, arith, pow_pos}
use Rattle.std.proofs.lemmas.Bool.{or_parts}
use Rattle.ipdl_laws.proofs.Products.{reaction_total-binding}
use Rattle.ipdl_laws.proofs.ReadingLaws.{not_stuck}
use Rattle.ipdl_laws.proofs.Substitution.{reaction_outcome-lifted}
use Rattle.ipdl_laws.proofs.Totals.{total_equal, total-scale, total-const, total-total, cancelled}
use Rattle.ipdl_laws.specs.ReactionTotals.{Weight, reaction_total, weight_by, weight_then}
use Rattle.ipdl_laws.proofs.Rewritten.{outcome_of_lowered, outcome_of_exchanged}
use Rattle.ipdl_rules_r.proofs.SameOutcomes.{totals_of_same_outcomes}
use Rattle.ipdl_rules_r.specs.SameTotals.{HaveSameTotals}
use Rattle.ipdl_term.specs.Channels.{has, reads}
use Rattle.ipdl_term.specs.Counts.{total}
use Rattle.ipdl_term.specs.Interpretations.{Interpretation}
use Rattle.ipdl_term.specs.Reactions.{outcome_value, reaction_outcome, reaction_coins}
use Rattle.ipdl_term.specs.Rewriting.{lowered_reaction, exchanged_reaction}
use Rattle.ipdl_term.specs.Terms.{Value, Reaction, returning, flipping, reading, branching, binding}
use Rattle.ipdl_term.specs.Valuations.{Valuation}
use Rattle.ipdl_term.specs.Variables.{reaction_uses, has_read, lifted_reaction}

-- ---- dropr

-- without a `read` no channel is read
reads_none : (r : Reaction) → has_read r ≡ false → reads r ≡ []
reads_none (returning e) h = refl
reads_none (flipping w) h = refl
reads_none (reading c) h = cc
reads_none (branching e r s) h = let p = or_parts (has_read r) _ h in rw (reads_none r p.0, reads_none s p.1)
reads_none (binding w r s) h = let p = or_parts (has_read r) _ h in rw (reads_none r p.0, reads_none s p.1)

module _ (J : Interpretation) (env : List Value) (inputs : Valuation) where
  pub dropr_is_as_likely : (w : ℕ) (r s : Reaction) → reaction_uses s 0 ≡ false → has_read r ≡ false → HaveSameTotals J env inputs (binding w r s) (lowered_reaction s)
  dropr_is_as_likely w r s unused no_read weight n h k =
      cancelled (2 ^ n) _ alone (pow_pos n) (
      reaction_total-binding J w r s env inputs n weight h ∙
      total_equal n _ (λ t. alone) (λ t e.
      let o = not_stuck J r env inputs t (λ c m. let none : has (reads r) c ≡ false = ap (λ cs. has cs c) (reads_none r no_read) in cc) (omega (arith, e, h)) in
      ap (λ o. weight_then J s env inputs n weight (outcome_value o)) o.2 ∙ at_any_value o.0.0) ∙
      total-const n alone)
    where
      -- the total of what is left
      alone : ℕ
      alone = reaction_total J (lowered_reaction s) env inputs n weight

      at_any_value : (v : Value) → weight_then J s env inputs n weight (Some v) ≡ alone
      at_any_value v = totals_of_same_outcomes J s (lowered_reaction s) (v ∷ env) env inputs n weight (λ t. sym (outcome_of_lowered J env v s inputs t unused))

-- ---- swap

-- a weight of two values, and of their not being both there
abbrev weight_by_both : ℕ → (Value → Value → ℕ) → Option Value → Option Value → ℕ
weight_by_both stuck by None o = stuck
weight_by_both stuck by (Some u) o = weight_by stuck (by u) o

weight_by_both-swap : (stuck : ℕ) (f g : Value → Value → ℕ) → ((u v : Value) → f u v ≡ g v u) → (o p : Option Value) → weight_by_both stuck f o p ≡ weight_by_both stuck g p o
weight_by_both-swap stuck f g h None None = refl
weight_by_both-swap stuck f g h None (Some v) = refl
weight_by_both-swap stuck f g h (Some u) None = refl
weight_by_both-swap stuck f g h (Some u) (Some v) = h u v

module _ (J : Interpretation) (env : List Value) (inputs : Valuation) where
  -- the value that a reaction gives on a tape
  abbrev value_on : Reaction → List Bool → Option Value
  value_on r t = outcome_value (reaction_outcome J r env inputs t)

  -- what the values of two parts weigh that x goes on from
  abbrev weight_of_values : ℕ → Weight → Reaction → Option Value → Option Value → ℕ
  weight_of_values n weight x = weight_by_both (2 ^ n * weight None) (λ u y. reaction_total J x (y ∷ u ∷ env) inputs n weight)

  -- two parts in turn, of which the second does, whatever the first one's value, what another reaction does without it: a
  -- sum over two tapes
  total_of_two : (v w : ℕ) (r s alone x : Reaction) (n : ℕ) (weight : Weight) → ((u : Value) (t : List Bool) → reaction_outcome J s (u ∷ env) inputs t ≡ reaction_outcome J alone env inputs t) → reaction_coins (binding v r (binding w s x)) ≤ n →
      2 ^ n * (2 ^ n * reaction_total J (binding v r (binding w s x)) env inputs n weight) ≡
      total n (λ a. total n (λ b. weight_of_values n weight x (value_on r a) (value_on alone b)))
  total_of_two v w r s alone x n weight same h =
      ap (λ y. 2 ^ n * y) (reaction_total-binding J v r (binding w s x) env inputs n weight h) ∙
      sym (total-scale n (2 ^ n) (λ a. weight_then J (binding w s x) env inputs n weight (value_on r a))) ∙
      total_equal n _ _ (λ a e. after (value_on r a))
    where
      after : (o : Option Value) → 2 ^ n * weight_then J (binding w s x) env inputs n weight o ≡ total n (λ b. weight_of_values n weight x o (value_on alone b))
      after None = sym (total-const n (2 ^ n * weight None))
      after (Some u) =
          reaction_total-binding J w s x (u ∷ env) inputs n weight (omega (arith, h)) ∙
          total_equal n _ _ (λ b e. ap (λ o. weight_then J x (u ∷ env) inputs n weight (outcome_value o)) (same u b))

  pub swap_is_as_likely : (v w : ℕ) (r s x : Reaction) → reaction_uses s 0 ≡ false → HaveSameTotals J env inputs (binding v r (binding w s x)) (binding w (lowered_reaction s) (binding v (lifted_reaction r 0 1) (exchanged_reaction x)))
  swap_is_as_likely v w r s x unused weight n h k =
      let before = total_of_two v w r s (lowered_reaction s) x n weight (λ u t. sym (outcome_of_lowered J env u s inputs t unused)) h in
      let after = total_of_two w v (lowered_reaction s) (lifted_reaction r 0 1) r (exchanged_reaction x) n weight (λ u t. reaction_outcome-lifted J [] (u ∷ []) env r inputs t) k in
      let same : (u y : Value) → reaction_total J x (y ∷ u ∷ env) inputs n weight ≡ reaction_total J (exchanged_reaction x) (u ∷ y ∷ env) inputs n weight =
      λ u y. totals_of_same_outcomes J x (exchanged_reaction x) (y ∷ u ∷ env) (u ∷ y ∷ env) inputs n weight (λ t. sym (outcome_of_exchanged J env u y x inputs t)) in
      cancelled (2 ^ n) _ _ (pow_pos n) (cancelled (2 ^ n) _ _ (pow_pos n) (
      before ∙
      total-total n n _ ∙
      total_equal n _ _ (λ b e. total_equal n _ _ (λ a l. weight_by_both-swap (2 ^ n * weight None) _ _ same (value_on r a) (value_on (lowered_reaction s) b))) ∙
      sym after))
