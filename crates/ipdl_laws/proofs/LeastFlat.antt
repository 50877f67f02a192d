-- What flat rounds write is the least fixed point of the flat round.
use Rattle.std.proofs.Common.{◌≡◌, ℕ, zero, suc, ◌<◌, ◌≤◌, ◌⊎◌, inl, inr, Bool, List, [], ◌∷◌, length, Option, Some, None, take, drop, refl, sym, ap, ◌∙◌, arith}
use Rattle.std.proofs.lemmas.Bool.{cases_lt}
use Rattle.std.proofs.lemmas.Option.{slice_get_past}
use Rattle.std.specs.Prelude.{nat_eq, slice_get}
use mathlib.Core.Path.{fun_ext}
use Rattle.ipdl_term.specs.Channels.{has}
use Rattle.ipdl_term.specs.Interpretations.{Interpretation}
use Rattle.ipdl_term.specs.Protocols.{after_rounds, solution}
use Rattle.ipdl_term.specs.Reactions.{reaction_coins}
use Rattle.ipdl_term.specs.Terms.{Value, Channel}
use Rattle.ipdl_term.specs.Valuations.{Valuation}
use Rattle.ipdl_laws.specs.Alike.{IsMonotone}
use Rattle.ipdl_term.specs.Networks.{Node, Written, value_of, value_at, WrittenWithin, flat_round, after_flat_rounds, flat_written}
use Rattle.ipdl_laws.proofs.FlatLaws.{outcome_value_grows}
use Rattle.ipdl_laws.proofs.Monotone.{reaction_is_monotone}
use Rattle.ipdl_laws.proofs.Numbers.{key, keys, length-keys, has-keys}
use Rattle.ipdl_laws.proofs.Order.{if_grows, WritesOnly}
use Rattle.ipdl_laws.proofs.Sets.{not_both}
use Rattle.ipdl_laws.proofs.Solutions.{solution-fixed}

-- more is seen of more
pub value_of_grows : (number : ℕ) (o : Option ℕ) (w w' : Written) → WrittenWithin w w' → (v : Value) → value_of number o w ≡ Some v → value_of number o w' ≡ Some v
value_of_grows number None w w' h v e = e
value_of_grows number (Some m) w w' h v e = if_grows (nat_eq m number) None None (w m) (w' m) (λ x k. k) (h m) v e

-- what is written by number, as a valuation
abbrev by_key : Written → Valuation
by_key w [] = None
by_key w (k ∷ []) = w k
by_key w (a ∷ b ∷ c) = None

module _ (J : Interpretation) (nodes : List Node) (tape : List Bool) where
  -- an assignment writes more of more
  value_at_grows : (number : ℕ) (o : Option Node) (w w' : Written) → WrittenWithin w w' → (v : Value) → value_at J tape number o w ≡ Some v → value_at J tape number o w' ≡ Some v
  value_at_grows number None w w' h v e = e
  value_at_grows number (Some node) w w' h v e =
      outcome_value_grows _ _ (reaction_is_monotone J node.reaction [] _ _ (take (reaction_coins node.reaction) (drop node.first_bit tape)) (λ c. value_of_grows number (node.writer c) w w' h)) v e

  -- a round writes more of more
  pub flat_round_grows : (w w' : Written) → WrittenWithin w w' → WrittenWithin (flat_round J nodes tape w) (flat_round J nodes tape w')
  flat_round_grows w w' h number v e = value_at_grows number (slice_get nodes number) w w' h v e

  -- a round, as a step of valuations
  abbrev step : Valuation → Valuation
  step u = by_key (flat_round J nodes tape (λ number. u (key number)))

  step_grows : IsMonotone step
  step_grows u u' h [] v e = e
  step_grows u u' h (k ∷ []) v e = flat_round_grows (λ m. u (key m)) (λ m. u' (key m)) (λ m. h (key m)) k v e
  step_grows u u' h (a ∷ b ∷ c) v e = e

  -- the numbers of the assignments
  abbrev numbers : List Channel
  numbers = keys 0 (length nodes)

  step_writes_only : (u : Valuation) → WritesOnly numbers (step u)
  step_writes_only u [] h = refl
  step_writes_only u (k ∷ []) h = go (cases_lt k (length nodes))
    where
      go : (k < length nodes) ⊎ (length nodes ≤ k) → flat_round J nodes tape (λ number. u (key number)) k ≡ None
      go (inl l) = not_both (has numbers (key k)) (has-keys 0 (length nodes) k (omega arith) (omega arith)) h
      go (inr l) = ap (λ o. value_at J tape k o (λ number. u (key number))) (slice_get_past nodes k l)
  step_writes_only u (a ∷ b ∷ c) h = refl

  -- the rounds of the step are the flat rounds
  rounds_of_step : (n number : ℕ) → after_rounds n step (key number) ≡ after_flat_rounds J nodes tape n number
  rounds_of_step zero number = refl
  rounds_of_step (suc n) number = ap (λ w. flat_round J nodes tape w number) (fun_ext (rounds_of_step n))

  solution_of_step : (λ (number : ℕ). solution numbers step (key number)) ≡ flat_written J nodes tape
  solution_of_step = fun_ext (λ number. ap (λ n. after_rounds (suc n) step (key number)) (length-keys 0 (length nodes)) ∙ rounds_of_step (suc (length nodes)) number)

  -- a round leaves it as it is
  pub flat_written-fixed : flat_round J nodes tape (flat_written J nodes tape) ≡ flat_written J nodes tape
  flat_written-fixed =
      ap (flat_round J nodes tape) (sym solution_of_step) ∙
      fun_ext (λ number. ap (λ u. u (key number)) (solution-fixed numbers step step_grows step_writes_only)) ∙
      solution_of_step

  -- the rounds lie within all that a round does not lead out of
  pub after_flat_rounds-least : (w : Written) → WrittenWithin (flat_round J nodes tape w) w → (n : ℕ) → WrittenWithin (after_flat_rounds J nodes tape n) w
  after_flat_rounds-least w h zero number v e = cc
  after_flat_rounds-least w h (suc n) number v e =
      h number v (flat_round_grows (after_flat_rounds J nodes tape n) w (after_flat_rounds-least w h n) number v e)

  pub flat_written-least : (w : Written) → WrittenWithin (flat_round J nodes tape w) w → WrittenWithin (flat_written J nodes tape) w
  flat_written-least w h = after_flat_rounds-least w h (suc (length nodes))
