-- The rounds of two parts side by side, as steps of a pair.
use Rattle.std.proofs.Common.{◌≡◌, ℕ, zero, suc, Bool, true, false, List, [], length, take, drop, refl, sym, ap, ap₂, ◌∙◌}
use Rattle.std.proofs.lemmas.Bool.{or_from}
use Rattle.std.specs.Prelude.{if◌then◌else◌}
use mathlib.Core.Path.{fun_ext}
use Rattle.ipdl_term.proofs.ChannelSets.{has-union}
use Rattle.ipdl_term.specs.Channels.{has, AreDisjoint, outputs}
use Rattle.ipdl_term.specs.Interpretations.{Interpretation}
use Rattle.ipdl_term.specs.Protocols.{coins, after_rounds, round, protocol_valuation}
use Rattle.ipdl_term.specs.Terms.{Protocol, parallel}
use Rattle.ipdl_term.specs.Valuations.{Valuation, nothing, combined, all_taken_out, LiesWithin}
use Rattle.ipdl_laws.specs.BothParts.{Both, step_of_both, after_steps}
use Rattle.ipdl_laws.proofs.Monotone.{WritesOnly-protocol_valuation, IsMonotone-protocol_valuation, rounds_reach_the_least}
use Rattle.ipdl_laws.proofs.Order.{LiesWithin-refl, LiesWithin-nothing, LiesWithin-trans, LiesWithin-combined}
use Rattle.ipdl_laws.proofs.Sets.{by_test, if-true, if-false, if_same, AreDisjoint_swap}
use Rattle.ipdl_laws.proofs.Structure.{protocol_valuation_outside}

module _ (J : Interpretation) (p q : Protocol) (apart : AreDisjoint (outputs p) (outputs q)) (tape : List Bool) (inputs : Valuation) where
  abbrev left : Valuation → Valuation
  left = protocol_valuation J p (take (coins p) tape)

  abbrev right : Valuation → Valuation
  right = protocol_valuation J q (drop (coins p) tape)

  abbrev stripped : Valuation
  stripped = all_taken_out (outputs (parallel p q)) inputs

  abbrev step : Both → Both
  step = step_of_both J p q tape inputs

  abbrev steps : ℕ → Both
  steps = after_steps J p q tape inputs

  -- a pair as one valuation
  abbrev together : Both → Valuation
  together s = combined (outputs p) s.0 s.1

  -- a part does not see what it writes itself, and so the left one sees of a pair what the right one wrote
  seen_by_left : (s : Both) → left (combined (outputs q) (together s) stripped) ≡ (step s).0
  seen_by_left s = protocol_valuation_outside J p (take (coins p) tape) _ _ (λ c not_p. if_same (has (outputs q) c) _ _ _ _
      (λ k. if-false (has (outputs p) c) _ _ not_p)
      (λ k. if-false (has (outputs (parallel p q)) c) _ _ (has-union (outputs p) (outputs q) c ∙ or_from (has (outputs p) c) (has (outputs q) c) not_p k)))

  seen_by_right : (s : Both) → right (combined (outputs p) (together s) stripped) ≡ (step s).1
  seen_by_right s = protocol_valuation_outside J q (drop (coins p) tape) _ _ (λ c not_q. if_same (has (outputs p) c) _ _ _ _
      (λ k. if-true (has (outputs p) c) _ _ k)
      (λ k. if-false (has (outputs (parallel p q)) c) _ _ (has-union (outputs p) (outputs q) c ∙ or_from (has (outputs p) c) (has (outputs q) c) k not_q)))

  -- a round is a step of the pair
  round_is_step : (s : Both) → round (outputs p) (outputs q) left right stripped (together s) ≡ together (step s)
  round_is_step s = ap₂ (combined (outputs p)) (seen_by_left s) (seen_by_right s)

  rounds_are_steps : (n : ℕ) → after_rounds n (round (outputs p) (outputs q) left right stripped) ≡ together (steps n)
  rounds_are_steps zero = fun_ext (λ c. none (has (outputs p) c))
    where
      none : (b : Bool) → nothing [] ≡ (if b then nothing [] else nothing [])
      none true = refl
      none false = refl
  rounds_are_steps (suc n) = ap (round (outputs p) (outputs q) left right stripped) (rounds_are_steps n) ∙ round_is_step (steps n)

  -- after so many steps nothing changes
  abbrev enough : ℕ
  enough = suc (length (outputs (parallel p q)))

  together_fixed : together (steps (suc enough)) ≡ together (steps enough)
  together_fixed = sym (rounds_are_steps (suc enough)) ∙ (rounds_reach_the_least J p q tape inputs).0 ∙ rounds_are_steps enough

  left_fixed : (steps (suc enough)).0 ≡ (steps enough).0
  left_fixed = fun_ext (λ c. by_test (has (outputs p) c)
      (λ e. sym (if-true (has (outputs p) c) _ _ e) ∙ ap (λ s. s c) together_fixed ∙ if-true (has (outputs p) c) _ _ e)
      (λ e. WritesOnly-protocol_valuation J p (take (coins p) tape) _ c e ∙ sym (WritesOnly-protocol_valuation J p (take (coins p) tape) _ c e)))

  right_fixed : (steps (suc enough)).1 ≡ (steps enough).1
  right_fixed = fun_ext (λ c. by_test (has (outputs q) c)
      (λ e. let other = AreDisjoint_swap (outputs p) (outputs q) apart c e in
      sym (if-false (has (outputs p) c) _ _ other) ∙ ap (λ s. s c) together_fixed ∙ if-false (has (outputs p) c) _ _ other)
      (λ e. WritesOnly-protocol_valuation J q (drop (coins p) tape) _ c e ∙ sym (WritesOnly-protocol_valuation J q (drop (coins p) tape) _ c e)))

  -- the steps lie within each pair that a step does not lead out of
  steps-least : (t : Both) → LiesWithin (step t).0 t.0 → LiesWithin (step t).1 t.1 → (n : ℕ) → LiesWithin (steps n).0 t.0 × LiesWithin (steps n).1 t.1
  steps-least t h k zero = (LiesWithin-nothing t.0, LiesWithin-nothing t.1)
  steps-least t h k (suc n) =
      let before = steps-least t h k n in (
        LiesWithin-trans _ _ _ (IsMonotone-protocol_valuation J p (take (coins p) tape) _ _ (LiesWithin-combined (outputs q) _ _ _ _ before.1 (LiesWithin-refl inputs))) h,
        LiesWithin-trans _ _ _ (IsMonotone-protocol_valuation J q (drop (coins p) tape) _ _ (LiesWithin-combined (outputs p) _ _ _ _ before.0 (LiesWithin-refl inputs))) k,
      )

  -- what the two parts write together
  pub parts_reach_the_least :
      let result = steps enough in
      (protocol_valuation J (parallel p q) tape inputs ≡ combined (outputs p) result.0 result.1) × (step result ≡ result) ×
      ((t : Both) → LiesWithin (step t).0 t.0 → LiesWithin (step t).1 t.1 → LiesWithin result.0 t.0 × LiesWithin result.1 t.1)
  parts_reach_the_least = (
    rounds_are_steps enough,
    ap₂ (λ (x : Valuation) (y : Valuation). let s : Both = (x, y) in s) left_fixed right_fixed,
    λ t h k. steps-least t h k enough,
  )
