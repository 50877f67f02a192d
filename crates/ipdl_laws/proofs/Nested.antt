-- Nested least solutions and simultaneous ones are equal.
use Rattle.std.proofs.Common.{◌≡◌, suc, List, length, sym, ap, ◌∙◌, subst}
use Rattle.std.proofs.lemmas.Bool.{or_parts}
use mathlib.Core.Path.{fun_ext}
use Rattle.ipdl_term.specs.Channels.{has, union, AreDisjoint}
use Rattle.ipdl_term.specs.Protocols.{solution, round}
use Rattle.ipdl_term.specs.Terms.{Channel}
use Rattle.ipdl_term.specs.Valuations.{Valuation, nothing, combined, LiesWithin}
use Rattle.ipdl_laws.specs.Alike.{IsMonotone}
use Rattle.ipdl_laws.proofs.Combinations.{combined_twice}
use Rattle.ipdl_laws.proofs.Order.{LiesWithin-refl, LiesWithin_equal, LiesWithin-trans, LiesWithin-antisym, LiesWithin-combined, WritesOnly}
use Rattle.ipdl_term.proofs.ChannelSets.{has-union}
use Rattle.ipdl_laws.proofs.Sets.{by_test, if-true, if-false, not_both}
use Rattle.ipdl_laws.proofs.Solutions.{WritesOnly-after_rounds, LiesWithin-after_rounds, solution-fixed, solution-least, WritesOnly-solution}

-- a step in two arguments that keeps the order
abbrev pub IsMonotoneInBoth : (Valuation → Valuation → Valuation) → Type 0
IsMonotoneInBoth G = (s s' u u' : Valuation) → LiesWithin s s' → LiesWithin u u' → LiesWithin (G s u) (G s' u')

module _ (cs : List Channel) (G : Valuation → Valuation → Valuation) (mono : IsMonotoneInBoth G) (only : (s u : Valuation) → WritesOnly cs (G s u)) where
  -- the solution in the second argument
  abbrev inner : Valuation → Valuation
  inner s = solution cs (G s)

  -- it grows with the first argument
  IsMonotone-inner : IsMonotone inner
  IsMonotone-inner s s' h = LiesWithin-after_rounds (G s) (G s') (λ u u' k. mono s s' u u' h k) (suc (length cs))

  -- it writes the channels of the set alone
  WritesOnly-inner : (s : Valuation) → WritesOnly cs (inner s)
  WritesOnly-inner s = WritesOnly-after_rounds cs (G s) (only s) (suc (length cs))

  -- it is a fixed point
  inner-fixed : (s : Valuation) → G s (inner s) ≡ inner s
  inner-fixed s = solution-fixed cs (G s) (λ u u' k. mono s s u u' (LiesWithin-refl s) k) (only s)

  -- one valuation for both arguments
  abbrev diagonal : Valuation → Valuation
  diagonal s = G s s

  -- more for both
  IsMonotone-diagonal : IsMonotone diagonal
  IsMonotone-diagonal s s' h = mono s s' s s' h h

  -- a solution of solutions is the solution at both places
  pub solution-solution : solution cs inner ≡ solution cs diagonal
  solution-solution =
      let nested = solution cs inner in
      let at_once = solution cs diagonal in
      let nested_fixed : inner nested ≡ nested = solution-fixed cs inner IsMonotone-inner WritesOnly-inner in
      let at_once_fixed : diagonal at_once ≡ at_once = solution-fixed cs diagonal IsMonotone-diagonal (λ s. only s s) in
      let step_fixed : G nested nested ≡ nested = subst (λ x. G nested x ≡ x) nested_fixed (inner-fixed nested) in
      let below : LiesWithin (inner at_once) at_once = solution-least cs (G at_once) (λ u u' k. mono at_once at_once u u' (LiesWithin-refl at_once) k) (only at_once) at_once (LiesWithin_equal _ _ at_once_fixed) in
      LiesWithin-antisym nested at_once
      (solution-least cs inner IsMonotone-inner WritesOnly-inner at_once below)
      (solution-least cs diagonal IsMonotone-diagonal (λ s. only s s) nested (LiesWithin_equal _ _ step_fixed))

-- what a partner that writes the channels ds writes in surroundings that respond, given what the part beside it has
-- written; how the two are put together is left open, as the part beside it may be one of two with the same channels
abbrev pub partner_valuation : List Channel → (Valuation → Valuation → Valuation) → (Valuation → Valuation) → (Valuation → Valuation) → Valuation → Valuation
partner_valuation ds beside g response p = solution ds (λ s. g (beside p (response (beside p s))))

-- what the part beside the partner sees then
abbrev pub partner_response : List Channel → (Valuation → Valuation → Valuation) → (Valuation → Valuation) → (Valuation → Valuation) → Valuation → Valuation
partner_response ds beside g response p = combined ds (partner_valuation ds beside g response p) (response (beside p (partner_valuation ds beside g response p)))

-- two parts, of which the first writes the channels cs and the second ds, in surroundings that respond
module _ (cs ds : List Channel) (apart : AreDisjoint cs ds)
    (f g response : Valuation → Valuation) (mono_f : IsMonotone f) (mono_g : IsMonotone g) (mono_response : IsMonotone response)
    (only_f : (p : Valuation) → WritesOnly cs (f p)) (only_g : (p : Valuation) → WritesOnly ds (g p)) where
  -- both at once
  abbrev pub joint_round : Valuation → Valuation
  joint_round s = round cs ds f g (response s) s

  -- what the second writes, given what the first has written
  abbrev second_step : Valuation → Valuation → Valuation
  second_step p s = g (combined cs p (response (combined cs p s)))

  -- what the second writes in the end
  abbrev second_part : Valuation → Valuation
  second_part = partner_valuation ds (combined cs) g response

  -- what the first sees, given what it has written
  abbrev answer : Valuation → Valuation
  answer = partner_response ds (combined cs) g response

  -- what the first writes in the end
  abbrev first_part : Valuation
  first_part = solution cs (λ p. f (answer p))

  -- the second has more of more
  second_step_grows : (p p' : Valuation) → LiesWithin p p' → (s s' : Valuation) → LiesWithin s s' → LiesWithin (second_step p s) (second_step p' s')
  second_step_grows p p' h s s' k = mono_g _ _ (LiesWithin-combined cs _ _ _ _ h (mono_response _ _ (LiesWithin-combined cs _ _ _ _ h k)))

  -- what the second writes grows with what the first has written
  IsMonotone-second_part : IsMonotone second_part
  IsMonotone-second_part p p' h = LiesWithin-after_rounds (second_step p) (second_step p') (second_step_grows p p' h) (suc (length ds))

  -- what the second writes is a fixed point
  second_part-fixed : (p : Valuation) → second_step p (second_part p) ≡ second_part p
  second_part-fixed p = solution-fixed ds (second_step p) (second_step_grows p p (LiesWithin-refl p)) (λ s. only_g _)

  -- what the first sees grows with what it has written
  pub IsMonotone-answer : IsMonotone answer
  IsMonotone-answer p p' h =
      let k = IsMonotone-second_part p p' h in
      LiesWithin-combined ds _ _ _ _ k (mono_response _ _ (LiesWithin-combined cs _ _ _ _ h k))

  -- what the first writes is a fixed point
  first_part-fixed : f (answer first_part) ≡ first_part
  first_part-fixed = solution-fixed cs (λ p. f (answer p)) (λ p p' h. mono_f _ _ (IsMonotone-answer p p' h)) (λ p. only_f _)

  -- a round of both from more
  IsMonotone-joint_round : IsMonotone joint_round
  IsMonotone-joint_round s s' h =
      LiesWithin-combined cs _ _ _ _ (mono_f _ _ (LiesWithin-combined ds _ _ _ _ h (mono_response s s' h))) (mono_g _ _ (LiesWithin-combined cs _ _ _ _ h (mono_response s s' h)))

  -- a round of both writes their channels alone
  WritesOnly-joint_round : (s : Valuation) → WritesOnly (union cs ds) (joint_round s)
  WritesOnly-joint_round s c h =
      let e = or_parts (has cs c) (has ds c) (sym (has-union cs ds c) ∙ h) in
      if-false (has cs c) _ _ e.0 ∙ only_g _ c e.1

  -- the two together
  abbrev whole : Valuation
  whole = combined cs first_part (second_part first_part)

  -- at the second's channels the two together are the second
  combined_whole : (x : Valuation) → combined ds whole x ≡ combined ds (second_part first_part) x
  combined_whole x = fun_ext (λ c. by_test (has ds c)
      (λ e. if-true (has ds c) _ _ e ∙ by_test (has cs c) (λ k. not_both (has ds c) e (apart c k)) (λ k. if-false (has cs c) _ _ k) ∙ sym (if-true (has ds c) _ _ e))
      (λ e. if-false (has ds c) _ _ e ∙ sym (if-false (has ds c) _ _ e)))

  -- the two together are a fixed point of the round of both
  whole-fixed : joint_round whole ≡ whole
  whole-fixed =
      let first_fixed : f (combined ds whole (response whole)) ≡ first_part = ap f (combined_whole (response whole)) ∙ first_part-fixed in
      let second_fixed : g (combined cs whole (response whole)) ≡ second_part first_part = ap g (combined_twice cs first_part (second_part first_part) (response whole)) ∙ second_part-fixed first_part in
      rw (first_fixed, second_fixed)

  -- what both write at once is what the first writes against the answer of the second, and the second then
  pub solution-joint_round : solution (union cs ds) joint_round ≡ whole
  solution-joint_round =
      let joint = solution (union cs ds) joint_round in
      let x = combined cs joint nothing in
      let y = combined ds joint nothing in
      let fixed : joint_round joint ≡ joint = solution-fixed (union cs ds) joint_round IsMonotone-joint_round WritesOnly-joint_round in
      let only : WritesOnly (union cs ds) joint = WritesOnly-solution (union cs ds) joint_round IsMonotone-joint_round WritesOnly-joint_round in
      let parts : combined cs x y ≡ joint = fun_ext (λ c. by_test (has cs c)
      (λ e. if-true (has cs c) _ _ e ∙ if-true (has cs c) _ _ e)
      (λ e. if-false (has cs c) _ _ e ∙ by_test (has ds c)
      (λ k. if-true (has ds c) _ _ k)
      (λ k. if-false (has ds c) _ _ k ∙ sym (only c (has-union cs ds c ∙ rw (e, k)))))) in
      let at_x : f (combined ds joint (response joint)) ≡ x = fun_ext (λ c. by_test (has cs c)
      (λ e. sym (if-true (has cs c) _ _ e) ∙ ap (λ p. p c) fixed ∙ sym (if-true (has cs c) _ _ e))
      (λ e. only_f _ c e ∙ sym (if-false (has cs c) _ _ e))) in
      let at_y : g (combined cs joint (response joint)) ≡ y = fun_ext (λ c. by_test (has ds c)
      (λ e. by_test (has cs c)
      (λ k. not_both (has ds c) e (apart c k))
      (λ k. sym (if-false (has cs c) _ _ k) ∙ ap (λ p. p c) fixed ∙ sym (if-true (has ds c) _ _ e)))
      (λ e. only_g _ c e ∙ sym (if-false (has ds c) _ _ e))) in
      let second_fixed : second_step x y ≡ y = ap (λ s. g (combined cs x (response s))) parts ∙ ap g (combined_twice cs joint nothing (response joint)) ∙ at_y in
      let second_below : LiesWithin (second_part x) y = solution-least ds (second_step x) (second_step_grows x x (LiesWithin-refl x)) (λ s. only_g _) y (LiesWithin_equal _ _ second_fixed) in
      let answer_below : LiesWithin (answer x) (combined ds y (response (combined cs x y))) = LiesWithin-combined ds _ _ _ _ second_below (mono_response _ _ (LiesWithin-combined cs _ _ _ _ (LiesWithin-refl x) second_below)) in
      let first_fixed : f (combined ds y (response (combined cs x y))) ≡ x = ap (λ s. f (combined ds y (response s))) parts ∙ ap f (combined_twice ds joint nothing (response joint)) ∙ at_x in
      let first_below : LiesWithin first_part x = solution-least cs (λ p. f (answer p)) (λ p p' h. mono_f _ _ (IsMonotone-answer p p' h)) (λ p. only_f _) x (LiesWithin-trans _ _ _ (mono_f _ _ answer_below) (LiesWithin_equal _ _ first_fixed)) in
      let whole_below : LiesWithin whole (combined cs x y) = LiesWithin-combined cs _ _ _ _ first_below (LiesWithin-trans _ _ _ (IsMonotone-second_part _ _ first_below) second_below) in
      LiesWithin-antisym joint whole
      (solution-least (union cs ds) joint_round IsMonotone-joint_round WritesOnly-joint_round whole (LiesWithin_equal _ _ whole-fixed))
      (LiesWithin-trans _ _ _ whole_below (LiesWithin_equal _ _ parts))
