-- Protocols that differ in how they are put together write the same.
use Rattle.std.proofs.Common.{◌≡◌, ℕ, ◌≤◌, Bool, true, false, List, [], ◌∷◌, length, None, take, drop, refl, sym, ap, ap₂, ◌∙◌, subst, arith}
use Rattle.std.proofs.lemmas.Bool.{or_parts, or_from}
use mathlib.Core.Path.{fun_ext}
use Rattle.ipdl_term.specs.Channels.{same_channel, has, without, union, SameSet, IsWithin, AreDisjoint, outputs}
use Rattle.ipdl_term.specs.Interpretations.{Interpretation}
use Rattle.ipdl_term.specs.Protocols.{coins, written, solution, round, protocol_valuation}
use Rattle.ipdl_term.specs.Reactions.{reaction_outcome}
use Rattle.ipdl_term.specs.Terms.{Channel, Protocol, nil, assignment, parallel, hiding}
use Rattle.ipdl_term.specs.Typing.{Scope}
use Rattle.ipdl_term.specs.Valuations.{Valuation, combined, taken_out, all_taken_out, LiesWithin}
use Rattle.ipdl_laws.specs.Alike.{IsMonotone, Alike}
use Rattle.ipdl_laws.proofs.Combinations.{all_taken_out_twice, all_taken_out_idle, taken_out_swap, combined_nothing, combined-union, combined_union, combined_comm, combined_past}
use Rattle.ipdl_laws.proofs.FurtherBits.{protocol_valuation-take}
use Rattle.ipdl_laws.proofs.Monotone.{WritesOnly-round, WritesOnly-protocol_valuation, LiesWithin-round, IsMonotone-protocol_valuation}
use Rattle.ipdl_laws.proofs.Nested.{IsMonotoneInBoth, solution-solution}
use Rattle.ipdl_laws.proofs.Order.{LiesWithin-refl, LiesWithin-combined, LiesWithin-all_taken_out, WritesOnly}
use Rattle.ipdl_term.proofs.ChannelSets.{has-union}
use Rattle.ipdl_laws.proofs.Sets.{by_test, if-true, if-false, if_same, not_both, or_comm, in_union_left, in_union_right, in_second, has-without, without_swap}
use Rattle.ipdl_laws.proofs.Solutions.{solution_same, solution_behind}
use Rattle.ipdl_laws.proofs.Totals.{total_equal}

module _ (J : Interpretation) where
  -- a protocol does not see what it writes itself
  pub protocol_valuation_stripped : (p : Protocol) (t : List Bool) (inputs : Valuation) → protocol_valuation J p t (all_taken_out (outputs p) inputs) ≡ protocol_valuation J p t inputs
  protocol_valuation_stripped nil t inputs = refl
  protocol_valuation_stripped (assignment c r) t inputs = ap (λ x. written c (reaction_outcome J r [] x t)) (all_taken_out_twice (c ∷ []) inputs)
  protocol_valuation_stripped (parallel p q) t inputs =
      ap (λ x. solution (outputs (parallel p q)) (round (outputs p) (outputs q) (protocol_valuation J p (take (coins p) t)) (protocol_valuation J q (drop (coins p) t)) x)) (all_taken_out_twice (outputs (parallel p q)) inputs)
  protocol_valuation_stripped (hiding c w p) t inputs =
      ap (λ x. taken_out c (protocol_valuation J p t (taken_out c x))) (all_taken_out_twice (outputs (hiding c w p)) inputs)

  -- inputs that agree at the channels that a protocol does not write
  pub protocol_valuation_outside : (p : Protocol) (t : List Bool) (inputs inputs' : Valuation) → ((d : Channel) → has (outputs p) d ≡ false → inputs d ≡ inputs' d) → protocol_valuation J p t inputs ≡ protocol_valuation J p t inputs'
  protocol_valuation_outside p t inputs inputs' h =
      sym (protocol_valuation_stripped p t inputs) ∙
      ap (protocol_valuation J p t) (fun_ext (λ d. if_same (has (outputs p) d) None None (inputs d) (inputs' d) (λ e. refl) (h d))) ∙
      protocol_valuation_stripped p t inputs'

  -- the hidden channel alone is taken out
  pub protocol_valuation-hiding : (c : Channel) (w : ℕ) (p : Protocol) (t : List Bool) (inputs : Valuation) → protocol_valuation J (hiding c w p) t inputs ≡ taken_out c (protocol_valuation J p t (taken_out c inputs))
  protocol_valuation-hiding c w p t inputs =
      ap (taken_out c) (protocol_valuation_outside p t _ _ (λ d k. if_same (same_channel c d) None None _ _ (λ e. refl) (λ e. if-false (has (without c (outputs p)) d) _ _ (has-without c (outputs p) d e ∙ k))))

  -- protocols that write the same on each tape that is long enough for both are alike
  pub alike_by_valuations : (scope : Scope) (p q : Protocol) → SameSet (outputs p) (outputs q) →
      ((t : List Bool) → coins p ≤ length t → coins q ≤ length t → (inputs : Valuation) → protocol_valuation J p t inputs ≡ protocol_valuation J q t inputs) → Alike J scope p q
  alike_by_valuations scope p q same_outs same = record {
    same_outputs = same_outs;
    totals = λ response is_response weight n hp hq. total_equal n _ _ (λ t e. ap weight (
        let step : Valuation → Valuation = λ s. protocol_valuation J q t (response s) in
        ap (solution (outputs p)) (fun_ext (λ s. same t (omega arith) (omega arith) (response s))) ∙
        solution_same (outputs p) (outputs q) step (λ s s' h. IsMonotone-protocol_valuation J q t _ _ (is_response.monotone s s' h))
        (λ s c h. WritesOnly-protocol_valuation J q t (response s) c (sym (same_outs c) ∙ h))
        (λ s. WritesOnly-protocol_valuation J q t (response s))));
  }

  -- the same, for protocols of equally many coins
  pub alike_of_same_valuations : (scope : Scope) (p q : Protocol) → SameSet (outputs p) (outputs q) → coins p ≡ coins q → ((t : List Bool) → coins p ≤ length t → (inputs : Valuation) → protocol_valuation J p t inputs ≡ protocol_valuation J q t inputs) → Alike J scope p q
  alike_of_same_valuations scope p q same_outs same_coins same = alike_by_valuations scope p q same_outs (λ t enough_p enough_q. same t enough_p)

  -- ---- nothing beside

  -- nothing beside a protocol
  unit_same : (p : Protocol) (t : List Bool) → coins (parallel p nil) ≤ length t → (inputs : Valuation) → protocol_valuation J (parallel p nil) t inputs ≡ protocol_valuation J p t inputs
  unit_same p t h inputs =
      let cs = outputs (parallel p nil) in
      combined_nothing (outputs p) _ (WritesOnly-protocol_valuation J p (take (coins p) t) (all_taken_out cs inputs)) ∙
      ap (λ f. f (all_taken_out cs inputs)) (protocol_valuation-take J p (coins p) t (omega arith) (omega arith)) ∙
      protocol_valuation_outside p t _ _ (λ d k. if-false (has cs d) _ _ (has-union (outputs p) [] d ∙ or_from (has (outputs p) d) false k refl))

  -- nothing beside a protocol is alike the protocol
  pub alike_unit : (scope : Scope) (p : Protocol) → Alike J scope (parallel p nil) p
  alike_unit scope p =
      alike_of_same_valuations scope (parallel p nil) p
      (λ c. has-union (outputs p) [] c ∙ or_comm (has (outputs p) c) false) (omega arith) (unit_same p)

  -- ---- two hidden channels

  -- two hidden channels in the other order
  pub alike_newswap : (scope : Scope) (c d : Channel) (w v : ℕ) (p : Protocol) → Alike J scope (hiding c w (hiding d v p)) (hiding d v (hiding c w p))
  alike_newswap scope c d w v p =
      alike_of_same_valuations scope (hiding c w (hiding d v p)) (hiding d v (hiding c w p)) (without_swap c d (outputs p)) refl
      (λ t h inputs.
      protocol_valuation-hiding c w (hiding d v p) t inputs ∙
      ap (taken_out c) (protocol_valuation-hiding d v p t (taken_out c inputs)) ∙
      taken_out_swap c d _ ∙
      ap (λ x. taken_out d (taken_out c (protocol_valuation J p t x))) (taken_out_swap d c inputs) ∙
      sym (ap (taken_out d) (protocol_valuation-hiding c w p t (taken_out d inputs))) ∙
      sym (protocol_valuation-hiding d v (hiding c w p) t inputs))

-- ---- three parts

-- three parts side by side, which write three disjoint sets of channels
module _ (J : Interpretation)
    (cs ds es : List Channel) (cs_ds : AreDisjoint cs ds) (cs_es : AreDisjoint cs es) (ds_es : AreDisjoint ds es)
    (f g h : Valuation → Valuation) (mono_f : IsMonotone f) (mono_g : IsMonotone g) (mono_h : IsMonotone h)
    (only_f : (p : Valuation) → WritesOnly cs (f p)) (only_g : (p : Valuation) → WritesOnly ds (g p)) (only_h : (p : Valuation) → WritesOnly es (h p))
    (inputs : Valuation) (none : (c : Channel) → has (union cs (union ds es)) c ≡ true → inputs c ≡ None) where
  -- a round of all three from what all wrote before
  abbrev triple_round : Valuation → Valuation
  triple_round s =
      combined cs (f (combined ds s (combined es s inputs))) (combined ds (g (combined cs s (combined es s inputs))) (h (combined cs s (combined ds s inputs))))

  -- what two of the parts write in the end
  abbrev first_two : Valuation → Valuation
  first_two x = solution (union cs ds) (round cs ds f g (all_taken_out (union cs ds) x))

  abbrev last_two : Valuation → Valuation
  last_two x = solution (union ds es) (round ds es g h (all_taken_out (union ds es) x))

  -- the inputs have no channel of the sets
  none_of_cs : (c : Channel) → has cs c ≡ true → inputs c ≡ None
  none_of_cs c k = none c (in_union_left cs (union ds es) c k)

  none_of_rest : (c : Channel) → has (union ds es) c ≡ true → inputs c ≡ None
  none_of_rest c k = none c (in_union_right cs (union ds es) c k)

  none_of_ds : (c : Channel) → has ds c ≡ true → inputs c ≡ None
  none_of_ds c k = none_of_rest c (in_union_left ds es c k)

  -- what the first two see has none of their channels
  first_two_unseen : (s : Valuation) → all_taken_out (union cs ds) (combined es s inputs) ≡ combined es s inputs
  first_two_unseen s = all_taken_out_idle (union cs ds) (combined es s inputs) (λ c k. by_test (has cs c)
      (λ l. if-false (has es c) _ _ (cs_es c l) ∙ none_of_cs c l)
      (λ l. let m = in_second cs ds c k l in if-false (has es c) _ _ (ds_es c m) ∙ none_of_ds c m))

  -- what the last two see has none of their channels
  last_two_unseen : (s : Valuation) → all_taken_out (union ds es) (combined cs s inputs) ≡ combined cs s inputs
  last_two_unseen s = all_taken_out_idle (union ds es) (combined cs s inputs) (λ c k. if-false (has cs c) _ _ (by_test (has cs c)
      (λ l. by_test (has ds c)
      (λ m. not_both (has ds c) m (cs_ds c l))
      (λ m. not_both (has es c) (in_second ds es c k m) (cs_es c l)))
      (λ l. l)) ∙ none_of_rest c k)

  -- the first two together, and the third
  abbrev grouped_left : Valuation
  grouped_left = solution (union (union cs ds) es) (round (union cs ds) es first_two h inputs)

  -- the first, and the last two together
  abbrev grouped_right : Valuation
  grouped_right = solution (union cs (union ds es)) (round cs (union ds es) f last_two inputs)

  -- the first two go round while the third stays
  left_step : Valuation → Valuation → Valuation
  left_step s u = combined (union cs ds) (round cs ds f g (all_taken_out (union cs ds) (combined es s inputs)) u) (h (combined (union cs ds) s inputs))

  -- the last two go round while the first stays
  right_step : Valuation → Valuation → Valuation
  right_step s u = combined cs (f (combined (union ds es) s inputs)) (round ds es g h (all_taken_out (union ds es) (combined cs s inputs)) u)

  -- a round of the first two and the third writes no other channels
  only_left : (s u : Valuation) → WritesOnly (union (union cs ds) es) (left_step s u)
  unfolding left_step
  only_left s u c k =
      let both = or_parts (has (union cs ds) c) (has es c) (sym (has-union (union cs ds) es c) ∙ k) in
      if-false (has (union cs ds) c) _ _ both.0 ∙ only_h _ c both.1

  only_right : (s u : Valuation) → WritesOnly (union cs (union ds es)) (right_step s u)
  unfolding right_step
  only_right s u c k =
      let both = or_parts (has cs c) (has (union ds es) c) (sym (has-union cs (union ds es) c) ∙ k) in
      if-false (has cs c) _ _ both.0 ∙ WritesOnly-round J ds es g h _ only_h u c both.1

  -- more for both
  left_grows : IsMonotoneInBoth left_step
  unfolding left_step
  left_grows s s' u u' k l =
      LiesWithin-combined (union cs ds) _ _ _ _
      (LiesWithin-round J cs ds f g mono_f mono_g _ _ u u' (LiesWithin-all_taken_out (union cs ds) _ _ (LiesWithin-combined es s s' inputs inputs k (LiesWithin-refl inputs))) l)
      (mono_h _ _ (LiesWithin-combined (union cs ds) s s' inputs inputs k (LiesWithin-refl inputs)))

  right_grows : IsMonotoneInBoth right_step
  unfolding right_step
  right_grows s s' u u' k l =
      LiesWithin-combined cs _ _ _ _
      (mono_f _ _ (LiesWithin-combined (union ds es) s s' inputs inputs k (LiesWithin-refl inputs)))
      (LiesWithin-round J ds es g h mono_g mono_h _ _ u u' (LiesWithin-all_taken_out (union ds es) _ _ (LiesWithin-combined cs s s' inputs inputs k (LiesWithin-refl inputs))) l)

  -- the first two while the third stays, in the end
  left_inner : (s : Valuation) → solution (union (union cs ds) es) (left_step s) ≡ round (union cs ds) es first_two h inputs s
  unfolding left_step
  left_inner s =
      let x = all_taken_out (union cs ds) (combined es s inputs) in
      let y = h (combined (union cs ds) s inputs) in
      solution_behind (union (union cs ds) es) (union cs ds) (λ v. combined (union cs ds) v y) (round cs ds f g x)
      (λ v v' k. LiesWithin-combined (union cs ds) v v' y y k (LiesWithin-refl y))
      (λ u u' k. LiesWithin-round J cs ds f g mono_f mono_g x x u u' (LiesWithin-refl x) k)
      (only_left s)
      (WritesOnly-round J cs ds f g x only_g)
      (λ u. ap₂ (λ a b. combined cs (f a) (g b))
      (seen ds u x y (λ c k. in_union_right cs ds c k))
      (seen cs u x y (λ c k. in_union_left cs ds c k)))
    where
      seen : (part : List Channel) (u x y : Valuation) → IsWithin part (union cs ds) → combined part (combined (union cs ds) u y) x ≡ combined part u x
      seen part u x y within = fun_ext (λ c. if_same (has part c) _ _ _ _ (λ k. if-true (has (union cs ds) c) _ _ (within c k)) (λ k. refl))

  -- the last two while the first stays, in the end
  right_inner : (s : Valuation) → solution (union cs (union ds es)) (right_step s) ≡ round cs (union ds es) f last_two inputs s
  unfolding right_step
  right_inner s =
      let x = all_taken_out (union ds es) (combined cs s inputs) in
      let y = f (combined (union ds es) s inputs) in
      solution_behind (union cs (union ds es)) (union ds es) (λ v. combined cs y v) (round ds es g h x)
      (λ v v' k. LiesWithin-combined cs y y v v' (LiesWithin-refl y) k)
      (λ u u' k. LiesWithin-round J ds es g h mono_g mono_h x x u u' (LiesWithin-refl x) k)
      (only_right s)
      (WritesOnly-round J ds es g h x only_h)
      (λ u. ap₂ (λ a b. combined ds (g a) (h b)) (combined_past cs es y u x cs_es) (combined_past cs ds y u x cs_ds))

  -- both go round at once
  left_at_once : (s : Valuation) → left_step s s ≡ triple_round s
  unfolding left_step
  left_at_once s =
      ap (λ x. combined (union cs ds) (round cs ds f g x s) (h (combined (union cs ds) s inputs))) (first_two_unseen s) ∙
      combined-union cs ds _ _ _ ∙
      ap (λ x. combined cs (f (combined ds s (combined es s inputs))) (combined ds (g (combined cs s (combined es s inputs))) (h x))) (combined_union cs ds s inputs)

  right_at_once : (s : Valuation) → right_step s s ≡ triple_round s
  unfolding right_step
  right_at_once s =
      ap (λ x. combined cs (f (combined (union ds es) s inputs)) (round ds es g h x s)) (last_two_unseen s) ∙
      ap₂ (λ x y. combined cs (f x) (combined ds y (h (combined ds s (combined cs s inputs))))) (combined_union ds es s inputs) (ap g (combined_comm es cs s inputs)) ∙
      ap (λ x. combined cs (f (combined ds s (combined es s inputs))) (combined ds (g (combined cs s (combined es s inputs))) (h x))) (combined_comm ds cs s inputs)

  -- the two ways to group three parts write the same
  pub grouped_same : grouped_left ≡ grouped_right
  grouped_same =
      let left_list = union (union cs ds) es in
      let right_list = union cs (union ds es) in
      let mono : IsMonotone triple_round = λ s s' k. subst (λ F. LiesWithin (F s) (F s')) (fun_ext left_at_once) (left_grows s s' s s' k k) in
      let only_l : (s : Valuation) → WritesOnly left_list (triple_round s) = λ s. subst (WritesOnly left_list) (left_at_once s) (only_left s s) in
      let only_r : (s : Valuation) → WritesOnly right_list (triple_round s) = λ s. subst (WritesOnly right_list) (right_at_once s) (only_right s s) in
      sym (ap (solution left_list) (fun_ext left_inner)) ∙
      solution-solution left_list left_step left_grows only_left ∙
      ap (solution left_list) (fun_ext left_at_once) ∙
      solution_same left_list right_list triple_round mono only_l only_r ∙
      sym (ap (solution right_list) (fun_ext right_at_once)) ∙
      sym (solution-solution right_list right_step right_grows only_right) ∙
      ap (solution right_list) (fun_ext right_inner)
