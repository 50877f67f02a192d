-- Two assignments of different channels side by side: what they write, and when another second one does the same.
use Rattle.std.proofs.Common.{◌≡◌, ◌≢◌, ◌≤◌, Bool, false, List, [], ◌∷◌, length, Option, Some, None, take, drop, refl, sym, ap, ap₂, ◌∙◌, arith}
use Rattle.std.proofs.lemmas.List.{length-drop, length-take-le}
use mathlib.Core.Path.{fun_ext}
use Rattle.ipdl_term.specs.Channels.{same_channel, has, union}
use Rattle.ipdl_term.specs.Interpretations.{Interpretation}
use Rattle.ipdl_term.specs.Protocols.{written, round, protocol_valuation}
use Rattle.ipdl_term.specs.Reactions.{Outcome, outcome_value, reaction_outcome, reaction_coins}
use Rattle.ipdl_term.specs.Terms.{Value, Channel, Reaction, assignment, parallel}
use Rattle.ipdl_term.specs.Typing.{Scope}
use Rattle.ipdl_term.specs.Valuations.{Valuation, nothing, combined, all_taken_out, LiesWithin}
use Rattle.ipdl_laws.specs.Alike.{Alike}
use Rattle.ipdl_laws.specs.Assignments.{with_value, given_value}
use Rattle.ipdl_term.proofs.ChannelSets.{same_channel-sound, same_channel-itself}
use Rattle.ipdl_laws.proofs.Monotone.{reaction_is_monotone, rounds_reach_the_least}
use Rattle.ipdl_laws.proofs.Order.{LiesWithin_equal, LiesWithin-antisym, if_grows}
use Rattle.ipdl_laws.proofs.Sets.{by_test, if-true, if-false, same_channel-false_swap, at_same_channel, same_channel-different, has-single, in_union_left, in_union_right}
use Rattle.ipdl_laws.proofs.FlatLaws.{outcome_value_grows}
use Rattle.ipdl_laws.proofs.LeastValues.{IsKept, IsBelow, least_value-fixed, least_value-below}
use Rattle.ipdl_laws.proofs.Structure.{alike_by_valuations}

-- ---- a value at a channel

-- the value is there
pub with_value-at : (c : Channel) (o : Option Value) (p : Valuation) → with_value c o p c ≡ o
with_value-at c o p = if-true (same_channel c c) _ _ (same_channel-itself c)

-- no value at a channel that has none
pub with_value-none : (c : Channel) (p : Valuation) → p c ≡ None → with_value c None p ≡ p
with_value-none c p h = fun_ext (λ d. by_test (same_channel c d)
    (λ e. if-true (same_channel c d) _ _ e ∙ sym (at_same_channel (λ x. p x ≡ None) c d e h))
    (λ e. if-false (same_channel c d) _ _ e))

-- more with a value
pub LiesWithin-with_value : (c : Channel) (p : Valuation) → p c ≡ None → (o : Option Value) → LiesWithin p (with_value c o p)
LiesWithin-with_value c p h o d v e = by_test (same_channel c d)
    (λ k. let l : None ≡ Some v = sym (at_same_channel (λ x. p x ≡ None) c d k h) ∙ e in cc)
    (λ k. if-false (same_channel c d) _ _ k ∙ e)

-- what an assignment writes has the value at its channel
pub written_at : (c : Channel) (o : Outcome) (d : Channel) → written c o d ≡ with_value c (outcome_value o) nothing d
written_at c None d = by_test (same_channel c d)
    (λ e. sym (if-true (same_channel c d) _ _ e))
    (λ e. sym (if-false (same_channel c d) _ _ e))
written_at c (Some x) d = refl

-- what two assignments write
written_both : (a b : Channel) (o o' : Outcome) → combined (a ∷ []) (written a o) (written b o') ≡ with_value a (outcome_value o) (with_value b (outcome_value o') nothing)
written_both a b o o' = fun_ext (λ d. by_test (same_channel a d)
    (λ e. if-true (has (a ∷ []) d) _ _ (has-single a d ∙ e) ∙ written_at a o d ∙ if-true (same_channel a d) _ _ e ∙ sym (if-true (same_channel a d) _ _ e))
    (λ e. if-false (has (a ∷ []) d) _ _ (has-single a d ∙ e) ∙ written_at b o' d ∙ sym (if-false (same_channel a d) _ _ e)))

-- an assignment of a sees the value of b
seen_from : (a b : Channel) → same_channel a b ≡ false → (around s : Valuation) → around a ≡ None → all_taken_out (a ∷ []) (combined (b ∷ []) s around) ≡ with_value b (s b) around
seen_from a b apart around s none = fun_ext (λ d. by_test (same_channel a d)
    (λ e. if-true (has (a ∷ []) d) _ _ (has-single a d ∙ e) ∙
    sym (if-false (same_channel b d) _ _ (at_same_channel (λ x. same_channel b x ≡ false) a d e (same_channel-false_swap a b apart)) ∙ at_same_channel (λ x. around x ≡ None) a d e none))
    (λ e. if-false (has (a ∷ []) d) _ _ (has-single a d ∙ e) ∙ by_test (same_channel b d)
    (λ l. if-true (has (b ∷ []) d) _ _ (has-single b d ∙ l) ∙ sym (if-true (same_channel b d) _ _ l ∙ ap s (same_channel-sound b d l)))
    (λ l. if-false (has (b ∷ []) d) _ _ (has-single b d ∙ l) ∙ sym (if-false (same_channel b d) _ _ l))))

module _ (J : Interpretation) where
  -- with more inputs a reaction gives the value that it gives
  pub given_value_grows : (r : Reaction) (t : List Bool) (inputs inputs' : Valuation) → LiesWithin inputs inputs' → IsBelow (given_value J r t inputs) (given_value J r t inputs')
  given_value_grows r t inputs inputs' h = outcome_value_grows _ _ (reaction_is_monotone J r [] inputs inputs' t h)

  -- a value that is given without a value at a channel is given with it
  pub IsKept-given_value : (r : Reaction) (t : List Bool) (c : Channel) (around : Valuation) → IsKept (λ o. given_value J r t (with_value c o around))
  IsKept-given_value r t c around v e o = given_value_grows r t _ _ (λ d u. if_grows (same_channel c d) None o (around d) (around d) (λ x k. cc) (λ x k. k) u) v e

  -- ---- what the two write

  module _ (a b : Channel) (apart : same_channel a b ≡ false) (r k : Reaction) (t : List Bool) (inputs : Valuation) where
    abbrev around : Valuation
    around = all_taken_out (union (a ∷ []) (b ∷ [])) inputs

    abbrev first : Option Value → Option Value
    first o = given_value J r (take (reaction_coins r) t) (with_value b o around)

    abbrev second : Option Value → Option Value
    second o = given_value J k (drop (reaction_coins r) t) (with_value a o around)

    around-first : around a ≡ None
    around-first = if-true (has (union (a ∷ []) (b ∷ [])) a) _ _ (in_union_left (a ∷ []) (b ∷ []) a (has-single a a ∙ same_channel-itself a))

    around-second : around b ≡ None
    around-second = if-true (has (union (a ∷ []) (b ∷ [])) b) _ _ (in_union_right (a ∷ []) (b ∷ []) b (has-single b b ∙ same_channel-itself b))

    -- a round of both, from what both wrote before
    abbrev both_step : Valuation → Valuation
    both_step s = with_value a (first (s b)) (with_value b (second (s a)) nothing)

    abbrev the_round : Valuation → Valuation
    the_round = round (a ∷ []) (b ∷ []) (protocol_valuation J (assignment a r) (take (reaction_coins r) t)) (protocol_valuation J (assignment b k) (drop (reaction_coins r) t)) around

    round_is : (s : Valuation) → the_round s ≡ both_step s
    round_is s =
        ap₂ (λ x y. combined (a ∷ []) (written a (reaction_outcome J r [] x (take (reaction_coins r) t))) (written b (reaction_outcome J k [] y (drop (reaction_coins r) t))))
        (seen_from a b apart around s around-first) (seen_from b a (same_channel-false_swap a b apart) around s around-second) ∙
        written_both a b _ _

    keeps_first : IsKept first
    keeps_first = IsKept-given_value r (take (reaction_coins r) t) b around

    keeps_second : IsKept second
    keeps_second = IsKept-given_value k (drop (reaction_coins r) t) a around

    abbrev both : Valuation
    both = with_value a (first (second None)) (with_value b (second (first None)) nothing)

    abbrev result : Valuation
    result = protocol_valuation J (parallel (assignment a r) (assignment b k)) t inputs

    -- each of the two values
    at_second : (o o' : Option Value) → with_value a o (with_value b o' nothing) b ≡ o'
    at_second o o' = if-false (same_channel a b) _ _ apart ∙ with_value-at b o' nothing

    both-fixed : both_step both ≡ both
    both-fixed = ap₂ (λ x y. with_value a x (with_value b y nothing))
        (ap first (at_second _ _) ∙ least_value-fixed first second keeps_first keeps_second)
        (ap second (with_value-at a (first (second None)) (with_value b (second (first None)) nothing)) ∙ least_value-fixed second first keeps_second keeps_first)

    result-fixed : both_step result ≡ result
    result-fixed = sym (round_is result) ∙ (rounds_reach_the_least J (assignment a r) (assignment b k) t inputs).0

    result-first : first (result b) ≡ result a
    result-first = sym (with_value-at a (first (result b)) (with_value b (second (result a)) nothing)) ∙ ap (λ (p : Valuation). p a) result-fixed

    result-second : second (result a) ≡ result b
    result-second = sym (at_second _ _) ∙ ap (λ (p : Valuation). p b) result-fixed

    both-below : LiesWithin both result
    both-below d v e = by_test (same_channel a d)
        (λ l. at_same_channel (λ x. result x ≡ Some v) a d l
        (least_value-below first second keeps_first keeps_second (result a) (result b) (λ u h. sym result-first ∙ h) (λ u h. sym result-second ∙ h) v (sym (if-true (same_channel a d) _ _ l) ∙ e)))
        (λ l. by_test (same_channel b d)
        (λ m. at_same_channel (λ x. result x ≡ Some v) b d m
        (least_value-below second first keeps_second keeps_first (result b) (result a) (λ u h. sym result-second ∙ h) (λ u h. sym result-first ∙ h) v (sym (if-false (same_channel a d) _ _ l ∙ if-true (same_channel b d) _ _ m) ∙ e)))
        (λ m. let n : None ≡ Some v = sym (if-false (same_channel a d) _ _ l ∙ if-false (same_channel b d) _ _ m) ∙ e in cc))

    pub result_is : result ≡ both
    result_is = LiesWithin-antisym _ _ ((rounds_reach_the_least J (assignment a r) (assignment b k) t inputs).1 both (LiesWithin_equal _ _ (round_is both ∙ both-fixed))) both-below

  -- the channels of two assignments
  union_of_two : (a b : Channel) → same_channel a b ≡ false → union (a ∷ []) (b ∷ []) ≡ a ∷ b ∷ []
  union_of_two a b apart = if-false (has (b ∷ []) a) _ _ (has-single b a ∙ same_channel-false_swap a b apart)

  -- what two assignments of different channels write
  pub two_assignments : (a b : Channel) (r k : Reaction) (t : List Bool) (inputs : Valuation) → a ≢ b →
      let around = all_taken_out (a ∷ b ∷ []) inputs in
      let first = (λ (o : Option Value). given_value J r (take (reaction_coins r) t) (with_value b o around)) in
      let second = (λ (o : Option Value). given_value J k (drop (reaction_coins r) t) (with_value a o around)) in
      protocol_valuation J (parallel (assignment a r) (assignment b k)) t inputs ≡ with_value a (first (second None)) (with_value b (second (first None)) nothing)
  two_assignments a b r k t inputs differ =
      let apart = same_channel-different a b differ in
      result_is a b apart r k t inputs ∙
      ap (λ cs. written_by_both (λ o. given_value J r (take (reaction_coins r) t) (with_value b o (all_taken_out cs inputs))) (λ o. given_value J k (drop (reaction_coins r) t) (with_value a o (all_taken_out cs inputs)))) (union_of_two a b apart)
    where
      written_by_both : (f g : Option Value → Option Value) → Valuation
      written_by_both = λ f g. with_value a (f (g None)) (with_value b (g (f None)) nothing)

  -- ---- another second one

  -- a second one that gives the same where the first has given what it gives at first
  same_beside : (f g g' : Option Value → Option Value) → IsKept f → g (f None) ≡ g' (f None) → f (g None) ≡ f (g' None)
  same_beside f g g' keeps same = go (f None) refl same
    where
      go : (o : Option Value) → f None ≡ o → g o ≡ g' o → f (g None) ≡ f (g' None)
      go None e h = ap f h
      go (Some v) e h = keeps v e (g None) ∙ sym (keeps v e (g' None))

  pub alike_beside_assignment : (scope : Scope) (a b : Channel) (r k k' : Reaction) → a ≢ b →
      ((tape_a tape_b : List Bool) → reaction_coins r ≤ length tape_a → reaction_coins k ≤ length tape_b → reaction_coins k' ≤ length tape_b → (inputs : Valuation) → inputs a ≡ None → inputs b ≡ None →
      let around = with_value a (given_value J r tape_a inputs) inputs in
      given_value J k tape_b around ≡ given_value J k' tape_b around) →
      Alike J scope (parallel (assignment a r) (assignment b k)) (parallel (assignment a r) (assignment b k'))
  alike_beside_assignment scope a b r k k' differ same =
      alike_by_valuations J scope (parallel (assignment a r) (assignment b k)) (parallel (assignment a r) (assignment b k')) (λ c. refl)
      (λ t enough enough' inputs.
      let apart = same_channel-different a b differ in
      let m = reaction_coins r in
      let around : Valuation = all_taken_out (union (a ∷ []) (b ∷ [])) inputs in
      let none_a : around a ≡ None = around-first a b apart r k t inputs in
      let none_b : around b ≡ None = around-second a b apart r k t inputs in
      let f : Option Value → Option Value = λ o. given_value J r (take m t) (with_value b o around) in
      let g : Option Value → Option Value = λ o. given_value J k (drop m t) (with_value a o around) in
      let g' : Option Value → Option Value = λ o. given_value J k' (drop m t) (with_value a o around) in
      let before : f None ≡ given_value J r (take m t) around = ap (given_value J r (take m t)) (with_value-none b around none_b) in
      let here = same (take m t) (drop m t) (omega (arith, length-take-le m t (omega arith))) (omega (arith, length-drop m t)) (omega (arith, length-drop m t)) around none_a none_b in
      let at_second : g (f None) ≡ g' (f None) = ap g before ∙ here ∙ sym (ap g' before) in
      let at_first : f (g None) ≡ f (g' None) = same_beside f g g' (IsKept-given_value r (take m t) b around) at_second in
      result_is a b apart r k t inputs ∙
      ap₂ (λ x y. with_value a x (with_value b y nothing)) at_first at_second ∙
      sym (result_is a b apart r k' t inputs))
