-- The grouping of three parts makes no difference, nor does a hidden channel around a part that does not name it.
use Rattle.std.proofs.Common.{◌≡◌, ℕ, ◌+◌, Bool, true, false, ◌||◌, List, None, take, drop, refl, sym, ap, ap₂, ◌∙◌, subst, arith}
use Rattle.std.proofs.lemmas.Bool.{or_from}
use Rattle.std.proofs.lemmas.List.{take-take, drop-drop, drop-take}
use Rattle.std.specs.Prelude.{if◌then◌else◌}
use mathlib.Core.Path.{fun_ext}
use Rattle.ipdl_term.specs.Channels.{same_channel, has, without, union, SameSet, AreDisjoint, outputs, free_channels}
use Rattle.ipdl_term.specs.Interpretations.{Interpretation}
use Rattle.ipdl_term.specs.Protocols.{coins, solution, round, protocol_valuation}
use Rattle.ipdl_term.specs.Terms.{Channel, Protocol, parallel, hiding}
use Rattle.ipdl_term.specs.Typing.{Scope}
use Rattle.ipdl_term.specs.Valuations.{Valuation, combined, taken_out, all_taken_out}
use Rattle.ipdl_laws.specs.Alike.{IsMonotone, Alike}
use Rattle.ipdl_laws.proofs.Combinations.{combined-taken_out, all_taken_out_same}
use Rattle.ipdl_laws.proofs.Congruence.{alike_sym}
use Rattle.ipdl_laws.proofs.Monotone.{WritesOnly-round, WritesOnly-protocol_valuation, LiesWithin-round, IsMonotone-protocol_valuation}
use Rattle.ipdl_laws.proofs.Order.{LiesWithin-refl, LiesWithin-taken_out, WritesOnly}
use Rattle.ipdl_laws.proofs.ReadingLaws.{protocol_valuation_agree, free_channels-outputs}
use Rattle.ipdl_term.proofs.ChannelSets.{has-union}
use Rattle.ipdl_laws.proofs.Sets.{by_test, if-true, if-false, if_same, not_both, at_same_channel, has-without, has-without_same, union_assoc}
use Rattle.ipdl_laws.proofs.Solutions.{solution_behind}
use Rattle.ipdl_laws.proofs.Structure.{protocol_valuation-hiding, alike_of_same_valuations, grouped_same}

module _ (J : Interpretation) where
  -- three parts on their tapes, the last two grouped
  abbrev three_parts : Protocol → Protocol → Protocol → List Bool → List Bool → List Bool → Valuation → Valuation
  three_parts p q r tp tq tr x =
      solution (union (outputs p) (union (outputs q) (outputs r))) (round (outputs p) (union (outputs q) (outputs r)) (protocol_valuation J p tp)
      (λ y. solution (union (outputs q) (outputs r)) (round (outputs q) (outputs r) (protocol_valuation J q tq) (protocol_valuation J r tr) (all_taken_out (union (outputs q) (outputs r)) y))) x)

  -- the two groupings write the same
  grouping_same : (p q r : Protocol) → AreDisjoint (outputs p) (outputs q) → AreDisjoint (outputs p) (outputs r) → AreDisjoint (outputs q) (outputs r) → (t : List Bool) (inputs : Valuation) → protocol_valuation J (parallel (parallel p q) r) t inputs ≡ protocol_valuation J (parallel p (parallel q r)) t inputs
  grouping_same p q r p_q p_r q_r t inputs =
      let tp = take (coins p) (take (coins p + coins q) t) in
      let tq = drop (coins p) (take (coins p + coins q) t) in
      let tr = drop (coins p + coins q) t in
      let left_list = union (union (outputs p) (outputs q)) (outputs r) in
      let right_list = union (outputs p) (union (outputs q) (outputs r)) in
      let same_list : SameSet left_list right_list = union_assoc (outputs p) (outputs q) (outputs r) in
      let x = all_taken_out left_list inputs in
      let same_p : tp ≡ take (coins p) t = take-take (coins p) (coins p + coins q) t (omega arith) in
      let same_q : tq ≡ take (coins q) (drop (coins p) t) = drop-take (coins p) (coins q) t in
      let same_r : tr ≡ drop (coins q) (drop (coins p) t) = sym (drop-drop (coins q) (coins p) t) in
      let same_x : x ≡ all_taken_out right_list inputs = ap (λ out. out inputs) (all_taken_out_same left_list right_list same_list) in
      grouped_same J (outputs p) (outputs q) (outputs r) p_q p_r q_r (protocol_valuation J p tp) (protocol_valuation J q tq) (protocol_valuation J r tr)
      (IsMonotone-protocol_valuation J p tp) (IsMonotone-protocol_valuation J q tq) (IsMonotone-protocol_valuation J r tr)
      (WritesOnly-protocol_valuation J p tp) (WritesOnly-protocol_valuation J q tq) (WritesOnly-protocol_valuation J r tr)
      x (λ c k. if-true (has left_list c) _ _ (same_list c ∙ k)) ∙
      ap (λ u. three_parts p q r u tq tr x) same_p ∙
      ap (λ u. three_parts p q r (take (coins p) t) u tr x) same_q ∙
      ap (λ u. three_parts p q r (take (coins p) t) (take (coins q) (drop (coins p) t)) u x) same_r ∙
      ap (λ u. three_parts p q r (take (coins p) t) (take (coins q) (drop (coins p) t)) (drop (coins q) (drop (coins p) t)) u) same_x

  -- the last two grouped in place of the first two
  pub alike_assocr : (scope : Scope) (p q r : Protocol) → AreDisjoint (outputs p) (outputs q) → AreDisjoint (outputs p) (outputs r) → AreDisjoint (outputs q) (outputs r) → Alike J scope (parallel (parallel p q) r) (parallel p (parallel q r))
  alike_assocr scope p q r p_q p_r q_r =
      alike_of_same_valuations J scope (parallel (parallel p q) r) (parallel p (parallel q r)) (union_assoc (outputs p) (outputs q) (outputs r)) (omega arith)
      (λ t h inputs. grouping_same p q r p_q p_r q_r t inputs)

  -- the first two grouped in place of the last two
  pub alike_assocl : (scope : Scope) (p q r : Protocol) → AreDisjoint (outputs p) (outputs q) → AreDisjoint (outputs p) (outputs r) → AreDisjoint (outputs q) (outputs r) → Alike J scope (parallel p (parallel q r)) (parallel (parallel p q) r)
  alike_assocl scope p q r p_q p_r q_r =
      alike_sym J scope (parallel (parallel p q) r) (parallel p (parallel q r)) (alike_assocr scope p q r p_q p_r q_r)

-- a protocol does not write what is not free in it
pub not_written : (p : Protocol) (c : Channel) → has (free_channels p) c ≡ false → has (outputs p) c ≡ false
not_written p c unnamed = by_test (has (outputs p) c) (λ e. not_both (has (free_channels p) c) (free_channels-outputs p c e) unnamed) (λ e. e)

module _ (J : Interpretation) (p q : Protocol) (c : Channel) (w : ℕ) (unnamed : has (free_channels p) c ≡ false) (t : List Bool) (inputs : Valuation) where
  -- what the parts write where c is hidden in q alone, and in all
  abbrev inner_list : List Channel
  inner_list = union (outputs p) (without c (outputs q))

  abbrev whole_list : List Channel
  whole_list = union (outputs p) (outputs q)

  -- what they see around
  abbrev around_inner : Valuation
  around_inner = all_taken_out inner_list inputs

  abbrev around_whole : Valuation
  around_whole = all_taken_out whole_list (taken_out c inputs)

  abbrev f : Valuation → Valuation
  f = protocol_valuation J p (take (coins p) t)

  abbrev g : Valuation → Valuation
  g = protocol_valuation J q (drop (coins p) t)

  -- a round where c is seen by both
  abbrev whole_round : Valuation → Valuation
  whole_round = round (outputs p) (outputs q) f g around_whole

  -- a channel that p names is another one
  named_is_other : (e : Channel) → has (free_channels p) e ≡ true → same_channel c e ≡ false
  named_is_other e k = by_test (same_channel c e)
      (λ l. not_both (has (free_channels p) e) k (at_same_channel (λ x. has (free_channels p) x ≡ false) c e l unnamed))
      (λ l. l)

  -- other channels are seen alike around
  around_same : (e : Channel) → same_channel c e ≡ false → around_inner e ≡ around_whole e
  around_same e k =
      ap (λ (b : Bool). if b then None else inputs e) (has-union (outputs p) (without c (outputs q)) e ∙ ap (λ b. has (outputs p) e || b) (has-without c (outputs q) e k) ∙ sym (has-union (outputs p) (outputs q) e)) ∙
      if_same (has whole_list e) None None _ _ (λ l. refl) (λ l. sym (if-false (same_channel c e) _ _ k))

  -- c is not seen around
  around_hidden : (e : Channel) → same_channel c e ≡ true → around_whole e ≡ None
  around_hidden e k = by_test (has whole_list e)
      (λ l. if-true (has whole_list e) _ _ l)
      (λ l. if-false (has whole_list e) _ _ l ∙ if-true (same_channel c e) _ _ k)

  -- p sees the same in both
  seen_by_p : (s : Valuation) → f (combined (without c (outputs q)) s around_inner) ≡ f (combined (outputs q) s around_whole)
  seen_by_p s = protocol_valuation_agree J p (take (coins p) t) _ _ (λ e k.
      let other = named_is_other e k in
      ap (λ (b : Bool). if b then s e else around_inner e) (has-without c (outputs q) e other) ∙
      if_same (has (outputs q) e) (s e) (s e) _ _ (λ l. refl) (λ l. around_same e other))

  -- q sees the same in both
  seen_by_q : (s : Valuation) → taken_out c (combined (outputs p) s around_inner) ≡ combined (outputs p) s around_whole
  seen_by_q s = fun_ext (λ e. by_test (same_channel c e)
      (λ k. if-true (same_channel c e) _ _ k ∙ sym (if-false (has (outputs p) e) _ _ (at_same_channel (λ x. has (outputs p) x ≡ false) c e k (not_written p c unnamed)) ∙ around_hidden e k))
      (λ k. if-false (same_channel c e) _ _ k ∙ if_same (has (outputs p) e) (s e) (s e) _ _ (λ l. refl) (λ l. around_same e k)))

  -- a round where c is hidden in q alone is one of both with c taken out
  round_same : (s : Valuation) → round (outputs p) (without c (outputs q)) f (protocol_valuation J (hiding c w q) (drop (coins p) t)) around_inner s ≡ taken_out c (whole_round s)
  round_same s =
      ap₂ (λ x y. combined (outputs p) x y) (seen_by_p s) (protocol_valuation-hiding J c w q (drop (coins p) t) (combined (outputs p) s around_inner) ∙ ap (λ x. taken_out c (g x)) (seen_by_q s)) ∙
      combined-taken_out (outputs p) c _ _ (not_written p c unnamed)

  -- neither looks at what the last round wrote to c
  round_unseen : (s : Valuation) → whole_round (taken_out c s) ≡ whole_round s
  round_unseen s = ap₂ (λ x y. combined (outputs p) x y)
      (protocol_valuation_agree J p (take (coins p) t) _ _ (λ e k. if_same (has (outputs q) e) _ _ _ _ (λ l. if-false (same_channel c e) _ _ (named_is_other e k)) (λ l. refl)))
      (ap g (fun_ext (λ e. if_same (has (outputs p) e) _ _ _ _ (λ l. if-false (same_channel c e) _ _ (named_is_other e (free_channels-outputs p e l))) (λ l. refl))))

  -- the hidden channel around q alone, or around both
  scope_same : protocol_valuation J (parallel p (hiding c w q)) t inputs ≡ protocol_valuation J (hiding c w (parallel p q)) t inputs
  scope_same =
      let mono : IsMonotone whole_round = λ s s' k. LiesWithin-round J (outputs p) (outputs q) f g (IsMonotone-protocol_valuation J p (take (coins p) t)) (IsMonotone-protocol_valuation J q (drop (coins p) t)) _ _ s s' (LiesWithin-refl around_whole) k in
      let only_inner : (s : Valuation) → WritesOnly inner_list (taken_out c (whole_round s)) = λ s. subst (WritesOnly inner_list) (round_same s) (WritesOnly-round J (outputs p) (without c (outputs q)) f _ around_inner (WritesOnly-protocol_valuation J (hiding c w q) (drop (coins p) t)) s) in
      ap (solution inner_list) (fun_ext round_same) ∙
      solution_behind inner_list whole_list (taken_out c) whole_round (LiesWithin-taken_out c) mono only_inner (WritesOnly-round J (outputs p) (outputs q) f g around_whole (WritesOnly-protocol_valuation J q (drop (coins p) t))) round_unseen ∙
      sym (protocol_valuation-hiding J c w (parallel p q) t inputs)

-- the outputs, where a channel is taken out of the second alone or of both
pub union-without : (cs ds : List Channel) (c : Channel) → has cs c ≡ false → SameSet (union cs (without c ds)) (without c (union cs ds))
union-without cs ds c h e = by_test (same_channel c e)
    (λ k. has-union cs (without c ds) e ∙ or_from (has cs e) (has (without c ds) e) (at_same_channel (λ x. has cs x ≡ false) c e k h) (has-without_same c ds e k) ∙ sym (has-without_same c (union cs ds) e k))
    (λ k. has-union cs (without c ds) e ∙ ap (λ b. has cs e || b) (has-without c ds e k) ∙ sym (has-union cs ds e) ∙ sym (has-without c (union cs ds) e k))

-- the hidden channel of the second part around both, where the first does not name it
pub alike_scope : (J : Interpretation) (scope : Scope) (p q : Protocol) (c : Channel) (w : ℕ) → has (free_channels p) c ≡ false → Alike J scope (parallel p (hiding c w q)) (hiding c w (parallel p q))
alike_scope J scope p q c w unnamed =
    alike_of_same_valuations J scope (parallel p (hiding c w q)) (hiding c w (parallel p q)) (union-without (outputs p) (outputs q) c (not_written p c unnamed)) refl
    (λ t h inputs. scope_same J p q c w unnamed t inputs)
