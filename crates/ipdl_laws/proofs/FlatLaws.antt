-- Flat rounds write the same as nested ones.
use Rattle.std.proofs.Common.{◌≡◌, ℕ, zero, suc, ◌+◌, ◌-◌, ◌<◌, ◌≤◌, ◌⊎◌, inl, inr, Bool, true, false, List, [], ◌∷◌, ◌++◌, length, Option, Some, None, is_some, take, drop, refl, sym, ap, ap₂, ◌∙◌, arith, length-append}
use Rattle.std.proofs.lemmas.Bool.{or_parts, or_left, or_right, or_from, cases_lt}
use Rattle.std.proofs.lemmas.List.{drop-drop}
use Rattle.std.proofs.lemmas.Option.{slice_get_past}
use Rattle.std.specs.Prelude.{if◌then◌else◌, nat_eq, slice_get}
use mathlib.Core.Path.{fun_ext}
use Rattle.ipdl_term.specs.Channels.{same_channel, has, AreDisjoint, outputs}
use Rattle.ipdl_term.specs.Interpretations.{Signature, Interpretation}
use Rattle.ipdl_term.specs.Protocols.{coins, written, after_rounds, solution, round, protocol_valuation}
use Rattle.ipdl_term.specs.Reactions.{outcome_value, Outcome, reaction_outcome, reaction_coins}
use Rattle.ipdl_term.specs.Terms.{Value, Channel, Reaction, Protocol, nil, assignment, parallel, hiding}
use Rattle.ipdl_term.specs.Typing.{Scope, scope_with, IsTyped}
use Rattle.ipdl_term.specs.Valuations.{Valuation, nothing, only, combined, taken_out, all_taken_out, LiesWithin}
use Rattle.ipdl_term.specs.Variables.{first_number}
use Rattle.ipdl_laws.specs.Alike.{IsMonotone}
use Rattle.ipdl_term.specs.Networks.{assignment_count, writer_number, Writers, no_writers, writers_within, writers_without, nodes_from, network, value_of, value_at, flat_round, after_flat_rounds, flat_written, written_by, flat_valuation}
use Rattle.ipdl_laws.proofs.FurtherBits.{outcome_value_of_coins, protocol_valuation_of_coins}
use Rattle.ipdl_laws.proofs.Monotone.{WritesOnly-written, WritesOnly-round, WritesOnly-protocol_valuation, LiesWithin-round, IsMonotone-protocol_valuation, reaction_is_monotone}
use Rattle.ipdl_laws.proofs.Numbers.{key, keys, length-keys, nat_eq_self, has-keys, has-keys_above, has-keys_add, AreDisjoint-keys, nat_eq_apart, is_some-writer_number, writer_number_none, writer_number_own}
use Rattle.ipdl_laws.proofs.Order.{LiesWithin-refl, LiesWithin_equal, LiesWithin-trans, LiesWithin-nothing, LiesWithin-antisym, if_grows, LiesWithin-combined, WritesOnly}
use Rattle.ipdl_term.proofs.ChannelSets.{same_channel-itself, has-union}
use Rattle.ipdl_laws.proofs.Sets.{by_test, if-true, if-false, if_same, not_both, at_same_channel, has-single, has-without, AreDisjoint_swap}
use Rattle.ipdl_laws.proofs.Solutions.{solution-fixed, solution-least}
use Rattle.ipdl_laws.proofs.Structure.{protocol_valuation_outside, protocol_valuation-hiding}

-- ---- one step of all assignments of a part

-- one number has a value
abbrev at_key : ℕ → Option Value → Valuation
at_key n o = λ d. if same_channel (key n) d then o else None

-- what a name leads to: a number's value, unless it is the reader's own number, or else a value from outside
abbrev seen : ℕ → Option ℕ → Valuation → Option Value → Option Value
seen k None u outside = outside
seen k (Some m) u outside = if nat_eq m k then None else u (key m)

-- more is seen of more
seen_grows : (k : ℕ) (o : Option ℕ) (u u' : Valuation) (x x' : Option Value) → LiesWithin u u' → ((v : Value) → x ≡ Some v → x' ≡ Some v) → (v : Value) → seen k o u x ≡ Some v → seen k o u' x' ≡ Some v
seen_grows k None u u' x x' h l v e = l v e
seen_grows k (Some m) u u' x x' h l v e = if_grows (nat_eq m k) None None (u (key m)) (u' (key m)) (λ w k. k) (h (key m)) v e

-- a value that grows, alone
value_grows : (n : ℕ) (o o' : Option Value) → ((v : Value) → o ≡ Some v → o' ≡ Some v) → LiesWithin (at_key n o) (at_key n o')
value_grows n o o' h d v = if_grows (same_channel (key n) d) o o' None None h (λ w e. e) v

-- the value of an outcome that is extended
pub outcome_value_grows : (o o' : Outcome) → ((x : Value × List Bool) → o ≡ Some x → o' ≡ Some x) → (v : Value) → outcome_value o ≡ Some v → outcome_value o' ≡ Some v
outcome_value_grows None o' h v e = cc
outcome_value_grows (Some x) o' h v e = ap outcome_value (h x refl) ∙ e

module _ (J : Interpretation) (tape : List Bool) where
  -- what the assignments of a part write, by number, from what all wrote before; channels that no assignment writes are
  -- looked up outside
  abbrev part_step : Protocol → ℕ → ℕ → Writers → Valuation → Valuation → Valuation
  part_step nil n b writers outside before = nothing
  part_step (assignment c r) n b writers outside before =
      at_key n (outcome_value (reaction_outcome J r [] (λ d. seen n (writers_within (assignment c r) n writers d) before (outside d)) (take (reaction_coins r) (drop b tape))))
  part_step (parallel p q) n b writers outside before =
      combined (keys n (assignment_count p)) (part_step p n b (writers_within (parallel p q) n writers) outside before)
      (part_step q (n + assignment_count p) (b + coins p) (writers_within (parallel p q) n writers) outside before)
  part_step (hiding c w p) n b writers outside before = part_step p n b (writers_without c writers) outside before

  -- a part writes its own numbers alone
  WritesOnly-part_step : (p : Protocol) (n b : ℕ) (writers : Writers) (outside before : Valuation) → WritesOnly (keys n (assignment_count p)) (part_step p n b writers outside before)
  WritesOnly-part_step nil n b writers outside before d h = refl
  WritesOnly-part_step (assignment c r) n b writers outside before d h = if-false (same_channel (key n) d) _ _ (or_parts (same_channel (key n) d) false h).0
  WritesOnly-part_step (parallel p q) n b writers outside before d h =
      let both = or_parts (has (keys n (assignment_count p)) d) (has (keys (n + assignment_count p) (assignment_count q)) d) (sym (has-keys_add n (assignment_count p) (assignment_count q) d) ∙ h) in
      if-false (has (keys n (assignment_count p)) d) _ _ both.0 ∙ WritesOnly-part_step q (n + assignment_count p) (b + coins p) (writers_within (parallel p q) n writers) outside before d both.1
  WritesOnly-part_step (hiding c w p) n b writers outside before d h = WritesOnly-part_step p n b (writers_without c writers) outside before d h

  -- a part writes more of more
  part_step_grows : (p : Protocol) (n b : ℕ) (writers : Writers) (x x' u u' : Valuation) → LiesWithin x x' → LiesWithin u u' → LiesWithin (part_step p n b writers x u) (part_step p n b writers x' u')
  part_step_grows nil n b writers x x' u u' h k = LiesWithin-nothing nothing
  part_step_grows (assignment c r) n b writers x x' u u' h k =
      value_grows n _ _ (outcome_value_grows _ _ (reaction_is_monotone J r [] _ _ (take (reaction_coins r) (drop b tape)) (λ d. seen_grows n (writers_within (assignment c r) n writers d) u u' (x d) (x' d) k (h d))))
  part_step_grows (parallel p q) n b writers x x' u u' h k =
      LiesWithin-combined (keys n (assignment_count p)) _ _ _ _ (part_step_grows p n b _ x x' u u' h k) (part_step_grows q (n + assignment_count p) (b + coins p) _ x x' u u' h k)
  part_step_grows (hiding c w p) n b writers x x' u u' h k = part_step_grows p n b (writers_without c writers) x x' u u' h k

  -- a name of a parallel protocol, seen from its first or second part
  within_first : (p q : Protocol) (n : ℕ) (writers : Writers) (c : Channel) → has (outputs p) c ≡ false → writers_within (parallel p q) n writers c ≡ first_number (writer_number q (n + assignment_count p) c) (writers c)
  within_first p q n writers c h = ap (λ o. first_number (first_number o (writer_number q (n + assignment_count p) c)) (writers c)) (writer_number_none p n c h)

  within_second : (p q : Protocol) (n : ℕ) (writers : Writers) (c : Channel) → has (outputs q) c ≡ false → writers_within (parallel p q) n writers c ≡ first_number (writer_number p n c) (writers c)
  within_second p q n writers c h =
      ap (λ o. first_number (first_number (writer_number p n c) o) (writers c)) (writer_number_none q (n + assignment_count p) c h) ∙ go (writer_number p n c)
    where
      go : (o : Option ℕ) → first_number (first_number o None) (writers c) ≡ first_number o (writers c)
      go None = refl
      go (Some m) = refl

  -- what is seen by two ways that agree at a partner's numbers and behind them
  seen_same : (k : ℕ) (o : Option ℕ) (a a' : Option ℕ) (u u' : Valuation) (x x' : Option Value) → ((m : ℕ) → o ≡ Some m → u (key m) ≡ u' (key m)) → (o ≡ None → seen k a u x ≡ seen k a' u' x') → seen k (first_number o a) u x ≡ seen k (first_number o a') u' x'
  seen_same k None a a' u u' x x' h l = l refl
  seen_same k (Some m) a a' u u' x x' h l = ap (λ (z : Option Value). if nat_eq m k then None else z) (h m refl)

  -- a part does the same where it sees the same of what it does not write, and the same of its own numbers
  part_step_agree : (sig : Signature) (scope : Scope) (p : Protocol) → IsTyped sig scope p → (n b : ℕ) (writers writers' : Writers) (x x' u u' : Valuation) →
      ((c : Channel) → has (outputs p) c ≡ false → (k : ℕ) → has (keys n (assignment_count p)) (key k) ≡ true → seen k (writers c) u (x c) ≡ seen k (writers' c) u' (x' c)) →
      ((d : Channel) → has (keys n (assignment_count p)) d ≡ true → u d ≡ u' d) →
      part_step p n b writers x u ≡ part_step p n b writers' x' u'
  part_step_agree sig scope nil typed n b writers writers' x x' u u' h l = refl
  part_step_agree sig scope (assignment c r) typed n b writers writers' x x' u u' h l =
      ap (λ i. at_key n (outcome_value (reaction_outcome J r [] i (take (reaction_coins r) (drop b tape))))) (fun_ext (λ d. by_test (same_channel c d)
      (λ e. own d e writers u (x d) ∙ sym (own d e writers' u' (x' d)))
      (λ e. other d e writers u (x d) ∙ h d (has-single c d ∙ e) n (has-keys n 1 n (omega arith) (omega arith)) ∙ sym (other d e writers' u' (x' d)))))
    where
      own : (d : Channel) → same_channel c d ≡ true → (a : Writers) (v : Valuation) (y : Option Value) → seen n (writers_within (assignment c r) n a d) v y ≡ None
      own d e a v y = ap (λ o. seen n (first_number o (a d)) v y) (if-true (same_channel c d) _ _ e) ∙ if-true (nat_eq n n) _ _ (nat_eq_self n)

      other : (d : Channel) → same_channel c d ≡ false → (a : Writers) (v : Valuation) (y : Option Value) → seen n (writers_within (assignment c r) n a d) v y ≡ seen n (a d) v y
      other d e a v y = ap (λ o. seen n (first_number o (a d)) v y) (if-false (same_channel c d) _ _ e)
  part_step_agree sig scope (parallel p q) typed n b writers writers' x x' u u' h l =
      let number_q = n + assignment_count p in
      let first : (d : Channel) → has (keys n (assignment_count p)) d ≡ true → has (keys n (assignment_count p + assignment_count q)) d ≡ true =
      λ d k. has-keys_add n (assignment_count p) (assignment_count q) d ∙ or_left (has (keys n (assignment_count p)) d) (has (keys number_q (assignment_count q)) d) k in
      let second : (d : Channel) → has (keys number_q (assignment_count q)) d ≡ true → has (keys n (assignment_count p + assignment_count q)) d ≡ true =
      λ d k. has-keys_add n (assignment_count p) (assignment_count q) d ∙ or_right (has (keys n (assignment_count p)) d) (has (keys number_q (assignment_count q)) d) k in
      ap₂ (combined (keys n (assignment_count p)))
      (part_step_agree sig scope p typed.0 n b _ _ x x' u u'
      (λ c not_p k own. ap (λ o. seen k o u (x c)) (within_first p q n writers c not_p) ∙
      seen_same k (writer_number q number_q c) (writers c) (writers' c) u u' (x c) (x' c)
      (λ m e. l (key m) (second (key m) (writer_number_own q number_q c m e)))
      (λ e. h c (has-union (outputs p) (outputs q) c ∙ or_from (has (outputs p) c) (has (outputs q) c) not_p (sym (is_some-writer_number q number_q c) ∙ ap is_some e)) k (first (key k) own)) ∙
      sym (ap (λ o. seen k o u' (x' c)) (within_first p q n writers' c not_p)))
      (λ d k. l d (first d k)))
      (part_step_agree sig scope q typed.1 number_q (b + coins p) _ _ x x' u u'
      (λ c not_q k own. ap (λ o. seen k o u (x c)) (within_second p q n writers c not_q) ∙
      seen_same k (writer_number p n c) (writers c) (writers' c) u u' (x c) (x' c)
      (λ m e. l (key m) (first (key m) (writer_number_own p n c m e)))
      (λ e. h c (has-union (outputs p) (outputs q) c ∙ or_from (has (outputs p) c) (has (outputs q) c) (sym (is_some-writer_number p n c) ∙ ap is_some e) not_q) k (second (key k) own)) ∙
      sym (ap (λ o. seen k o u' (x' c)) (within_second p q n writers' c not_q)))
      (λ d k. l d (second d k)))
  part_step_agree sig scope (hiding c w p) typed n b writers writers' x x' u u' h l =
      part_step_agree sig (scope_with c w scope) p typed.1 n b _ _ x x' u u'
      (λ d not_p k own. by_test (same_channel c d)
      (λ e. not_both (has (outputs p) d) (at_same_channel (λ y. has (outputs p) y ≡ true) c d e typed.2) not_p)
      (λ e. ap (λ o. seen k o u (x d)) (if-false (same_channel c d) _ _ e) ∙ h d (has-without c (outputs p) d e ∙ not_p) k own ∙ sym (ap (λ o. seen k o u' (x' d)) (if-false (same_channel c d) _ _ e))))
      l

  -- ---- parts alone

  -- what the assignments of a part alone write in the end
  abbrev alone : Protocol → ℕ → ℕ → Valuation → Valuation
  alone p n b outside = solution (keys n (assignment_count p)) (part_step p n b no_writers outside)

  -- the value that a number leads to
  abbrev led_to : Option ℕ → Valuation → Option Value
  led_to None u = None
  led_to (Some m) u = u (key m)

  -- what the numbers show at the outputs
  abbrev shown : Protocol → ℕ → Valuation → Valuation
  shown p n u c = led_to (writer_number p n c) u

  -- more is shown of more
  LiesWithin-shown : (p : Protocol) (n : ℕ) (u u' : Valuation) → LiesWithin u u' → LiesWithin (shown p n u) (shown p n u')
  LiesWithin-shown p n u u' h c v = go (writer_number p n c)
    where
      go : (o : Option ℕ) → led_to o u ≡ Some v → led_to o u' ≡ Some v
      go None e = e
      go (Some m) e = h (key m) v e

  -- the own numbers alone count
  shown_same : (p : Protocol) (n : ℕ) (u u' : Valuation) → ((d : Channel) → has (keys n (assignment_count p)) d ≡ true → u d ≡ u' d) → shown p n u ≡ shown p n u'
  shown_same p n u u' h = fun_ext (λ c. go c (writer_number p n c) refl)
    where
      go : (c : Channel) (o : Option ℕ) → writer_number p n c ≡ o → led_to o u ≡ led_to o u'
      go c None e = refl
      go c (Some m) e = h (key m) (writer_number_own p n c m e)

  -- of two parts, those of the first and then those of the second
  shown-parallel : (p q : Protocol) (n : ℕ) (u : Valuation) → shown (parallel p q) n u ≡ combined (outputs p) (shown p n u) (shown q (n + assignment_count p) u)
  shown-parallel p q n u = fun_ext (λ c. go c (writer_number p n c) (is_some-writer_number p n c))
    where
      go : (c : Channel) (o : Option ℕ) → is_some o ≡ has (outputs p) c → led_to (first_number o (writer_number q (n + assignment_count p) c)) u ≡ (if has (outputs p) c then led_to o u else shown q (n + assignment_count p) u c)
      go c None e = sym (if-false (has (outputs p) c) _ _ (sym e))
      go c (Some m) e = sym (if-true (has (outputs p) c) _ _ (sym e))

  -- a first valuation lies within a combination at its channels
  LiesWithin_combined_first : (cs : List Channel) (x y : Valuation) → WritesOnly cs x → LiesWithin x (combined cs x y)
  LiesWithin_combined_first cs x y only c v e = by_test (has cs c)
      (λ k. if-true (has cs c) _ _ k ∙ e)
      (λ k. let n : None ≡ Some v = sym (only c k) ∙ e in cc)

  -- a second one at other channels too
  LiesWithin_combined_second : (cs ds : List Channel) (x y : Valuation) → AreDisjoint cs ds → WritesOnly ds y → LiesWithin y (combined cs x y)
  LiesWithin_combined_second cs ds x y apart only c v e = by_test (has cs c)
      (λ k. let n : None ≡ Some v = sym (only c (apart c k)) ∙ e in cc)
      (λ k. if-false (has cs c) _ _ k ∙ e)

  -- an assignment alone
  alone-assignment : (c : Channel) (r : Reaction) (n b : ℕ) (x : Valuation) → protocol_valuation J (assignment c r) (drop b tape) x ≡ shown (assignment c r) n (alone (assignment c r) n b x)
  alone-assignment c r n b x =
      let value = outcome_value (reaction_outcome J r [] (all_taken_out (c ∷ []) x) (drop b tape)) in
      let step : (u : Valuation) → part_step (assignment c r) n b no_writers x u ≡ at_key n value = λ u.
      ap (λ i. at_key n (outcome_value (reaction_outcome J r [] i (take (reaction_coins r) (drop b tape))))) (fun_ext (λ d. by_test (same_channel c d)
      (λ e. ap (λ o. seen n (first_number o None) u (x d)) (if-true (same_channel c d) _ _ e) ∙ if-true (nat_eq n n) _ _ (nat_eq_self n) ∙ sym (if-true (has (c ∷ []) d) _ _ (has-single c d ∙ e)))
      (λ e. ap (λ o. seen n (first_number o None) u (x d)) (if-false (same_channel c d) _ _ e) ∙ sym (if-false (has (c ∷ []) d) _ _ (has-single c d ∙ e))))) ∙
      ap (at_key n) (outcome_value_of_coins J r [] (all_taken_out (c ∷ []) x) (drop b tape)) in
      fun_ext (λ d. by_test (same_channel c d)
      (λ e. written_at (reaction_outcome J r [] (all_taken_out (c ∷ []) x) (drop b tape)) d e ∙
      sym (ap (λ o. led_to o (alone (assignment c r) n b x)) (if-true (same_channel c d) _ _ e) ∙
      ap (λ u. u (key n)) (step _) ∙ if-true (same_channel (key n) (key n)) _ _ (same_channel-itself (key n))))
      (λ e. WritesOnly-written c _ d (has-single c d ∙ e) ∙ sym (ap (λ o. led_to o (alone (assignment c r) n b x)) (if-false (same_channel c d) _ _ e))))
    where
      written_at : (o : Outcome) (d : Channel) → same_channel c d ≡ true → written c o d ≡ outcome_value o
      written_at None d e = refl
      written_at (Some o) d e = if-true (same_channel c d) _ _ e

  -- below a hidden channel
  alone-hiding : (sig : Signature) (scope : Scope) (c : Channel) (w : ℕ) (p : Protocol) → IsTyped sig scope (hiding c w p) → (n b : ℕ) (x : Valuation) →
      (protocol_valuation J p (drop b tape) (taken_out c x) ≡ shown p n (alone p n b (taken_out c x))) → protocol_valuation J (hiding c w p) (drop b tape) x ≡ shown (hiding c w p) n (alone (hiding c w p) n b x)
  alone-hiding sig scope c w p typed n b x ih =
      let step : part_step p n b (writers_without c no_writers) x ≡ part_step p n b no_writers (taken_out c x) = fun_ext (λ u.
      part_step_agree sig (scope_with c w scope) p typed.1 n b (writers_without c no_writers) no_writers x (taken_out c x) u u
      (λ d not_p k own. by_test (same_channel c d)
      (λ e. not_both (has (outputs p) d) (at_same_channel (λ y. has (outputs p) y ≡ true) c d e typed.2) not_p)
      (λ e. ap (λ o. seen k o u (x d)) (if-false (same_channel c d) _ _ e) ∙ sym (if-false (same_channel c d) _ _ e)))
      (λ d own. refl)) in
      protocol_valuation-hiding J c w p (drop b tape) x ∙
      ap (taken_out c) (ih ∙ ap (λ F. shown p n (solution (keys n (assignment_count p)) F)) (sym step)) ∙
      fun_ext (λ d. by_test (same_channel c d)
      (λ e. if-true (same_channel c d) _ _ e ∙ sym (ap (λ o. led_to o (alone (hiding c w p) n b x)) (if-true (same_channel c d) _ _ e)))
      (λ e. if-false (same_channel c d) _ _ e ∙ sym (ap (λ o. led_to o (alone (hiding c w p) n b x)) (if-false (same_channel c d) _ _ e))))

-- ---- two parts

module _ (J : Interpretation) (tape : List Bool) (sig : Signature) (scope : Scope) (p q : Protocol) (typed : IsTyped sig scope (parallel p q)) (n b : ℕ) (x : Valuation)
    (of_p : (y : Valuation) → protocol_valuation J p (drop b tape) y ≡ shown J tape p n (alone J tape p n b y))
    (of_q : (y : Valuation) → protocol_valuation J q (drop (b + coins p) tape) y ≡ shown J tape q (n + assignment_count p) (alone J tape q (n + assignment_count p) (b + coins p) y)) where
  abbrev number_q : ℕ
  number_q = n + assignment_count p

  abbrev bit_q : ℕ
  bit_q = b + coins p

  -- the numbers of the first, and of the second
  abbrev keys_p : List Channel
  keys_p = keys n (assignment_count p)

  abbrev keys_q : List Channel
  keys_q = keys number_q (assignment_count q)

  abbrev f : Valuation → Valuation
  f = protocol_valuation J p (take (coins p) (drop b tape))

  abbrev g : Valuation → Valuation
  g = protocol_valuation J q (drop (coins p) (drop b tape))

  -- what the parts write, through the numbers
  f_is : (y : Valuation) → f y ≡ shown J tape p n (alone J tape p n b y)
  f_is y = ap (λ F. F y) (protocol_valuation_of_coins J p (drop b tape)) ∙ of_p y

  g_is : (y : Valuation) → g y ≡ shown J tape q number_q (alone J tape q number_q bit_q y)
  g_is y = ap (λ t. protocol_valuation J q t y) (drop-drop (coins p) b tape) ∙ of_q y

  -- each part sees the numbers of the other through its outputs
  abbrev to_p : Valuation → Valuation
  to_p u = combined (outputs q) (shown J tape q number_q u) x

  abbrev to_q : Valuation → Valuation
  to_q u = combined (outputs p) (shown J tape p n u) x

  abbrev both : Valuation → Valuation
  both u = combined keys_p (part_step J tape p n b no_writers (to_p u) u) (part_step J tape q number_q bit_q no_writers (to_q u) u)

  -- a partner's number, looked up by name or by output
  seen_through : (r : Protocol) (m k : ℕ) (cs : List Channel) (u : Valuation) (c : Channel) → AreDisjoint cs (keys m (assignment_count r)) → has cs (key k) ≡ true → seen k (first_number (writer_number r m c) None) u (x c) ≡ combined (outputs r) (shown J tape r m u) x c
  seen_through r m k cs u c apart own = go (writer_number r m c) refl (is_some-writer_number r m c)
    where
      go : (o : Option ℕ) → writer_number r m c ≡ o → is_some o ≡ has (outputs r) c → seen k (first_number o None) u (x c) ≡ (if has (outputs r) c then led_to J tape o u else x c)
      go None e l = sym (if-false (has (outputs r) c) _ _ (sym l))
      go (Some y) e l = if-false (nat_eq y k) _ _ (nat_eq_apart cs (keys m (assignment_count r)) y k apart own (writer_number_own r m c y e)) ∙ sym (if-true (has (outputs r) c) _ _ (sym l))

  -- a step of all assignments is one of both parts
  step_is_both : (u : Valuation) → part_step J tape (parallel p q) n b no_writers x u ≡ both u
  step_is_both u = ap₂ (combined keys_p)
      (part_step_agree J tape sig scope p typed.0 n b _ no_writers x (to_p u) u u
      (λ c not_p k own. ap (λ o. seen k o u (x c)) (within_first J tape p q n no_writers c not_p) ∙ seen_through q number_q k keys_p u c (AreDisjoint-keys n (assignment_count p) (assignment_count q)) own)
      (λ d own. refl))
      (part_step_agree J tape sig scope q typed.1 number_q bit_q _ no_writers x (to_q u) u u
      (λ c not_q k own. ap (λ o. seen k o u (x c)) (within_second J tape p q n no_writers c not_q) ∙ seen_through p n k keys_q u c (AreDisjoint_swap keys_p keys_q (AreDisjoint-keys n (assignment_count p) (assignment_count q))) own)
      (λ d own. refl))

  -- what all assignments write in the end
  abbrev all_keys : List Channel
  all_keys = keys n (assignment_count (parallel p q))

  abbrev result : Valuation
  result = alone J tape (parallel p q) n b x

  abbrev step : Valuation → Valuation
  step = part_step J tape (parallel p q) n b no_writers x

  mono_step : IsMonotone step
  mono_step u u' h = part_step_grows J tape (parallel p q) n b no_writers x x u u' (LiesWithin-refl x) h

  both_fixed : both result ≡ result
  both_fixed = sym (step_is_both result) ∙ solution-fixed all_keys step mono_step (WritesOnly-part_step J tape (parallel p q) n b no_writers x)

  -- each part alone writes no more than that
  alone_p_within : LiesWithin (alone J tape p n b (to_p result)) result
  alone_p_within =
      solution-least keys_p (part_step J tape p n b no_writers (to_p result)) (λ u u' h. part_step_grows J tape p n b no_writers _ _ u u' (LiesWithin-refl (to_p result)) h) (WritesOnly-part_step J tape p n b no_writers (to_p result)) result
      (LiesWithin-trans _ _ _ (LiesWithin_combined_first J tape keys_p _ _ (WritesOnly-part_step J tape p n b no_writers (to_p result) result)) (LiesWithin_equal _ _ both_fixed))

  alone_q_within : LiesWithin (alone J tape q number_q bit_q (to_q result)) result
  alone_q_within =
      solution-least keys_q (part_step J tape q number_q bit_q no_writers (to_q result)) (λ u u' h. part_step_grows J tape q number_q bit_q no_writers _ _ u u' (LiesWithin-refl (to_q result)) h) (WritesOnly-part_step J tape q number_q bit_q no_writers (to_q result)) result
      (LiesWithin-trans _ _ _ (LiesWithin_combined_second J tape keys_p keys_q _ _ (AreDisjoint-keys n (assignment_count p) (assignment_count q)) (WritesOnly-part_step J tape q number_q bit_q no_writers (to_q result) result)) (LiesWithin_equal _ _ both_fixed))

  -- the outputs of both, and the inputs without them
  abbrev all_outputs : List Channel
  all_outputs = outputs (parallel p q)

  abbrev stripped : Valuation
  stripped = all_taken_out all_outputs x

  abbrev nested_round : Valuation → Valuation
  nested_round = round (outputs p) (outputs q) f g stripped

  abbrev nested_result : Valuation
  nested_result = solution all_outputs nested_round

  mono_f : IsMonotone f
  mono_f = IsMonotone-protocol_valuation J p (take (coins p) (drop b tape))

  mono_g : IsMonotone g
  mono_g = IsMonotone-protocol_valuation J q (drop (coins p) (drop b tape))

  mono_nested : IsMonotone nested_round
  mono_nested u u' h = LiesWithin-round J (outputs p) (outputs q) f g mono_f mono_g stripped stripped u u' (LiesWithin-refl stripped) h

  only_nested : (u : Valuation) → WritesOnly all_outputs (nested_round u)
  only_nested = WritesOnly-round J (outputs p) (outputs q) f g stripped (WritesOnly-protocol_valuation J q (drop (coins p) (drop b tape)))

  -- a part does not see whether the outputs were stripped
  f_stripped : (s : Valuation) → f (combined (outputs q) s stripped) ≡ f (combined (outputs q) s x)
  f_stripped s = protocol_valuation_outside J p (take (coins p) (drop b tape)) _ _ (λ c not_p. if_same (has (outputs q) c) _ _ _ _ (λ k. refl)
      (λ k. if-false (has all_outputs c) _ _ (has-union (outputs p) (outputs q) c ∙ or_from (has (outputs p) c) (has (outputs q) c) not_p k)))

  g_stripped : (s : Valuation) → g (combined (outputs p) s stripped) ≡ g (combined (outputs p) s x)
  g_stripped s = protocol_valuation_outside J q (drop (coins p) (drop b tape)) _ _ (λ c not_q. if_same (has (outputs p) c) _ _ _ _ (λ k. refl)
      (λ k. if-false (has all_outputs c) _ _ (has-union (outputs p) (outputs q) c ∙ or_from (has (outputs p) c) (has (outputs q) c) k not_q)))

  -- at the outputs of each part, what both show is what that part shows
  seen_by_p : (u : Valuation) → combined (outputs q) (shown J tape (parallel p q) n u) x ≡ to_p u
  seen_by_p u = fun_ext (λ c. if_same (has (outputs q) c) _ _ _ _
      (λ k. ap (λ s. s c) (shown-parallel J tape p q n u) ∙ if-false (has (outputs p) c) _ _ (AreDisjoint_swap (outputs p) (outputs q) typed.2 c k))
      (λ k. refl))

  seen_by_q : (u : Valuation) → combined (outputs p) (shown J tape (parallel p q) n u) x ≡ to_q u
  seen_by_q u = fun_ext (λ c. if_same (has (outputs p) c) _ _ _ _
      (λ k. ap (λ s. s c) (shown-parallel J tape p q n u) ∙ if-true (has (outputs p) c) _ _ k)
      (λ k. refl))

  -- the nested rounds write no more than the flat ones show
  nested_within : LiesWithin nested_result (shown J tape (parallel p q) n result)
  nested_within =
      let s = shown J tape (parallel p q) n result in
      let at_p : f (combined (outputs q) s stripped) ≡ shown J tape p n (alone J tape p n b (to_p result)) = f_stripped s ∙ ap f (seen_by_p result) ∙ f_is (to_p result) in
      let at_q : g (combined (outputs p) s stripped) ≡ shown J tape q number_q (alone J tape q number_q bit_q (to_q result)) = g_stripped s ∙ ap g (seen_by_q result) ∙ g_is (to_q result) in
      solution-least all_outputs nested_round mono_nested only_nested s
      (LiesWithin-trans _ _ _
      (LiesWithin-combined (outputs p) _ (shown J tape p n result) _ (shown J tape q number_q result)
      (LiesWithin-trans _ _ _ (LiesWithin_equal _ _ at_p) (LiesWithin-shown J tape p n _ _ alone_p_within))
      (LiesWithin-trans _ _ _ (LiesWithin_equal _ _ at_q) (LiesWithin-shown J tape q number_q _ _ alone_q_within)))
      (LiesWithin_equal _ _ (sym (shown-parallel J tape p q n result))))

  -- the numbers of each part against what the nested rounds write
  abbrev numbers_p : Valuation
  numbers_p = alone J tape p n b (combined (outputs q) nested_result x)

  abbrev numbers_q : Valuation
  numbers_q = alone J tape q number_q bit_q (combined (outputs p) nested_result x)

  abbrev numbers : Valuation
  numbers = combined keys_p numbers_p numbers_q

  numbers_at_p : (d : Channel) → has keys_p d ≡ true → numbers d ≡ numbers_p d
  numbers_at_p d k = if-true (has keys_p d) _ _ k

  numbers_at_q : (d : Channel) → has keys_q d ≡ true → numbers d ≡ numbers_q d
  numbers_at_q d k = if-false (has keys_p d) _ _ (AreDisjoint_swap keys_p keys_q (AreDisjoint-keys n (assignment_count p) (assignment_count q)) d k)

  -- they show what the nested rounds write
  numbers_show : shown J tape (parallel p q) n numbers ≡ nested_result
  numbers_show =
      shown-parallel J tape p q n numbers ∙
      ap₂ (combined (outputs p))
      (shown_same J tape p n numbers numbers_p numbers_at_p ∙ sym (f_is (combined (outputs q) nested_result x)) ∙ sym (f_stripped nested_result))
      (shown_same J tape q number_q numbers numbers_q numbers_at_q ∙ sym (g_is (combined (outputs p) nested_result x)) ∙ sym (g_stripped nested_result)) ∙
      solution-fixed all_outputs nested_round mono_nested only_nested

  -- and so they are a fixed point
  numbers_fixed : both numbers ≡ numbers
  numbers_fixed =
      let to_p_is : to_p numbers ≡ combined (outputs q) nested_result x = sym (seen_by_p numbers) ∙ ap (λ s. combined (outputs q) s x) numbers_show in
      let to_q_is : to_q numbers ≡ combined (outputs p) nested_result x = sym (seen_by_q numbers) ∙ ap (λ s. combined (outputs p) s x) numbers_show in
      ap₂ (combined keys_p)
      (ap (λ y. part_step J tape p n b no_writers y numbers) to_p_is ∙
      part_step_agree J tape sig scope p typed.0 n b no_writers no_writers (combined (outputs q) nested_result x) (combined (outputs q) nested_result x) numbers numbers_p (λ c not_p k own. refl) numbers_at_p ∙
      solution-fixed keys_p (part_step J tape p n b no_writers (combined (outputs q) nested_result x)) (λ s s' h. part_step_grows J tape p n b no_writers _ _ s s' (LiesWithin-refl (combined (outputs q) nested_result x)) h) (WritesOnly-part_step J tape p n b no_writers (combined (outputs q) nested_result x)))
      (ap (λ y. part_step J tape q number_q bit_q no_writers y numbers) to_q_is ∙
      part_step_agree J tape sig scope q typed.1 number_q bit_q no_writers no_writers (combined (outputs p) nested_result x) (combined (outputs p) nested_result x) numbers numbers_q (λ c not_q k own. refl) numbers_at_q ∙
      solution-fixed keys_q (part_step J tape q number_q bit_q no_writers (combined (outputs p) nested_result x)) (λ s s' h. part_step_grows J tape q number_q bit_q no_writers _ _ s s' (LiesWithin-refl (combined (outputs p) nested_result x)) h) (WritesOnly-part_step J tape q number_q bit_q no_writers (combined (outputs p) nested_result x)))

  -- the flat rounds show no more than the nested ones write
  shown_within : LiesWithin (shown J tape (parallel p q) n result) nested_result
  shown_within =
      LiesWithin-trans _ _ _
      (LiesWithin-shown J tape (parallel p q) n result numbers (solution-least all_keys step mono_step (WritesOnly-part_step J tape (parallel p q) n b no_writers x) numbers (LiesWithin_equal _ _ (step_is_both numbers ∙ numbers_fixed))))
      (LiesWithin_equal _ _ numbers_show)

  -- two parts side by side
  alone-parallel : protocol_valuation J (parallel p q) (drop b tape) x ≡ shown J tape (parallel p q) n result
  alone-parallel = LiesWithin-antisym nested_result (shown J tape (parallel p q) n result) nested_within shown_within

-- ---- all parts

module _ (J : Interpretation) (tape : List Bool) (sig : Signature) where
  -- what a typed protocol writes is what its assignments alone show at its outputs
  protocol_valuation_shown : (p : Protocol) (scope : Scope) → IsTyped sig scope p → (n b : ℕ) (x : Valuation) → protocol_valuation J p (drop b tape) x ≡ shown J tape p n (alone J tape p n b x)
  protocol_valuation_shown nil scope typed n b x = refl
  protocol_valuation_shown (assignment c r) scope typed n b x = alone-assignment J tape c r n b x
  protocol_valuation_shown (parallel p q) scope typed n b x =
      alone-parallel J tape sig scope p q typed n b x
      (protocol_valuation_shown p scope typed.0 n b)
      (protocol_valuation_shown q scope typed.1 (n + assignment_count p) (b + coins p))
  protocol_valuation_shown (hiding c w p) scope typed n b x =
      alone-hiding J tape sig scope c w p typed n b x (protocol_valuation_shown p (scope_with c w scope) typed.1 n b (taken_out c x))

-- ---- the network

-- an element of the first list
slice_get-append_left : {X : Type 0} (xs ys : List X) (j : ℕ) → j < length xs → slice_get (xs ++ ys) j ≡ slice_get xs j
slice_get-append_left [] ys j h = absurd (omega arith)
slice_get-append_left (x ∷ xs) ys zero h = refl
slice_get-append_left (x ∷ xs) ys (suc j) h = slice_get-append_left xs ys j (omega arith)

-- an element of the second list
slice_get-append_right : {X : Type 0} (xs ys : List X) (j : ℕ) → slice_get (xs ++ ys) (length xs + j) ≡ slice_get ys j
slice_get-append_right [] ys j = let z : 0 + j ≡ j = omega arith in rw z
slice_get-append_right (x ∷ xs) ys j = let z : suc (length xs) + j ≡ suc (length xs + j) = omega arith in rw z (slice_get-append_right xs ys j)

-- a node for each assignment
length-nodes_from : (p : Protocol) (n b : ℕ) (writers : Writers) → length (nodes_from p n b writers) ≡ assignment_count p
length-nodes_from nil n b writers = refl
length-nodes_from (assignment c r) n b writers = refl
length-nodes_from (parallel p q) n b writers =
    length-append (nodes_from p n b (writers_within (parallel p q) n writers)) (nodes_from q (n + assignment_count p) (b + coins p) (writers_within (parallel p q) n writers)) ∙
    ap₂ (λ x y. x + y) (length-nodes_from p n b (writers_within (parallel p q) n writers)) (length-nodes_from q (n + assignment_count p) (b + coins p) (writers_within (parallel p q) n writers))
length-nodes_from (hiding c w p) n b writers = length-nodes_from p n b (writers_without c writers)

module _ (J : Interpretation) (tape : List Bool) where
  -- a number's value, looked up in both ways
  value_of_seen : (k : ℕ) (o : Option ℕ) (u : Valuation) → value_of k o (λ m. u (key m)) ≡ seen k o u None
  value_of_seen k None u = refl
  value_of_seen k (Some m) u = refl

  -- a step of a part by its nodes
  part_step_at : (p : Protocol) (n b : ℕ) (writers : Writers) (u : Valuation) (j : ℕ) → j < assignment_count p → part_step J tape p n b writers nothing u (key (n + j)) ≡ value_at J tape (n + j) (slice_get (nodes_from p n b writers) j) (λ m. u (key m))
  part_step_at nil n b writers u j h = absurd (omega arith)
  part_step_at (assignment c r) n b writers u zero h =
      let z : n + zero ≡ n = omega arith in
      rw z (if-true (same_channel (key n) (key n)) _ _ (same_channel-itself (key n)) ∙
      ap (λ i. outcome_value (reaction_outcome J r [] i (take (reaction_coins r) (drop b tape)))) (fun_ext (λ d. sym (value_of_seen n (writers_within (assignment c r) n writers d) u))))
  part_step_at (assignment c r) n b writers u (suc j) h = absurd (omega arith)
  part_step_at (parallel p q) n b writers u j h =
      go (cases_lt j (assignment_count p)) (λ k. part_step_at p n b inside u j k) (λ i k. part_step_at q (n + assignment_count p) (b + coins p) inside u i k)
    where
      inside : Writers
      inside = writers_within (parallel p q) n writers

      go : (j < assignment_count p) ⊎ (assignment_count p ≤ j) → (j < assignment_count p → part_step J tape p n b inside nothing u (key (n + j)) ≡ value_at J tape (n + j) (slice_get (nodes_from p n b inside) j) (λ m. u (key m))) →
          ((i : ℕ) → i < assignment_count q → part_step J tape q (n + assignment_count p) (b + coins p) inside nothing u (key (n + assignment_count p + i)) ≡ value_at J tape (n + assignment_count p + i) (slice_get (nodes_from q (n + assignment_count p) (b + coins p) inside) i) (λ m. u (key m))) →
          combined (keys n (assignment_count p)) (part_step J tape p n b inside nothing u) (part_step J tape q (n + assignment_count p) (b + coins p) inside nothing u) (key (n + j)) ≡ value_at J tape (n + j) (slice_get (nodes_from p n b inside ++ nodes_from q (n + assignment_count p) (b + coins p) inside) j) (λ m. u (key m))
      go (inl k) of_p of_q =
          let first = nodes_from p n b inside in
          let rest = nodes_from q (n + assignment_count p) (b + coins p) inside in
          if-true (has (keys n (assignment_count p)) (key (n + j))) _ _ (has-keys n (assignment_count p) (n + j) (omega arith) (omega arith)) ∙
          of_p k ∙
          ap (λ o. value_at J tape (n + j) o (λ m. u (key m))) (sym (slice_get-append_left first rest j (omega (arith, length-nodes_from p n b inside))))
      go (inr k) of_p of_q =
          let first = nodes_from p n b inside in
          let rest = nodes_from q (n + assignment_count p) (b + coins p) inside in
          let i = j - assignment_count p in
          let number : n + j ≡ n + assignment_count p + i = omega arith in
          let place : j ≡ length first + i = omega (arith, length-nodes_from p n b inside) in
          if-false (has (keys n (assignment_count p)) (key (n + j))) _ _ (has-keys_above n (assignment_count p) (n + j) (omega arith)) ∙
          ap (λ m. part_step J tape q (n + assignment_count p) (b + coins p) inside nothing u (key m)) number ∙
          of_q i (omega arith) ∙
          ap₂ (λ m o. value_at J tape m o (λ x. u (key x))) (sym number) (sym (ap (slice_get (first ++ rest)) place ∙ slice_get-append_right first rest i))
  part_step_at (hiding c w p) n b writers u j h = part_step_at p n b (writers_without c writers) u j h

  -- the rounds of a protocol's assignments are the flat rounds of its network
  after_rounds_flat : (p : Protocol) (n : ℕ) (k : ℕ) → after_rounds n (part_step J tape p 0 0 no_writers nothing) (key k) ≡ after_flat_rounds J (network p) tape n k
  after_rounds_flat p zero k = refl
  after_rounds_flat p (suc n) k = go (cases_lt k (assignment_count p)) (after_rounds_flat p n)
    where
      go : (k < assignment_count p) ⊎ (assignment_count p ≤ k) → ((m : ℕ) → after_rounds n (part_step J tape p 0 0 no_writers nothing) (key m) ≡ after_flat_rounds J (network p) tape n m) →
          part_step J tape p 0 0 no_writers nothing (after_rounds n (part_step J tape p 0 0 no_writers nothing)) (key k) ≡ flat_round J (network p) tape (after_flat_rounds J (network p) tape n) k
      go (inl h) before =
          let z : 0 + k ≡ k = omega arith in
          rw z at (part_step_at p 0 0 no_writers (after_rounds n (part_step J tape p 0 0 no_writers nothing)) k h) ∙
          ap (value_at J tape k (slice_get (network p) k)) (fun_ext before)
      go (inr h) before =
          WritesOnly-part_step J tape p 0 0 no_writers nothing (after_rounds n (part_step J tape p 0 0 no_writers nothing)) (key k) (has-keys_above 0 (assignment_count p) k (omega arith)) ∙
          sym (ap (λ o. value_at J tape k o (after_flat_rounds J (network p) tape n)) (slice_get_past (network p) k (omega (arith, length-nodes_from p 0 0 no_writers))))

  -- a typed protocol writes at its outputs what the flat rounds of its network write there
  pub flat_valuation_is_nested : (sig : Signature) (scope : Scope) (p : Protocol) → IsTyped sig scope p → protocol_valuation J p tape nothing ≡ flat_valuation J p tape
  flat_valuation_is_nested sig scope p typed =
      protocol_valuation_shown J tape sig p scope typed 0 0 nothing ∙ fun_ext (λ c. go (writer_number p 0 c))
    where
      go : (o : Option ℕ) → led_to J tape o (alone J tape p 0 0 nothing) ≡ written_by o (flat_written J (network p) tape)
      go None = refl
      go (Some m) =
          ap (λ n. after_rounds (suc n) (part_step J tape p 0 0 no_writers nothing) (key m)) (length-keys 0 (assignment_count p) ∙ sym (length-nodes_from p 0 0 no_writers)) ∙
          after_rounds_flat p (suc (length (network p))) m
