-- Bits past a term's coins are not looked at, and so each further bit doubles a total.
use Rattle.std.proofs.Common.{◌≡◌, ℕ, zero, suc, ◌+◌, ◌-◌, ◌*◌, ◌^◌, ◌<◌, ◌≤◌, ◌⊎◌, inl, inr, max, Bool, true, false, List, [], ◌∷◌, ◌++◌, length, Option, Some, None, take, drop, refl, sym, ap, ◌∙◌, arith, pow-add}
use Rattle.std.proofs.lemmas.Bool.{cases_lt}
use Rattle.std.proofs.lemmas.List.{take-append-drop, length-take, length-drop, length-take-le, take_all, take-append-le, drop-append-le}
use mathlib.Core.Path.{fun_ext}
use Rattle.ipdl_term.specs.Channels.{outputs}
use Rattle.ipdl_term.specs.Counts.{total, one_if, History, is_history, history_count}
use Rattle.ipdl_term.specs.Interpretations.{Interpretation, chosen, evaluation}
use Rattle.ipdl_term.specs.Protocols.{coins, written, protocol_valuation}
use Rattle.ipdl_term.specs.Reactions.{outcome_value, Outcome, with_bit, first_bits, with_tape, continued, reaction_outcome, reaction_coins}
use Rattle.ipdl_term.specs.Terms.{Value, Channel, Reaction, returning, flipping, reading, branching, binding, Protocol, nil, assignment, parallel, hiding}
use Rattle.ipdl_term.specs.Valuations.{Valuation, nothing, all_taken_out}
use Rattle.ipdl_laws.proofs.Totals.{total_equal, total-scale, total-const, total_append}

-- the same outcome with more bits left
abbrev with_longer_rest : List Bool → Outcome → Outcome
with_longer_rest x None = None
with_longer_rest x (Some o) = Some (o.0, o.1 ++ x)

-- the first bits of a tape that goes on
first_bits-append : (w : ℕ) (t x : List Bool) → w ≤ length t → first_bits w (t ++ x) ≡ with_longer_rest x (first_bits w t)
first_bits-append zero t x h = refl
first_bits-append (suc w) [] x h = absurd (omega arith)
first_bits-append (suc w) (b ∷ t) x h = ap (with_bit b) (first_bits-append w t x (omega arith)) ∙ go (first_bits w t)
  where
    go : (o : Outcome) → with_bit b (with_longer_rest x o) ≡ with_longer_rest x (with_bit b o)
    go None = refl
    go (Some o) = refl

-- a value with a tape that goes on
with_tape-append : (o : Option Value) (t x : List Bool) → with_tape o (t ++ x) ≡ with_longer_rest x (with_tape o t)
with_tape-append None t x = refl
with_tape-append (Some v) t x = refl

-- one of outcomes on a tape that goes on
chosen-with_longer_rest : (v : Value) (x : List Bool) (a b a' b' : Outcome) → a' ≡ with_longer_rest x a → b' ≡ with_longer_rest x b → chosen v a' b' b' ≡ with_longer_rest x (chosen v a b b)
chosen-with_longer_rest [] x a b a' b' h k = k
chosen-with_longer_rest (true ∷ []) x a b a' b' h k = h
chosen-with_longer_rest (false ∷ []) x a b a' b' h k = k
chosen-with_longer_rest (c ∷ d ∷ bits) x a b a' b' h k = k

-- at most so many bits of the tape are taken, unless the outcome is stuck
abbrev TakesAtMost : ℕ → List Bool → Outcome → Type 0
TakesAtMost n t None = Unit {0}
TakesAtMost n t (Some o) = length t ≤ length o.1 + n

-- the first bits are so many
TakesAtMost-first_bits : (w : ℕ) (t : List Bool) → TakesAtMost w t (first_bits w t)
TakesAtMost-first_bits zero t = omega arith
TakesAtMost-first_bits (suc w) [] = tt
TakesAtMost-first_bits (suc w) (b ∷ t) = go (first_bits w t) (TakesAtMost-first_bits w t)
  where
    go : (o : Outcome) → TakesAtMost w t o → TakesAtMost (suc w) (b ∷ t) (with_bit b o)
    go None h = tt
    go (Some o) h = omega arith

-- a value takes none
TakesAtMost-with_tape : (o : Option Value) (t : List Bool) → TakesAtMost 0 t (with_tape o t)
TakesAtMost-with_tape None t = tt
TakesAtMost-with_tape (Some v) t = omega arith

-- a larger bound
TakesAtMost_more : (m n : ℕ) (t : List Bool) (o : Outcome) → m ≤ n → TakesAtMost m t o → TakesAtMost n t o
TakesAtMost_more m n t None h k = tt
TakesAtMost_more m n t (Some o) h k = omega arith

-- one of outcomes
TakesAtMost-chosen : (v : Value) (n : ℕ) (t : List Bool) (a b : Outcome) → TakesAtMost n t a → TakesAtMost n t b → TakesAtMost n t (chosen v a b b)
TakesAtMost-chosen [] n t a b h k = k
TakesAtMost-chosen (true ∷ []) n t a b h k = h
TakesAtMost-chosen (false ∷ []) n t a b h k = k
TakesAtMost-chosen (c ∷ d ∷ bits) n t a b h k = k

-- what goes on takes the sum at most
TakesAtMost_twice : (m n : ℕ) (t u : List Bool) (o : Outcome) → length t ≤ length u + m → TakesAtMost n u o → TakesAtMost (m + n) t o
TakesAtMost_twice m n t u None h k = tt
TakesAtMost_twice m n t u (Some o) h k = omega arith

module _ (J : Interpretation) where
  -- a reaction takes its coins at most
  TakesAtMost-reaction_outcome : (r : Reaction) (env : List Value) (inputs : Valuation) (t : List Bool) → TakesAtMost (reaction_coins r) t (reaction_outcome J r env inputs t)
  TakesAtMost-reaction_outcome (returning e) env inputs t = omega arith
  TakesAtMost-reaction_outcome (flipping w) env inputs t = TakesAtMost-first_bits w t
  TakesAtMost-reaction_outcome (reading c) env inputs t = TakesAtMost-with_tape (inputs c) t
  TakesAtMost-reaction_outcome (branching e r s) env inputs t =
      let m = max (reaction_coins r) (reaction_coins s) in
      TakesAtMost-chosen (evaluation J env e) m t _ _
      (TakesAtMost_more (reaction_coins r) m t _ (omega arith) (TakesAtMost-reaction_outcome r env inputs t))
      (TakesAtMost_more (reaction_coins s) m t _ (omega arith) (TakesAtMost-reaction_outcome s env inputs t))
  TakesAtMost-reaction_outcome (binding w r s) env inputs t =
      go (reaction_outcome J r env inputs t) (TakesAtMost-reaction_outcome r env inputs t) (λ v u. TakesAtMost-reaction_outcome s (v ∷ env) inputs u)
    where
      go : (o : Outcome) → TakesAtMost (reaction_coins r) t o → ((v : Value) (u : List Bool) → TakesAtMost (reaction_coins s) u (reaction_outcome J s (v ∷ env) inputs u)) → TakesAtMost (reaction_coins r + reaction_coins s) t (continued o (λ v rest. reaction_outcome J s (v ∷ env) inputs rest))
      go None h k = tt
      go (Some o) h k = TakesAtMost_twice (reaction_coins r) (reaction_coins s) t o.1 _ h (k o.0 o.1)

  -- a reaction on a tape that goes on past its coins
  pub reaction_outcome-append : (r : Reaction) (env : List Value) (inputs : Valuation) (t x : List Bool) → reaction_coins r ≤ length t → reaction_outcome J r env inputs (t ++ x) ≡ with_longer_rest x (reaction_outcome J r env inputs t)
  reaction_outcome-append (returning e) env inputs t x h = refl
  reaction_outcome-append (flipping w) env inputs t x h = first_bits-append w t x h
  reaction_outcome-append (reading c) env inputs t x h = with_tape-append (inputs c) t x
  reaction_outcome-append (branching e r s) env inputs t x h =
      chosen-with_longer_rest (evaluation J env e) x _ _ _ _ (reaction_outcome-append r env inputs t x (omega arith)) (reaction_outcome-append s env inputs t x (omega arith))
  reaction_outcome-append (binding w r s) env inputs t x h =
      rw (reaction_outcome-append r env inputs t x (omega arith)) (go (reaction_outcome J r env inputs t) (TakesAtMost-reaction_outcome r env inputs t) (λ v u k. reaction_outcome-append s (v ∷ env) inputs u x k))
    where
      go : (o : Outcome) → TakesAtMost (reaction_coins r) t o → ((v : Value) (u : List Bool) → reaction_coins s ≤ length u → reaction_outcome J s (v ∷ env) inputs (u ++ x) ≡ with_longer_rest x (reaction_outcome J s (v ∷ env) inputs u)) →
          continued (with_longer_rest x o) (λ v rest. reaction_outcome J s (v ∷ env) inputs rest) ≡ with_longer_rest x (continued o (λ v rest. reaction_outcome J s (v ∷ env) inputs rest))
      go None l k = refl
      go (Some o) l k = k o.0 o.1 (omega arith)

  -- the value alone does not see what goes on
  written-with_longer_rest : (c : Channel) (x : List Bool) (o : Outcome) → written c (with_longer_rest x o) ≡ written c o
  written-with_longer_rest c x None = refl
  written-with_longer_rest c x (Some o) = refl

  -- a protocol on a tape that goes on past its coins
  pub protocol_valuation-append : (p : Protocol) (t x : List Bool) → coins p ≤ length t → protocol_valuation J p (t ++ x) ≡ protocol_valuation J p t
  protocol_valuation-append nil t x h = refl
  protocol_valuation-append (assignment c r) t x h =
      fun_ext (λ inputs. rw (reaction_outcome-append r [] (all_taken_out (outputs (assignment c r)) inputs) t x h) (written-with_longer_rest c x _))
  protocol_valuation-append (parallel p q) t x h =
      let first : take (coins p) (t ++ x) ≡ take (coins p) t = take-append-le (coins p) t x (omega arith) in
      let rest : drop (coins p) (t ++ x) ≡ drop (coins p) t ++ x = drop-append-le (coins p) t x (omega arith) in
      fun_ext (λ inputs. rw (first, rest, protocol_valuation-append q (drop (coins p) t) x (omega (arith, length-drop (coins p) t))))
  protocol_valuation-append (hiding c w p) t x h = fun_ext (λ inputs. rw (protocol_valuation-append p t x h))

  -- a protocol looks at the bits of its coins alone
  pub protocol_valuation-take : (p : Protocol) (n : ℕ) (t : List Bool) → coins p ≤ n → coins p ≤ length t → protocol_valuation J p (take n t) ≡ protocol_valuation J p t
  protocol_valuation-take p n t h k =
      sym (protocol_valuation-append p (take n t) (drop n t) (omega (arith, length-take n t))) ∙ ap (protocol_valuation J p) (take-append-drop n t)

  -- a total over longer tapes, of what depends on the protocol's valuation alone
  pub total-protocol_valuation : (p : Protocol) (j : ℕ) (weight : (Valuation → Valuation) → ℕ) → total (coins p + j) (λ t. weight (protocol_valuation J p t)) ≡ 2 ^ j * total (coins p) (λ t. weight (protocol_valuation J p t))
  total-protocol_valuation p j weight =
      total_append (coins p) j _ ∙
      total_equal (coins p) _ (λ u. 2 ^ j * weight (protocol_valuation J p u)) (λ u e. total_equal j _ (λ t. weight (protocol_valuation J p u)) (λ t k. ap weight (protocol_valuation-append p u t (omega arith))) ∙ total-const j (weight (protocol_valuation J p u))) ∙
      total-scale (coins p) (2 ^ j) (λ u. weight (protocol_valuation J p u))

  -- a power that is split
  regrouped : (j k x : ℕ) → 2 ^ (j + k) * x ≡ 2 ^ k * (2 ^ j * x)
  regrouped j k x = rw (pow-add 2 j k) (omega arith)

  -- k bits more than n, which are enough
  pub total_more : (p : Protocol) (n k : ℕ) (weight : (Valuation → Valuation) → ℕ) → coins p ≤ n → total (n + k) (λ t. weight (protocol_valuation J p t)) ≡ 2 ^ k * total n (λ t. weight (protocol_valuation J p t))
  total_more p n k weight h =
      let j = n - coins p in
      let more : n + k ≡ coins p + (j + k) = omega arith in
      let enough : n ≡ coins p + j = omega arith in
      let f : List Bool → ℕ = λ t. weight (protocol_valuation J p t) in
      ap (λ m. total m f) more ∙ total-protocol_valuation p (j + k) weight ∙
      regrouped j k (total (coins p) f) ∙
      ap (λ x. 2 ^ k * x) (sym (total-protocol_valuation p j weight) ∙ sym (ap (λ m. total m f) enough))

  -- one bit more
  pub total_doubles : (p : Protocol) (n : ℕ) (weight : (Valuation → Valuation) → ℕ) → coins p ≤ n → total (n + 1) (λ t. weight (protocol_valuation J p t)) ≡ 2 * total n (λ t. weight (protocol_valuation J p t))
  total_doubles p n weight h = let two : 2 ^ 1 ≡ 2 = refl in rw (← two) (total_more p n 1 weight h)

  -- each bit past the coins doubles a count
  pub history_count_more : (p : Protocol) (n k : ℕ) (h : History) → coins p ≤ n → history_count J p (n + k) h ≡ 2 ^ k * history_count J p n h
  history_count_more p n k h enough = total_more p n k (λ f. one_if (is_history (outputs p) h (f nothing))) enough

  -- one bit more doubles a count
  pub history_count_doubles : (p : Protocol) (n : ℕ) (h : History) → coins p ≤ n → history_count J p (n + 1) h ≡ 2 * history_count J p n h
  history_count_doubles p n h enough = total_doubles p n (λ f. one_if (is_history (outputs p) h (f nothing))) enough

-- the value alone does not see what goes on
outcome_value-with_longer_rest : (x : List Bool) (o : Outcome) → outcome_value (with_longer_rest x o) ≡ outcome_value o
outcome_value-with_longer_rest x None = refl
outcome_value-with_longer_rest x (Some o) = refl

module _ (J : Interpretation) where
  -- the bits of a reaction's coins give its value
  pub outcome_value_of_coins : (r : Reaction) (env : List Value) (inputs : Valuation) (t : List Bool) → outcome_value (reaction_outcome J r env inputs (take (reaction_coins r) t)) ≡ outcome_value (reaction_outcome J r env inputs t)
  outcome_value_of_coins r env inputs t = go (cases_lt (length t) (reaction_coins r))
    where
      go : (length t < reaction_coins r) ⊎ (reaction_coins r ≤ length t) → outcome_value (reaction_outcome J r env inputs (take (reaction_coins r) t)) ≡ outcome_value (reaction_outcome J r env inputs t)
      go (inl h) = ap (λ u. outcome_value (reaction_outcome J r env inputs u)) (take_all (reaction_coins r) t (omega arith))
      go (inr h) =
          sym (ap (λ u. outcome_value (reaction_outcome J r env inputs u)) (sym (take-append-drop (reaction_coins r) t)) ∙
          ap outcome_value (reaction_outcome-append J r env inputs (take (reaction_coins r) t) (drop (reaction_coins r) t) (omega (arith, length-take-le (reaction_coins r) t h))) ∙
          outcome_value-with_longer_rest (drop (reaction_coins r) t) (reaction_outcome J r env inputs (take (reaction_coins r) t)))

  -- the bits of a protocol's coins give what it writes
  pub protocol_valuation_of_coins : (p : Protocol) (t : List Bool) → protocol_valuation J p (take (coins p) t) ≡ protocol_valuation J p t
  protocol_valuation_of_coins p t = go (cases_lt (length t) (coins p))
    where
      go : (length t < coins p) ⊎ (coins p ≤ length t) → protocol_valuation J p (take (coins p) t) ≡ protocol_valuation J p t
      go (inl h) = ap (protocol_valuation J p) (take_all (coins p) t (omega arith))
      go (inr h) = protocol_valuation-take J p (coins p) t (omega arith) h
