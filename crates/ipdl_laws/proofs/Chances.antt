-- The chance of a reaction: its total over its own coins, by its parts, without a tape.
use Rattle.std.proofs.Common.{◌≡◌, ℕ, ◌+◌, ◌-◌, ◌*◌, ◌^◌, ◌≤◌, max, Bool, true, false, List, [], ◌∷◌, ◌++◌, length, Option, Some, None, refl, ap, ap₂, ◌∙◌, subst, arith, pow-add}
use mathlib.Core.Path.{fun_ext}
use Rattle.ipdl_term.specs.Counts.{total}
use Rattle.ipdl_term.specs.Interpretations.{Interpretation, chosen, evaluation}
use Rattle.ipdl_term.specs.Reactions.{outcome_value, Outcome, with_bit, first_bits, with_tape, continued, reaction_outcome, reaction_coins}
use Rattle.ipdl_term.specs.Terms.{Value, Reaction, returning, flipping, reading, branching, binding}
use Rattle.ipdl_term.specs.Valuations.{Valuation}
use Rattle.ipdl_laws.specs.ReactionTotals.{Weight, reaction_total, weight_by}
use Rattle.ipdl_laws.proofs.Totals.{total_equal, total-scale, total-const, total_append}

-- where the first part is stuck so is the whole, on each of the 2 ^ n tapes of the second part
abbrev pub chance_then : ℕ → Weight → (Value → ℕ) → Weight
chance_then n weight next = weight_by (2 ^ n * weight None) next

module _ (J : Interpretation) where
  -- the total of the weight over the reaction's own coins
  abbrev pub chance : Reaction → List Value → Valuation → Weight → ℕ
  chance (returning e) env inputs weight = weight (Some (evaluation J env e))
  chance (flipping w) env inputs weight = total w (λ u. weight (Some u))
  chance (reading c) env inputs weight = weight (inputs c)
  chance (branching e r s) env inputs weight =
      let n = max (reaction_coins r) (reaction_coins s) in
      chosen (evaluation J env e) (2 ^ (n - reaction_coins r) * chance r env inputs weight) (2 ^ (n - reaction_coins s) * chance s env inputs weight) (2 ^ (n - reaction_coins s) * chance s env inputs weight)
  chance (binding w r s) env inputs weight =
      chance r env inputs (chance_then (reaction_coins s) weight (λ v. chance s (v ∷ env) inputs weight))

  -- ---- from tapes to chances

  -- the first bits, where the tape begins with so many
  pub first_bits_of_append : (u t : List Bool) → first_bits (length u) (u ++ t) ≡ Some (u, t)
  first_bits_of_append [] t = refl
  first_bits_of_append (b ∷ u) t = ap (with_bit b) (first_bits_of_append u t)

  -- a test of outcomes that weighs each value by the tapes of n bits, and more, that may follow
  record Weighs (n : ℕ) (test : Outcome → ℕ) (weight : Weight) : Type 0 where
    pub given : (v : Value) (j : ℕ) → total (n + j) (λ rest. test (Some (v, rest))) ≡ 2 ^ j * weight (Some v)
    pub stuck : 2 ^ n * test None ≡ weight None

  -- stuck on each tape
  total_stuck : (n j : ℕ) (test : Outcome → ℕ) (weight : Weight) → Weighs n test weight → total (n + j) (λ t. test None) ≡ 2 ^ j * weight None
  total_stuck n j test weight h = total-const (n + j) (test None) ∙ rw (pow-add 2 n j, ← h.stuck) (omega arith)

  -- a value with each tape
  total-with_tape : (o : Option Value) (n j : ℕ) (test : Outcome → ℕ) (weight : Weight) → Weighs n test weight → total (n + j) (λ t. test (with_tape o t)) ≡ 2 ^ j * weight o
  total-with_tape None n j test weight h = total_stuck n j test weight h
  total-with_tape (Some v) n j test weight h = h.given v j

  -- an arm of fewer coins than the whole
  total_arm : (c m n j : ℕ) (f : List Bool → ℕ) (x : ℕ) → c ≤ m → ((i : ℕ) → total (c + (n + i)) f ≡ 2 ^ i * x) → total (m + (n + j)) f ≡ 2 ^ j * (2 ^ (m - c) * x)
  total_arm c m n j f x le h =
      let e : m + (n + j) ≡ c + (n + ((m - c) + j)) = omega arith in
      rw e (h ((m - c) + j) ∙ rw (pow-add 2 (m - c) j) (omega arith))

  -- one of two outcomes on each tape
  pub total-chosen : (v : Value) (n : ℕ) (a b : List Bool → Outcome) (test : Outcome → ℕ) (x y : ℕ) → total n (λ t. test (a t)) ≡ x → total n (λ t. test (b t)) ≡ y → total n (λ t. test (chosen v (a t) (b t) (b t))) ≡ chosen v x y y
  total-chosen [] n a b test x y h k = k
  total-chosen (true ∷ []) n a b test x y h k = h
  total-chosen (false ∷ []) n a b test x y h k = k
  total-chosen (c ∷ d ∷ bits) n a b test x y h k = k

  -- a function of the chosen one
  chosen_map : (f : ℕ → ℕ) (v : Value) (x y : ℕ) → chosen v (f x) (f y) (f y) ≡ f (chosen v x y y)
  chosen_map f [] x y = refl
  chosen_map f (true ∷ []) x y = refl
  chosen_map f (false ∷ []) x y = refl
  chosen_map f (c ∷ d ∷ bits) x y = refl

  -- the total of a test over tapes that are long enough
  total-reaction_outcome : (r : Reaction) (env : List Value) (inputs : Valuation) (n : ℕ) (test : Outcome → ℕ) (weight : Weight) → Weighs n test weight → (j : ℕ) → total (reaction_coins r + (n + j)) (λ t. test (reaction_outcome J r env inputs t)) ≡ 2 ^ j * chance r env inputs weight
  total-reaction_outcome (returning e) env inputs n test weight h j = let z : 0 + (n + j) ≡ n + j = omega arith in rw z (h.given (evaluation J env e) j)
  total-reaction_outcome (flipping w) env inputs n test weight h j =
      total_append w (n + j) (λ t. test (first_bits w t)) ∙
      total_equal w _ (λ u. 2 ^ j * weight (Some u)) (λ u e. total_equal (n + j) _ _ (λ t k. ap test (subst (λ i. first_bits i (u ++ t) ≡ Some (u, t)) e (first_bits_of_append u t))) ∙ h.given u j) ∙
      total-scale w (2 ^ j) (λ u. weight (Some u))
  total-reaction_outcome (reading c) env inputs n test weight h j = let z : 0 + (n + j) ≡ n + j = omega arith in rw z (total-with_tape (inputs c) n j test weight h)
  total-reaction_outcome (branching e r s) env inputs n test weight h j =
      let m = max (reaction_coins r) (reaction_coins s) in
      let x = total_arm (reaction_coins r) m n j (λ t. test (reaction_outcome J r env inputs t)) (chance r env inputs weight) (omega arith) (total-reaction_outcome r env inputs n test weight h) in
      let y = total_arm (reaction_coins s) m n j (λ t. test (reaction_outcome J s env inputs t)) (chance s env inputs weight) (omega arith) (total-reaction_outcome s env inputs n test weight h) in
      total-chosen (evaluation J env e) (m + (n + j)) (λ t. reaction_outcome J r env inputs t) (λ t. reaction_outcome J s env inputs t) test _ _ x y ∙ chosen_map (λ x. 2 ^ j * x) (evaluation J env e) _ _
  total-reaction_outcome (binding w r s) env inputs n test weight h j =
      let next : Value → List Bool → Outcome = λ v rest. reaction_outcome J s (v ∷ env) inputs rest in
      let k : Weighs (reaction_coins s + n) (λ o. test (continued o next)) (chance_then (reaction_coins s) weight (λ v. chance s (v ∷ env) inputs weight)) =
      record {
        given = λ v i. let e : reaction_coins s + n + i ≡ reaction_coins s + (n + i) = omega arith in rw e (total-reaction_outcome s (v ∷ env) inputs n test weight h i);
        stuck = rw (pow-add 2 (reaction_coins s) n, ← h.stuck) (omega arith);
      } in
      let e : reaction_coins r + reaction_coins s + (n + j) ≡ reaction_coins r + (reaction_coins s + n + j) = omega arith in
      rw e (total-reaction_outcome r env inputs (reaction_coins s + n) (λ o. test (continued o next)) _ k j)

  -- the total of a reaction over its coins and j bits more
  total_is_chance : (r : Reaction) (env : List Value) (inputs : Valuation) (weight : Weight) (j : ℕ) → reaction_total J r env inputs (reaction_coins r + j) weight ≡ 2 ^ j * chance r env inputs weight
  total_is_chance r env inputs weight j =
      let z : 0 + j ≡ j = omega arith in
      let h : Weighs 0 (λ o. weight (outcome_value o)) weight = record {
        given = λ v i. let z : 0 + i ≡ i = omega arith in rw z (total-const i (weight (Some v)));
        stuck = omega arith;
      } in
      rw z at (total-reaction_outcome r env inputs 0 (λ o. weight (outcome_value o)) weight h j)

  -- the total of a reaction over n bits, which are enough
  pub reaction_total-chance : (r : Reaction) (env : List Value) (inputs : Valuation) (weight : Weight) (n : ℕ) → reaction_coins r ≤ n → reaction_total J r env inputs n weight ≡ 2 ^ (n - reaction_coins r) * chance r env inputs weight
  reaction_total-chance r env inputs weight n h =
      let e : n ≡ reaction_coins r + (n - reaction_coins r) = omega arith in
      ap (λ m. reaction_total J r env inputs m weight) e ∙ total_is_chance r env inputs weight (n - reaction_coins r)

  -- ---- laws of chances

  -- equal weights
  pub chance_equal : (r : Reaction) (env : List Value) (inputs : Valuation) (f g : Weight) → ((o : Option Value) → f o ≡ g o) → chance r env inputs f ≡ chance r env inputs g
  chance_equal r env inputs f g h = ap (chance r env inputs) (fun_ext h)

  -- multiples behind a first part
  chance_then-scale : (n k : ℕ) (f : Weight) (l : Value → ℕ) (o : Option Value) → chance_then n (λ o. k * f o) (λ v. k * l v) o ≡ k * chance_then n f l o
  chance_then-scale n k f l None = omega arith
  chance_then-scale n k f l (Some v) = refl

  -- multiples of a weight
  pub chance-scale : (r : Reaction) (env : List Value) (inputs : Valuation) (k : ℕ) (f : Weight) → chance r env inputs (λ o. k * f o) ≡ k * chance r env inputs f
  chance-scale (returning e) env inputs k f = refl
  chance-scale (flipping w) env inputs k f = total-scale w k (λ u. f (Some u))
  chance-scale (reading c) env inputs k f = refl
  chance-scale (branching e r s) env inputs k f =
      let n = max (reaction_coins r) (reaction_coins s) in
      rw (chance-scale r env inputs k f, chance-scale s env inputs k f)
      (ap₂ (λ x y. chosen (evaluation J env e) x y y) (moved (2 ^ (n - reaction_coins r)) _) (moved (2 ^ (n - reaction_coins s)) _) ∙ chosen_map (λ x. k * x) (evaluation J env e) _ _)
    where
      moved : (a x : ℕ) → a * (k * x) ≡ k * (a * x)
      moved a x = omega arith
  chance-scale (binding w r s) env inputs k f =
      chance_equal r env inputs _ _ (λ o. ap (λ l. chance_then (reaction_coins s) (λ o. k * f o) l o) (fun_ext (λ v. chance-scale s (v ∷ env) inputs k f)) ∙ chance_then-scale (reaction_coins s) k f _ o) ∙
      chance-scale r env inputs k _
