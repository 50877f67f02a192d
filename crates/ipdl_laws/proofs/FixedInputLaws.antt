-- Two protocols that no fixed inputs tell apart are told apart by a context that feeds an output back.
use Rattle.std.proofs.Common.{◌≡◌, ℕ, ◌+◌, ◌-◌, ◌*◌, ◌^◌, ◌≤◌, Bool, true, false, List, [], ◌∷◌, length, is_some, Option, Some, None, refl, sym, ap, ap₂, ◌∙◌, arith}
use Rattle.std.proofs.lemmas.Bool.Decides.{nat_tests}
use Rattle.std.specs.Prelude.{nat_eq, if◌then◌else◌}
use mathlib.Core.Path.{fun_ext}
use Rattle.ipdl_term.specs.Channels.{same_channel, has, SameSet, AreDisjoint, outputs, free_channels}
use Rattle.ipdl_term.specs.Contexts.{Closes, plugged}
use Rattle.ipdl_term.specs.Counts.{total, history_count}
use Rattle.ipdl_term.specs.Equality.{Equal}
use Rattle.ipdl_term.specs.Protocols.{protocol_valuation}
use Rattle.ipdl_term.specs.Terms.{Value, Channel, Protocol}
use Rattle.ipdl_term.specs.Valuations.{Valuation, nothing, all_taken_out}
use Rattle.ipdl_term.specs.Typing.{Typed}
use Rattle.ipdl_laws.specs.Alike.{FitsScope}
use Rattle.ipdl_laws.proofs.FurtherBits.{total_more}
use Rattle.ipdl_laws.proofs.Monotone.{WritesOnly-protocol_valuation}
use Rattle.ipdl_laws.proofs.ReadingLaws.{protocol_valuation_agree}
use Rattle.ipdl_laws.proofs.Structure.{protocol_valuation_stripped}
use Rattle.ipdl_term.specs.Worked.{a, b, k}
use Rattle.ipdl_laws.specs.FixedInputs.{in_turn, at_once, empty_values, a_and_b, input, all_empty, fed_back}
use Rattle.ipdl_laws.proofs.Sets.{by_test, not_both, at_same_channel}

-- the valuation with this value, or none, at the channel
abbrev with_value : Channel → Option Value → Valuation → Valuation
with_value c o p = λ d. if same_channel c d then o else p d

-- counts that are computed to be two numbers
pub unequal : (x y m n : ℕ) → x ≡ y → x ≡ m → y ≡ n → nat_eq m n ≡ false → ⊥
unequal x y m n e h k l = let same : m ≡ n = sym h ∙ e ∙ k in absurd (grind (arith, nat_tests))

-- the context that feeds a into i closes the interface
closed_fed_back : Closes [] empty_values a_and_b fed_back
closed_fed_back = (
  empty_values,
  (
    λ d v e. e,
    (0, refl, refl),
    λ d h. by_test (same_channel input d)
        (λ l. not_both (has a_and_b d) h (at_same_channel (λ z. has a_and_b z ≡ false) input d l refl))
        (λ l. rw l refl),
  ),
  λ d. by_test (same_channel input d)
      (λ l. at_same_channel (λ z. is_some (empty_values z) ≡ has (a ∷ b ∷ input ∷ []) z) input d l refl)
      (λ l. by_test (same_channel a d)
      (λ k. rw (l, k) refl)
      (λ k. by_test (same_channel b d) (λ j. rw (l, k, j) refl) (λ j. rw (l, k, j) refl))),
)

-- in it the two have different counts
pub told_apart : Closes [] empty_values a_and_b fed_back × (history_count [] (plugged fed_back in_turn) 1 all_empty ≡ 1) × (history_count [] (plugged fed_back at_once) 1 all_empty ≡ 0)
told_apart = (closed_fed_back, refl, refl)

pub in_turn_not_equal : Equal [] empty_values a_and_b in_turn at_once → ⊥
in_turn_not_equal equal =
    unequal _ _ 1 0 (equal.counts [] tt fed_back closed_fed_back 1 (omega arith) (omega arith) all_empty) refl refl refl

-- both are typed, so this is not for want of typing
pub in_turn_typed : Typed [] empty_values in_turn a_and_b × Typed [] empty_values at_once a_and_b
in_turn_typed = (
  record { typed = (omega arith, ((1, refl, (refl, omega arith)), ((0, refl, (refl, (refl, refl, refl))), (0, refl, (refl, (refl, refl, refl))), apart), apart_k), refl); writes = λ d. refl },
  record { typed = (omega arith, ((1, refl, (refl, omega arith)), ((0, refl, (refl, (refl, refl, refl))), (0, refl, (refl, (refl, refl, refl))), apart), apart_k), refl); writes = λ d. refl },
)
  where
    apart : AreDisjoint (a ∷ []) (b ∷ [])
    apart d h = by_test (same_channel b d)
        (λ l. not_both (has (a ∷ []) d) h (at_same_channel (λ z. has (a ∷ []) z ≡ false) b d l refl))
        (λ l. rw l refl)

    apart_k : AreDisjoint (k ∷ []) (a ∷ b ∷ [])
    apart_k d h = by_test (has (a ∷ b ∷ []) d)
        (λ e. by_test (same_channel k d)
        (λ l. not_both (has (a ∷ b ∷ []) d) e (at_same_channel (λ z. has (a ∷ b ∷ []) z ≡ false) k d l refl))
        (λ l. not_both (has (k ∷ []) d) h (rw l refl)))
        (λ e. e)

-- ---- fixed inputs

-- these values on a and b
abbrev on_a_and_b : Option Value → Option Value → Valuation
on_a_and_b x y = with_value a x (with_value b y nothing)

-- protocols that read input and write a and b
module _ (p : Protocol) (outs : SameSet (outputs p) a_and_b) (free : (d : Channel) → same_channel input d ≡ false → same_channel a d ≡ false → same_channel b d ≡ false → has (free_channels p) d ≡ false) where
  -- the value of input alone is seen
  sees_input : (t : List Bool) (inputs : Valuation) → protocol_valuation [] p t inputs ≡ protocol_valuation [] p t (with_value input (inputs input) nothing)
  sees_input t inputs =
      sym (protocol_valuation_stripped [] p t inputs) ∙
      ap (protocol_valuation [] p t) (fun_ext (λ d. if_same (has (outputs p) d) (has a_and_b d) None None (inputs d) (inputs d) (outs d))) ∙
      protocol_valuation_agree [] p t (all_taken_out a_and_b inputs) (with_value input (inputs input) nothing) (λ d h. by_test (same_channel input d)
      (λ l. at_same_channel (λ z. all_taken_out a_and_b inputs z ≡ with_value input (inputs input) nothing z) input d l refl)
      (λ l. by_test (same_channel a d)
      (λ k. at_same_channel (λ z. all_taken_out a_and_b inputs z ≡ with_value input (inputs input) nothing z) a d k refl)
      (λ k. by_test (same_channel b d)
      (λ j. at_same_channel (λ z. all_taken_out a_and_b inputs z ≡ with_value input (inputs input) nothing z) b d j refl)
      (λ j. not_both (has (free_channels p) d) h (free d l k j)))))
    where
      if_same : (b b' : Bool) (x x' y y' : Option Value) → b ≡ b' → (if b then x else y) ≡ (if b' then x else y)
      if_same b b' x x' y y' e = rw e refl

  -- the values on a and b are all that is written
  writes_both : (t : List Bool) (inputs : Valuation) (x y : Option Value) → protocol_valuation [] p t inputs a ≡ x → protocol_valuation [] p t inputs b ≡ y → protocol_valuation [] p t inputs ≡ on_a_and_b x y
  writes_both t inputs x y h l = fun_ext (λ d. by_test (same_channel a d)
      (λ e. at_same_channel (λ z. protocol_valuation [] p t inputs z ≡ on_a_and_b x y z) a d e h)
      (λ e. by_test (same_channel b d)
      (λ k. at_same_channel (λ z. protocol_valuation [] p t inputs z ≡ on_a_and_b x y z) b d k l)
      (λ k. WritesOnly-protocol_valuation [] p t inputs d (outs d ∙ rw (e, k) refl) ∙ rw (e, k) refl)))

  -- a total over tapes of one bit
  total_of_both : (inputs : Valuation) (weight : Valuation → ℕ) (o x y u v : Option Value) → inputs input ≡ o →
      protocol_valuation [] p (false ∷ []) (with_value input o nothing) a ≡ x → protocol_valuation [] p (false ∷ []) (with_value input o nothing) b ≡ y →
      protocol_valuation [] p (true ∷ []) (with_value input o nothing) a ≡ u → protocol_valuation [] p (true ∷ []) (with_value input o nothing) b ≡ v →
      total 1 (λ t. weight (protocol_valuation [] p t inputs)) ≡ weight (on_a_and_b x y) + weight (on_a_and_b u v)
  total_of_both inputs weight o x y u v e hx hy hu hv =
      ap₂ (λ i j. weight i + weight j)
      (sees_input (false ∷ []) inputs ∙ ap (λ z. protocol_valuation [] p (false ∷ []) (with_value input z nothing)) e ∙ writes_both (false ∷ []) (with_value input o nothing) x y hx hy)
      (sees_input (true ∷ []) inputs ∙ ap (λ z. protocol_valuation [] p (true ∷ []) (with_value input z nothing)) e ∙ writes_both (true ∷ []) (with_value input o nothing) u v hu hv)

-- with the values that a scope of empty values allows, on tapes of one bit
same_one_bit : (inputs : Valuation) (weight : Valuation → ℕ) (o : Option Value) → inputs input ≡ o → ((v : Value) → o ≡ Some v → length v ≡ 0) →
    total 1 (λ t. weight (protocol_valuation [] in_turn t inputs)) ≡ total 1 (λ t. weight (protocol_valuation [] at_once t inputs))
same_one_bit inputs weight None e fits =
    total_of_both in_turn (λ d. refl) (λ d l k j. rw (l, k, j) refl) inputs weight None None None (Some []) None e refl refl refl refl ∙
    sym (total_of_both at_once (λ d. refl) (λ d l k j. rw (l, k, j) refl) inputs weight None None None (Some []) None e refl refl refl refl)
same_one_bit inputs weight (Some []) e fits =
    total_of_both in_turn (λ d. refl) (λ d l k j. rw (l, k, j) refl) inputs weight (Some []) (Some []) None (Some []) (Some []) e refl refl refl refl ∙
    plus_comm _ _ ∙
    sym (total_of_both at_once (λ d. refl) (λ d l k j. rw (l, k, j) refl) inputs weight (Some []) (Some []) (Some []) (Some []) None e refl refl refl refl)
  where
    plus_comm : (x y : ℕ) → x + y ≡ y + x
    plus_comm x y = omega arith
same_one_bit inputs weight (Some (x ∷ v)) e fits = absurd (let h = fits (x ∷ v) refl in omega arith)

-- on all tapes that are long enough
pub same_for_fixed_inputs : (inputs : Valuation) → FitsScope empty_values inputs → (weight : Valuation → ℕ) (n : ℕ) → 1 ≤ n → total n (λ t. weight (protocol_valuation [] in_turn t inputs)) ≡ total n (λ t. weight (protocol_valuation [] at_once t inputs))
same_for_fixed_inputs inputs fits weight n h =
    let e : n ≡ 1 + (n - 1) = omega arith in
    ap (λ i. total i (λ t. weight (protocol_valuation [] in_turn t inputs))) e ∙
    total_more [] in_turn 1 (n - 1) (λ f. weight (f inputs)) (omega arith) ∙
    ap (λ x. 2 ^ (n - 1) * x) (same_one_bit inputs weight (inputs input) refl (λ v l. fits input v 0 l refl)) ∙
    sym (total_more [] at_once 1 (n - 1) (λ f. weight (f inputs)) (omega arith)) ∙
    sym (ap (λ i. total i (λ t. weight (protocol_valuation [] at_once t inputs))) e)
