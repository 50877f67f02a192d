-- Protocols of at most one output, and an assignment beside a hidden one.
use Rattle.std.proofs.Common.{◌≡◌, ◌≢◌, ℕ, ◌≤◌, Bool, true, false, ◌||◌, List, [], ◌∷◌, Option, Some, None, take, drop, refl, sym, ap, ◌∙◌}
use mathlib.Core.Path.{fun_ext}
use Rattle.ipdl_laws.proofs.Monotone.{WritesOnly-protocol_valuation, IsMonotone-protocol_valuation}
use Rattle.ipdl_laws.proofs.Order.{LiesWithin_equal, LiesWithin-trans, LiesWithin-nothing, LiesWithin-antisym, WritesOnly}
use Rattle.ipdl_laws.proofs.Sets.{by_test, if-true, if-false, not_both, same_channel-different, at_same_channel, same_channel-false_swap, has-single, has-without, has-without_same}
use Rattle.ipdl_laws.proofs.Solutions.{solution-fixed, solution-least}
use Rattle.ipdl_laws.proofs.Structure.{protocol_valuation-hiding}
use Rattle.ipdl_laws.proofs.Totals.{total_equal}
use Rattle.ipdl_laws.proofs.TwoAssignments.{with_value-none, two_assignments}
use Rattle.ipdl_laws.proofs.Widths.{FitsScope-nothing}
use Rattle.ipdl_laws.specs.Alike.{FitsScope, IsMonotone, Alike, loop_valuation}
use Rattle.ipdl_laws.specs.Assignments.{with_value, given_value}
use Rattle.ipdl_term.proofs.ChannelSets.{same_channel-itself, has-union}
use Rattle.ipdl_term.specs.Channels.{same_channel, has, union, SameSet, outputs}
use Rattle.ipdl_term.specs.Counts.{total}
use Rattle.ipdl_term.specs.Interpretations.{Interpretation}
use Rattle.ipdl_term.specs.Protocols.{coins, solution, protocol_valuation}
use Rattle.ipdl_term.specs.Reactions.{reaction_coins}
use Rattle.ipdl_term.specs.Terms.{Value, Channel, Reaction, Protocol, assignment, parallel, hiding}
use Rattle.ipdl_term.specs.Typing.{Scope}
use Rattle.ipdl_term.specs.Valuations.{Valuation, nothing, taken_out, all_taken_out}

-- of two assignments of which the second is hidden, the first is the one output
pub outputs-hidden_assignment : (o c : Channel) (w : ℕ) (k r : Reaction) → same_channel o c ≡ false → SameSet (outputs (hiding c w (parallel (assignment o k) (assignment c r)))) (o ∷ [])
outputs-hidden_assignment o c w k r apart d =
    let both = union (o ∷ []) (c ∷ []) in
    by_test (same_channel c d)
    (λ e. has-without_same c both d e ∙ sym (has-single o d ∙ at_same_channel (λ z. same_channel o z ≡ false) c d e apart))
    (λ e. has-without c both d e ∙ has-union (o ∷ []) (c ∷ []) d ∙ rw (has-single o d, has-single c d, e) (or_false (same_channel o d)))
  where
    or_false : (b : Bool) → (b || false) ≡ b
    or_false true = refl
    or_false false = refl

-- ---- one output

module _ (J : Interpretation) where
  module _ (p : Protocol) (o : Channel) (one : (d : Channel) → has (outputs p) d ≡ true → same_channel o d ≡ true) (response : Valuation → Valuation) (mono : IsMonotone response) (t : List Bool) where
    abbrev step : Valuation → Valuation
    step s = protocol_valuation J p t (response s)

    abbrev first : Valuation
    first = step nothing

    mono_step : IsMonotone step
    mono_step s s' h = IsMonotone-protocol_valuation J p t _ _ (mono s s' h)

    only_step : (s : Valuation) → WritesOnly (outputs p) (step s)
    only_step s = WritesOnly-protocol_valuation J p t (response s)

    apart : (d : Channel) → same_channel o d ≡ false → has (outputs p) d ≡ false
    apart d l = by_test (has (outputs p) d) (λ k. not_both (same_channel o d) (one d k) l) (λ k. k)

    nothing_first : first o ≡ None → first ≡ nothing
    nothing_first e = fun_ext (λ d. by_test (same_channel o d)
        (λ l. at_same_channel (λ x. first x ≡ None) o d l e)
        (λ l. only_step nothing d (apart d l)))

    -- the second round writes what the first has written
    stays : (x : Option Value) → first o ≡ x → step first o ≡ x
    stays None e = ap (λ s. step s o) (nothing_first e) ∙ e
    stays (Some u) e = mono_step nothing first (LiesWithin-nothing first) o u e

    first-fixed : step first ≡ first
    first-fixed = fun_ext (λ d. by_test (same_channel o d)
        (λ l. at_same_channel (λ x. step first x ≡ first x) o d l (stays (first o) refl))
        (λ l. only_step first d (apart d l) ∙ sym (only_step nothing d (apart d l))))

    -- a protocol of one output sees what is around it before it writes
    pub loop_of_one_output : loop_valuation J p t response ≡ first
    loop_of_one_output =
        LiesWithin-antisym _ _
        (solution-least (outputs p) step mono_step only_step first (LiesWithin_equal _ _ first-fixed))
        (LiesWithin-trans _ _ _ (mono_step nothing (solution (outputs p) step) (LiesWithin-nothing _)) (LiesWithin_equal _ _ (solution-fixed (outputs p) step mono_step only_step)))

  -- protocols of one output are alike if no fixed inputs tell them apart
  pub alike_of_one_output : (scope : Scope) (p q : Protocol) (o : Channel) → ((d : Channel) → has (outputs p) d ≡ true → same_channel o d ≡ true) → SameSet (outputs p) (outputs q) →
      ((inputs : Valuation) → FitsScope scope inputs → (weight : Valuation → ℕ) (n : ℕ) → coins p ≤ n → coins q ≤ n → total n (λ t. weight (protocol_valuation J p t inputs)) ≡ total n (λ t. weight (protocol_valuation J q t inputs))) →
      Alike J scope p q
  alike_of_one_output scope p q o one outs same = record {
    same_outputs = outs;
    totals = λ response is_response weight n hp hq.
        total_equal n _ _ (λ t e. ap weight (loop_of_one_output p o one response is_response.monotone t)) ∙
        same (response nothing) (is_response.keeps nothing (FitsScope-nothing scope)) weight n hp hq ∙
        sym (total_equal n _ _ (λ t e. ap weight (loop_of_one_output q o (λ d h. one d (outs d ∙ h)) response is_response.monotone t)));
  }

  -- ---- a hidden assignment beside another one

  -- what is around both assignments, where one of them is hidden
  around_both : (o c : Channel) (inputs : Valuation) → all_taken_out (o ∷ c ∷ []) (taken_out c inputs) ≡ taken_out c (all_taken_out (o ∷ []) inputs)
  around_both o c inputs = fun_ext (λ d. by_test (same_channel o d)
      (λ e. by_test (same_channel c d) (λ l. rw (e, l) refl) (λ l. rw (e, l) refl))
      (λ e. by_test (same_channel c d) (λ l. rw (e, l) refl) (λ l. rw (e, l) refl)))

  -- what both write, without the second
  both_without : (o c : Channel) → same_channel o c ≡ false → (x y : Option Value) → taken_out c (with_value o x (with_value c y nothing)) ≡ with_value o x nothing
  both_without o c apart x y = fun_ext (λ d. by_test (same_channel c d)
      (λ e. let l : same_channel o d ≡ false = at_same_channel (λ z. same_channel o z ≡ false) c d e apart in rw (e, l) refl)
      (λ e. rw e refl))

  -- an assignment beside a hidden one that it reads sees what that one gives without it
  pub beside_hidden_assignment : (o c : Channel) (w : ℕ) (k r : Reaction) (t : List Bool) (inputs : Valuation) → o ≢ c →
      let around = taken_out c (all_taken_out (o ∷ []) inputs) in
      protocol_valuation J (hiding c w (parallel (assignment o k) (assignment c r))) t inputs ≡
      with_value o (given_value J k (take (reaction_coins k) t) (with_value c (given_value J r (drop (reaction_coins k) t) around) around)) nothing
  beside_hidden_assignment o c w k r t inputs differ =
      let apart = same_channel-different o c differ in
      let around : Valuation = taken_out c (all_taken_out (o ∷ []) inputs) in
      let unseen : around o ≡ None = if-false (same_channel c o) _ _ (same_channel-false_swap o c apart) ∙ if-true (has (o ∷ []) o) _ _ (has-single o o ∙ same_channel-itself o) in
      let first : Valuation → Option Value → Option Value = λ z x. given_value J k (take (reaction_coins k) t) (with_value c x z) in
      let second : Valuation → Option Value → Option Value = λ z x. given_value J r (drop (reaction_coins k) t) (with_value o x z) in
      protocol_valuation-hiding J c w (parallel (assignment o k) (assignment c r)) t inputs ∙
      ap (taken_out c) (two_assignments J o c k r t (taken_out c inputs) differ ∙ ap (λ z. with_value o (first z (second z None)) (with_value c (second z (first z None)) nothing)) (around_both o c inputs)) ∙
      both_without o c apart _ _ ∙
      ap (λ z. with_value o (first around (given_value J r (drop (reaction_coins k) t) z)) nothing) (with_value-none o around unseen)
