-- The reaction of a hidden assignment in the place of the only read of its channel.
use Rattle.std.proofs.Common.{◌≡◌, ◌≢◌, ℕ, ◌+◌, ◌-◌, ◌*◌, ◌^◌, ◌≤◌, Bool, false, List, [], ◌∷◌, take, drop, refl, sym, ap, ◌∙◌, subst, arith, pow-add}
use mathlib.Core.Path.{fun_ext}
use Rattle.ipdl_laws.proofs.FilledReactions.{reaction_context_at_place, unread_filled}
use Rattle.ipdl_laws.proofs.FilledTotals.{without_power, reaction_total_more, reaction_total_equal, reaction_total_scale, totals_filled}
use Rattle.ipdl_laws.proofs.HiddenAssignments.{outputs-hidden_assignment, alike_of_one_output, beside_hidden_assignment}
use Rattle.ipdl_laws.proofs.ReadingLaws.{reaction_outcome_agree}
use Rattle.ipdl_laws.proofs.Sets.{by_test, if-false, not_both, same_channel-different, at_same_channel, has-single, not_in_union}
use Rattle.ipdl_laws.proofs.Totals.{total_equal, total-total, total_split}
use Rattle.ipdl_laws.proofs.TwoAssignments.{written_at}
use Rattle.ipdl_laws.specs.Alike.{Alike}
use Rattle.ipdl_laws.specs.Assignments.{with_value, given_value}
use Rattle.ipdl_laws.specs.ReactionContexts.{ReactionContext, reaction_hole, in_then, in_else, in_first, in_second, filled, context_reads, IsClosed}
use Rattle.ipdl_laws.specs.ReactionTotals.{Weight, reaction_total}
use Rattle.ipdl_rules_p.proofs.ReadPlaces.{alone_is_once, read_count-itself, not_counted_is_unread}
use Rattle.ipdl_rules_p.specs.ReadPlaces.{IsReadAt, read_count}
use Rattle.ipdl_term.specs.Channels.{same_channel, has, reads}
use Rattle.ipdl_term.specs.Counts.{total}
use Rattle.ipdl_term.specs.Interpretations.{Interpretation}
use Rattle.ipdl_term.specs.Places.{reaction_or, term_with}
use Rattle.ipdl_term.specs.Protocols.{protocol_valuation}
use Rattle.ipdl_term.specs.Reactions.{outcome_value, reaction_coins}
use Rattle.ipdl_term.specs.Terms.{Channel, Reaction, reading, assignment, parallel, hiding, reaction_term}
use Rattle.ipdl_term.specs.Typing.{Scope}
use Rattle.ipdl_term.specs.Valuations.{Valuation, nothing, taken_out, all_taken_out}

-- ---- a read at one place alone

-- how often the channel is read outside of the hole
abbrev context_read_count : Channel → ReactionContext → ℕ
context_read_count c reaction_hole = 0
context_read_count c (in_then e C s) = context_read_count c C + read_count c s
context_read_count c (in_else e s C) = read_count c s + context_read_count c C
context_read_count c (in_first w C s) = context_read_count c C + read_count c s
context_read_count c (in_second w s C) = read_count c s + context_read_count c C

read_count-filled : (c : Channel) (C : ReactionContext) (r : Reaction) → read_count c (filled C r) ≡ context_read_count c C + read_count c r
read_count-filled c reaction_hole r = omega arith
read_count-filled c (in_then e C s) r = omega (arith, read_count-filled c C r)
read_count-filled c (in_else e s C) r = omega (arith, read_count-filled c C r)
read_count-filled c (in_first w C s) r = omega (arith, read_count-filled c C r)
read_count-filled c (in_second w s C) r = omega (arith, read_count-filled c C r)

-- what is not counted is not read
unread_around : (c : Channel) (C : ReactionContext) → context_read_count c C ≡ 0 → has (context_reads C) c ≡ false
unread_around c reaction_hole h = refl
unread_around c (in_then e C s) h = not_in_union (context_reads C) (reads s) c (unread_around c C (omega arith)) (not_counted_is_unread c s (omega arith))
unread_around c (in_else e s C) h = not_in_union (reads s) (context_reads C) c (not_counted_is_unread c s (omega arith)) (unread_around c C (omega arith))
unread_around c (in_first w C s) h = not_in_union (context_reads C) (reads s) c (unread_around c C (omega arith)) (not_counted_is_unread c s (omega arith))
unread_around c (in_second w s C) h = not_in_union (reads s) (context_reads C) c (not_counted_is_unread c s (omega arith)) (unread_around c C (omega arith))

-- around the only place at which a channel is read, it is not read
pub context_of_lone_read : (c : Channel) (k : Reaction) (place : List ℕ) → IsReadAt c k place → ((other : List ℕ) → IsReadAt c k other → other ≡ place) →
    (C : ReactionContext) × (k ≡ filled C (reading c)) × (has (context_reads C) c ≡ false) × ((new : Reaction) → reaction_or k (term_with (reaction_term k) place (reaction_term new)) ≡ filled C new)
context_of_lone_read c k place at alone =
    let C = reaction_context_at_place k place (reading c) at in
    let once : context_read_count c C.0 + read_count c (reading c) ≡ 1 = sym (read_count-filled c C.0 (reading c)) ∙ ap (read_count c) (sym C.1) ∙ alone_is_once c k place at alone in
    (C.0, C.1, unread_around c C.0 (omega (arith, read_count-itself c)), C.2)

-- ---- fold

module _ (J : Interpretation) where
  module _ (scope : Scope) (o c : Channel) (w : ℕ) (r : Reaction) (differ : o ≢ c) (unread : has (reads r) c ≡ false) (closed : IsClosed r) where
    -- in the hole of a context that does not read the channel
    alike_filled : (C : ReactionContext) → has (context_reads C) c ≡ false → Alike J scope (hiding c w (parallel (assignment o (filled C (reading c))) (assignment c r))) (assignment o (filled C r))
    alike_filled C lone =
        let k = filled C (reading c) in
        let left = hiding c w (parallel (assignment o k) (assignment c r)) in
        let outs = outputs-hidden_assignment o c w k r (same_channel-different o c differ) in
        alike_of_one_output J scope left (assignment o (filled C r)) o (λ d h. sym (has-single o d) ∙ sym (outs d) ∙ h) outs
        (λ inputs fits weight n hp hq.
        let seen : Valuation = all_taken_out (o ∷ []) inputs in
        let around : Valuation = taken_out c seen in
        let by : Weight = λ x. weight (with_value o x nothing) in
        let a = reaction_coins k in
        let whole : n ≡ a + (n - a) = omega arith in
        let f : Weight = λ u. reaction_total J k [] (with_value c u around) a by in
        let g : List Bool → List Bool → ℕ = λ u t. by (given_value J k u (with_value c (given_value J r t around) around)) in
        let on_left : total n (λ t. weight (protocol_valuation J left t inputs)) ≡ reaction_total J r [] around (n - a) f =
        total_equal n _ _ (λ t e. ap weight (beside_hidden_assignment J o c w k r t inputs differ)) ∙
        ap (λ m. total m (λ t. g (take a t) (drop a t))) whole ∙
        total_split a (n - a) g ∙
        total-total a (n - a) g in
        let on_right : total n (λ t. weight (protocol_valuation J (assignment o (filled C r)) t inputs)) ≡ reaction_total J (filled C r) [] around n by =
        total_equal n _ _ (λ t e.
        ap weight (fun_ext (written_at o _)) ∙
        ap (λ x. by (outcome_value x)) (reaction_outcome_agree J (filled C r) [] seen around t (λ d l. sym (if-false (same_channel c d) _ _ (by_test (same_channel c d)
        (λ m. not_both (has (reads (filled C r)) d) l (at_same_channel (λ z. has (reads (filled C r)) z ≡ false) c d m (unread_filled C r c lone unread)))
        (λ m. m)))))) in
        on_left ∙
        without_power n _ _ (
        powers a n _ (omega arith) ∙
        ap (λ x. 2 ^ (n - a) * x) (sym (more a n (omega arith) _ _ (reaction_total_more J r [] around (n - a) n f (omega arith) (omega arith)))) ∙
        sym (reaction_total_scale J r [] around n (2 ^ (n - a)) f) ∙
        reaction_total_equal J r [] around n _ _ (λ u. sym (reaction_total_more J k [] (with_value c u around) a n by (omega arith) (omega arith))) ∙
        sym (totals_filled J r c closed around n C lone (omega arith) [] by)) ∙
        sym on_right)
      where
        powers : (a n x : ℕ) → a ≤ n → 2 ^ n * x ≡ 2 ^ (n - a) * (2 ^ a * x)
        powers a n x h =
            let e : n ≡ (n - a) + a = omega arith in
            ap (λ m. 2 ^ m * x) e ∙ rw (pow-add 2 (n - a) a) (omega arith)

        more : (a n : ℕ) → a ≤ n → (x y : ℕ) → x ≡ 2 ^ (n - (n - a)) * y → x ≡ 2 ^ a * y
        more a n h x y e = let k : n - (n - a) ≡ a = omega arith in e ∙ ap (λ m. 2 ^ m * y) k

    -- at the only place at which the channel is read
    pub alike_fold : (k : Reaction) (place : List ℕ) → IsReadAt c k place → ((other : List ℕ) → IsReadAt c k other → other ≡ place) →
        Alike J scope (hiding c w (parallel (assignment o k) (assignment c r))) (assignment o (reaction_or k (term_with (reaction_term k) place (reaction_term r))))
    alike_fold k place at alone =
        let C = context_of_lone_read c k place at alone in
        subst (λ x. Alike J scope (hiding c w (parallel (assignment o k) (assignment c r))) (assignment o x)) (sym (C.3 r))
        (subst (λ x. Alike J scope (hiding c w (parallel (assignment o x) (assignment c r))) (assignment o (filled C.0 r))) (sym C.1) (alike_filled C.0 C.2))
