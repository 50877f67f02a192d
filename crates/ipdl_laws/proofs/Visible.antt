-- Typed protocols have their channels in the scope, and so they are alike in each scope where those are visible with
-- their widths.
use Rattle.std.proofs.Common.{◌≡◌, ℕ, zero, suc, Bool, true, List, [], ◌∷◌, length, Option, Some, None, is_some, refl, sym, ap, ◌∙◌}
use Rattle.std.specs.Prelude.{if◌then◌else◌}
use Rattle.ipdl_term.specs.Channels.{same_channel, has, without, SameSet, reads, outputs, free_channels}
use Rattle.ipdl_term.specs.Contexts.{IsVisibleIn}
use Rattle.ipdl_term.specs.Interpretations.{Signature, Interpretation}
use Rattle.ipdl_term.specs.Protocols.{after_rounds, protocol_valuation}
use Rattle.ipdl_term.specs.Terms.{Channel, Reaction, returning, flipping, reading, branching, binding, Protocol, nil, assignment, parallel, hiding}
use Rattle.ipdl_term.specs.Typing.{Scope, scope_with, GivesWidth, IsTyped}
use Rattle.ipdl_term.specs.Valuations.{Valuation, nothing, only, combined, LiesWithin}
use Rattle.ipdl_laws.specs.Alike.{FitsScope, IsResponse, loop_valuation, Alike}
use Rattle.ipdl_laws.proofs.Combinations.{combined_nothing}
use Rattle.ipdl_laws.proofs.Monotone.{WritesOnly-protocol_valuation}
use Rattle.ipdl_laws.proofs.Order.{LiesWithin-refl, if_grows, LiesWithin-combined, WritesOnly}
use Rattle.ipdl_laws.proofs.ReadingLaws.{protocol_valuation_agree, free_channels-outputs}
use Rattle.ipdl_laws.proofs.Sets.{by_test, if-true, if-false, not_both, at_same_channel, has-single, in_second, has-without, has-without_same}
use Rattle.ipdl_laws.proofs.Solutions.{WritesOnly-after_rounds}
use Rattle.ipdl_laws.proofs.Totals.{total_equal}

-- ---- typed protocols have their channels in the scope

module _ (sig : Signature) where
  -- a typed reaction reads visible channels
  reads_visible : (scope : Scope) (widths : List ℕ) (r : Reaction) (w : ℕ) → GivesWidth sig scope widths r w → (c : Channel) → has (reads r) c ≡ true → is_some (scope c) ≡ true
  reads_visible scope widths (returning e) w h c k = cc
  reads_visible scope widths (flipping n) w h c k = cc
  reads_visible scope widths (reading d) w h c k =
      at_same_channel (λ x. is_some (scope x) ≡ true) d c (sym (has-single d c) ∙ k) (ap is_some h)
  reads_visible scope widths (branching e r s) w h c k = by_test (has (reads r) c)
      (λ e. reads_visible scope widths r w h.1 c e)
      (λ e. reads_visible scope widths s w h.2 c (in_second (reads r) (reads s) c k e))
  reads_visible scope widths (binding v r s) w h c k = by_test (has (reads r) c)
      (λ e. reads_visible scope widths r v h.0 c e)
      (λ e. reads_visible scope (v ∷ widths) s w h.1 c (in_second (reads r) (reads s) c k e))

  -- a typed protocol has its free channels in the scope
  pub free_channels_visible : (p : Protocol) (scope : Scope) → IsTyped sig scope p → (c : Channel) → has (free_channels p) c ≡ true → is_some (scope c) ≡ true
  free_channels_visible nil scope h c k = cc
  free_channels_visible (assignment d r) scope h c k = by_test (has (d ∷ []) c)
      (λ e. at_same_channel (λ x. is_some (scope x) ≡ true) d c (sym (has-single d c) ∙ e) (ap is_some h.1))
      (λ e. reads_visible scope [] r h.0 h.2 c (in_second (d ∷ []) (reads r) c k e))
  free_channels_visible (parallel p q) scope h c k = by_test (has (free_channels p) c)
      (λ e. free_channels_visible p scope h.0 c e)
      (λ e. free_channels_visible q scope h.1 c (in_second (free_channels p) (free_channels q) c k e))
  free_channels_visible (hiding d w p) scope h c k = by_test (same_channel d c)
      (λ e. not_both (has (without d (free_channels p)) c) k (has-without_same d (free_channels p) c e))
      (λ e. ap is_some (sym (if-false (same_channel d c) (Some w) (scope c) e)) ∙ free_channels_visible p (scope_with d w scope) h.1 c (sym (has-without d (free_channels p) c e) ∙ k))

-- ---- in a larger scope

-- steps that are the same at what only these channels are written in have the same rounds
after_rounds_same : (cs : List Channel) (F G : Valuation → Valuation) → ((s : Valuation) → WritesOnly cs (F s)) → ((s : Valuation) → WritesOnly cs s → F s ≡ G s) → (n : ℕ) → after_rounds n F ≡ after_rounds n G
after_rounds_same cs F G only same zero = refl
after_rounds_same cs F G only same (suc n) = same _ (WritesOnly-after_rounds cs F only n) ∙ ap G (after_rounds_same cs F G only same n)

-- the channels of the scope alone
abbrev seen_in : Scope → Valuation → Valuation
seen_in scope p = λ c. if is_some (scope c) then p c else None

-- what is seen grows
LiesWithin-seen_in : (scope : Scope) (p q : Valuation) → LiesWithin p q → LiesWithin (seen_in scope p) (seen_in scope q)
LiesWithin-seen_in scope p q h c v = if_grows (is_some (scope c)) (p c) (q c) None None (h c) (λ u e. e) v

-- a width that is there
visible_width : (P : Type 0) (o : Option ℕ) → is_some o ≡ true → ((w : ℕ) → o ≡ Some w → P) → P
visible_width P None e f = cc
visible_width P (Some w) e f = f w refl

module _ (J : Interpretation) (inner scope : Scope) (visible : IsVisibleIn inner scope) where
  -- surroundings of the larger scope as ones of the inner scope, for a protocol that writes these channels
  abbrev inner_response : List Channel → (Valuation → Valuation) → Valuation → Valuation
  inner_response cs response s = seen_in inner (response (combined cs s nothing))

  -- they are a response
  IsResponse-inner_response : (cs : List Channel) (response : Valuation → Valuation) → ((c : Channel) → has cs c ≡ true → is_some (inner c) ≡ true) → IsResponse scope response → IsResponse inner (inner_response cs response)
  IsResponse-inner_response cs response in_inner is_response = record {
    monotone = λ s s' h. LiesWithin-seen_in inner _ _ (is_response.monotone _ _ (LiesWithin-combined cs s s' nothing nothing h (LiesWithin-refl nothing)));
    keeps = λ s h c v w e k.
        let fits : FitsScope scope (combined cs s nothing) = λ d u x l m. by_test (has cs d)
        (λ t. visible_width (length u ≡ x) (inner d) (in_inner d t) (λ y z. let same : Some y ≡ Some x = sym (visible d y z) ∙ m in let same_width : y ≡ x = cc in h d u y (sym (if-true (has cs d) _ _ t) ∙ l) z ∙ same_width))
        (λ t. let none : None ≡ Some u = sym (if-false (has cs d) _ _ t) ∙ l in cc) in
        is_response.keeps _ fits c v w (sym (if-true (is_some (inner c)) _ _ (ap is_some k)) ∙ e) (visible c w k);
  }

  -- a protocol whose channels are in the inner scope writes the same in both surroundings
  loop_valuation-inner_response : (p : Protocol) (cs : List Channel) (response : Valuation → Valuation) (t : List Bool) → SameSet (outputs p) cs → ((c : Channel) → has (free_channels p) c ≡ true → is_some (inner c) ≡ true) → loop_valuation J p t response ≡ loop_valuation J p t (inner_response cs response)
  loop_valuation-inner_response p cs response t same in_inner =
      after_rounds_same (outputs p) (λ s. protocol_valuation J p t (response s)) (λ s. protocol_valuation J p t (inner_response cs response s)) (λ s. WritesOnly-protocol_valuation J p t (response s))
      (λ s only. protocol_valuation_agree J p t (response s) (inner_response cs response s) (λ c k. sym (if-true (is_some (inner c)) _ _ (in_inner c k) ∙ ap (λ x. response x c) (combined_nothing cs s (λ d l. only d (same d ∙ l)))))) (suc (length (outputs p)))

  -- alike in the inner scope: alike in the larger one
  pub alike_in_larger_scope : (p q : Protocol) → ((c : Channel) → has (free_channels p) c ≡ true → is_some (inner c) ≡ true) → ((c : Channel) → has (free_channels q) c ≡ true → is_some (inner c) ≡ true) → Alike J inner p q → Alike J scope p q
  alike_in_larger_scope p q in_p in_q alike = record {
    same_outputs = alike.same_outputs;
    totals = λ response is_response weight n hp hq.
        let cs = outputs p in
        total_equal n _ _ (λ t e. ap weight (loop_valuation-inner_response p cs response t (λ c. refl) in_p)) ∙
        alike.totals (inner_response cs response) (IsResponse-inner_response cs response (λ c k. in_p c (free_channels-outputs p c k)) is_response) weight n hp hq ∙
        sym (total_equal n _ _ (λ t e. ap weight (loop_valuation-inner_response q cs response t (λ c. sym (alike.same_outputs c)) in_q)));
  }
