-- Equal protocols are equal in other names: what surrounds the renamed ones, with all of its names permuted, surrounds
-- the protocols themselves.
use Rattle.std.proofs.Common.{◌≡◌, ℕ, ◌≤◌, true, ◌&&◌, List, [], ◌∷◌, ◌++◌, map, Some, is_some, refl, sym, ap, ap₂, ◌∙◌, subst}
use Rattle.std.proofs.lemmas.Bool.{or_left, or_right}
use Rattle.std.specs.Prelude.{if◌then◌else◌}
use Rattle.ipdl_term.specs.Channels.{same_channel, has, outputs, free_channels}
use Rattle.ipdl_term.specs.Contexts.{plugged, context_outputs, IsVisibleIn, IsTypedContext, Closes}
use Rattle.ipdl_term.specs.Counts.{one_if, History, history_valuation, same_value, agree_at, history_count}
use Rattle.ipdl_term.specs.Equality.{Equal}
use Rattle.ipdl_term.specs.Interpretations.{Signature, Interpretation}
use Rattle.ipdl_term.specs.Terms.{Value, Channel, Protocol, Context, hole, in_left, in_right, in_hiding, protocol_term}
use Rattle.ipdl_term.specs.Typing.{Scope, scope_with, Typed}
use Rattle.ipdl_term.specs.Valuations.{Valuation, nothing}
use Rattle.ipdl_term.proofs.ChannelSets.{same_channel-itself}
use Rattle.ipdl_term.specs.Places.{term_at, term_with}
use Rattle.ipdl_term.specs.Surroundings.{around, outermost}
use Rattle.ipdl_laws.proofs.PlaceLaws.{equal_at_place}
use Rattle.ipdl_laws.proofs.ReadingLaws.{free_channels-outputs}
use Rattle.ipdl_laws.proofs.Totals.{total_equal}
use Rattle.ipdl_laws.proofs.Visible.{free_channels_visible}
use Rattle.ipdl_term.specs.Renaming.{Renaming, renamed, IsInjectiveOn, CapturesNone}
use Rattle.ipdl_laws.proofs.Pairings.{Pairing, SameNames, SameNames-has, AreDisjoint-paired}
use Rattle.ipdl_laws.proofs.Mirrors.{Mirrors, Mirrors-turned, SameNames-outputs, coins-mirrored, AgreeThrough, protocol_valuation-mirrored, IsVisibleThrough, IsVisibleThrough-below, IsTyped-mirrored}
use Rattle.ipdl_laws.proofs.RenamedTerms.{Mirrors-renamed, IsTyped-renamed}
use Rattle.ipdl_laws.proofs.Permutations.{Extension, extension, moved, moved_context, moves, IsOneToOne-moves, moves-below, Mirrors-moved, Mirrors-plugged, SameNames-context_outputs}

-- ---- histories

-- a history with its channels moved
abbrev moved_history : Renaming → History → History
moved_history f [] = []
moved_history f (e ∷ h) = (f e.0, e.1) ∷ moved_history f h

-- the channels of two lists, one after the other
SameNames-append : (R : Pairing) (cs cs' ds ds' : List Channel) → SameNames R cs cs' → SameNames R ds ds' → SameNames R (cs ++ ds) (cs' ++ ds')
SameNames-append R [] [] ds ds' h k = k
SameNames-append R (c ∷ cs) (c' ∷ cs') ds ds' h k = (h.0, SameNames-append R cs cs' ds ds' h.1 k)
SameNames-append R _ _ ds ds' h k = absurd h

-- whether two valuations agree at these channels
agree_at-paired : (R : Pairing) (cs cs' : List Channel) (v v' u u' : Valuation) → SameNames R cs cs' → AgreeThrough R v v' → AgreeThrough R u u' → agree_at cs v u ≡ agree_at cs' v' u'
agree_at-paired R [] [] v v' u u' h k l = refl
agree_at-paired R (c ∷ cs) (c' ∷ cs') v v' u u' h k l =
    ap₂ ◌&&◌ (ap₂ same_value (k c c' h.0) (l c c' h.0)) (agree_at-paired R cs cs' v v' u u' h.1 k l)
agree_at-paired R _ _ v v' u u' h k l = absurd h

module _ (f : Renaming) (injective : (c d : Channel) → f c ≡ f d → c ≡ d) where
  SameNames-keys : (h : History) → SameNames (moves f) (map (λ (e : Channel × Value). e.0) h) (map (λ (e : Channel × Value). e.0) (moved_history f h))
  SameNames-keys [] = tt
  SameNames-keys (e ∷ h) = (refl, SameNames-keys h)

  AgreeThrough-history_valuation : (h : History) → AgreeThrough (moves f) (history_valuation h) (history_valuation (moved_history f h))
  AgreeThrough-history_valuation [] c c' k = refl
  AgreeThrough-history_valuation (e ∷ h) c c' k =
      ap₂ (λ b o. if b then Some e.1 else o) (IsOneToOne-moves f injective e.0 (f e.0) c c' refl k) (AgreeThrough-history_valuation h c c' k)

  -- a moved protocol has the moved history equally often
  history_count-moved : (J : Interpretation) (p p' : Protocol) → Mirrors (moves f) p p' → (n : ℕ) (h : History) → history_count J p n h ≡ history_count J p' n (moved_history f h)
  history_count-moved J p p' mirrored n h =
      let one = IsOneToOne-moves f injective in
      total_equal n _ _ (λ t e. ap one_if (agree_at-paired (moves f) _ _ _ _ (history_valuation h) (history_valuation (moved_history f h))
      (SameNames-append (moves f) (outputs p) (outputs p') _ _ (SameNames-outputs (moves f) one p p' mirrored) (SameNames-keys h))
      (protocol_valuation-mirrored J (moves f) one p p' mirrored t nothing nothing (λ c c' k. refl))
      (AgreeThrough-history_valuation h)))

  -- a moved context is typed around what it was typed around
  IsTypedContext-moved : (sig : Signature) (inner inner' : Scope) (cs cs' : List Channel) → ((scope scope' : Scope) → IsVisibleThrough (moves f) scope scope' → IsVisibleIn inner scope → IsVisibleIn inner' scope') → SameNames (moves f) cs cs' →
      (C : Context) (scope scope' : Scope) → IsVisibleThrough (moves f) scope scope' → IsTypedContext sig inner cs scope C → IsTypedContext sig inner' cs' scope' (moved_context f C)
  IsTypedContext-moved sig inner inner' cs cs' seen same hole scope scope' through t = seen scope scope' through t
  IsTypedContext-moved sig inner inner' cs cs' seen same (in_left C q) scope scope' through t = (
    IsTypedContext-moved sig inner inner' cs cs' seen same C scope scope' through t.0,
    IsTyped-mirrored sig (moves f) (IsOneToOne-moves f injective) q (moved f q) (Mirrors-moved f injective q) scope scope' through t.1,
    AreDisjoint-paired (moves f) (IsOneToOne-moves f injective) (context_outputs C cs) (context_outputs (moved_context f C) cs') (outputs q) (outputs (moved f q)) (SameNames-context_outputs f injective C cs cs' same) (SameNames-outputs (moves f) (IsOneToOne-moves f injective) q (moved f q) (Mirrors-moved f injective q)) t.2,
  )
  IsTypedContext-moved sig inner inner' cs cs' seen same (in_right q C) scope scope' through t = (
    IsTyped-mirrored sig (moves f) (IsOneToOne-moves f injective) q (moved f q) (Mirrors-moved f injective q) scope scope' through t.0,
    IsTypedContext-moved sig inner inner' cs cs' seen same C scope scope' through t.1,
    AreDisjoint-paired (moves f) (IsOneToOne-moves f injective) (outputs q) (outputs (moved f q)) (context_outputs C cs) (context_outputs (moved_context f C) cs') (SameNames-outputs (moves f) (IsOneToOne-moves f injective) q (moved f q) (Mirrors-moved f injective q)) (SameNames-context_outputs f injective C cs cs' same) t.2,
  )
  IsTypedContext-moved sig inner inner' cs cs' seen same (in_hiding c w C) scope scope' through t = (
    t.0,
    IsTypedContext-moved sig inner inner' cs cs' seen same C (scope_with c w scope) (scope_with (f c) w scope') (λ d d' v k. IsVisibleThrough-below (moves f) c (f c) w scope scope' through d d' v (moves-below f injective c d d' k)) t.1,
    sym (SameNames-has (moves f) (IsOneToOne-moves f injective) (context_outputs C cs) (context_outputs (moved_context f C) cs') (SameNames-context_outputs f injective C cs cs' same) c (f c) refl) ∙ t.2,
  )

-- ---- equal protocols

-- a renamed list, moved back
SameNames-map : (f back : Renaming) (cs : List Channel) → ((c : Channel) → has cs c ≡ true → back (f c) ≡ c) → SameNames (moves back) (map f cs) cs
SameNames-map f back [] h = tt
SameNames-map f back (c ∷ cs) h =
    (h c (or_left (same_channel c c) (has cs c) (same_channel-itself c)), SameNames-map f back cs (λ d k. h d (or_right (same_channel c d) (has cs d) k)))

module _ (f : Renaming) (names : List Channel) (injective : IsInjectiveOn names f) (sig : Signature) (scope outer : Scope) (written : List Channel)
    (listed : (c : Channel) → is_some (scope c) ≡ true → has names c ≡ true)
    (visible : (c : Channel) (w : ℕ) → scope c ≡ Some w → outer (f c) ≡ Some w) where
  -- a permutation that does the same with the names, and the way back
  permutation : Extension f names
  permutation = extension f names injective

  abbrev back : Renaming
  back = permutation.back

  back_injective : (c d : Channel) → back c ≡ back d → c ≡ d
  back_injective c d e = sym (permutation.to-back c) ∙ ap permutation.to e ∙ permutation.to-back d

  -- the new names lead back
  back_of_new : (c : Channel) → has names c ≡ true → back (f c) ≡ c
  back_of_new c h = sym (ap back (permutation.extends c h)) ∙ permutation.back-to c

  module _ (p : Protocol) (typed : Typed sig scope p written) (none : CapturesNone names f p) where
    in_names : (c : Channel) → has (free_channels p) c ≡ true → has names c ≡ true
    in_names c h = listed c (free_channels_visible sig p scope typed.typed c h)

    none_of_free : CapturesNone (free_channels p) f p
    none_of_free c h k = none c (in_names c h) k

    written_in_names : (c : Channel) → has written c ≡ true → has names c ≡ true
    written_in_names c h = in_names c (free_channels-outputs p c (typed.writes c ∙ h))

    -- the protocol is the renamed one, moved back
    mirrored_back : Mirrors (moves back) (renamed f p) p
    mirrored_back =
        Mirrors-turned (λ c c'. back c' ≡ c) (moves back) (λ c c' k. k) p (renamed f p)
        (Mirrors-renamed (λ c c'. back c' ≡ c) f p none_of_free (λ c h. back_of_new c (in_names c h)))

    same_written : SameNames (moves back) (map f written) written
    same_written = SameNames-map f back written (λ c h. back_of_new c (written_in_names c h))

    Typed-renamed : Typed sig outer (renamed f p) (map f written)
    Typed-renamed = record {
      typed = IsTyped-renamed f p (λ c d h k. injective c d (in_names c h) (in_names d k)) none_of_free sig scope outer (λ c w h. visible c w) typed.typed;
      writes = λ c.
          SameNames-has (moves back) (IsOneToOne-moves back back_injective) (outputs (renamed f p)) (outputs p) (SameNames-outputs (moves back) (IsOneToOne-moves back back_injective) (renamed f p) p mirrored_back) c (back c) refl ∙
          typed.writes (back c) ∙
          sym (SameNames-has (moves back) (IsOneToOne-moves back back_injective) (map f written) written same_written c (back c) refl);
    }

    -- what closes around the new names closes, moved back, around the old ones
    Closes-moved : (C : Context) → Closes sig outer (map f written) C → Closes sig scope written (moved_context back C)
    Closes-moved C closes = (
      λ c. closes.0 (permutation.to c),
      IsTypedContext-moved back back_injective sig outer scope (map f written) written
          (λ s s' through seen c w e. through (f c) c w (back_of_new c (listed c (ap is_some e))) (seen (f c) w (visible c w e)))
          same_written C closes.0 (λ c. closes.0 (permutation.to c))
          (λ c c' w k e. ap closes.0 (sym (ap permutation.to k) ∙ permutation.to-back c) ∙ e)
          closes.1,
      λ c. closes.2 (permutation.to c) ∙ SameNames-has (moves back) (IsOneToOne-moves back back_injective) (context_outputs C (map f written)) (context_outputs (moved_context back C) written) (SameNames-context_outputs back back_injective C (map f written) written same_written) (permutation.to c) c (permutation.back-to c),
    )

    -- what the renamed protocol does in a context the protocol does in the context moved back
    mirrored_in : (C : Context) → Mirrors (moves back) (plugged C (renamed f p)) (plugged (moved_context back C) p)
    mirrored_in C = Mirrors-plugged back back_injective C (renamed f p) p mirrored_back

  -- equal protocols are equal in their new names
  pub equal_renamed : (p q : Protocol) → CapturesNone names f p → CapturesNone names f q → Equal sig scope written p q → Equal sig outer (map f written) (renamed f p) (renamed f q)
  equal_renamed p q none_p none_q equal = record {
    left = Typed-renamed p equal.left none_p;
    right = Typed-renamed q equal.right none_q;
    counts = λ J interprets C closes n hp hq h.
        let at_p = mirrored_in p equal.left none_p C in
        let at_q = mirrored_in q equal.right none_q C in
        history_count-moved back back_injective J _ _ at_p n h ∙
        equal.counts J interprets (moved_context back C) (Closes-moved p equal.left none_p C closes) n
        (subst (λ x. x ≤ n) (coins-mirrored (moves back) _ _ at_p) hp) (subst (λ x. x ≤ n) (coins-mirrored (moves back) _ _ at_q) hq) (moved_history back h) ∙
        sym (history_count-moved back back_injective J _ _ at_q n h);
  }

-- one of two equal protocols in new names, replaced at its place by the other one in the same names
pub equal_renamed_at_place : (f : Renaming) (names : List Channel) → IsInjectiveOn names f → (sig : Signature) (inner : Scope) (inner_written : List Channel) →
    ((c : Channel) → is_some (inner c) ≡ true → has names c ≡ true) → (old new : Protocol) → CapturesNone names f old → CapturesNone names f new → Equal sig inner inner_written old new →
    (scope : Scope) (written : List Channel) (p q : Protocol) (place : List ℕ) → Typed sig scope p written → term_at (protocol_term p) place ≡ Some (protocol_term (renamed f old)) →
    term_with (protocol_term p) place (protocol_term (renamed f new)) ≡ protocol_term q →
    ((c : Channel) (w : ℕ) → inner c ≡ Some w → (around (outermost scope) (protocol_term p) place).scope (f c) ≡ Some w) → Equal sig scope written p q
equal_renamed_at_place f names injective sig inner inner_written listed old new none_old none_new equal scope written p q place typed at with visible =
    let there : Scope = (around (outermost scope) (protocol_term p) place).scope in
    equal_at_place sig scope written there (map f inner_written) p q place (renamed f old) (renamed f new) typed at with (λ c w e. e)
    (equal_renamed f names injective sig inner there inner_written listed visible old new none_old none_new equal)
