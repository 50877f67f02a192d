-- One context around the two sides of an assumption, where that is itself used in a context: it is one context around them too.
use Rattle.std.proofs.Common.{◌≡◌, true, false, List, [], ◌∷◌, refl, sym, ap, ◌∙◌, subst}
use Rattle.std.specs.Map.{keys_of, values_of}
use Rattle.ipdl_embed.proofs.PairLaws.{or_false_left, or_false_right}
use Rattle.ipdl_embed.specs.Following.{followed}
use Rattle.ipdl_embed.specs.Pairs.{Pairs}
use Rattle.ipdl_instances.proofs.Carried.{renaming_at-kept, passed_on, keys_of-followed, renaming_of-followed, free_channels_of_interface}
use Rattle.ipdl_instances.proofs.Composed.{renamed-plugged, renamed_agree, renamed-twice, hidden_channels-renamed, AreDisjoint-plugged}
use Rattle.ipdl_laws.proofs.Contexts.{plugged-nested}
use Rattle.ipdl_laws.proofs.RenamingPairs.{pairs_capture_none}
use Rattle.ipdl_laws.proofs.Sets.{by_test, if-true, if-false}
use Rattle.ipdl_term.specs.Channels.{same_channel, has, free_channels, IsWithin, AreDisjoint}
use Rattle.ipdl_term.specs.Contexts.{plugged, nested}
use Rattle.ipdl_term.specs.Interpretations.{Signature}
use Rattle.ipdl_term.specs.Renaming.{CapturesNone, renamed, renaming_of, renamed_context, renaming_at, hidden_channels, hidden_around}
use Rattle.ipdl_term.specs.Terms.{Channel, Protocol, Context}
use Rattle.ipdl_term.specs.Typing.{HasInterface}
use Rattle.ipdl_uses.specs.Meanings.{Sides, AreTypedSides, AreSidesIn}

-- ---- new names that are hidden

-- a channel without a pair keeps its name
renaming_of-other : (pairs : Pairs) (c : Channel) → has (keys_of pairs) c ≡ false → renaming_of pairs c ≡ c
renaming_of-other [] c h = refl
renaming_of-other (pair ∷ pairs) c h =
    if-false (same_channel pair.0 c) _ _ (or_false_left (same_channel pair.0 c) (has (keys_of pairs) c) h)
    ∙ renaming_of-other pairs c (or_false_right (same_channel pair.0 c) (has (keys_of pairs) c) h)

-- where no new name is hidden, what is renamed to a hidden one had its name before
kept_where_hidden : (pairs : Pairs) (p : Protocol) → AreDisjoint (values_of pairs) (hidden_channels p) → (c : Channel) → has (hidden_channels p) (renaming_of pairs c) ≡ true → renaming_of pairs c ≡ c
kept_where_hidden pairs p apart c h = by_test (has (keys_of pairs) c)
    (λ e. pairs_capture_none pairs p apart c e h)
    (λ e. renaming_of-other pairs c e)

module _ (hidden : List Channel) (outer : Pairs) (p : Protocol) (apart : AreDisjoint (values_of outer) (hidden_channels p)) where
  passed_on-kept : (c : Channel) → has (hidden_channels p) (passed_on hidden outer c) ≡ true → passed_on hidden outer c ≡ c
  passed_on-kept c h = by_test (has hidden c)
      (λ e. if-true (has hidden c) _ _ e)
      (λ e. if-false (has hidden c) _ _ e ∙ kept_where_hidden outer p apart c (ap (has (hidden_channels p)) (sym (if-false (has hidden c) _ _ e)) ∙ h))

  -- pairs that are followed capture nothing where neither does
  captures_none-followed : (inner : Pairs) → CapturesNone (keys_of inner) (renaming_of inner) p → CapturesNone (keys_of (followed hidden outer inner)) (renaming_of (followed hidden outer inner)) p
  captures_none-followed inner none c h k =
      let named : has (keys_of inner) c ≡ true = ap (λ cs. has cs c) (sym (keys_of-followed hidden outer inner)) ∙ h in
      let is = renaming_of-followed hidden outer inner c named in
      let same = passed_on-kept (renaming_of inner c) (ap (has (hidden_channels p)) (sym is) ∙ k) in
      is ∙ same ∙ none c named (ap (has (hidden_channels p)) (sym same ∙ sym is) ∙ k)

module _ (C E : Context) (outer inner : Pairs) where
  -- ---- a protocol in a context that is used in a context

  carried : (p : Protocol) → CapturesNone (keys_of inner) (renaming_of inner) p → IsWithin (free_channels p) (keys_of inner) →
      plugged E (renamed (renaming_of outer) (plugged C (renamed (renaming_of inner) p))) ≡ plugged (nested E (renamed_context (renaming_of outer) C)) (renamed (renaming_of (followed (hidden_around C) outer inner)) p)
  carried p none within =
      let f = renaming_of inner in
      let g = renaming_at C (renaming_of outer) in
      let D = renamed_context (renaming_of outer) C in
      let all = renaming_of (followed (hidden_around C) outer inner) in
      let one : renamed all p ≡ renamed g (renamed f p) =
      renamed_agree all (λ c. g (f c)) p
      (λ c h. renaming_of-followed (hidden_around C) outer inner c (within c h) ∙ sym (renaming_at-kept C (renaming_of outer) (f c)))
      ∙ sym (renamed-twice f g p (λ c h k. none c (within c h) k)) in
      ap (plugged E) (renamed-plugged (renaming_of outer) C (renamed f p) ∙ ap (plugged D) (sym one))
      ∙ sym (plugged-nested E D (renamed all p))

  -- what is not hidden in the whole is not hidden in the protocol
  apart_in_part : (whole p : Protocol) → AreDisjoint (values_of outer) (hidden_channels whole) → whole ≡ plugged C (renamed (renaming_of inner) p) → AreDisjoint (values_of outer) (hidden_channels p)
  apart_in_part whole p apart is =
      let there : AreDisjoint (values_of outer) (hidden_channels (plugged C (renamed (renaming_of inner) p))) = subst (λ q. AreDisjoint (values_of outer) (hidden_channels q)) is apart in
      subst (AreDisjoint (values_of outer)) (hidden_channels-renamed (renaming_of inner) p) (AreDisjoint-plugged (values_of outer) C (renamed (renaming_of inner) p) there).0

  -- ---- both sides

  pub sides_carried : (sig : Signature) (sides : Sides) (from to : Protocol) → AreTypedSides sig sides → AreDisjoint (values_of outer) (hidden_channels from) → AreDisjoint (values_of outer) (hidden_channels to) → AreSidesIn sides inner C from to →
      AreSidesIn sides (followed (hidden_around C) outer inner) (nested E (renamed_context (renaming_of outer) C)) (plugged E (renamed (renaming_of outer) from)) (plugged E (renamed (renaming_of outer) to))
  sides_carried sig sides from to typed apart_from apart_to h = record {
    named = keys_of-followed (hidden_around C) outer inner ∙ h.named;
    left = ap (λ p. plugged E (renamed (renaming_of outer) p)) h.left ∙ carried sides.left h.none_left (within sides.left typed.left);
    right = ap (λ p. plugged E (renamed (renaming_of outer) p)) h.right ∙ carried sides.right h.none_right (within sides.right typed.right);
    none_left = captures_none-followed (hidden_around C) outer sides.left (apart_in_part from sides.left apart_from h.left) inner h.none_left;
    none_right = captures_none-followed (hidden_around C) outer sides.right (apart_in_part to sides.right apart_to h.right) inner h.none_right;
  }
    where
      within : (p : Protocol) → HasInterface sig sides.interface p → IsWithin (free_channels p) (keys_of inner)
      within p has_interface c k =
          ap (λ cs. has cs c) h.named ∙ free_channels_of_interface sig sides.interface p has_interface c k
