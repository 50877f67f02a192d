-- Pairs that are followed by others, and uses that are carried along into a context.
use Rattle.std.proofs.Common.{◌≡◌, Bool, true, false, ◌||◌, List, [], ◌∷◌, ◌++◌, refl, sym, ap, ◌∙◌}
use Rattle.std.proofs.lemmas.Bool.{or_left, or_right}
use Rattle.std.proofs.lemmas.Map.Made.{keys_of-map_values}
use Rattle.std.specs.Map.{keys_of, values_of}
use Rattle.std.specs.Prelude.{if◌then◌else◌}
use Rattle.ipdl_term.specs.Channels.{same_channel, has, free_channels, IsWithin, AreDisjoint}
use Rattle.ipdl_term.specs.Contexts.{plugged, nested}
use Rattle.ipdl_term.specs.Interpretations.{Signature}
use Rattle.ipdl_term.specs.Renaming.{Renaming, renaming_of, keeping, renamed, renamed_context, renaming_at, hidden_channels, hidden_around}
use Rattle.ipdl_term.specs.Terms.{Channel, Protocol, Context, hole, in_left, in_right, in_hiding}
use Rattle.ipdl_term.specs.Typing.{scope_of, port_names, HasInterface}
use Rattle.ipdl_term.specs.declared.interface.Interface.{Interface}
use Rattle.ipdl_term.proofs.ChannelSets.{same_channel-sound, same_channel-itself}
use Rattle.ipdl_laws.proofs.ClosingContexts.{scope_of_names}
use Rattle.ipdl_laws.proofs.Contexts.{plugged-nested}
use Rattle.ipdl_laws.proofs.RenamingPairs.{pairs_capture_none}
use Rattle.ipdl_laws.proofs.Sets.{by_test, if-true, if-false}
use Rattle.ipdl_laws.proofs.Visible.{free_channels_visible}
use Rattle.ipdl_embed.specs.Pairs.{Pairs}
use Rattle.ipdl_embed.specs.Following.{followed}
use Rattle.ipdl_instances.proofs.Composed.{renamed-plugged, renamed_agree, renamed-twice}

-- ---- one new name

-- at the hole the channels that are hidden around it keep their names
pub renaming_at-kept : (C : Context) (f : Renaming) (c : Channel) → renaming_at C f c ≡ (if has (hidden_around C) c then c else f c)
renaming_at-kept hole f c = refl
renaming_at-kept (in_left C q) f c = renaming_at-kept C f c
renaming_at-kept (in_right q C) f c = renaming_at-kept C f c
renaming_at-kept (in_hiding d w C) f c = renaming_at-kept C (keeping d f) c ∙ go (same_channel d c) (has (hidden_around C) c)
  where
    go : (a b : Bool) → (if b then c else (if a then c else f c)) ≡ (if a || b then c else f c)
    go true true = refl
    go true false = refl
    go false b = refl

-- a name that the pairs give, or the name itself, is not in a list that has neither
renaming_of-apart : (ds : List Channel) (pairs : Pairs) → AreDisjoint (values_of pairs) ds → (c : Channel) → has ds c ≡ false → has ds (renaming_of pairs c) ≡ false
renaming_of-apart ds [] apart c h = h
renaming_of-apart ds (pair ∷ pairs) apart c h = by_test (same_channel pair.0 c)
    (λ e. ap (has ds) (if-true (same_channel pair.0 c) _ _ e) ∙ apart pair.1 (or_left (same_channel pair.1 pair.1) (has (values_of pairs) pair.1) (same_channel-itself pair.1)))
    (λ e. ap (has ds) (if-false (same_channel pair.0 c) _ _ e) ∙ renaming_of-apart ds pairs (λ d k. apart d (or_right (same_channel pair.1 d) (has (values_of pairs) d) k)) c h)

module _ (hidden : List Channel) (outer : Pairs) where
  -- what becomes of a new name
  abbrev pub passed_on : Channel → Channel
  passed_on c = if has hidden c then c else renaming_of outer c

  passed_on-apart : (ds : List Channel) → AreDisjoint (values_of outer) ds → (c : Channel) → has ds c ≡ false → has ds (passed_on c) ≡ false
  passed_on-apart ds apart c h = by_test (has hidden c)
      (λ e. ap (has ds) (if-true (has hidden c) _ _ e) ∙ h)
      (λ e. ap (has ds) (if-false (has hidden c) _ _ e) ∙ renaming_of-apart ds outer apart c h)

  -- ---- pairs that are followed

  pub keys_of-followed : (inner : Pairs) → keys_of (followed hidden outer inner) ≡ keys_of inner
  keys_of-followed inner = keys_of-map_values passed_on inner

  -- a channel with a pair takes the new name of its new name
  pub renaming_of-followed : (inner : Pairs) (c : Channel) → has (keys_of inner) c ≡ true → renaming_of (followed hidden outer inner) c ≡ passed_on (renaming_of inner c)
  renaming_of-followed [] c h = cc
  renaming_of-followed (pair ∷ inner) c h = by_test (same_channel pair.0 c)
      (λ e. if-true (same_channel pair.0 c) _ _ e ∙ ap passed_on (sym (if-true (same_channel pair.0 c) _ _ e)))
      (λ e. if-false (same_channel pair.0 c) _ _ e ∙ renaming_of-followed inner c (sym (ap (λ b. b || has (keys_of inner) c) e) ∙ h) ∙ ap passed_on (sym (if-false (same_channel pair.0 c) _ _ e)))

  -- what has none of the new names of either has none of those that follow
  pub AreDisjoint-followed : (inner : Pairs) (ds : List Channel) → AreDisjoint (values_of outer) ds → AreDisjoint (values_of inner) ds → AreDisjoint (values_of (followed hidden outer inner)) ds
  AreDisjoint-followed [] ds apart_outer apart c h = cc
  AreDisjoint-followed (pair ∷ inner) ds apart_outer apart c h = by_test (same_channel (passed_on pair.1) c)
      (λ e. ap (has ds) (sym (same_channel-sound (passed_on pair.1) c e)) ∙
      passed_on-apart ds apart_outer pair.1 (apart pair.1 (or_left (same_channel pair.1 pair.1) (has (values_of inner) pair.1) (same_channel-itself pair.1))))
      (λ e. AreDisjoint-followed inner ds apart_outer (λ d k. apart d (or_right (same_channel pair.1 d) (has (values_of inner) d) k)) c
      (sym (ap (λ b. b || has (values_of (followed hidden outer inner)) c) e) ∙ h))

-- ---- protocols

-- a protocol of an interface has no free channel but those of the interface
pub free_channels_of_interface : (sig : Signature) (i : Interface) (p : Protocol) → HasInterface sig i p → IsWithin (free_channels p) (port_names (i.inputs ++ i.outputs))
free_channels_of_interface sig i p typed c h =
    let ports = i.inputs ++ i.outputs in
    sym (scope_of_names ports c) ∙ free_channels_visible sig p (scope_of ports) typed.typed c h

module _ (C : Context) (outer inner : Pairs) (p : Protocol) (apart : AreDisjoint (values_of inner) (hidden_channels p)) (within : IsWithin (free_channels p) (keys_of inner)) where
  -- the pairs that follow are the two renamings, one after the other
  pub renamed_by_followed : renamed (renaming_of (followed (hidden_around C) outer inner)) p ≡ renamed (renaming_at C (renaming_of outer)) (renamed (renaming_of inner) p)
  renamed_by_followed =
      let f = renaming_of inner in
      let g = renaming_at C (renaming_of outer) in
      renamed_agree (renaming_of (followed (hidden_around C) outer inner)) (λ c. g (f c)) p
      (λ c h. renaming_of-followed (hidden_around C) outer inner c (within c h) ∙ sym (renaming_at-kept C (renaming_of outer) (f c)))
      ∙ sym (renamed-twice f g p (λ c h k. pairs_capture_none inner p apart c (within c h) k))

  -- a use in a context that is itself used: a use in the whole context
  pub carried_along : (E : Context) → plugged E (renamed (renaming_of outer) (plugged C (renamed (renaming_of inner) p))) ≡ plugged (nested E (renamed_context (renaming_of outer) C)) (renamed (renaming_of (followed (hidden_around C) outer inner)) p)
  carried_along E =
      let D = renamed_context (renaming_of outer) C in
      ap (plugged E) (renamed-plugged (renaming_of outer) C (renamed (renaming_of inner) p) ∙ ap (plugged D) (sym renamed_by_followed))
      ∙ sym (plugged-nested E D (renamed (renaming_of (followed (hidden_around C) outer inner)) p))
