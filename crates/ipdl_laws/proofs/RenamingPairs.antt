-- Renamings that are given by pairs, and the uses of equal protocols of an interface.
use Rattle.std.proofs.Common.{◌≡◌, ℕ, Bool, true, false, ◌||◌, List, [], ◌∷◌, ◌++◌, Some, refl, sym, ap, ◌∙◌}
use Rattle.std.proofs.lemmas.Bool.{or_left, or_right}
use Rattle.std.proofs.lemmas.Map.Keys.{IsDistinct-head, IsDistinct-tail}
use Rattle.std.specs.List.{AllByRecursion, IsDistinct}
use Rattle.std.specs.Map.{keys_of, values_of}
use Rattle.std.specs.Prelude.{if◌then◌else◌}
use Rattle.ipdl_term.specs.Channels.{same_channel, has, IsWithin, AreDisjoint}
use Rattle.ipdl_term.specs.Equality.{Equal}
use Rattle.ipdl_term.specs.Interpretations.{Signature}
use Rattle.ipdl_term.specs.Places.{term_at, term_with}
use Rattle.ipdl_term.specs.Renaming.{renamed, hidden_channels, IsInjectiveOn, CapturesNone, renaming_of}
use Rattle.ipdl_term.specs.Surroundings.{around, outermost}
use Rattle.ipdl_term.specs.Terms.{Channel, Protocol, protocol_term}
use Rattle.ipdl_term.specs.Typing.{Scope, Typed, scope_of, port_names}
use Rattle.ipdl_term.specs.declared.interface.Interface.{Interface}
use Rattle.ipdl_term.proofs.ChannelSets.{same_channel-sound, same_channel-itself}
use Rattle.ipdl_laws.proofs.ClosingContexts.{scope_of_names}
use Rattle.ipdl_laws.proofs.RenamedEqual.{equal_renamed_at_place}
use Rattle.ipdl_laws.proofs.Sets.{by_test, if-true, if-false, not_both, same_channel-false_swap}

-- a channel that differs from each of a set is not in it
not_among : (c : Channel) (cs : List Channel) → AllByRecursion (λ d. same_channel c d ≡ false) cs → has cs c ≡ false
not_among c [] h = refl
not_among c (d ∷ cs) h = rw (same_channel-false_swap c d h.0, not_among c cs h.1)

-- the new name of a channel with a pair is one of the second names
new_name_is_second : (pairs : List (Channel × Channel)) (c : Channel) → has (keys_of pairs) c ≡ true → has (values_of pairs) (renaming_of pairs c) ≡ true
new_name_is_second [] c h = cc
new_name_is_second (pair ∷ pairs) c h = go (same_channel pair.0 c) h (new_name_is_second pairs c)
  where
    go : (b : Bool) → (b || has (keys_of pairs) c) ≡ true → (has (keys_of pairs) c ≡ true → has (values_of pairs) (renaming_of pairs c) ≡ true) → has (values_of (pair ∷ pairs)) (if b then pair.1 else renaming_of pairs c) ≡ true
    go true h k = or_left (same_channel pair.1 pair.1) (has (values_of pairs) pair.1) (same_channel-itself pair.1)
    go false h k = or_right (same_channel pair.1 (renaming_of pairs c)) (has (values_of pairs) (renaming_of pairs c)) (k h)

-- different second names keep the channels apart
pub pairs_are_injective : (pairs : List (Channel × Channel)) → IsDistinct same_channel (values_of pairs) → IsInjectiveOn (keys_of pairs) (renaming_of pairs)
pairs_are_injective [] distinct c d h k e = cc
pairs_are_injective (pair ∷ pairs) distinct c d h k e =
    let apart : has (values_of pairs) pair.1 ≡ false = not_among pair.1 (values_of pairs) (IsDistinct-head same_channel pair.1 (values_of pairs) distinct) in
    by_test (same_channel pair.0 c)
    (λ a. by_test (same_channel pair.0 d)
    (λ b. sym (same_channel-sound pair.0 c a) ∙ same_channel-sound pair.0 d b)
    (λ b. not_both (has (values_of pairs) pair.1) (ap (has (values_of pairs)) (sym (if-true (same_channel pair.0 c) _ _ a) ∙ e ∙ if-false (same_channel pair.0 d) _ _ b) ∙ new_name_is_second pairs d (behind d b k)) apart))
    (λ a. by_test (same_channel pair.0 d)
    (λ b. not_both (has (values_of pairs) pair.1) (ap (has (values_of pairs)) (sym (if-true (same_channel pair.0 d) _ _ b) ∙ sym e ∙ if-false (same_channel pair.0 c) _ _ a) ∙ new_name_is_second pairs c (behind c a h)) apart)
    (λ b. pairs_are_injective pairs (IsDistinct-tail same_channel pair.1 (values_of pairs) distinct) c d (behind c a h) (behind d b k) (sym (if-false (same_channel pair.0 c) _ _ a) ∙ e ∙ if-false (same_channel pair.0 d) _ _ b)))
  where
    behind : (x : Channel) → same_channel pair.0 x ≡ false → has (keys_of (pair ∷ pairs)) x ≡ true → has (keys_of pairs) x ≡ true
    behind x a h = sym (ap (λ b. b || has (keys_of pairs) x) a) ∙ h

-- second names that are not hidden are not captured
pub pairs_capture_none : (pairs : List (Channel × Channel)) (p : Protocol) → AreDisjoint (values_of pairs) (hidden_channels p) → CapturesNone (keys_of pairs) (renaming_of pairs) p
pairs_capture_none pairs p apart c h k =
    not_both (has (hidden_channels p) (renaming_of pairs c)) k (apart (renaming_of pairs c) (new_name_is_second pairs c h))

-- the use of equal protocols of an interface, under pairs for all its channels, at a place
pub use_at_place : (sig : Signature) (i : Interface) (pairs : List (Channel × Channel)) → IsWithin (port_names (i.inputs ++ i.outputs)) (keys_of pairs) → IsDistinct same_channel (values_of pairs) →
    (old new : Protocol) → AreDisjoint (values_of pairs) (hidden_channels old) → AreDisjoint (values_of pairs) (hidden_channels new) → Equal sig (scope_of (i.inputs ++ i.outputs)) (port_names i.outputs) old new →
    (scope : Scope) (written : List Channel) (p q : Protocol) (place : List ℕ) → Typed sig scope p written → term_at (protocol_term p) place ≡ Some (protocol_term (renamed (renaming_of pairs) old)) →
    term_with (protocol_term p) place (protocol_term (renamed (renaming_of pairs) new)) ≡ protocol_term q →
    ((c : Channel) (w : ℕ) → scope_of (i.inputs ++ i.outputs) c ≡ Some w → (around (outermost scope) (protocol_term p) place).scope (renaming_of pairs c) ≡ Some w) → Equal sig scope written p q
use_at_place sig i pairs named distinct old new apart_old apart_new equal =
    let ports = i.inputs ++ i.outputs in
    equal_renamed_at_place (renaming_of pairs) (keys_of pairs) (pairs_are_injective pairs distinct) sig (scope_of ports) (port_names i.outputs)
    (λ c h. named c (sym (scope_of_names ports c) ∙ h)) old new (pairs_capture_none pairs old apart_old) (pairs_capture_none pairs new apart_new) equal
