-- Histories: a history is exactly what is written, and what is written has one.
use Rattle.std.proofs.Common.{◌≡◌, Bool, true, false, ◌||◌, List, [], ◌∷◌, ◌++◌, map, Option, Some, None, refl, sym, ap, ◌∙◌}
use Rattle.std.proofs.lemmas.Bool.{or_left, or_right, or_parts, and_parts, and_from}
use Rattle.std.specs.Prelude.{◌↔◌, if◌then◌else◌}
use mathlib.Core.Path.{fun_ext}
use Rattle.ipdl_base.specs.BitsLaws.{same_bits-Decides}
use Rattle.ipdl_term.specs.Channels.{same_channel, has, SameSet, outputs}
use Rattle.ipdl_term.specs.Counts.{History, history_valuation, same_value, agree_at, is_history}
use Rattle.ipdl_term.specs.Interpretations.{Interpretation}
use Rattle.ipdl_term.specs.Protocols.{written, protocol_valuation}
use Rattle.ipdl_term.specs.Terms.{Value, Channel, Protocol}
use Rattle.ipdl_term.specs.Valuations.{Valuation}
use Rattle.ipdl_term.proofs.ChannelSets.{same_channel-itself, has-append}
use Rattle.ipdl_laws.proofs.Monotone.{WritesOnly-protocol_valuation}
use Rattle.ipdl_laws.proofs.Order.{WritesOnly}
use Rattle.ipdl_laws.proofs.Sets.{by_test, test_same, if-true, if-false, at_same_channel}

-- ---- agreement at a set

-- values that pass the test are the same
same_value-sound : (o u : Option Value) → same_value o u ≡ true → o ≡ u
same_value-sound None None h = refl
same_value-sound None (Some u) h = cc
same_value-sound (Some v) None h = cc
same_value-sound (Some v) (Some u) h = ap (λ x. Some x) ((same_bits-Decides v u).0 h)

-- a value is the same as itself
same_value-itself : (o : Option Value) → same_value o o ≡ true
same_value-itself None = refl
same_value-itself (Some v) = (same_bits-Decides v v).1 refl

-- valuations that agree at a set agree at each of its channels
agree_at_has : (cs : List Channel) (p q : Valuation) (c : Channel) → agree_at cs p q ≡ true → has cs c ≡ true → p c ≡ q c
agree_at_has [] p q c h k = cc
agree_at_has (d ∷ cs) p q c h k =
    let both = and_parts (same_value (p d) (q d)) (agree_at cs p q) h in
    by_test (same_channel d c)
    (λ e. at_same_channel (λ x. p x ≡ q x) d c e (same_value-sound (p d) (q d) both.0))
    (λ e. agree_at_has cs p q c both.1 (sym (ap (λ b. b || has cs c) e) ∙ k))

-- and the other way round
agree_at_from : (cs : List Channel) (p q : Valuation) → ((c : Channel) → has cs c ≡ true → p c ≡ q c) → agree_at cs p q ≡ true
agree_at_from [] p q h = refl
agree_at_from (d ∷ cs) p q h =
    and_from (same_value (p d) (q d)) (agree_at cs p q)
    (ap (same_value (p d)) (sym (h d (or_left (same_channel d d) (has cs d) (same_channel-itself d)))) ∙ same_value-itself (p d))
    (agree_at_from cs p q (λ c k. h c (or_right (same_channel d c) (has cs c) k)))

-- lists of the same channels
agree_at_same : (cs ds : List Channel) (p q : Valuation) → SameSet cs ds → agree_at cs p q ≡ agree_at ds p q
agree_at_same cs ds p q h = test_same (agree_at cs p q) (agree_at ds p q)
    (λ e. agree_at_from ds p q (λ c k. agree_at_has cs p q c e (h c ∙ k)))
    (λ e. agree_at_from cs p q (λ c k. agree_at_has ds p q c e (sym (h c) ∙ k)))

-- ---- histories

-- the channels of a history
abbrev keys_of : History → List Channel
keys_of h = map (λ (e : Channel × Value). e.0) h

-- a history of the same outputs
pub is_history_same : (written written' : List Channel) (h : History) (p : Valuation) → SameSet written written' → is_history written h p ≡ is_history written' h p
is_history_same written written' h p same =
    agree_at_same (written ++ keys_of h) (written' ++ keys_of h) p (history_valuation h) (λ c. has-append written (keys_of h) c ∙ ap (λ b. b || has (keys_of h) c) (same c) ∙ sym (has-append written' (keys_of h) c))

-- exactly where the valuations are equal at the outputs and at the history's channels
pub history_exactly : (cs : List Channel) (h : History) (p : Valuation) → (is_history cs h p ≡ true) ↔ ((c : Channel) → has (cs ++ keys_of h) c ≡ true → p c ≡ history_valuation h c)
history_exactly cs h p = (
  λ e c k. agree_at_has (cs ++ keys_of h) p (history_valuation h) c e k,
  λ same. agree_at_from (cs ++ keys_of h) p (history_valuation h) same,
)

-- a history has no value on other channels
history_past : (h : History) → WritesOnly (keys_of h) (history_valuation h)
history_past [] c k = refl
history_past (e ∷ h) c k =
    let both = or_parts (same_channel e.0 c) (has (keys_of h) c) k in
    if-false (same_channel e.0 c) _ _ both.0 ∙ history_past h c both.1

-- where the outputs alone are written, the history is all that is written
pub history_is_all : (cs : List Channel) (h : History) (p : Valuation) → WritesOnly cs p → (is_history cs h p ≡ true) ↔ (p ≡ history_valuation h)
history_is_all cs h p only = (
  λ e. fun_ext (λ c. by_test (has (cs ++ keys_of h) c)
      (λ k. agree_at_has (cs ++ keys_of h) p (history_valuation h) c e k)
      (λ k. let both = or_parts (has cs c) (has (keys_of h) c) (sym (has-append cs (keys_of h) c) ∙ k) in only c both.0 ∙ sym (history_past h c both.1))),
  λ e. agree_at_from (cs ++ keys_of h) p (history_valuation h) (λ c k. ap (λ s. s c) e),
)

-- of what a protocol writes
pub history_of_protocol : (J : Interpretation) (p : Protocol) (t : List Bool) (inputs : Valuation) (h : History) →
    (is_history (outputs p) h (protocol_valuation J p t inputs) ≡ true) ↔ (protocol_valuation J p t inputs ≡ history_valuation h)
history_of_protocol J p t inputs h = history_is_all (outputs p) h (protocol_valuation J p t inputs) (WritesOnly-protocol_valuation J p t inputs)

-- ---- the history of what is written

-- with this channel, if it has a value
abbrev with_entry : Channel → Option Value → History → History
with_entry c None h = h
with_entry c (Some v) h = (c, v) ∷ h

-- the history of a valuation at a set of channels
abbrev pub history_at : List Channel → Valuation → History
history_at [] p = []
history_at (c ∷ cs) p = with_entry c (p c) (history_at cs p)

-- a choice of nothing
if_none : (b : Bool) (o : Option Value) → o ≡ None → (if b then o else None) ≡ None
if_none true o e = e
if_none false o e = refl

-- one channel more
value_of_entry : (p : Valuation) (c d : Channel) (o : Option Value) (b : Bool) (h : History) → p c ≡ o → history_valuation h d ≡ (if b then p d else None) → history_valuation (with_entry c o h) d ≡ (if (same_channel c d || b) then p d else None)
value_of_entry p c d None b h e k = by_test (same_channel c d)
    (λ s. let at_d = at_same_channel (λ x. p x ≡ None) c d s e in k ∙ if_none b (p d) at_d ∙ sym at_d ∙ sym (ap (λ x. if (x || b) then p d else None) s))
    (λ s. k ∙ sym (ap (λ x. if (x || b) then p d else None) s))
value_of_entry p c d (Some v) b h e k = by_test (same_channel c d)
    (λ s. if-true (same_channel c d) _ _ s ∙ sym (at_same_channel (λ x. p x ≡ Some v) c d s e) ∙ sym (ap (λ x. if (x || b) then p d else None) s))
    (λ s. if-false (same_channel c d) _ _ s ∙ k ∙ sym (ap (λ x. if (x || b) then p d else None) s))

-- the value at each channel
value_at : (cs : List Channel) (p : Valuation) (d : Channel) → history_valuation (history_at cs p) d ≡ (if has cs d then p d else None)
value_at [] p d = refl
value_at (c ∷ cs) p d = value_of_entry p c d (p c) (has cs d) (history_at cs p) refl (value_at cs p d)

-- it is the valuation, where that writes those alone
pub history_valuation-history_at : (cs : List Channel) (p : Valuation) → WritesOnly cs p → p ≡ history_valuation (history_at cs p)
history_valuation-history_at cs p only = fun_ext (λ d. by_test (has cs d)
    (λ e. sym (value_at cs p d ∙ if-true (has cs d) _ _ e))
    (λ e. only d e ∙ sym (value_at cs p d ∙ if-false (has cs d) _ _ e)))
