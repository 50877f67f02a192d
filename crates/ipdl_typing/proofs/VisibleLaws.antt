-- The visible channels: what the innermost one of a name tells, and what marks change.
use Rattle.std.proofs.Common.{◌≡◌, Bool, true, false, ◌||◌, if◌then◌else◌, List, [], ◌∷◌, Option, Some, None, refl, sym, ap, ◌∙◌}
use Rattle.std.specs.Option.{option_map}
use Rattle.std.proofs.Math.Bool.{or-false, or_assoc}
use Rattle.std.proofs.lemmas.Bool.{false≢true}
use mathlib.Core.Path.{fun_ext}
use Rattle.ipdl_term.specs.Terms.{Channel}
use Rattle.ipdl_term.specs.Channels.{same_channel, has, without}
use Rattle.ipdl_term.specs.Typing.{scope_with}
use Rattle.ipdl_term.proofs.ChannelSets.{same_channel-sound, same_channel-itself, same_channel_comm, has-without}
use Rattle.ipdl_typing.specs.Visible.{Entry, innermost, scope_in, writable_in, earlier_in, apart_from, marked_entry, marked}

-- ---- what the innermost channel of a name tells

-- the width of a name is that of the innermost channel
pub scope_in-innermost : (es : List Entry) (c : Channel) → scope_in es c ≡ option_map (λ (e : Entry). e.width) (innermost es c)
scope_in-innermost [] c = refl
scope_in-innermost (e ∷ es) c = go (same_channel e.name c) (scope_in-innermost es c)
  where
    go : (b : Bool) → scope_in es c ≡ option_map (λ (e : Entry). e.width) (innermost es c) → (if b then Some e.width else scope_in es c) ≡ option_map (λ (e : Entry). e.width) (if b then Some e else innermost es c)
    go true rest = refl
    go false rest = rest

-- whether the channel that was found, if any, passes a test
abbrev pub passes : (Entry → Bool) → Option Entry → Bool
passes test None = false
passes test (Some e) = test e

-- a name may be written where the innermost channel may
pub writable_in-innermost : (es : List Entry) (c : Channel) → writable_in es c ≡ passes (λ e. e.writable) (innermost es c)
writable_in-innermost [] c = refl
writable_in-innermost (e ∷ es) c = go (same_channel e.name c) (writable_in-innermost es c)
  where
    go : (b : Bool) → writable_in es c ≡ passes (λ e. e.writable) (innermost es c) → (if b then e.writable else writable_in es c) ≡ passes (λ e. e.writable) (if b then Some e else innermost es c)
    go true rest = refl
    go false rest = rest

-- a name was written where the innermost channel was
pub has-earlier_in : (es : List Entry) (c : Channel) → has (earlier_in es) c ≡ passes (λ e. e.written) (innermost es c)
has-earlier_in [] c = refl
has-earlier_in (e ∷ es) c = go e.written refl (same_channel e.name c) refl (has-earlier_in es c)
  where
    go : (w : Bool) → e.written ≡ w → (b : Bool) → same_channel e.name c ≡ b → has (earlier_in es) c ≡ passes (λ e. e.written) (innermost es c) → has (if w then (e.name ∷ earlier_in es) else without e.name (earlier_in es)) c ≡ passes (λ e. e.written) (if b then Some e else innermost es c)
    go true written true named rest = rw named (sym written)
    go true written false named rest = rw named rest
    go false written true named rest = has-without e.name (earlier_in es) c ∙ rw named (sym written)
    go false written false named rest = has-without e.name (earlier_in es) c ∙ rw named rest

-- ---- channels that are written now

-- an entry that is not marked stays as it is
pub marked_entry-false : (e : Entry) → marked_entry false e ≡ e
marked_entry-false e = ap (λ b. record { name = e.name; width = e.width; writable = e.writable; written = b }) (or-false e.written)

-- a set that has no channel marks nothing
pub marked-none : (es : List Entry) → marked (λ d. false) es ≡ es
marked-none [] = refl
marked-none (e ∷ es) =
    let same : apart_from e.name (λ d. false) ≡ (λ d. false) = fun_ext (λ d. nothing (same_channel e.name d)) in
    rw (same, marked_entry-false e, marked-none es) refl
  where
    nothing : (b : Bool) → (if b then false else false) ≡ false
    nothing true = refl
    nothing false = refl

-- a set without one of its channels, that has no other
pub apart_from-same : (c d : Channel) → same_channel d c ≡ true → apart_from d (same_channel c) ≡ (λ x. false)
apart_from-same c d same =
    let e : d ≡ c = same_channel-sound d c same in fun_ext (λ x. ap (λ n. if same_channel n x then false else same_channel c x) e ∙ twice (same_channel c x))
  where
    twice : (b : Bool) → (if b then false else b) ≡ false
    twice true = refl
    twice false = refl

-- a set without a channel that it does not have
pub apart_from-other : (c d : Channel) → same_channel d c ≡ false → apart_from d (same_channel c) ≡ same_channel c
apart_from-other c d other = fun_ext (λ x. go x (same_channel d x) refl (same_channel c x) refl)
  where
    go : (x : Channel) (a : Bool) → same_channel d x ≡ a → (b : Bool) → same_channel c x ≡ b → (if a then false else same_channel c x) ≡ same_channel c x
    go x true here true there =
        let e : d ≡ x = same_channel-sound d x here in let g : c ≡ x = same_channel-sound c x there in
        absurd (false≢true (sym other ∙ ap (λ n. same_channel n c) (e ∙ sym g) ∙ same_channel-itself c))
    go x true here false there = sym there
    go x false here b there = refl

-- a channel of another name stays as it is
pub marked_entry-other : (c : Channel) (e : Entry) → same_channel e.name c ≡ false → marked_entry (same_channel c e.name) e ≡ e
marked_entry-other c e other =
    ap (λ b. marked_entry b e) (same_channel_comm c e.name ∙ other) ∙ marked_entry-false e

-- nothing is marked where there is none of the name
pub marked-missing : (es : List Entry) (c : Channel) → innermost es c ≡ None → marked (same_channel c) es ≡ es
marked-missing [] c none = refl
marked-missing (e ∷ es) c none = go (same_channel e.name c) refl none (marked-missing es c)
  where
    go : (b : Bool) → same_channel e.name c ≡ b → (if b then Some e else innermost es c) ≡ None → (innermost es c ≡ None → marked (same_channel c) es ≡ es) → marked_entry (same_channel c e.name) e ∷ marked (apart_from e.name (same_channel c)) es ≡ e ∷ es
    go true named none rest = cc
    go false other none rest = rw (marked_entry-other c e other, apart_from-other c e.name other, rest none) refl

-- ---- what marks leave as it is, and what they change

-- marks change no width
pub scope_in-marked : (es : List Entry) (test : Channel → Bool) → scope_in (marked test es) ≡ scope_in es
scope_in-marked [] test = refl
scope_in-marked (e ∷ es) test = ap (scope_with e.name e.width) (scope_in-marked es (apart_from e.name test))

-- marks do not change what may be written
pub writable_in-marked : (es : List Entry) (test : Channel → Bool) → writable_in (marked test es) ≡ writable_in es
writable_in-marked [] test = refl
writable_in-marked (e ∷ es) test =
    let outer : (Channel → Bool) → Channel → Bool = λ w c. if same_channel e.name c then e.writable else w c in
    ap outer (writable_in-marked es (apart_from e.name test))

-- first one set, then another
pub marked-twice : (es : List Entry) (f g : Channel → Bool) → marked g (marked f es) ≡ marked (λ c. f c || g c) es
marked-twice [] f g = refl
marked-twice (e ∷ es) f g =
    let both : (λ c. apart_from e.name f c || apart_from e.name g c) ≡ apart_from e.name (λ c. f c || g c) = fun_ext (λ c. apart (same_channel e.name c) (f c) (g c)) in
    let entry : marked_entry (g e.name) (marked_entry (f e.name) e) ≡ marked_entry (f e.name || g e.name) e = ap (λ b. record { name = e.name; width = e.width; writable = e.writable; written = b }) (or_assoc e.written (f e.name) (g e.name)) in
    rw (entry, marked-twice es (apart_from e.name f) (apart_from e.name g), both) refl
  where
    apart : (b x y : Bool) → ((if b then false else x) || (if b then false else y)) ≡ (if b then false else (x || y))
    apart true x y = refl
    apart false x y = refl

-- a channel was written where it was before, or is in the set, if the set has visible channels alone
pub has-marked : (es : List Entry) (test : Channel → Bool) (c : Channel) → (test c ≡ true → writable_in es c ≡ true) → has (earlier_in (marked test es)) c ≡ (has (earlier_in es) c || test c)
has-marked [] test c visible = go (test c) visible
  where
    go : (b : Bool) → (b ≡ true → false ≡ true) → false ≡ (false || b)
    go true seen = absurd (false≢true (seen refl))
    go false seen = refl
has-marked (e ∷ es) test c visible =
    go (same_channel e.name c) refl e.written refl (test e.name) refl (rest (has-marked es (apart_from e.name test) c))
  where
    rest : ((apart_from e.name test c ≡ true → writable_in es c ≡ true) → has (earlier_in (marked (apart_from e.name test) es)) c ≡ (has (earlier_in es) c || apart_from e.name test c)) → same_channel e.name c ≡ false → has (earlier_in (marked (apart_from e.name test) es)) c ≡ (has (earlier_in es) c || test c)
    rest later other =
        let seen : apart_from e.name test c ≡ true → writable_in es c ≡ true = λ t. sym (ap (λ b. if b then e.writable else writable_in es c) other) ∙ visible (sym (ap (λ b. if b then false else test c) other) ∙ t) in
        later seen ∙ ap (λ b. has (earlier_in es) c || (if b then false else test c)) other

    tested : same_channel e.name c ≡ true → test e.name ≡ test c
    tested named = ap test (same_channel-sound e.name c named)

    go : (b : Bool) → same_channel e.name c ≡ b → (w : Bool) → e.written ≡ w → (t : Bool) → test e.name ≡ t → (same_channel e.name c ≡ false → has (earlier_in (marked (apart_from e.name test) es)) c ≡ (has (earlier_in es) c || test c)) → has (if (w || t) then (e.name ∷ earlier_in (marked (apart_from e.name test) es)) else without e.name (earlier_in (marked (apart_from e.name test) es))) c ≡ (has (if w then (e.name ∷ earlier_in es) else without e.name (earlier_in es)) c || test c)
    go true named true written t is later = rw named refl
    go true named false written true is later =
        rw (has-without e.name (earlier_in es) c, named, ← tested named, is) refl
    go true named false written false is later =
        rw (has-without e.name (earlier_in (marked (apart_from e.name test) es)) c, has-without e.name (earlier_in es) c, named, ← tested named, is) refl
    go false other true written t is later = rw other (later other)
    go false other false written true is later = rw (has-without e.name (earlier_in es) c, other) (later other)
    go false other false written false is later =
        rw (has-without e.name (earlier_in (marked (apart_from e.name test) es)) c, has-without e.name (earlier_in es) c, other) (later other)
