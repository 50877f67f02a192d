-- Sets of names that grow by a name, or by the names of a term after those of another.
use Rattle.std.proofs.Common.{◌≡◌, Bool, true, false, ◌||◌, List, [], ◌∷◌, ◌++◌, refl, sym, ap, ◌∙◌, subst, append-nil}
use Rattle.ipdl_term.proofs.ChannelSets.{same_channel-sound, has-append}
use Rattle.ipdl_term.specs.Channels.{has, same_channel}
use Rattle.ipdl_term.specs.Terms.{Channel}

-- a name that is there adds nothing
pub has_it : (names : List Channel) (name : Channel) → has names name ≡ true → (c : Channel) → has names c ≡ (has (name ∷ []) c || has names c)
has_it names name h c = go (same_channel name c) refl
  where
    go : (b : Bool) → same_channel name c ≡ b → has names c ≡ ((b || false) || has names c)
    go true e = subst (λ d. has names d ≡ true) (same_channel-sound name c e) h
    go false e = refl

both : (p q old mid new : Bool) → mid ≡ (p || old) → new ≡ (q || mid) → new ≡ ((p || q) || old)
both true true old mid new m n = n
both true false old mid new m n = n ∙ m
both false true old mid new m n = n
both false false old mid new m n = n ∙ m

pub added : (first second old mid new : List Channel) → ((c : Channel) → has mid c ≡ (has first c || has old c)) → ((c : Channel) → has new c ≡ (has second c || has mid c)) →
    (c : Channel) → has new c ≡ (has (first ++ second) c || has old c)
added first second old mid new m n c =
    both (has first c) (has second c) (has old c) (has mid c) (has new c) (m c) (n c) ∙ ap (λ b. b || has old c) (sym (has-append first second c))

later_too : (p q old : Bool) → (q || (p || old)) ≡ ((p || q) || old)
later_too true true old = refl
later_too true false old = refl
later_too false true old = refl
later_too false false old = refl

-- the names of the first of some terms were added: with those of the rest they are as many as before
pub first_added : (first rest old new all : List Channel) (c : Channel) → has new c ≡ (has first c || has old c) → (has (first ++ rest) c || has old c) ≡ has all c → (has rest c || has new c) ≡ has all c
first_added first rest old new all c added before =
    ap (λ b. has rest c || b) added
    ∙ later_too (has first c) (has rest c) (has old c)
    ∙ ap (λ b. b || has old c) (sym (has-append first rest c))
    ∙ before

-- the names of two terms, added to none
pub two_added : (first second old mid new : List Channel) → old ≡ [] → ((c : Channel) → has mid c ≡ (has first c || has old c)) → ((c : Channel) → has new c ≡ (has second c || has mid c)) → (c : Channel) → has new c ≡ has (first ++ (second ++ [])) c
two_added first second old mid new none m n c =
    added first second old mid new m n c
    ∙ ap (λ cs. has (first ++ second) c || has cs c) none
    ∙ or_false (has (first ++ second) c)
    ∙ ap (λ cs. has (first ++ cs) c) (sym (append-nil second))
  where
    or_false : (b : Bool) → (b || false) ≡ b
    or_false true = refl
    or_false false = refl
