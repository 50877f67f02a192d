-- Pairs that are followed by a renaming, and the channels that are hidden there.
use Rattle.std.proofs.Common.{◌≡◌, ℕ, zero, suc, ◌+◌, ◌<◌, Bool, true, false, ◌||◌, if◌then◌else◌, List, [], ◌∷◌, ◌++◌, Bor, Option, Some, None, map, take, length, get_or, refl, sym, ap, ◌∙◌}
use Rattle.std.specs.Option.{option_map}
use Rattle.std.proofs.lemmas.List.{map_push, take_more}
use mathlib.Core.Path.{fun_ext}
use Rattle.ipdl_term.specs.Channels.{same_channel, has}
use Rattle.ipdl_term.specs.Places.{context_at}
use Rattle.ipdl_term.specs.Renaming.{Renaming, renaming_of, renaming_at, keeping, hidden_around}
use Rattle.ipdl_term.specs.Terms.{Channel, Protocol, nil, assignment, parallel, hiding, Context, hole, in_left, in_right, in_hiding}
use Rattle.ipdl_embed.specs.Following.{followed, hidden_on_way, names_of}
use Rattle.ipdl_embed.specs.Pairs.{Pairs}
use Rattle.ipdl_embed.specs.Tables.{keeping_all}

-- ---- what a renaming is at the hole

-- the channels that are hidden around the hole keep their names there
pub renaming_at-kept : (C : Context) (f : Renaming) → renaming_at C f ≡ keeping_all (has (hidden_around C)) f
renaming_at-kept hole f = refl
renaming_at-kept (in_left C q) f = renaming_at-kept C f
renaming_at-kept (in_right q C) f = renaming_at-kept C f
renaming_at-kept (in_hiding c w C) f =
    renaming_at-kept C (keeping c f) ∙ fun_ext (λ d. go d (same_channel c d) (has (hidden_around C) d))
  where
    go : (d : Channel) (p q : Bool) → (if q then d else (if p then d else f d)) ≡ (if p || q then d else f d)
    go d true true = refl
    go d true false = refl
    go d false true = refl
    go d false false = refl

-- so the new names of pairs that are followed at the hole are renamed as they are there
pub followed-at_hole : (C : Context) (outer inner : Pairs) → followed (hidden_around C) outer inner ≡ map (λ (pair : Channel × Channel). (pair.0, renaming_at C (renaming_of outer) pair.1)) inner
followed-at_hole C outer inner =
    ap (λ f. map (λ (pair : Channel × Channel). (pair.0, f pair.1)) inner) (sym (renaming_at-kept C (renaming_of outer)))

-- ---- the channels that are hidden on the way to a place

pub hidden_on_way-here : (p : Protocol) → hidden_on_way p [] ≡ []
hidden_on_way-here nil = refl
hidden_on_way-here (assignment c r) = refl
hidden_on_way-here (parallel p q) = refl
hidden_on_way-here (hiding c w p) = refl

-- none before the way begins
pub hidden_on_way-none : (p : Protocol) (place : List ℕ) (before : List Channel) → length place ≡ 0 → before ≡ before ++ hidden_on_way p place
hidden_on_way-none p [] before is = sym (ap (λ cs. before ++ cs) (hidden_on_way-here p) ∙ append-none before)
  where
    append-none : (cs : List Channel) → cs ++ [] ≡ cs
    append-none [] = refl
    append-none (c ∷ cs) = ap (λ ds. c ∷ ds) (append-none cs)
hidden_on_way-none p (n ∷ place) before is = cc

-- where a protocol stands at the place, they are those around the hole of the context there
pub hidden_on_way-hidden_around : (p : Protocol) (place : List ℕ) (C : Context) → context_at p place ≡ Some C → hidden_on_way p place ≡ hidden_around C
hidden_on_way-hidden_around p [] C at = let same : hole ≡ C = cc in hidden_on_way-here p ∙ ap hidden_around same
hidden_on_way-hidden_around (parallel p q) (zero ∷ place) C at =
    go (context_at p place) refl at (hidden_on_way-hidden_around p place)
  where
    go : (o : Option Context) → context_at p place ≡ o → option_map (λ D. in_left D q) o ≡ Some C → ((D : Context) → context_at p place ≡ Some D → hidden_on_way p place ≡ hidden_around D) → hidden_on_way p place ≡ hidden_around C
    go None is at inner = cc
    go (Some D) is at inner = let same : in_left D q ≡ C = cc in inner D is ∙ ap hidden_around same
hidden_on_way-hidden_around (parallel p q) (suc zero ∷ place) C at =
    go (context_at q place) refl at (hidden_on_way-hidden_around q place)
  where
    go : (o : Option Context) → context_at q place ≡ o → option_map (λ D. in_right p D) o ≡ Some C → ((D : Context) → context_at q place ≡ Some D → hidden_on_way q place ≡ hidden_around D) → hidden_on_way q place ≡ hidden_around C
    go None is at inner = cc
    go (Some D) is at inner = let same : in_right p D ≡ C = cc in inner D is ∙ ap hidden_around same
hidden_on_way-hidden_around (hiding c w p) (zero ∷ place) C at =
    go (context_at p place) refl at (hidden_on_way-hidden_around p place)
  where
    go : (o : Option Context) → context_at p place ≡ o → option_map (λ D. in_hiding c w D) o ≡ Some C → ((D : Context) → context_at p place ≡ Some D → hidden_on_way p place ≡ hidden_around D) → c ∷ hidden_on_way p place ≡ hidden_around C
    go None is at inner = cc
    go (Some D) is at inner = let same : in_hiding c w D ≡ C = cc in ap (λ cs. c ∷ cs) (inner D is) ∙ ap hidden_around same
hidden_on_way-hidden_around _ _ C at = cc

-- ---- one more

-- the references so far, and one more
pub names_of-more : (names : List (Bor (List ℕ))) (i : ℕ) (x : Bor (List ℕ)) → i < length names → get_or names i x ≡ x → names_of (take (i + 1) names) ≡ names_of (take i names) ++ x.now ∷ []
names_of-more names i x within at =
    ap names_of (take_more names i x within)
    ∙ map_push (λ (reference : Bor (List ℕ)). reference.now) (take i names) (get_or names i x)
    ∙ ap (λ (reference : Bor (List ℕ)). names_of (take i names) ++ reference.now ∷ []) at

-- as the program has it, whose set has the hidden names
pub kept_below : (hidden : List Channel) (f : Renaming) (kept none : Channel → Bool) → ((c : Channel) → kept c ≡ (has hidden c || none c)) → ((c : Channel) → none c ≡ false) → keeping_all kept f ≡ keeping_all (has hidden) f
kept_below hidden f kept none all empty =
    fun_ext (λ c. ap (λ b. if b then c else f c) (all c ∙ ap (λ b. has hidden c || b) (empty c) ∙ go (has hidden c)))
  where
    go : (b : Bool) → (b || false) ≡ b
    go true = refl
    go false = refl

-- a pair more
pub followed-more : (hidden : List Channel) (outer inner made : Pairs) (i : ℕ) (x : Channel × Channel) → i < length inner → get_or inner i x ≡ x → made ≡ followed hidden outer (take i inner) → made ++ (x.0, keeping_all (has hidden) (renaming_of outer) x.1) ∷ [] ≡ followed hidden outer (take (i + 1) inner)
followed-more hidden outer inner made i x within at is =
    ap (λ list. list ++ (x.0, keeping_all (has hidden) (renaming_of outer) x.1) ∷ []) is
    ∙ ap (λ (y : Channel × Channel). followed hidden outer (take i inner) ++ (y.0, keeping_all (has hidden) (renaming_of outer) y.1) ∷ []) (sym at)
    ∙ sym (map_push (λ (pair : Channel × Channel). (pair.0, keeping_all (has hidden) (renaming_of outer) pair.1)) (take i inner) (get_or inner i x))
    ∙ ap (followed hidden outer) (sym (take_more inner i x within))
