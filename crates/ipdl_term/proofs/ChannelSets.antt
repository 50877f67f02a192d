-- Sets of channels: what the test for a member says of the lists that stand for them.
use Rattle.std.proofs.Common.{◌≡◌, ℕ, zero, suc, ◌<◌, Bool, true, false, ◌&&◌, ◌||◌, not, if◌then◌else◌, List, [], ◌∷◌, ◌++◌, length, get_or, refl, sym, ap, ◌∙◌, subst, arith}
use Rattle.std.specs.Prelude.{nat_eq, bytes_eq, Result, IfOk}
use Rattle.std.proofs.lemmas.Bool.{eqb-true, eq-eqb, false≢true}
use Rattle.std.specs.List.{filter}
use Rattle.std.proofs.lemmas.Result.{IfOk-weaker}
use Rattle.std.proofs.lemmas.Slice.Eq.{bytes_eq-Decides}
use Rattle.ipdl_term.specs.Terms.{Channel}
use Rattle.ipdl_term.specs.Channels.{same_channel, has, without, union, intersection, SameSet}

-- ---- one channel and another

-- channels that the test takes for the same are equal
same_heads : (x y : ℕ) (xs ys : Channel) (b : Bool) → nat_eq x y ≡ b → (same_channel xs ys ≡ true → xs ≡ ys) → (if b then same_channel xs ys else false) ≡ true → x ∷ xs ≡ y ∷ ys
same_heads x y xs ys true same later is =
    let first : x ≡ y = eqb-true x y same in let rest : xs ≡ ys = later is in cc
same_heads x y xs ys false other later is = absurd (false≢true is)

pub same_channel-sound : (c d : Channel) → same_channel c d ≡ true → c ≡ d
same_channel-sound [] [] is = refl
same_channel-sound [] (y ∷ ys) is = absurd (false≢true is)
same_channel-sound (x ∷ xs) [] is = absurd (false≢true is)
same_channel-sound (x ∷ xs) (y ∷ ys) is = same_heads x y xs ys (nat_eq x y) refl (same_channel-sound xs ys) is

-- a channel is the same as itself
pub same_channel-itself : (c : Channel) → same_channel c c ≡ true
same_channel-itself [] = refl
same_channel-itself (x ∷ xs) = let same : nat_eq x x ≡ true = eq-eqb x x refl in rw same (same_channel-itself xs)

-- the test does not look at the order of the two
pub same_channel_comm : (c d : Channel) → same_channel c d ≡ same_channel d c
same_channel_comm c d = go (same_channel c d) (same_channel d c) refl refl
  where
    go : (a b : Bool) → same_channel c d ≡ a → same_channel d c ≡ b → a ≡ b
    go true true p q = refl
    go false false p q = refl
    go true false p q = let e : c ≡ d = same_channel-sound c d p in let r : same_channel d d ≡ true = same_channel-itself d in absurd (false≢true (sym q ∙ subst (λ x. same_channel d x ≡ true) (sym e) r))
    go false true p q = let e : d ≡ c = same_channel-sound d c q in let r : same_channel c c ≡ true = same_channel-itself c in absurd (false≢true (sym p ∙ subst (λ x. same_channel c x ≡ true) (sym e) r))

-- the test of the bytes is the same test
pub bytes_eq-same_channel : (c d : Channel) → bytes_eq c d ≡ same_channel c d
bytes_eq-same_channel c d = go (bytes_eq c d) (same_channel c d) refl refl
  where
    go : (a b : Bool) → bytes_eq c d ≡ a → same_channel c d ≡ b → a ≡ b
    go true true p q = refl
    go false false p q = refl
    go true false p q = absurd (false≢true (sym q ∙ subst (λ x. same_channel c x ≡ true) ((bytes_eq-Decides c d).0 p) (same_channel-itself c)))
    go false true p q = absurd (false≢true (sym p ∙ (bytes_eq-Decides c d).1 (same_channel-sound c d q)))

-- ---- members

-- what stands at some place is a member
pub has-at : (cs : List Channel) (i : ℕ) (c : Channel) → i < length cs → ((d : Channel) → get_or cs i d ≡ c) → has cs c ≡ true
has-at [] i c within at = absurd (omega arith)
has-at (d ∷ ds) zero c within at = let e : d ≡ c = at c in rw (e, same_channel-itself c)
has-at (d ∷ ds) (suc i) c within at = rw (has-at ds i c (omega arith) at) (or-true (same_channel d c))
  where
    or-true : (b : Bool) → (b || true) ≡ true
    or-true true = refl
    or-true false = refl

-- what stands at no place is no member
pub has-apart : (cs : List Channel) (c : Channel) → ((i : ℕ) (d : Channel) → i < length cs → same_channel (get_or cs i d) c ≡ false) → has cs c ≡ false
has-apart [] c apart = refl
has-apart (d ∷ ds) c apart =
    let first : same_channel d c ≡ false = apart 0 d (omega arith) in
    let later : has ds c ≡ false = has-apart ds c (λ i e within. apart (suc i) e (omega arith)) in
    rw (first, later)

-- the members of two lists, one after the other
pub has-append : (cs ds : List Channel) (c : Channel) → has (cs ++ ds) c ≡ (has cs c || has ds c)
has-append [] ds c = refl
has-append (d ∷ cs) ds c = ap (λ b. same_channel d c || b) (has-append cs ds c) ∙ sym (or_assoc (same_channel d c) (has cs c) (has ds c))
  where
    or_assoc : (x y z : Bool) → ((x || y) || z) ≡ (x || (y || z))
    or_assoc true y z = refl
    or_assoc false y z = refl

-- of equal channels one is a member where the other is
has-same : (cs : List Channel) (c d : Channel) → same_channel c d ≡ true → has cs d ≡ has cs c
has-same cs c d same = sym (ap (has cs) (same_channel-sound c d same))

pub has-union : (cs ds : List Channel) (c : Channel) → has (union cs ds) c ≡ (has cs c || has ds c)
has-union [] ds c = refl
has-union (d ∷ cs) ds c = go (has ds d) refl (has-union cs ds c)
  where
    covered : (a b e : Bool) → (a ≡ true → e ≡ true) → (b || e) ≡ ((a || b) || e)
    covered true true e f = refl
    covered true false e f = f refl
    covered false b e f = refl

    or_assoc : (x y z : Bool) → (x || (y || z)) ≡ ((x || y) || z)
    or_assoc true y z = refl
    or_assoc false y z = refl

    go : (b : Bool) → has ds d ≡ b → has (union cs ds) c ≡ (has cs c || has ds c) → has (if b then union cs ds else (d ∷ union cs ds)) c ≡ ((same_channel d c || has cs c) || has ds c)
    go true held rest = rest ∙ covered (same_channel d c) (has cs c) (has ds c) (λ same. has-same ds d c same ∙ held)
    go false free rest = ap (λ b. same_channel d c || b) rest ∙ or_assoc (same_channel d c) (has cs c) (has ds c)

pub has-intersection : (cs ds : List Channel) (c : Channel) → has (intersection cs ds) c ≡ (has cs c && has ds c)
has-intersection [] ds c = refl
has-intersection (d ∷ cs) ds c = go (has ds d) refl (has-intersection cs ds c)
  where
    outside : (a b e : Bool) → (a ≡ true → e ≡ false) → (b && e) ≡ ((a || b) && e)
    outside true true e f = refl
    outside true false e f = sym (f refl)
    outside false b e f = refl

    inside : (a b e : Bool) → (a ≡ true → e ≡ true) → (a || (b && e)) ≡ ((a || b) && e)
    inside true b e f = sym (f refl)
    inside false b e f = refl

    go : (b : Bool) → has ds d ≡ b → has (intersection cs ds) c ≡ (has cs c && has ds c) → has (if b then (d ∷ intersection cs ds) else intersection cs ds) c ≡ ((same_channel d c || has cs c) && has ds c)
    go true held rest = ap (λ b. same_channel d c || b) rest ∙ inside (same_channel d c) (has cs c) (has ds c) (λ same. has-same ds d c same ∙ held)
    go false free rest = rest ∙ outside (same_channel d c) (has cs c) (has ds c) (λ same. has-same ds d c same ∙ free)

pub has-without : (c : Channel) (cs : List Channel) (d : Channel) → has (without c cs) d ≡ (if same_channel c d then false else has cs d)
has-without c [] d = nothing (same_channel c d)
  where
    nothing : (b : Bool) → false ≡ (if b then false else false)
    nothing true = refl
    nothing false = refl
has-without c (e ∷ cs) d = go (same_channel c e) refl (same_channel c d) refl (same_channel e d) refl (has-without c cs d)
  where
    go : (a : Bool) → same_channel c e ≡ a → (b : Bool) → same_channel c d ≡ b → (f : Bool) → same_channel e d ≡ f → has (without c cs) d ≡ (if same_channel c d then false else has cs d) → has (if a then without c cs else (e ∷ without c cs)) d ≡ (if b then false else (f || has cs d))
    go true p true q f r rest = rest ∙ ap (λ b. if b then false else has cs d) q
    go true p false q true r rest =
        absurd (false≢true (sym q ∙ subst (λ x. same_channel x d ≡ true) (sym (same_channel-sound c e p)) r))
    go true p false q false r rest = rest ∙ ap (λ b. if b then false else has cs d) q
    go false p true q true r rest =
        absurd (false≢true (sym p ∙ subst (λ x. same_channel x e ≡ true) (sym (same_channel-sound c d q)) (same_channel_comm d e ∙ r)))
    go false p true q false r rest = ap (λ b. b || has (without c cs) d) r ∙ rest ∙ ap (λ b. if b then false else has cs d) q
    go false p false q f r rest =
        ap (λ b. b || has (without c cs) d) r ∙ ap (λ b. f || b) (rest ∙ ap (λ b. if b then false else has cs d) q)

-- ---- the same sets, from the same sets

pub SameSet-union : (all cs cs' ds ds' : List Channel) → SameSet all (union cs ds) → SameSet cs cs' → SameSet ds ds' → SameSet all (union cs' ds')
SameSet-union all cs cs' ds ds' joined left right c =
    joined c ∙ has-union cs ds c ∙ ap (λ b. b || has ds c) (left c) ∙ ap (λ b. has cs' c || b) (right c) ∙ sym (has-union cs' ds' c)

pub SameSet-intersection : (cs cs' ds ds' : List Channel) → SameSet cs cs' → SameSet ds ds' → SameSet (intersection cs ds) (intersection cs' ds')
SameSet-intersection cs cs' ds ds' left right c =
    has-intersection cs ds c ∙ ap (λ b. b && has ds c) (left c) ∙ ap (λ b. has cs' c && b) (right c) ∙ sym (has-intersection cs' ds' c)

pub SameSet-without : (c : Channel) (cs cs' : List Channel) → SameSet cs cs' → SameSet (without c cs) (without c cs')
SameSet-without c cs cs' same d =
    has-without c cs d ∙ ap (λ b. if same_channel c d then false else b) (same d) ∙ sym (has-without c cs' d)

-- ---- the lists as filters of one another

-- what the other set has
pub filter-has : (cs ds : List Channel) → filter (has ds) cs ≡ intersection cs ds
filter-has [] ds = refl
filter-has (c ∷ cs) ds = rw (filter-has cs ds)

-- what is another channel than c
pub filter-other : (c : Channel) (cs : List Channel) → filter (λ d. not (bytes_eq c d)) cs ≡ without c cs
filter-other c [] = refl
filter-other c (d ∷ cs) = rw (filter-other c cs, bytes_eq-same_channel c d) (go (same_channel c d))
  where
    go : (b : Bool) → (if not b then (d ∷ without c cs) else without c cs) ≡ (if b then without c cs else (d ∷ without c cs))
    go true = refl
    go false = refl

-- ---- the union of two sets, one member after the other

-- a member that goes from the second set to the first
pub moved_one : (now next rest left : List Channel) (d c : Channel) → rest ≡ left ++ d ∷ [] → SameSet next (d ∷ now) → (has next c || has left c) ≡ (has now c || has rest c)
moved_one now next rest left d c is adds =
    ap (λ b. b || has left c) (adds c)
    ∙ turned (same_channel d c) (has now c) (has left c)
    ∙ ap (λ b. has now c || b) (sym (has-append left (d ∷ []) c) ∙ ap (λ l. has l c) (sym is))
  where
    turned : (x y z : Bool) → ((x || y) || z) ≡ (y || (z || (x || false)))
    turned true true z = refl
    turned true false true = refl
    turned true false false = refl
    turned false true z = refl
    turned false false true = refl
    turned false false false = refl

-- the members of the one set or the other are those of the union
pub union_from_either : {E : Type 0} (r : Result (List Channel) E) (cs ds : List Channel) → IfOk r (λ all. (c : Channel) → has all c ≡ (has cs c || has ds c)) → IfOk r (λ all. SameSet all (union cs ds))
union_from_either r cs ds either =
    IfOk-weaker r (λ all. (c : Channel) → has all c ≡ (has cs c || has ds c)) (λ all. SameSet all (union cs ds)) (λ all is c. is c ∙ sym (has-union cs ds c)) either

-- in either order
pub union_from_turned : {E : Type 0} (r : Result (List Channel) E) (cs ds : List Channel) → IfOk r (λ all. (c : Channel) → has all c ≡ (has ds c || has cs c)) → IfOk r (λ all. SameSet all (union cs ds))
union_from_turned r cs ds either =
    IfOk-weaker r (λ all. (c : Channel) → has all c ≡ (has ds c || has cs c)) (λ all. SameSet all (union cs ds)) (λ all is c. is c ∙ or_comm (has ds c) (has cs c) ∙ sym (has-union cs ds c)) either
  where
    or_comm : (x y : Bool) → (x || y) ≡ (y || x)
    or_comm true true = refl
    or_comm true false = refl
    or_comm false true = refl
    or_comm false false = refl

-- ---- what a call answers, from what the calls below it answered

-- the union of two answers
pub union_answered : {E : Type 0} (r : Result (List Channel) E) (cs cs' ds ds' all : List Channel) → all ≡ union cs' ds' → SameSet cs cs' → SameSet ds ds' → IfOk r (λ names. SameSet names (union cs ds)) → IfOk r (λ names. SameSet names all)
union_answered r cs cs' ds ds' all is left right joined =
    IfOk-weaker r (λ names. SameSet names (union cs ds)) (λ names. SameSet names all) (λ names same. subst (SameSet names) (sym is) (SameSet-union names cs cs' ds ds' same left right)) joined

-- the intersection of two answers
pub intersection_answered : (names cs cs' ds ds' all : List Channel) → all ≡ intersection cs' ds' → SameSet cs cs' → SameSet ds ds' → names ≡ intersection cs ds → SameSet names all
intersection_answered names cs cs' ds ds' all is left right common c =
    ap (λ l. has l c) common ∙ SameSet-intersection cs cs' ds ds' left right c ∙ ap (λ l. has l c) (sym is)

-- an answer without a channel
pub without_answered : (names cs cs' all : List Channel) (d : Channel) → all ≡ without d cs' → SameSet cs cs' → names ≡ without d cs → SameSet names all
without_answered names cs cs' all d is same left c =
    ap (λ l. has l c) left ∙ SameSet-without d cs cs' same c ∙ ap (λ l. has l c) (sym is)
