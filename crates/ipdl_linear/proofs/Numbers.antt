-- Increasing lists of numbers: they are equal where they have the same numbers, and two are merged to their difference.
use Rattle.std.proofs.Common.{◌≡◌, ◌⊎◌, inl, inr, ℕ, ◌-◌, ◌<◌, ◌≤◌, Bool, true, false, not, ◌||◌, List, [], ◌∷◌, ◌++◌, length, take, drop, append_assoc, length-drop, if◌then◌else◌, refl, sym, ap, ap₂, ◌∙◌, subst, arith}
use Rattle.std.proofs.lemmas.Bool.Decides.{nat_tests}
use Rattle.std.proofs.lemmas.List.{append-nil, drop_all, take_all}
use Rattle.std.specs.Prelude.{nat_eq, nat_lt}
use Rattle.ipdl_base.specs.Bits.{xor}
use Rattle.ipdl_linear.proofs.Booleans.{by_test, xor_false}
use Rattle.ipdl_linear.specs.Numbers.{has, AreAbove, IsIncreasing, merged_onto, merged}

-- ---- tests

pub less : (k l : ℕ) → nat_lt k l ≡ true → k < l
less k l e = grind (arith, nat_tests)

pub not_less : (k l : ℕ) → nat_lt k l ≡ false → l ≤ k
not_less k l e = grind (arith, nat_tests)

both_ways : (k l : ℕ) → nat_lt k l ≡ false → nat_lt l k ≡ false → k ≡ l
both_ways k l e f = grind (arith, nat_tests)

pub equal : (k l : ℕ) → nat_eq k l ≡ true → k ≡ l
equal k l e = grind (arith, nat_tests)

pub equal_itself : (k : ℕ) → nat_eq k k ≡ true
equal_itself k = grind (arith, nat_tests)

pub nat_eq_turned : (k l : ℕ) → nat_eq k l ≡ nat_eq l k
nat_eq_turned k l = grind (arith, nat_tests)

pub unequal : (k l : ℕ) → (k ≡ l → ⊥) → nat_eq k l ≡ false
unequal k l h = by_test (nat_eq k l) (λ e. absurd (h (equal k l e))) (λ e. e)

unequal_turned : (k l : ℕ) → k < l → nat_eq l k ≡ false
unequal_turned k l h = grind (arith, nat_tests)

-- ---- numbers above

AreAbove-less : (n m : ℕ) (ks : List ℕ) → n ≤ m → AreAbove m ks → AreAbove n ks
AreAbove-less n m [] h a = tt
AreAbove-less n m (k ∷ ks) h a = let first = a.0 in (omega arith, AreAbove-less n m ks h a.1)

-- a number that all are above is none of them
has-below : (n m : ℕ) (ks : List ℕ) → n ≤ m → AreAbove m ks → has ks n ≡ false
has-below n m [] h a = refl
has-below n m (k ∷ ks) h a = let first = a.0 in let l : n < k = omega arith in ap₂ ◌||◌ (unequal_turned n k l) (has-below n m ks h a.1)

-- the first of a list is there
has-first : (k : ℕ) (ks : List ℕ) → has (k ∷ ks) k ≡ true
has-first k ks = ap (λ b. b || has ks k) (equal_itself k)

-- ---- lists with the same numbers

-- the first of the one is not below that of the other
first_not_below : (k l : ℕ) (ks ls : List ℕ) → AreAbove l ls → (has (k ∷ ks) k ≡ has (l ∷ ls) k) → k < l → ⊥
first_not_below k l ks ls a same h =
    let e = sym (has-first k ks) ∙ same ∙ has-below k k (l ∷ ls) (omega arith) (h, AreAbove-less k l ls (omega arith) a) in cc

pub same_numbers : (ks ls : List ℕ) → IsIncreasing ks → IsIncreasing ls → ((m : ℕ) → has ks m ≡ has ls m) → ks ≡ ls
same_numbers [] [] i j same = refl
same_numbers [] (l ∷ ls) i j same = let e = same l ∙ has-first l ls in cc
same_numbers (k ∷ ks) [] i j same = let e = sym (same k) ∙ has-first k ks in cc
same_numbers (k ∷ ks) (l ∷ ls) i j same = by_test (nat_lt k l)
    (λ e. absurd (first_not_below k l ks ls j.0 (same k) (less k l e)))
    (λ e. by_test (nat_lt l k)
    (λ f. absurd (first_not_below l k ls ks i.0 (sym (same l)) (less l k f)))
    (λ f. let first = both_ways k l e f in ap₂ (λ x xs. x ∷ xs) first (same_numbers ks ls i.1 j.1 (rest first))))
  where
    rest : k ≡ l → (m : ℕ) → has ks m ≡ has ls m
    rest e m = by_test (nat_eq k m)
        (λ f. let at_first = equal k m f in has-below m k ks (omega arith) i.0 ∙ sym (has-below m l ls (omega arith) j.0))
        (λ f. sym (ap (λ b. b || has ks m) f) ∙ same m ∙ ap (λ b. b || has ls m) (sym (ap (λ n. nat_eq n m) e) ∙ f))

-- ---- merging

-- by the order of the two first numbers
by_order : {P : Type 0} (k l : ℕ) → (nat_lt k l ≡ true → P) → (nat_lt k l ≡ false → nat_lt l k ≡ true → P) → (nat_lt k l ≡ false → nat_lt l k ≡ false → P) → P
by_order k l f g h = by_test (nat_lt k l) f (λ e. by_test (nat_lt l k) (g e) (h e))

-- the three steps of merging
module _ (k l : ℕ) (ks ls : List ℕ) (rest : List ℕ → List ℕ) where
  pub merged_onto-less : nat_lt k l ≡ true → merged_onto k ks rest (l ∷ ls) ≡ k ∷ rest (l ∷ ls)
  merged_onto-less e = ap (λ b. if b then (k ∷ rest (l ∷ ls)) else (if nat_lt l k then (l ∷ merged_onto k ks rest ls) else rest ls)) e

  pub merged_onto-greater : nat_lt k l ≡ false → nat_lt l k ≡ true → merged_onto k ks rest (l ∷ ls) ≡ l ∷ merged_onto k ks rest ls
  merged_onto-greater e f =
      ap₂ (λ b c. if b then (k ∷ rest (l ∷ ls)) else (if c then (l ∷ merged_onto k ks rest ls) else rest ls)) e f

  pub merged_onto-equal : nat_lt k l ≡ false → nat_lt l k ≡ false → merged_onto k ks rest (l ∷ ls) ≡ rest ls
  merged_onto-equal e f =
      ap₂ (λ b c. if b then (k ∷ rest (l ∷ ls)) else (if c then (l ∷ merged_onto k ks rest ls) else rest ls)) e f

-- of a number that is one of two lists' at most
or_xor : (x y z : Bool) → (x ≡ true → z ≡ false) → (x || xor y z) ≡ xor (x || y) z
or_xor true y z h = sym (ap not (h refl))
or_xor false y z h = refl

or_xor_second : (x y z : Bool) → (x ≡ true → y ≡ false) → (x || xor y z) ≡ xor y (x || z)
or_xor_second true y z h = sym (ap (λ b. xor b true) (h refl))
or_xor_second false y z h = refl

-- of a number that both or none have first
xor_both : (x y z : Bool) → (x ≡ true → y ≡ false) → (x ≡ true → z ≡ false) → xor y z ≡ xor (x || y) (x || z)
xor_both true y z h g = ap₂ xor (h refl) (g refl)
xor_both false y z h g = refl

has-merged_onto : (k : ℕ) (ks : List ℕ) (rest : List ℕ → List ℕ) (m : ℕ) → AreAbove k ks → ((ls : List ℕ) → IsIncreasing ls → has (rest ls) m ≡ xor (has ks m) (has ls m)) →
    (ls : List ℕ) → IsIncreasing ls → has (merged_onto k ks rest ls) m ≡ xor (has (k ∷ ks) m) (has ls m)
has-merged_onto k ks rest m above h [] j = sym (xor_false (has (k ∷ ks) m))
has-merged_onto k ks rest m above h (l ∷ ls) j = by_order k l
    (λ e. ap (λ x. has x m) (merged_onto-less k l ks ls rest e) ∙ ap (λ b. nat_eq k m || b) (h (l ∷ ls) j) ∙
    or_xor (nat_eq k m) (has ks m) (has (l ∷ ls) m) (λ f.
    let at_first = equal k m f in let below = less k l e in has-below m k (l ∷ ls) (omega arith) (below, AreAbove-less k l ls (omega arith) j.0)))
    (λ e g. ap (λ x. has x m) (merged_onto-greater k l ks ls rest e g) ∙ ap (λ b. nat_eq l m || b) (has-merged_onto k ks rest m above h ls j.1) ∙
    or_xor_second (nat_eq l m) (has (k ∷ ks) m) (has ls m) (λ f.
    let at_first = equal l m f in let below = less l k g in has-below m l (k ∷ ks) (omega arith) (below, AreAbove-less l k ks (omega arith) above)))
    (λ e g. let same : k ≡ l = (let x = not_less k l e in let y = not_less l k g in omega arith) in
    ap (λ x. has x m) (merged_onto-equal k l ks ls rest e g) ∙ h ls j.1 ∙
    xor_both (nat_eq k m) (has ks m) (has ls m)
    (λ f. let at_first = equal k m f in has-below m k ks (omega arith) above)
    (λ f. let at_first = equal k m f in has-below m l ls (omega arith) j.0) ∙
    ap (λ n. xor (has (k ∷ ks) m) (nat_eq n m || has ls m)) same)

-- it has what one has and the other has not
pub has-merged : (ks ls : List ℕ) (m : ℕ) → IsIncreasing ks → IsIncreasing ls → has (merged ks ls) m ≡ xor (has ks m) (has ls m)
has-merged [] ls m i j = refl
has-merged (k ∷ ks) ls m i j = has-merged_onto k ks (merged ks) m i.0 (λ ls' j'. has-merged ks ls' m i.1 j') ls j

AreAbove-merged_onto : (n k : ℕ) (ks : List ℕ) (rest : List ℕ → List ℕ) → n < k → AreAbove n ks → ((ls : List ℕ) → AreAbove n ls → AreAbove n (rest ls)) →
    (ls : List ℕ) → AreAbove n ls → AreAbove n (merged_onto k ks rest ls)
AreAbove-merged_onto n k ks rest first above h [] a = (first, above)
AreAbove-merged_onto n k ks rest first above h (l ∷ ls) a = by_order k l
    (λ e. subst (AreAbove n) (sym (merged_onto-less k l ks ls rest e)) (first, h (l ∷ ls) a))
    (λ e g. subst (AreAbove n) (sym (merged_onto-greater k l ks ls rest e g)) (a.0, AreAbove-merged_onto n k ks rest first above h ls a.1))
    (λ e g. subst (AreAbove n) (sym (merged_onto-equal k l ks ls rest e g)) (h ls a.1))

AreAbove-merged : (n : ℕ) (ks ls : List ℕ) → AreAbove n ks → AreAbove n ls → AreAbove n (merged ks ls)
AreAbove-merged n [] ls a b = b
AreAbove-merged n (k ∷ ks) ls a b = AreAbove-merged_onto n k ks (merged ks) a.0 a.1 (λ ls' c. AreAbove-merged n ks ls' a.1 c) ls b

IsIncreasing-merged_onto : (k : ℕ) (ks : List ℕ) → AreAbove k ks → IsIncreasing ks → ((ls : List ℕ) → IsIncreasing ls → IsIncreasing (merged ks ls)) →
    (ls : List ℕ) → IsIncreasing ls → IsIncreasing (merged_onto k ks (merged ks) ls)
IsIncreasing-merged_onto k ks above i h [] j = (above, i)
IsIncreasing-merged_onto k ks above i h (l ∷ ls) j = by_order k l
    (λ e. let below = less k l e in subst IsIncreasing (sym (merged_onto-less k l ks ls (merged ks) e))
    (AreAbove-merged k ks (l ∷ ls) above (below, AreAbove-less k l ls (omega arith) j.0), h (l ∷ ls) j))
    (λ e g. let below = less l k g in subst IsIncreasing (sym (merged_onto-greater k l ks ls (merged ks) e g))
    (AreAbove-merged l (k ∷ ks) ls (below, AreAbove-less l k ks (omega arith) above) j.0, IsIncreasing-merged_onto k ks above i h ls j.1))
    (λ e g. subst IsIncreasing (sym (merged_onto-equal k l ks ls (merged ks) e g)) (h ls j.1))

pub IsIncreasing-merged : (ks ls : List ℕ) → IsIncreasing ks → IsIncreasing ls → IsIncreasing (merged ks ls)
IsIncreasing-merged [] ls i j = j
IsIncreasing-merged (k ∷ ks) ls i j = IsIncreasing-merged_onto k ks i.0 i.1 (λ ls' j'. IsIncreasing-merged ks ls' i.1 j') ls j

-- where one list is at its end the other follows
pub merged-ended : (a b done more all : List ℕ) (i j : ℕ) → (length a ≤ i) ⊎ (length b ≤ j) →
    more ≡ done ++ take (length a - i) (drop i a) → all ≡ more ++ take (length b - j) (drop j b) → done ++ merged (drop i a) (drop j b) ≡ merged a b → all ≡ merged a b
merged-ended a b done more all i j end first second so_far =
    second ∙ ap₂ ◌++◌ (first ∙ ap (λ x. done ++ x) (whole a i)) (whole b j) ∙ append_assoc done (drop i a) (drop j b) ∙ ap (λ x. done ++ x) (sym (ended end)) ∙ so_far
  where
    whole : (xs : List ℕ) (k : ℕ) → take (length xs - k) (drop k xs) ≡ drop k xs
    whole xs k = take_all (length xs - k) (drop k xs) (omega (arith, length-drop k xs))

    none : (ks : List ℕ) → merged ks [] ≡ ks ++ []
    none [] = refl
    none (k ∷ ks) = sym (append-nil (k ∷ ks))

    ended : (length a ≤ i) ⊎ (length b ≤ j) → merged (drop i a) (drop j b) ≡ drop i a ++ drop j b
    ended (inl h) = ap (λ x. merged x (drop j b)) (drop_all i a h) ∙ ap (λ x. x ++ drop j b) (sym (drop_all i a h))
    ended (inr h) = ap (merged (drop i a)) (drop_all j b h) ∙ none (drop i a) ∙ ap (λ x. drop i a ++ x) (sym (drop_all j b h))
