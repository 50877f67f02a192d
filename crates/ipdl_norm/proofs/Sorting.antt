-- What a stable sort leaves is what placing one after the other leaves.
use Rattle.std.proofs.Common.{◌≡◌, suc, ◌+◌, Bool, true, false, ◌&&◌, List, [], ◌∷◌, map, refl, sym, ap, ap₂, ◌∙◌, subst, arith}
use Rattle.std.proofs.lemmas.Cmp.{nat_list_cmp_total}
use Rattle.std.proofs.lemmas.List.MinMax.{ranks_by}
use Rattle.std.specs.Cmp.{IsStrictWeakOrder}
use Rattle.std.specs.List.{filter}
use Rattle.std.specs.List.Sorted.{IsSortedBy, IsStableBy, ties}
use Rattle.std.specs.Prelude.{not, if◌then◌else◌}
use Rattle.ipdl_laws.proofs.Sets.{by_test, if-true, if-false, not_both}
use Rattle.ipdl_norm.specs.Shaped.{comes_before, placed, by_name}
use Rattle.ipdl_term.specs.Terms.{Channel}

module _ {X : Type 0} (lt : X → X → Bool) (o : IsStrictWeakOrder lt) where
  -- ---- ascending lists

  -- none is less than the first one
  abbrev NoneBelow : X → List X → Type 0
  NoneBelow x [] = Unit {0}
  NoneBelow x (y ∷ ys) = (lt y x ≡ false) × NoneBelow x ys

  -- none is less than one before it
  abbrev Ascends : List X → Type 0
  Ascends [] = Unit {0}
  Ascends (x ∷ xs) = NoneBelow x xs × Ascends xs

  not_itself : (x : X) → lt x x ≡ false
  not_itself x = by_test (lt x x) (λ k. o.one_way x x k) (λ k. k)

  none_below_less : (x y : X) (zs : List X) → lt y x ≡ false → NoneBelow y zs → NoneBelow x zs
  none_below_less x y [] h k = tt
  none_below_less x y (z ∷ zs) h k = (o.chain z y x k.0 h, none_below_less x y zs h k.1)

  ascends_sorted : (xs : List X) → IsSortedBy lt xs → Ascends xs
  ascends_sorted [] sorted = tt
  ascends_sorted (x ∷ []) sorted = (tt, tt)
  ascends_sorted (x ∷ y ∷ ys) sorted =
      let first : lt y x ≡ false = sorted 0 x (omega arith) (omega arith) in
      let rest = ascends_sorted (y ∷ ys) (λ k d low high. let next : suc k + 1 ≡ suc (k + 1) = omega arith in rw next at (sorted (suc k) d (omega arith) (omega arith))) in
      ((first, none_below_less x y ys first rest.0), rest)

  -- ---- those that tie

  ties_both : (x y : X) → lt x y ≡ false → lt y x ≡ false → ties lt x y ≡ true
  ties_both x y h k = rw (h, k) refl

  ties_left : (x y : X) → ties lt x y ≡ true → lt x y ≡ false
  ties_left x y h = by_test (lt x y) (λ k. not_both (ties lt x y) h (ap (λ b. not b && not (lt y x)) k)) (λ k. k)

  ties_right : (x y : X) → ties lt x y ≡ true → lt y x ≡ false
  ties_right x y h = by_test (lt y x) (λ k. not_both (ties lt x y) h (ap (λ b. not (lt x y) && not b) k ∙ never (not (lt x y)))) (λ k. k)
    where
      never : (b : Bool) → (b && false) ≡ false
      never true = refl
      never false = refl

  filter_in : (p : X → Bool) (x : X) (xs : List X) → p x ≡ true → filter p (x ∷ xs) ≡ x ∷ filter p xs
  filter_in p x xs h = if-true (p x) _ _ h

  filter_out : (p : X → Bool) (x : X) (xs : List X) → p x ≡ false → filter p (x ∷ xs) ≡ filter p xs
  filter_out p x xs h = if-false (p x) _ _ h

  -- where one ties with a member, it is not less than the least
  not_below_least : (x least : X) (zs : List X) → NoneBelow least zs → (first : X) (rest : List X) → filter (ties lt x) zs ≡ first ∷ rest → lt x least ≡ false
  not_below_least x least [] below first rest h = cc
  not_below_least x least (z ∷ zs) below first rest h = by_test (ties lt x z)
      (λ k. o.chain x z least (ties_left x z k) below.0)
      (λ k. not_below_least x least zs below.1 first rest (sym (filter_out (ties lt x) z zs k) ∙ h))

  -- ascending lists in which the same tie are the same
  one_order : (ys zs : List X) → Ascends ys → Ascends zs → ((x : X) → filter (ties lt x) ys ≡ filter (ties lt x) zs) → ys ≡ zs
  one_order [] [] a b h = refl
  one_order [] (z ∷ zs) a b h = let t = h z ∙ filter_in (ties lt z) z zs (ties_both z z (not_itself z) (not_itself z)) in cc
  one_order (y ∷ ys) [] a b h = let t = sym (h y) ∙ filter_in (ties lt y) y ys (ties_both y y (not_itself y) (not_itself y)) in cc
  one_order (y ∷ ys) (z ∷ zs) a b h =
      let own_y = filter_in (ties lt y) y ys (ties_both y y (not_itself y) (not_itself y)) in
      let own_z = filter_in (ties lt z) z zs (ties_both z z (not_itself z) (not_itself z)) in
      let y_z = not_below_least y z (z ∷ zs) (not_itself z, b.0) y (filter (ties lt y) ys) (sym (h y) ∙ own_y) in
      let z_y = not_below_least z y (y ∷ ys) (not_itself y, a.0) z (filter (ties lt z) zs) (h z ∙ own_z) in
      let heads : y ∷ filter (ties lt y) ys ≡ z ∷ filter (ties lt y) zs = sym own_y ∙ h y ∙ filter_in (ties lt y) z zs (ties_both y z y_z z_y) in
      let same : y ≡ z = cc in
      ap₂ ◌∷◌ same (one_order ys zs a.1 b.1 (λ x. by_test (ties lt x y)
      (λ k. let both : y ∷ filter (ties lt x) ys ≡ z ∷ filter (ties lt x) zs = sym (filter_in (ties lt x) y ys k) ∙ h x ∙ filter_in (ties lt x) z zs (subst (λ w. ties lt x w ≡ true) same k) in cc)
      (λ k. sym (filter_out (ties lt x) y ys k) ∙ h x ∙ filter_out (ties lt x) z zs (subst (λ w. ties lt x w ≡ false) same k))))

  -- ---- placing

  placed_in : X → List X → List X
  placed_in x [] = x ∷ []
  placed_in x (y ∷ ys) = if lt y x then y ∷ placed_in x ys else x ∷ y ∷ ys

  all_placed : List X → List X
  all_placed [] = []
  all_placed (x ∷ xs) = placed_in x (all_placed xs)

  none_below_placed : (y x : X) (zs : List X) → lt x y ≡ false → NoneBelow y zs → NoneBelow y (placed_in x zs)
  unfolding placed_in
  none_below_placed y x [] h k = (h, tt)
  none_below_placed y x (z ∷ zs) h k = by_test (lt z x)
      (λ l. subst (NoneBelow y) (sym (if-true (lt z x) _ _ l)) (k.0, none_below_placed y x zs h k.1))
      (λ l. subst (NoneBelow y) (sym (if-false (lt z x) _ _ l)) (h, k))

  ascends_placed : (x : X) (ys : List X) → Ascends ys → Ascends (placed_in x ys)
  unfolding placed_in
  ascends_placed x [] a = (tt, tt)
  ascends_placed x (y ∷ ys) a = by_test (lt y x)
      (λ k. subst Ascends (sym (if-true (lt y x) _ _ k)) (none_below_placed y x ys (o.one_way y x k) a.0, ascends_placed x ys a.1))
      (λ k. subst Ascends (sym (if-false (lt y x) _ _ k)) ((k, none_below_less x y ys k a.0), a))

  filter_placed : (z x : X) (ys : List X) → filter (ties lt z) (placed_in x ys) ≡ filter (ties lt z) (x ∷ ys)
  unfolding placed_in
  filter_placed z x [] = refl
  filter_placed z x (y ∷ ys) = by_test (lt y x)
      (λ k. ap (filter p) (if-true (lt y x) _ _ k) ∙ by_test (p y)
      (λ l. let out : p x ≡ false = by_test (p x) (λ m. not_both (lt y x) k (o.chain y z x (ties_right z y l) (ties_left z x m))) (λ m. m) in
      filter_in p y (placed_in x ys) l ∙ ap (λ zs. y ∷ zs) (filter_placed z x ys ∙ filter_out p x ys out) ∙ sym (filter_out p x (y ∷ ys) out ∙ filter_in p y ys l))
      (λ l. filter_out p y (placed_in x ys) l ∙ filter_placed z x ys ∙ by_test (p x)
      (λ m. filter_in p x ys m ∙ sym (filter_in p x (y ∷ ys) m ∙ ap (λ zs. x ∷ zs) (filter_out p y ys l)))
      (λ m. filter_out p x ys m ∙ sym (filter_out p x (y ∷ ys) m ∙ filter_out p y ys l))))
      (λ k. ap (filter p) (if-false (lt y x) _ _ k))
    where
      p : X → Bool
      p = ties lt z

  ascends_all_placed : (xs : List X) → Ascends (all_placed xs)
  unfolding all_placed
  ascends_all_placed [] = tt
  ascends_all_placed (x ∷ xs) = ascends_placed x (all_placed xs) (ascends_all_placed xs)

  filter_all_placed : (z : X) (xs : List X) → filter (ties lt z) (all_placed xs) ≡ filter (ties lt z) xs
  unfolding all_placed
  filter_all_placed z [] = refl
  filter_all_placed z (x ∷ xs) = filter_placed z x (all_placed xs) ∙ by_test (ties lt z x)
      (λ k. filter_in (ties lt z) x _ k ∙ ap (λ zs. x ∷ zs) (filter_all_placed z xs) ∙ sym (filter_in (ties lt z) x xs k))
      (λ k. filter_out (ties lt z) x _ k ∙ filter_all_placed z xs ∙ sym (filter_out (ties lt z) x xs k))

  sorted_is_placed : (xs ys : List X) → IsSortedBy lt ys → IsStableBy lt xs ys → ys ≡ all_placed xs
  sorted_is_placed xs ys sorted stable =
      one_order ys (all_placed xs) (ascends_sorted ys sorted) (ascends_all_placed xs) (λ x. stable x ∙ sym (filter_all_placed x xs))

-- ---- by name

module _ {X Y : Type 0} (named : X → Channel × Y) where
  -- the order of their names
  abbrev pub before : X → X → Bool
  before a b = comes_before (named a).0 (named b).0

  pub before_is_order : IsStrictWeakOrder before
  before_is_order = ranks_by nat_list_cmp_total (λ a. (named a).0)

  map_placed : (x : X) (ys : List X) → map named (placed_in before before_is_order x ys) ≡ placed (named x) (map named ys)
  unfolding placed_in
  map_placed x [] = refl
  map_placed x (y ∷ ys) = by_test (before y x)
      (λ l. ap (map named) (if-true (before y x) _ _ l) ∙ ap (λ zs. named y ∷ zs) (map_placed x ys) ∙ sym (if-true (before y x) _ _ l))
      (λ l. ap (map named) (if-false (before y x) _ _ l) ∙ sym (if-false (before y x) _ _ l))

  map_all_placed : (xs : List X) → map named (all_placed before before_is_order xs) ≡ by_name (map named xs)
  unfolding all_placed
  map_all_placed [] = refl
  map_all_placed (x ∷ xs) = map_placed x (all_placed before before_is_order xs) ∙ ap (placed (named x)) (map_all_placed xs)

  -- what a stable sort by name leaves
  pub sorted_is_by_name : (xs ys : List X) → IsSortedBy before ys → IsStableBy before xs ys → map named ys ≡ by_name (map named xs)
  sorted_is_by_name xs ys sorted stable = ap (map named) (sorted_is_placed before before_is_order xs ys sorted stable) ∙ map_all_placed xs
