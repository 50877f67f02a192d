-- The widths that are not allowed, and symbols that have none.
use Rattle.std.proofs.Common.{◌≡◌, ℕ, ◌^◌, ◌≤◌, ◌==◌, nat_lt, Bool, true, false, not, cond, List, [], ◌∷◌, ◌++◌, length, map, filter, find, get_or, slice_get, All, Option, None, Some, IfSome, refl, sym, ap, subst, ◌∙◌, le-ltb, arith}
use Rattle.std.proofs.lemmas.Bool.{ltb-false, eqb-true, eq-eqb, not-false}
use Rattle.std.proofs.lemmas.List.{get_or-map, length-map}
use Rattle.std.proofs.lemmas.List.Elements.{All-nil, All-cons, All-head, All-tail, All-map, All-weaker}
use Rattle.std.proofs.lemmas.Option.{same_Some}
use Rattle.ipdl_sig.specs.declared.symbol.Symbol.{Symbol}
use Rattle.ipdl_sig.specs.Symbols.{IsTable, IsSymbol, greatest_argument, value_widths, bad_widths, first_bad_width}

-- the first of those that pass a test
slice_get-filter : {X : Type 0} (p : X → Bool) (xs : List X) → slice_get (filter p xs) 0 ≡ find p xs
slice_get-filter p [] = refl
slice_get-filter p (x ∷ xs) =
    elim (p x) as (λ b. slice_get (cond b (x ∷ filter p xs) (filter p xs)) 0 ≡ cond b (Some x) (find p xs)) [ true ↦ refl | false ↦ slice_get-filter p xs ]

-- where the argument and the result of a table have widths that are allowed, the values tell
pub first_bad_width-values : (from to : ℕ) (values : Option (List (List Bool))) (list : List (List Bool)) → values ≡ Some list → from ≤ greatest_argument values → to ≤ 128 → find (λ w. not (w == to)) (map length list) ≡ first_bad_width from to values
first_bad_width-values from to None list is argument result_width = cc
first_bad_width-values from to (Some values) list is argument result_width =
    let same = same_Some values list is in
    ap (λ vs. find (λ w. not (w == to)) (map length vs)) (sym same)
    ∙ (rw (le-ltb 12 from argument, le-ltb 128 to result_width) (sym (slice_get-filter (λ w. not (w == to)) (map length values))))

-- a list with no first element
nil_from_first : {X : Type 0} (xs : List X) → slice_get xs 0 ≡ None → xs ≡ []
nil_from_first [] e = refl
nil_from_first (x ∷ xs) e = cc

-- where no width is bad there are none
pub bad_widths-none : (from to : ℕ) (values : Option (List (List Bool))) → first_bad_width from to values ≡ None → bad_widths from to values ≡ []
bad_widths-none from to values none = nil_from_first (bad_widths from to values) none

-- the parts of an empty list
append_nil : {X : Type 0} (xs ys : List X) → xs ++ ys ≡ [] → (xs ≡ []) × (ys ≡ [])
append_nil [] ys e = (refl, e)
append_nil (x ∷ xs) ys e = cc

-- where no element passes a test
All-filter_nil : {X : Type 0} (p : X → Bool) (xs : List X) → filter p xs ≡ [] → All (λ x. p x ≡ false) xs
All-filter_nil p [] e = All-nil _
All-filter_nil p (x ∷ xs) e = by (p x) refl e (All-filter_nil p xs)
  where
    by : (b : Bool) → p x ≡ b → cond b (x ∷ filter p xs) (filter p xs) ≡ [] → (filter p xs ≡ [] → All (λ y. p y ≡ false) xs) → All (λ y. p y ≡ false) (x ∷ xs)
    by true is e rest = cc
    by false is e rest = All-cons (λ y. p y ≡ false) x xs is (rest e)

-- the widths of a symbol that has no bad one
pub record HasWidths (from to : ℕ) (values : Option (List (List Bool))) : Type 0 where
  pub argument : from ≤ greatest_argument values
  pub result_width : to ≤ 128
  pub values_width : All (λ w. not (w == to) ≡ false) (value_widths values)

-- none is bad, so they are within their bounds
pub HasWidths-none : (from to : ℕ) (values : Option (List (List Bool))) → first_bad_width from to values ≡ None → HasWidths from to values
HasWidths-none from to values none =
    let parts = append_nil (filter (nat_lt (greatest_argument values)) (from ∷ []) ++ filter (nat_lt 128) (to ∷ [])) (filter (λ w. not (w == to)) (value_widths values)) (bad_widths-none from to values none) in
    let first = append_nil (filter (nat_lt (greatest_argument values)) (from ∷ [])) (filter (nat_lt 128) (to ∷ [])) parts.0 in
    record {
      argument = ltb-false (greatest_argument values) from (All-head (λ w. nat_lt (greatest_argument values) w ≡ false) from [] (All-filter_nil (nat_lt (greatest_argument values)) (from ∷ []) first.0));
      result_width = ltb-false 128 to (All-head (λ w. nat_lt 128 w ≡ false) to [] (All-filter_nil (nat_lt 128) (to ∷ []) first.1));
      values_width = All-filter_nil (λ w. not (w == to)) (value_widths values) parts.1;
    }

-- a table with no bad width and one value for each argument
pub IsSymbol-table : (s : Symbol) (values : List (List Bool)) → s.values ≡ Some values → first_bad_width s.from s.to s.values ≡ None → length values ≡ 2 ^ s.from → IsSymbol s
IsSymbol-table s values is none count =
    let P : Option (List (List Bool)) → Type 0 = λ vs. first_bad_width s.from s.to vs ≡ None in
    let widths = HasWidths-none s.from s.to (Some values) (subst P is none) in
    let all : All (λ value. length value ≡ s.to) values = λ k d within. eqb-true (length (get_or values k d)) s.to (not-false (length (get_or values k d) == s.to) (ap (λ w. not (w == s.to)) (sym (get_or-map length values k d 0 within)) ∙ widths.values_width k 0 (omega (arith, length-map values length)))) in
    record {
      argument = omega (arith, widths.argument);
      result_width = widths.result_width;
      table = rw is (record { argument = widths.argument; count = count; widths = all });
    }

-- where no element passes a test, none is kept
filter-none : {X : Type 0} (p : X → Bool) (xs : List X) → All (λ x. p x ≡ false) xs → filter p xs ≡ []
filter-none p [] all = refl
filter-none p (x ∷ xs) all =
    ap (λ b. cond b (x ∷ filter p xs) (filter p xs)) (All-head (λ y. p y ≡ false) x xs all) ∙ filter-none p xs (All-tail (λ y. p y ≡ false) x xs all)

-- a symbol that a signature may have has no bad width
pub bad_widths-formed : (from to : ℕ) (values : Option (List (List Bool))) → from ≤ 128 → to ≤ 128 → IfSome values (IsTable from to) → bad_widths from to values ≡ []
bad_widths-formed from to None argument result_width table =
    rw (le-ltb 128 from argument, le-ltb 128 to result_width) refl
bad_widths-formed from to (Some values) argument result_width table =
    let equal : All (λ w. not (w == to) ≡ false) (map length values) = All-map (λ w. not (w == to) ≡ false) length values (All-weaker (λ v. length v ≡ to) (λ v. not (length v == to) ≡ false) (λ v e. ap not (eq-eqb (length v) to e)) values table.widths) in
    rw (le-ltb 12 from table.argument, le-ltb 128 to result_width) (filter-none (λ w. not (w == to)) (map length values) equal)
