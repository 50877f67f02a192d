-- Steps of the walks through terms and binders.
use Rattle.std.proofs.Common.{◌≡◌, ℕ, suc, ◌+◌, ◌-◌, ◌<◌, Bool, true, false, List, ◌∷◌, ◌++◌, Option, Some, None, length, map, drop, get_or, refl, sym, ap, ◌∙◌, arith, drop-cons, length-drop}
use Rattle.std.specs.Option.{option_or}
use Rattle.std.specs.Prelude.{find, is_some, if◌then◌else◌}
use Rattle.std.proofs.lemmas.List.Folds.{find-append}
use Rattle.ipdl_term.specs.Surroundings.{condition_of}
use Rattle.ipdl_term.specs.Terms.{Expression}
use Rattle.ipdl_term.specs.Views.{expression_of}
use Rattle.ipdl_term.specs.declared.part.Condition.{Condition as HeldCondition}
use Rattle.ipdl_truth.specs.FreeVariables.{occurs, free_of}
use Rattle.ipdl_truth.specs.Questions.{tests_of}

-- the first in two lists is the first in the one, or else in the other
pub found_in_two : (p : ℕ → Bool) (xs ys : List ℕ) → option_or (find p xs) (find p ys) ≡ find p (xs ++ ys)
found_in_two p xs ys = sym (find-append p xs ys)

if_true : {X : Type 0} (b : Bool) (x y : X) → b ≡ true → (if b then x else y) ≡ x
if_true b x y e = rw e

if_false : {X : Type 0} (b : Bool) (x y : X) → b ≡ false → (if b then x else y) ≡ y
if_false b x y e = rw e

-- the binder at a depth, and those inside of it
module _ (es : List Expression) (i inside : ℕ) (xs : List ℕ) (within : i < length xs) (all : inside + i ≡ length xs) where
  first_binder : free_of es i (drop i xs) ≡ free_of es i (get_or xs i 0 ∷ drop (i + 1) xs)
  first_binder = let e : suc i ≡ i + 1 = omega arith in ap (free_of es i) (drop-cons xs i 0 within ∙ ap (λ k. get_or xs i 0 ∷ drop k xs) e)

  number_is : length (drop (i + 1) xs) ≡ inside - 1
  number_is = omega (arith, length-drop (i + 1) xs)

  depth_is : suc i ≡ i + 1
  depth_is = omega arith

  -- its variable occurs
  pub free_of-used : occurs es (inside - 1) ≡ true → free_of es i (drop i xs) ≡ (i, get_or xs i 0) ∷ free_of es (i + 1) (drop (i + 1) xs)
  free_of-used used =
      first_binder
      ∙ if_true (occurs es (length (drop (i + 1) xs))) ((i, get_or xs i 0) ∷ free_of es (suc i) (drop (i + 1) xs)) (free_of es (suc i) (drop (i + 1) xs)) (ap (occurs es) number_is ∙ used)
      ∙ ap (λ d. (i, get_or xs i 0) ∷ free_of es d (drop (i + 1) xs)) depth_is

  -- it does not
  pub free_of-unused : occurs es (inside - 1) ≡ false → free_of es i (drop i xs) ≡ free_of es (i + 1) (drop (i + 1) xs)
  free_of-unused unused =
      first_binder
      ∙ if_false (occurs es (length (drop (i + 1) xs))) ((i, get_or xs i 0) ∷ free_of es (suc i) (drop (i + 1) xs)) (free_of es (suc i) (drop (i + 1) xs)) (ap (occurs es) number_is ∙ unused)
      ∙ ap (λ d. free_of es d (drop (i + 1) xs)) depth_is

-- the test of the condition at an index, and those behind it
pub first_test : (conditions : List HeldCondition) (i : ℕ) (x : HeldCondition) → i < length conditions → x ≡ get_or conditions i x → tests_of (map condition_of (drop i conditions)) ≡ expression_of x.test ∷ tests_of (map condition_of (drop (i + 1) conditions))
first_test conditions i x within is =
    let e : suc i ≡ i + 1 = omega arith in
    ap (λ cs. tests_of (map condition_of cs)) (drop-cons conditions i x within)
    ∙ ap (λ y. expression_of y.test ∷ tests_of (map condition_of (drop (suc i) conditions))) (sym is)
    ∙ ap (λ k. expression_of x.test ∷ tests_of (map condition_of (drop k conditions))) e

-- what the first list has not is what the second has
pub found_later : (p : ℕ → Bool) (xs ys : List ℕ) → find p xs ≡ None → find p (xs ++ ys) ≡ find p ys
found_later p xs ys none = find-append p xs ys ∙ ap (λ o. option_or o (find p ys)) none

-- what the first list has is found first
pub found_first : (p : ℕ → Bool) (xs ys : List ℕ) → is_some (find p xs) ≡ true → find p (xs ++ ys) ≡ find p xs
found_first p xs ys some = find-append p xs ys ∙ stays (find p xs) some
  where
    stays : (o : Option ℕ) → is_some o ≡ true → option_or o (find p ys) ≡ o
    stays None e = cc
    stays (Some x) e = refl

pub none_there : (o : Option ℕ) → is_some o ≡ false → o ≡ None
none_there None e = refl
none_there (Some x) e = cc
