-- Rounds in which assignments write one after the other reach what flat rounds reach.
use Rattle.std.proofs.Common.{◌≡◌, ℕ, zero, suc, ◌+◌, ◌<◌, ◌≤◌, inl, inr, Bool, true, false, List, [], ◌∷◌, Option, Some, None, get_or, length, slice_get, refl, sym, ap, ◌∙◌, arith}
use Rattle.std.proofs.Math.ListN.{set}
use Rattle.std.proofs.lemmas.Bool.{cases_lt}
use Rattle.std.proofs.lemmas.Option.{slice_get_past, slice_get-get_or}
use Rattle.std.specs.Prelude.{is_some}
use borrow.Author.Count.{below_more}
use Rattle.ipdl_laws.proofs.LeastFlat.{flat_round_grows, flat_written-fixed, flat_written-least}
use Rattle.ipdl_mean.specs.Running.{written_in, value_there, missing}
use Rattle.ipdl_term.specs.Interpretations.{Interpretation}
use Rattle.ipdl_term.specs.Networks.{Node, Written, WrittenWithin, value_at, flat_round, flat_written}
use Rattle.ipdl_term.specs.Terms.{Value}

-- ---- one more value

-- with a value that is to be written there too, all values are to be written
pub set_within : (values : List (Option Value)) (w : Written) (i : ℕ) (v : Value) → w i ≡ Some v → WrittenWithin (written_in values) w → WrittenWithin (written_in (set values i (Some v))) w
set_within [] w i v there h k u e = h k u e
set_within (x ∷ values) w zero v there h zero u e = there ∙ e
set_within (x ∷ values) w zero v there h (suc k) u e = h (suc k) u e
set_within (x ∷ values) w (suc i) v there h zero u e = h zero u e
set_within (x ∷ values) w (suc i) v there h (suc k) u e = set_within values (λ n. w (suc n)) i v there (λ n. h (suc n)) k u e

-- with a value in the place of none, one less is missing
pub missing-set : (values : List (Option Value)) (i : ℕ) (v : Value) → slice_get values i ≡ Some None → missing (set values i (Some v)) + 1 ≡ missing values
missing-set [] i v e = cc
missing-set (None ∷ values) zero v e = refl
missing-set (Some u ∷ values) zero v e = cc
missing-set (None ∷ values) (suc i) v e = ap (λ n. n + 1) (missing-set values i v e)
missing-set (Some u ∷ values) (suc i) v e = missing-set values i v e

none_or_some : {P : Type 0} (o : Option Value) → (o ≡ None → P) → ((v : Value) → o ≡ Some v → P) → P
none_or_some None f g = f refl
none_or_some (Some v) f g = g v refl

module _ (J : Interpretation) (nodes : List Node) (tape : List Bool) where
  abbrev all : Written
  all = flat_written J nodes tape

  -- what an assignment writes from some of all that is written is of that
  pub round_within : (w : Written) → WrittenWithin w all → WrittenWithin (flat_round J nodes tape w) all
  round_within w h k v e = ap (λ f. f k) (sym (flat_written-fixed J nodes tape)) ∙ flat_round_grows J nodes tape w all h k v e

  -- where no assignment can write more, all that is written is
  pub all_is_written : (w : Written) → WrittenWithin w all → ((k : ℕ) → w k ≡ None → flat_round J nodes tape w k ≡ None) → (k : ℕ) → w k ≡ all k
  all_is_written w h none k = none_or_some (w k)
      (λ e. none_or_some (all k) (λ f. e ∙ sym f) (λ v f. least k v f ∙ sym f))
      (λ v e. e ∙ sym (h k v e))
    where
      least : WrittenWithin all w
      least = flat_written-least J nodes tape w (λ k v e. none_or_some (w k)
          (λ n. let m = none k n in absurd (cc))
          (λ u f. f ∙ sym (h k u f) ∙ round_within w h k v e))

-- ---- what a test says

pub none_there : (o : Option Value) → is_some o ≡ false → o ≡ None
none_there None e = refl
none_there (Some v) e = cc

pub some_there : (o : Option Value) → is_some o ≡ true → (v : Value) × (o ≡ Some v)
some_there None e = cc
some_there (Some v) e = (v, refl)

module _ (values : List (Option Value)) (n : ℕ) (d : Option Value) (within : n < length values) where
  pub missing_at : is_some (get_or values n d) ≡ false → slice_get values n ≡ Some None
  missing_at none = slice_get-get_or values n d within ∙ ap (λ o. Some o) (none_there (get_or values n d) none)

  pub written_at : is_some (get_or values n d) ≡ true → {P : Type 0} → written_in values n ≡ None → P
  written_at some none =
      let v = some_there (get_or values n d) some in
      let at = ap value_there (slice_get-get_or values n d within) in
      let e = sym none ∙ at ∙ v.1 in
      absurd (cc)

-- ---- one round

-- how far a round has come, before an assignment: what is written is of all that is written in the end, and while nothing
-- new is, no assignment before that one can write more
pub record IsSoFar (J : Interpretation) (nodes : List Node) (tape : List Bool) (before values : List (Option Value)) (more : Bool) (n : ℕ) : Type 0 where
  pub within : WrittenWithin (written_in before) (flat_written J nodes tape) → WrittenWithin (written_in values) (flat_written J nodes tape)
  pub fewer : missing values ≤ missing before
  pub changed : more ≡ true → missing values < missing before
  pub done : more ≡ false → (k : ℕ) → k < n → written_in values k ≡ None → flat_round J nodes tape (written_in values) k ≡ None

module _ (J : Interpretation) (nodes : List Node) (tape : List Bool) (before values : List (Option Value)) where
  pub so_far_at_start : IsSoFar J nodes tape values values false 0
  so_far_at_start = record { within = λ h. h; fewer = omega arith; changed = λ e. cc; done = λ e k less. absurd (omega arith) }

  module _ (more : Bool) (n : ℕ) (so_far : IsSoFar J nodes tape before values more n) where
    -- the assignment has written, or cannot
    pub so_far_passed : (written_in values n ≡ None → flat_round J nodes tape (written_in values) n ≡ None) → IsSoFar J nodes tape before values more (n + 1)
    so_far_passed here = record {
      within = so_far.within;
      fewer = so_far.fewer;
      changed = so_far.changed;
      done = λ e. below_more (λ k. written_in values k ≡ None → flat_round J nodes tape (written_in values) k ≡ None) n (so_far.done e) here;
    }

    -- it writes
    pub so_far_written : (v : Value) → slice_get values n ≡ Some None → flat_round J nodes tape (written_in values) n ≡ Some v → IsSoFar J nodes tape before (set values n (Some v)) true (n + 1)
    so_far_written v none writes =
        let less = missing-set values n v none in
        record {
          within = λ h. set_within values (flat_written J nodes tape) n v (round_within J nodes tape (written_in values) (so_far.within h) n v writes) (so_far.within h);
          fewer = omega (arith, less, so_far.fewer);
          changed = λ e. omega (arith, less, so_far.fewer);
          done = λ e. cc;
        }

    -- past the last assignment
    pub so_far_at_end : length nodes ≤ n → more ≡ false → (k : ℕ) → written_in values k ≡ None → flat_round J nodes tape (written_in values) k ≡ None
    so_far_at_end last e k none = elim (cases_lt k n) [
      | inl less ↦ so_far.done e k less none
      | inr past ↦ ap (λ o. value_at J tape k o (written_in values)) (slice_get_past nodes k (omega arith))
    ]
