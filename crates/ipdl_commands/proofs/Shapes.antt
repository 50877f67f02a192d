-- The shape of a protocol has its reactions, so its symbols and variables are within the same bounds.
use Rattle.std.proofs.Common.{ℕ, Bool, true, false, List, [], ◌∷◌, ◌++◌}
use Rattle.std.specs.Prelude.{if◌then◌else◌}
use Rattle.ipdl_norm.specs.Shaped.{hidden, assignments, comes_before, placed, by_name, side_by_side, all_hidden, shaped}
use Rattle.ipdl_term.specs.Terms.{Channel, Reaction, Protocol, nil, assignment, parallel, hiding}
use Rattle.ipdl_term.specs.Within.{IsReactionWithin, IsProtocolWithin}

module _ (symbols : ℕ) where
  -- each reaction is so, with no binder around it
  abbrev AreWithin : List (Channel × Reaction) → Type 0
  AreWithin [] = Unit {0}
  AreWithin (x ∷ xs) = IsReactionWithin symbols 0 x.1 × AreWithin xs

  AreWithin-append : (xs ys : List (Channel × Reaction)) → AreWithin xs → AreWithin ys → AreWithin (xs ++ ys)
  AreWithin-append [] ys a b = b
  AreWithin-append (x ∷ xs) ys a b = (a.0, AreWithin-append xs ys a.1 b)

  AreWithin-assignments : (p : Protocol) → IsProtocolWithin symbols p → AreWithin (assignments p)
  AreWithin-assignments nil within = tt
  AreWithin-assignments (assignment c r) within = (within, tt)
  AreWithin-assignments (parallel p q) within =
      AreWithin-append (assignments p) (assignments q) (AreWithin-assignments p within.0) (AreWithin-assignments q within.1)
  AreWithin-assignments (hiding c w p) within = AreWithin-assignments p within

  AreWithin-if : (b : Bool) (xs ys : List (Channel × Reaction)) → AreWithin xs → AreWithin ys → AreWithin (if b then xs else ys)
  AreWithin-if true xs ys a b = a
  AreWithin-if false xs ys a b = b

  AreWithin-placed : (x : Channel × Reaction) (xs : List (Channel × Reaction)) → IsReactionWithin symbols 0 x.1 → AreWithin xs → AreWithin (placed x xs)
  AreWithin-placed x [] a b = (a, tt)
  AreWithin-placed x (y ∷ ys) a b =
      AreWithin-if (comes_before y.0 x.0) (y ∷ placed x ys) (x ∷ y ∷ ys) (b.0, AreWithin-placed x ys a b.1) (a, b)

  AreWithin-by_name : (xs : List (Channel × Reaction)) → AreWithin xs → AreWithin (by_name xs)
  AreWithin-by_name [] a = tt
  AreWithin-by_name (x ∷ xs) a = AreWithin-placed x (by_name xs) a.0 (AreWithin-by_name xs a.1)

  IsProtocolWithin-side_by_side : (xs : List (Channel × Reaction)) → AreWithin xs → IsProtocolWithin symbols (side_by_side xs)
  IsProtocolWithin-side_by_side [] a = tt
  IsProtocolWithin-side_by_side (x ∷ []) a = a.0
  IsProtocolWithin-side_by_side (x ∷ y ∷ xs) a = (a.0, IsProtocolWithin-side_by_side (y ∷ xs) a.1)

  IsProtocolWithin-all_hidden : (hs : List (Channel × ℕ)) (p : Protocol) → IsProtocolWithin symbols p → IsProtocolWithin symbols (all_hidden hs p)
  IsProtocolWithin-all_hidden [] p within = within
  IsProtocolWithin-all_hidden (h ∷ hs) p within = IsProtocolWithin-all_hidden hs p within

  pub IsProtocolWithin-shaped : (p : Protocol) → IsProtocolWithin symbols p → IsProtocolWithin symbols (shaped p)
  IsProtocolWithin-shaped p within =
      IsProtocolWithin-all_hidden (by_name (hidden p)) (side_by_side (by_name (assignments p)))
      (IsProtocolWithin-side_by_side (by_name (assignments p)) (AreWithin-by_name (assignments p) (AreWithin-assignments p within)))
