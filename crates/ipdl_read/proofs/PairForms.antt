-- The pairs of a use, as far as they are read.
use Rattle.std.proofs.Common.{◌≡◌, ℕ, ◌≤◌, List, [], ◌++◌, length, drop, append-nil, sym, ap, subst}
use Rattle.std.proofs.lemmas.List.{drop_all}
use Rattle.ipdl_tree.specs.Trees.{Forest, no_trees}
use Rattle.ipdl_tree.specs.Views.{all_located}
use Rattle.ipdl_tree.specs.declared.tree.Tree.{Tree}
use Rattle.ipdl_forms.specs.Steps.{ArePairs, all_pair_faults}

-- the first names and the pairs that are read, and the trees that are left of all of them
pub record ArePairsSoFar (seen : List (List ℕ)) (pairs : List (List ℕ × List ℕ)) (rest whole : Forest) : Type 0 where
  pub spelled : (more : List (List ℕ × List ℕ)) → ArePairs seen more rest → ArePairs [] (pairs ++ more) whole
  pub faults : all_pair_faults [] whole ≡ all_pair_faults seen rest

pub ArePairsSoFar-end : (seen : List (List ℕ)) (pairs : List (List ℕ × List ℕ)) (xs : List Tree) (i : ℕ) (whole : Forest) → length xs ≤ i → ArePairsSoFar seen pairs (all_located (drop i xs)) whole → ArePairs [] pairs whole
ArePairsSoFar-end seen pairs xs i whole past far =
    let none : all_located (drop i xs) ≡ no_trees = ap all_located (drop_all i xs past) in
    subst (λ ps. ArePairs [] ps whole) (append-nil pairs) (far.spelled [] (subst (ArePairs seen []) (sym none) tt))
