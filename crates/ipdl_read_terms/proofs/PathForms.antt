-- The numbers of a path, as far as they are read.
use Rattle.std.proofs.Common.{◌≡◌, ℕ, suc, ◌<◌, ◌≤◌, List, [], ◌++◌, length, drop, get_or, drop-cons, append-nil, sym, ap, ◌∙◌, subst}
use Rattle.std.proofs.lemmas.List.{drop_all}
use Rattle.ipdl_tree.specs.Trees.{Forest, tree, no_trees}
use Rattle.ipdl_tree.specs.Views.{located, all_located}
use Rattle.ipdl_tree.specs.declared.tree.Tree.{Tree}
use Rattle.ipdl_forms.specs.Steps.{AreNumbers, all_number_faults}

-- ---- trees that are read one by one

-- the next tree and those after it
pub all_located-drop : (xs : List Tree) (x : Tree) (i : ℕ) → i < length xs → x ≡ get_or xs i x → all_located (drop i xs) ≡ tree (located x) (all_located (drop (suc i) xs))
all_located-drop xs x i within is =
    ap all_located (drop-cons xs i x within) ∙ ap (λ t. tree (located t) (all_located (drop (suc i) xs))) (sym is)

-- ---- numbers

-- the numbers that are read, and the trees that are left of all of them
pub record IsPathSoFar (path : List ℕ) (rest whole : Forest) : Type 0 where
  pub spelled : (more : List ℕ) → AreNumbers more rest → AreNumbers (path ++ more) whole
  pub faults : all_number_faults whole ≡ all_number_faults rest

pub IsPathSoFar-end : (path : List ℕ) (xs : List Tree) (i : ℕ) (whole : Forest) → length xs ≤ i → IsPathSoFar path (all_located (drop i xs)) whole → AreNumbers path whole
IsPathSoFar-end path xs i whole past far =
    let none : all_located (drop i xs) ≡ no_trees = ap all_located (drop_all i xs past) in
    subst (λ p. AreNumbers p whole) (append-nil path) (far.spelled [] (subst (AreNumbers []) (sym none) tt))
