-- How much is left to read of some trees.
use Rattle.std.proofs.Common.{◌≡◌, ℕ, suc, ◌+◌, ◌-◌, ◌≤◌, ◌<◌, List, [], ◌∷◌, length, take, drop, get_or, ap, arith, Vec, Global}
use Rattle.ipdl_tree.specs.declared.tree.Tree.{Tree}
use Rattle.ipdl_tree.specs.declared.tree.Node.TheVariants.{Word, Group}
use Rattle.ipdl_tree.specs.Trees.{Located, word, number, literal, group, Forest, no_trees, tree}
use Rattle.ipdl_tree.specs.Views.{located, all_located}
use Rattle.ipdl_read_terms.proofs.Lists.{first_and_rest, located_group, located_headed, two_items}

abbrev mutual
  pub tree_weight : Located → ℕ
  tree_weight (word pos name) = 1
  tree_weight (number pos n) = 1
  tree_weight (literal pos bits) = 1
  tree_weight (group pos ts) = 2 + forest_weight ts

  pub forest_weight : Forest → ℕ
  forest_weight no_trees = 0
  forest_weight (tree t ts) = suc (tree_weight t + forest_weight ts)

-- no more trees than their weight
pub forest_weight-length : (ts : List Tree) → length ts ≤ forest_weight (all_located ts)
forest_weight-length [] = omega arith
forest_weight-length (t ∷ ts) = omega (arith, forest_weight-length ts)

-- a part and the rest
pub weight_first : (xs : List Tree) (a : Tree) → 1 ≤ length xs → a ≡ get_or xs 0 a → forest_weight (all_located xs) ≡ suc (tree_weight (located a) + forest_weight (all_located (take (length xs - 1) (drop 1 xs))))
weight_first xs a some is = ap (λ ts. forest_weight (all_located ts)) (first_and_rest xs a some is)

-- the operands of a list with a word in front
pub weight_headed : (u head : Tree) (parts : Vec Tree Global) (xs : List Tree) (name : List ℕ) → u.node ≡ Group parts → xs ≡ parts.items → 1 ≤ length xs → head ≡ get_or xs 0 head → head.node ≡ Word name → forest_weight (all_located (take (length xs - 1) (drop 1 xs))) + 2 < tree_weight (located u)
weight_headed u head parts xs name grouped is some first named =
    let same = ap tree_weight (located_headed u head parts xs name grouped is some first named) in
    omega (arith, same)

-- two parts, of which the first is a list
pub weight_new : (xs : List Tree) (ports body : Tree) (parts : Vec Tree Global) (ys : List Tree) → 2 ≤ length xs → length xs < 3 → ports ≡ get_or xs 0 ports → body ≡ get_or xs 1 body → ports.node ≡ Group parts → ys ≡ parts.items → length ys + tree_weight (located body) + 2 < forest_weight (all_located xs)
weight_new xs ports body parts ys some few is_ports is_body grouped is =
    let all = ap (λ ts. forest_weight (all_located ts)) (two_items xs ports body some few is_ports is_body) in
    let held = ap tree_weight (located_group ports parts ys grouped is) in
    omega (arith, all, held, forest_weight-length ys)
