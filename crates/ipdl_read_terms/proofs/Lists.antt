-- The parts of lists.
use Rattle.std.proofs.Common.{◌≡◌, ℕ, suc, ◌+◌, ◌-◌, ◌≤◌, ◌<◌, List, [], ◌∷◌, length, take, drop, get_or, refl, sym, ap, ◌∙◌, arith, Vec, Global}
use Rattle.std.proofs.lemmas.List.{take_all, drop_more}
use Rattle.std.proofs.Math.ListN.{drop_of_length-le}
use Rattle.ipdl_tree.specs.declared.tree.Tree.{Tree}
use Rattle.ipdl_tree.specs.declared.tree.Node.TheFolds.{fold_out-Tree, fold-roll-Node, fold-Node}
use Rattle.ipdl_tree.specs.declared.tree.Node.TheOpen.{Node-F}
use Rattle.ipdl_tree.specs.declared.tree.Node.TheVariants.{Word, Group, rolls-Word, rolls-Group}
use Rattle.ipdl_tree.specs.Trees.{Located, word, group, tree, no_trees}
use Rattle.ipdl_tree.specs.Views.{located, all_located, node_located, tree_located}
use Rattle.ipdl_forms.specs.Lists.{tree_count}

-- as many trees as the program holds
pub tree_count_located : (ts : List Tree) → tree_count (all_located ts) ≡ length ts
tree_count_located [] = refl
tree_count_located (t ∷ ts) = ap suc (tree_count_located ts)

-- some trees are the first one and the rest
pub first_and_rest : (xs : List Tree) (head : Tree) → 1 ≤ length xs → head ≡ get_or xs 0 head → xs ≡ head ∷ take (length xs - 1) (drop 1 xs)
first_and_rest [] head some is = absurd (omega arith)
first_and_rest (x ∷ xs) head some is =
    let whole : length xs ≤ length (x ∷ xs) - 1 = omega arith in
    ap (λ y. y ∷ xs) (sym is) ∙ ap (λ ys. head ∷ ys) (sym (take_all (length (x ∷ xs) - 1) xs whole))

-- a tree by its node
pub located_word : (v : Tree) (name : List ℕ) → v.node ≡ Word name → located v ≡ word v.pos.0 name
located_word v name named =
    fold_out-Tree (ℕ → Located) Located node_located tree_located v
    ∙ ap (λ n. fold-Node (ℕ → Located) Located node_located tree_located n v.pos.0) (named ∙ sym (rolls-Word name))
    ∙ ap (λ (k : ℕ → Located). k v.pos.0) (fold-roll-Node (ℕ → Located) Located node_located tree_located (Node-F.Word name))

pub located_group : (v : Tree) (parts : Vec Tree Global) (xs : List Tree) → v.node ≡ Group parts → xs ≡ parts.items → located v ≡ group v.pos.0 (all_located xs)
located_group v parts xs grouped is =
    fold_out-Tree (ℕ → Located) Located node_located tree_located v
    ∙ ap (λ n. fold-Node (ℕ → Located) Located node_located tree_located n v.pos.0) (grouped ∙ sym (rolls-Group parts))
    ∙ ap (λ (k : ℕ → Located). k v.pos.0) (fold-roll-Node (ℕ → Located) Located node_located tree_located (Node-F.Group parts))
    ∙ ap (λ ys. group v.pos.0 (all_located ys)) (sym is)

-- the tree of a list with a word in front
pub located_headed : (u head : Tree) (parts : Vec Tree Global) (xs : List Tree) (name : List ℕ) → u.node ≡ Group parts → xs ≡ parts.items → 1 ≤ length xs → head ≡ get_or xs 0 head → head.node ≡ Word name → located u ≡ group u.pos.0 (tree (word head.pos.0 name) (all_located (take (length xs - 1) (drop 1 xs))))
located_headed u head parts xs name grouped is some first named =
    located_group u parts xs grouped is ∙ ap (λ ys. group u.pos.0 (all_located ys)) (first_and_rest xs head some first)
    ∙ ap (λ t. group u.pos.0 (tree t (all_located (take (length xs - 1) (drop 1 xs))))) (located_word head name named)

-- two trees
pub two_items : (xs : List Tree) (a b : Tree) → 2 ≤ length xs → length xs < 3 → a ≡ get_or xs 0 a → b ≡ get_or xs 1 b → xs ≡ a ∷ b ∷ []
two_items [] a b some few is_a is_b = absurd (omega arith)
two_items (x ∷ []) a b some few is_a is_b = absurd (omega arith)
two_items (x ∷ y ∷ []) a b some few is_a is_b = rw (is_a, is_b) refl
two_items (x ∷ y ∷ z ∷ xs) a b some few is_a is_b = absurd (omega arith)

-- three trees
pub three_items : (xs : List Tree) (a b c : Tree) → 3 ≤ length xs → length xs < 4 → a ≡ get_or xs 0 a → b ≡ get_or xs 1 b → c ≡ get_or xs 2 c → xs ≡ a ∷ b ∷ c ∷ []
three_items [] a b c some few is_a is_b is_c = absurd (omega arith)
three_items (x ∷ []) a b c some few is_a is_b is_c = absurd (omega arith)
three_items (x ∷ y ∷ []) a b c some few is_a is_b is_c = absurd (omega arith)
three_items (x ∷ y ∷ z ∷ []) a b c some few is_a is_b is_c = rw (is_a, is_b, is_c) refl
three_items (w ∷ x ∷ y ∷ z ∷ xs) a b c some few is_a is_b is_c = absurd (omega arith)

-- four trees
pub four_items : (xs : List Tree) (a b c d : Tree) → 4 ≤ length xs → length xs < 5 → a ≡ get_or xs 0 a → b ≡ get_or xs 1 b → c ≡ get_or xs 2 c → d ≡ get_or xs 3 d → xs ≡ a ∷ b ∷ c ∷ d ∷ []
four_items [] a b c d some few is_a is_b is_c is_d = absurd (omega arith)
four_items (x ∷ []) a b c d some few is_a is_b is_c is_d = absurd (omega arith)
four_items (x ∷ y ∷ []) a b c d some few is_a is_b is_c is_d = absurd (omega arith)
four_items (x ∷ y ∷ z ∷ []) a b c d some few is_a is_b is_c is_d = absurd (omega arith)
four_items (w ∷ x ∷ y ∷ z ∷ []) a b c d some few is_a is_b is_c is_d = rw (is_a, is_b, is_c, is_d) refl
four_items (v ∷ w ∷ x ∷ y ∷ z ∷ xs) a b c d some few is_a is_b is_c is_d = absurd (omega arith)

-- five trees
pub five_items : (xs : List Tree) (a b c d e : Tree) → 5 ≤ length xs → length xs < 6 → a ≡ get_or xs 0 a → b ≡ get_or xs 1 b → c ≡ get_or xs 2 c → d ≡ get_or xs 3 d → e ≡ get_or xs 4 e → xs ≡ a ∷ b ∷ c ∷ d ∷ e ∷ []
five_items [] a b c d e some few is_a is_b is_c is_d is_e = absurd (omega arith)
five_items (x ∷ xs) a b c d e some few is_a is_b is_c is_d is_e =
    let one : 4 ≤ length xs = omega arith in
    let two : length xs < 5 = omega arith in
    ap (λ y. y ∷ xs) (sym is_a) ∙ ap (λ ys. a ∷ ys) (four_items xs b c d e one two is_b is_c is_d is_e)

-- the trees from a place on are the one there and those after it
pub rest_located : (xs : List Tree) (i : ℕ) (x : Tree) → i < length xs → x ≡ get_or xs i x → all_located (drop i xs) ≡ tree (located x) (all_located (drop (i + 1) xs))
rest_located xs i x within is =
    ap all_located (drop_more xs i x within ∙ ap (λ y. y ∷ drop (i + 1) xs) (sym is))

-- there is none from the end on
pub none_located : (xs : List Tree) (i : ℕ) → length xs ≤ i → all_located (drop i xs) ≡ no_trees
none_located xs i end = ap all_located (drop_of_length-le xs end)
