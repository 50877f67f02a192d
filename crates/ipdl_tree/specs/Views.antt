-- The program's trees as plain data.
use Rattle.std.specs.Prelude.{ℕ, List, [], ◌∷◌, map}
use Rattle.ipdl_tree.specs.Trees.{Located, word, number, literal, group, Forest, no_trees, tree}
use Rattle.ipdl_tree.specs.declared.tree.Node.TheOpen.{Node-F, Tree-F}
use Rattle.ipdl_tree.specs.declared.tree.Tree.{Tree, fold-Tree}

-- a list of trees as a forest
abbrev pub forest : List Located → Forest
forest [] = no_trees
forest (t ∷ ts) = tree t (forest ts)

-- one level, with the trees inside already seen as data: a tree for each offset of its first character
abbrev pub node_located : Node-F (ℕ → Located) Located → ℕ → Located
node_located (Node-F.Word name) pos = word pos name
node_located (Node-F.Number n) pos = number pos n
node_located (Node-F.Literal bits) pos = literal pos bits
node_located (Node-F.Group parts) pos = group pos (forest parts.items)

abbrev pub tree_located : Tree-F (ℕ → Located) Located → Located
tree_located t = t.node t.pos.0

-- the tree as data
abbrev pub located : Tree → Located
located = fold-Tree (ℕ → Located) Located node_located tree_located

-- some trees, one after the other
abbrev pub all_located : List Tree → Forest
all_located ts = forest (map located ts)
