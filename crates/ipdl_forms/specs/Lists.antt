-- What a tree is: a token, or a list with a word in front and the parts after it.
use Rattle.std.specs.Prelude.{◌≡◌, ℕ, zero, suc, ◌≤◌, Bool, true, false, List, [], Option, Some, None, is_some, unwrap_or, bytes_eq}
use Rattle.std.specs.List.{list_any}
use Rattle.ipdl_tree.specs.Trees.{Located, word, number, literal, group, Forest, no_trees, tree}

abbrev pub tree_count : Forest → ℕ
tree_count no_trees = 0
tree_count (tree t ts) = suc (tree_count ts)

-- where there is no tree, a word that is no name
abbrev pub no_tree : Located
no_tree = word 0 []

-- the tree at a place, counted from 0
abbrev pub tree_at : ℕ → Forest → Located
tree_at n no_trees = no_tree
tree_at zero (tree t ts) = t
tree_at (suc n) (tree t ts) = tree_at n ts

abbrev pub without_first : Forest → Forest
without_first no_trees = no_trees
without_first (tree t ts) = ts

-- the parts of a list, none of a token
abbrev pub parts_of : Located → Forest
parts_of (word pos name) = no_trees
parts_of (number pos n) = no_trees
parts_of (literal pos bits) = no_trees
parts_of (group pos ts) = ts

abbrev pub word_in : Located → Option (List ℕ)
word_in (word pos name) = Some name
word_in (number pos n) = None
word_in (literal pos bits) = None
word_in (group pos ts) = None

abbrev pub number_in : Located → Option ℕ
number_in (word pos name) = None
number_in (number pos n) = Some n
number_in (literal pos bits) = None
number_in (group pos ts) = None

abbrev pub literal_in : Located → Option (List Bool)
literal_in (word pos name) = None
literal_in (number pos n) = None
literal_in (literal pos bits) = Some bits
literal_in (group pos ts) = None

abbrev pub is_list : Located → Bool
is_list (word pos name) = false
is_list (number pos n) = false
is_list (literal pos bits) = false
is_list (group pos ts) = true

abbrev pub is_word : Located → Bool
is_word t = is_some (word_in t)

-- the word that a tree is
abbrev pub name_in : Located → List ℕ
name_in t = unwrap_or (word_in t) []

-- the number that a tree is
abbrev pub value_in : Located → ℕ
value_in t = unwrap_or (number_in t) 0

-- whether some names have this one
abbrev pub is_among : List (List ℕ) → List ℕ → Bool
is_among names name = list_any (bytes_eq name) names

-- the word in front of some trees
abbrev pub word_before : Forest → Option (List ℕ)
word_before no_trees = None
word_before (tree t ts) = word_in t

-- the word in front of a list
abbrev pub head_of : Located → Option (List ℕ)
head_of t = word_before (parts_of t)

-- the parts of a list after the first
abbrev pub operands : Located → Forest
operands t = without_first (parts_of t)

abbrev pub operand : ℕ → Located → Located
operand n t = tree_at n (operands t)

-- a list of this head and so many more parts
abbrev pub IsForm : List ℕ → ℕ → Located → Type 0
IsForm head count t = (head_of t ≡ Some head) × (tree_count (operands t) ≡ count)

-- a list of this head and at least so many more parts
abbrev pub IsLongForm : List ℕ → ℕ → Located → Type 0
IsLongForm head least t = (head_of t ≡ Some head) × (least ≤ tree_count (operands t))
