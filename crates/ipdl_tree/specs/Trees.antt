-- Trees as plain data, and how deep they are.
use Rattle.std.specs.Prelude.{ℕ, suc, ◌≤◌, max, Bool, List}
use Rattle.ipdl_base.specs.Limits.{limit_number}
use Rattle.ipdl_base.specs.declared.limit.Limit.TheVariants.{Depth}

-- a tree, with the byte offset of its first character
mutual
  pub data Located : Type 0 where
    word : (pos : ℕ) → (name : List ℕ) → Located
    number : (pos : ℕ) → (value : ℕ) → Located
    literal : (pos : ℕ) → (bits : List Bool) → Located
    group : (pos : ℕ) → Forest → Located

  pub data Forest : Type 0 where
    no_trees : Forest
    tree : Located → Forest → Forest

-- where a tree begins
abbrev pub offset_of : Located → ℕ
offset_of (word pos name) = pos
offset_of (number pos n) = pos
offset_of (literal pos bits) = pos
offset_of (group pos ts) = pos

-- the tree alone: its words, numbers, literals and parts in order
abbrev mutual
  pub without_offsets : Located → Located
  without_offsets (word pos name) = word 0 name
  without_offsets (number pos n) = number 0 n
  without_offsets (literal pos bits) = literal 0 bits
  without_offsets (group pos ts) = group 0 (all_without_offsets ts)

  pub all_without_offsets : Forest → Forest
  all_without_offsets no_trees = no_trees
  all_without_offsets (tree t ts) = tree (without_offsets t) (all_without_offsets ts)

-- how deep parentheses are nested
abbrev mutual
  pub depth_of : Located → ℕ
  depth_of (word pos name) = 0
  depth_of (number pos n) = 0
  depth_of (literal pos bits) = 0
  depth_of (group pos ts) = suc (greatest_depth ts)

  pub greatest_depth : Forest → ℕ
  greatest_depth no_trees = 0
  greatest_depth (tree t ts) = max (depth_of t) (greatest_depth ts)

-- the most parentheses that may be open at once
abbrev pub most_open : ℕ
most_open = limit_number Depth

-- no more of them are
abbrev pub IsShallow : Located → Type 0
IsShallow t = depth_of t ≤ most_open
