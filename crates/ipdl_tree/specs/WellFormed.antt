-- Which trees have a spelling.
use Rattle.std.specs.Prelude.{◌<◌, ◌≤◌, ◌^◌, IsTrue, length}
use Rattle.ipdl_base.specs.Names.{is_name}
use Rattle.ipdl_tree.specs.Trees.{Located, word, number, literal, group, Forest, no_trees, tree}

-- the words are names, the numbers fit 32 bits, and the literals have at most 128 bits
abbrev mutual
  pub IsWellFormed : Located → Type 0
  IsWellFormed (word pos name) = IsTrue (is_name name)
  IsWellFormed (number pos n) = n < 2 ^ 32
  IsWellFormed (literal pos bits) = length bits ≤ 128
  IsWellFormed (group pos ts) = AreWellFormed ts

  pub AreWellFormed : Forest → Type 0
  AreWellFormed no_trees = Unit {0}
  AreWellFormed (tree t ts) = IsWellFormed t × AreWellFormed ts
