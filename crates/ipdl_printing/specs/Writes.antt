-- What a call that prints writes after the text that is there.
use Rattle.std.specs.Prelude.{◌≡◌, ℕ, List, ◌++◌}
use Rattle.ipdl_tree.specs.Spelling.{tree_text, more_text}
use Rattle.ipdl_tree.specs.Trees.{Located}
use Rattle.ipdl_tree.specs.Views.{forest}
use Rattle.ipdl_tree.specs.WellFormed.{IsWellFormed, AreWellFormed}

-- The text goes on with the spelling of the tree. The tree is well formed, so the spelling is read back as that tree.
pub record WritesTree (old new : List ℕ) (t : Located) : Type 0 where
  pub text : new ≡ old ++ tree_text t
  pub formed : IsWellFormed t

-- The text goes on with trees that are well formed, and a blank before each.
pub record WritesMore (old new : List ℕ) (ts : List Located) : Type 0 where
  pub text : new ≡ old ++ more_text (forest ts)
  pub formed : AreWellFormed (forest ts)
