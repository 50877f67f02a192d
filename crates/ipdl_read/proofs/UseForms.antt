-- The first fault among the parts of a use.
use Rattle.std.proofs.Common.{◌≡◌, ℕ, [], ◌++◌}
use Rattle.ipdl_tree.specs.Trees.{Located, tree, no_trees}
use Rattle.ipdl_forms.specs.declared.fault.DocFault.{DocFault}
use Rattle.ipdl_forms.specs.Faults.{TellsFirst}
use Rattle.ipdl_forms.specs.Lists.{parts_of}
use Rattle.ipdl_forms.specs.Steps.{Earlier, declared_faults, path_faults, direction_faults, list_faults, all_pair_faults, use_faults}
use Rattle.ipdl_forms.proofs.Faults.{TellsFirst-in_front, TellsFirst-after, clean-append}

module _ (fault : DocFault) (earlier : Earlier) (pos : ℕ) (a b c d : Located) where
  -- that of the path
  pub use_faults-path : declared_faults earlier.statements a ≡ [] → TellsFirst fault (path_faults b) → TellsFirst fault (use_faults earlier pos (tree a (tree b (tree c (tree d no_trees)))))
  use_faults-path name first =
      TellsFirst-in_front fault (declared_faults earlier.statements a ++ path_faults b ++ direction_faults c ++ list_faults d) (all_pair_faults [] (parts_of d))
      (TellsFirst-in_front fault (declared_faults earlier.statements a ++ path_faults b ++ direction_faults c) (list_faults d)
      (TellsFirst-in_front fault (declared_faults earlier.statements a ++ path_faults b) (direction_faults c)
      (TellsFirst-after fault (declared_faults earlier.statements a) (path_faults b) name first)))

  -- that of the direction
  pub use_faults-dir : declared_faults earlier.statements a ≡ [] → path_faults b ≡ [] → TellsFirst fault (direction_faults c) → TellsFirst fault (use_faults earlier pos (tree a (tree b (tree c (tree d no_trees)))))
  use_faults-dir name path first =
      TellsFirst-in_front fault (declared_faults earlier.statements a ++ path_faults b ++ direction_faults c ++ list_faults d) (all_pair_faults [] (parts_of d))
      (TellsFirst-in_front fault (declared_faults earlier.statements a ++ path_faults b ++ direction_faults c) (list_faults d)
      (TellsFirst-after fault (declared_faults earlier.statements a ++ path_faults b) (direction_faults c) (clean-append (declared_faults earlier.statements a) (path_faults b) name path) first))

  -- that of the list of pairs
  pub use_faults-list : declared_faults earlier.statements a ≡ [] → path_faults b ≡ [] → direction_faults c ≡ [] → TellsFirst fault (list_faults d) → TellsFirst fault (use_faults earlier pos (tree a (tree b (tree c (tree d no_trees)))))
  use_faults-list name path dir first =
      TellsFirst-in_front fault (declared_faults earlier.statements a ++ path_faults b ++ direction_faults c ++ list_faults d) (all_pair_faults [] (parts_of d))
      (TellsFirst-after fault (declared_faults earlier.statements a ++ path_faults b ++ direction_faults c) (list_faults d)
      (clean-append (declared_faults earlier.statements a ++ path_faults b) (direction_faults c) (clean-append (declared_faults earlier.statements a) (path_faults b) name path) dir) first)

  -- that of a pair
  pub use_faults-pairs : declared_faults earlier.statements a ≡ [] → path_faults b ≡ [] → direction_faults c ≡ [] → list_faults d ≡ [] → TellsFirst fault (all_pair_faults [] (parts_of d)) → TellsFirst fault (use_faults earlier pos (tree a (tree b (tree c (tree d no_trees)))))
  use_faults-pairs name path dir list first =
      TellsFirst-after fault (declared_faults earlier.statements a ++ path_faults b ++ direction_faults c ++ list_faults d) (all_pair_faults [] (parts_of d))
      (clean-append (declared_faults earlier.statements a ++ path_faults b ++ direction_faults c) (list_faults d)
      (clean-append (declared_faults earlier.statements a ++ path_faults b) (direction_faults c) (clean-append (declared_faults earlier.statements a) (path_faults b) name path) dir) list) first

-- no fault
pub use_faults-clean : (earlier : Earlier) (pos : ℕ) (a b c d : Located) → declared_faults earlier.statements a ≡ [] → path_faults b ≡ [] → direction_faults c ≡ [] → list_faults d ≡ [] → all_pair_faults [] (parts_of d) ≡ [] → use_faults earlier pos (tree a (tree b (tree c (tree d no_trees)))) ≡ []
use_faults-clean earlier pos a b c d name path dir list pairs =
    clean-append (declared_faults earlier.statements a ++ path_faults b ++ direction_faults c ++ list_faults d) (all_pair_faults [] (parts_of d))
    (clean-append (declared_faults earlier.statements a ++ path_faults b ++ direction_faults c) (list_faults d)
    (clean-append (declared_faults earlier.statements a ++ path_faults b) (direction_faults c) (clean-append (declared_faults earlier.statements a) (path_faults b) name path) dir) list) pairs
