-- The parts of the use of an assumption or a theorem, for the functions that read it.
use Rattle.std.specs.Prelude.{◌≡◌, ℕ, true, false, List, [], ◌++◌, Some}
use Rattle.ipdl_term.specs.Steps.{Step, plain, rev, invoke}
use Rattle.ipdl_tree.specs.Trees.{Located, Forest}
use Rattle.ipdl_forms.specs.declared.fault.DocFault.{DocFault}
use Rattle.ipdl_forms.specs.Faults.{word_faults}
use Rattle.ipdl_forms.specs.Lists.{tree_count, tree_at, parts_of, is_list, is_among, word_in}
use Rattle.ipdl_forms.specs.Steps.{Earlier, SpellsPath, ArePairs, direction_word, new_name_faults}
use Rattle.ipdl_forms.specs.Widths.{two_faults}

-- a list of two names, of which the first did not come before
abbrev pub SpellsPair : List (List ℕ) → List ℕ × List ℕ → Located → Type 0
SpellsPair before p t =
    (tree_count (parts_of t) ≡ 2) × (word_in (tree_at 0 (parts_of t)) ≡ Some p.0) × (is_among before p.0 ≡ false)
    × (word_in (tree_at 1 (parts_of t)) ≡ Some p.1)

-- the tests of the parts of a list of a new name and a name, the list being at an offset
abbrev pub two_name_faults : List (List ℕ) → ℕ → Forest → List DocFault
two_name_faults before pos ts = two_faults pos ts ++ new_name_faults before (tree_at 0 ts) ++ word_faults (tree_at 1 ts)

-- the parts after `use`
abbrev pub SpellsUse : Earlier → Step → Forest → Type 0
SpellsUse earlier (plain place rule) ts = ⊥
SpellsUse earlier (rev place rule term) ts = ⊥
SpellsUse earlier (invoke place name direction pairs) ts =
    (tree_count ts ≡ 4) × (word_in (tree_at 0 ts) ≡ Some name) × (is_among earlier.statements name ≡ true)
    × SpellsPath place (tree_at 1 ts) × (word_in (tree_at 2 ts) ≡ Some (direction_word direction))
    × (is_list (tree_at 3 ts) ≡ true) × ArePairs [] pairs (parts_of (tree_at 3 ts))
