-- Widths, and channels with their widths.
use Rattle.std.specs.Prelude.{◌≡◌, ℕ, ◌==◌, ◌≤◌, nat_le, List, [], ◌∷◌, ◌++◌, Some}
use Rattle.ipdl_tree.specs.Trees.{Located, word, number, literal, group, Forest}
use Rattle.ipdl_forms.specs.declared.fault.FormCause.TheVariants.{NotAForm, WrongWidth}
use Rattle.ipdl_forms.specs.declared.fault.DocFault.{DocFault}
use Rattle.ipdl_forms.specs.Faults.{form_fault, tested, word_faults}
use Rattle.ipdl_forms.specs.Lists.{tree_count, tree_at, parts_of, word_in, number_in}

-- the greatest width, and the greatest number of a `cut`
abbrev pub greatest_width : ℕ
greatest_width = 128

-- a width, or a number of a `cut`
abbrev pub SpellsWidth : ℕ → Located → Type 0
SpellsWidth w t = (number_in t ≡ Some w) × (w ≤ greatest_width)

-- a number that is not above another one
abbrev pub width_faults : ℕ → Located → List DocFault
width_faults most (word pos name) = form_fault NotAForm pos ∷ []
width_faults most (number pos n) = tested (nat_le n most) (form_fault WrongWidth pos)
width_faults most (literal pos bits) = form_fault NotAForm pos ∷ []
width_faults most (group pos ts) = form_fault NotAForm pos ∷ []

-- a channel with its width, in a list of two
abbrev pub SpellsPort : List ℕ → ℕ → Located → Type 0
SpellsPort c w t =
    (tree_count (parts_of t) ≡ 2) × (word_in (tree_at 0 (parts_of t)) ≡ Some c)
    × SpellsWidth w (tree_at 1 (parts_of t))

-- a list at an offset has two parts
abbrev pub two_faults : ℕ → Forest → List DocFault
two_faults pos ts = tested (tree_count ts == 2) (form_fault NotAForm pos)

abbrev pub port_faults : Located → List DocFault
port_faults (word pos name) = form_fault NotAForm pos ∷ []
port_faults (number pos n) = form_fault NotAForm pos ∷ []
port_faults (literal pos bits) = form_fault NotAForm pos ∷ []
port_faults (group pos ts) = two_faults pos ts ++ word_faults (tree_at 0 ts) ++ width_faults greatest_width (tree_at 1 ts)
