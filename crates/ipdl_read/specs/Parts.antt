-- What is declared before an item, and the tests of one of a form, as the reader goes through them.
use Rattle.std.specs.Prelude.{◌≡◌, ℕ, true, List, ◌++◌, Some}
use Rattle.ipdl_sig.specs.declared.symbol.Symbol.{Symbol}
use Rattle.ipdl_sig.specs.Symbols.{names_of}
use Rattle.ipdl_tree.specs.Trees.{Located, Forest}
use Rattle.ipdl_forms.specs.declared.document.Item.{Item}
use Rattle.ipdl_forms.specs.declared.fault.FormCause.TheVariants.{NotAForm}
use Rattle.ipdl_forms.specs.declared.fault.DocFault.{DocFault}
use Rattle.ipdl_forms.specs.Earlier.{protocol_names, statement_names}
use Rattle.ipdl_forms.specs.Faults.{form_fault, tested}
use Rattle.ipdl_forms.specs.Items.{ItemForm, SpellsNewName, has_item_form, item_name_faults, item_part_faults}
use Rattle.ipdl_forms.specs.Lists.{tree_count, is_among, word_in}
use Rattle.ipdl_forms.specs.Steps.{Earlier, declared_faults}

-- what these symbols and items declare
abbrev pub earlier_at : List Symbol → List Item → Earlier
earlier_at symbols items =
    record { symbols = names_of symbols; protocols = protocol_names items; statements = statement_names items }

-- the tests of the parts of a list at an offset, which is to be an item of the form
abbrev pub form_faults : Earlier → ItemForm → ℕ → Forest → List DocFault
form_faults earlier form pos ts =
    tested (has_item_form (Some form) (tree_count ts)) (form_fault NotAForm pos) ++ item_part_faults earlier (Some form) ts

-- the three parts that assumptions and theorems begin with: a new name, and the names of two earlier protocols
abbrev pub SpellsNamed : Earlier → (name left right : List ℕ) → (first second third : Located) → Type 0
SpellsNamed earlier name left right first second third =
    SpellsNewName earlier name first × (word_in second ≡ Some left) × (is_among earlier.protocols left ≡ true)
    × (word_in third ≡ Some right) × (is_among earlier.protocols right ≡ true)

abbrev pub named_faults : Earlier → (first second third : Located) → List DocFault
named_faults earlier first second third =
    item_name_faults earlier first ++ declared_faults earlier.protocols second ++ declared_faults earlier.protocols third
