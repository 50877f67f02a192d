-- The tree of a whole document, and which documents have a text that is read back as they are.
use Rattle.std.specs.Prelude.{◌≡◌, ℕ, ◌≤◌, Bool, true, false, List, [], ◌∷◌, ◌++◌, length, map, codes, Option, Some, None}
use Rattle.ipdl_sig.specs.declared.symbol.Symbol.{Symbol}
use Rattle.ipdl_sig.specs.Symbols.{IsSymbol}
use Rattle.ipdl_term.specs.declared.interface.Port.{Port}
use Rattle.ipdl_term.specs.Typing.{port_names}
use Rattle.ipdl_tree.specs.Trees.{Located, word, number, literal, group}
use Rattle.ipdl_tree.specs.Views.{forest}
use Rattle.ipdl_tree.specs.WellFormed.{IsWellFormed}
use Rattle.ipdl_printing.specs.Printing.{headed, port_tree, protocol_tree}
use Rattle.ipdl_forms.specs.Documents.{Entry, symbol_entry, protocol_entry, assumption_entry, theorem_entry, Document, symbols_in}
use Rattle.ipdl_forms.specs.Items.{nothing_earlier, earlier_with, is_taken, this_version}
use Rattle.ipdl_forms.specs.Limits.{IsWithinLimits}
use Rattle.ipdl_forms.specs.Lists.{is_among}
use Rattle.ipdl_forms.specs.Steps.{Earlier}
use Rattle.ipdl_forms.specs.Widths.{greatest_width}
use Rattle.ipdl_roundtrip.specs.Shown.{IsShowable}

-- ---- the tree

-- `(fun NAME FROM TO)`, or `(table NAME FROM TO (VALUE ..))`
abbrev pub symbol_tree : (name : List ℕ) (from to : ℕ) (values : Option (List (List Bool))) → Located
symbol_tree name from to None = headed (codes "fun") (word 0 name ∷ number 0 from ∷ number 0 to ∷ [])
symbol_tree name from to (Some values) =
    headed (codes "table")
    (word 0 name ∷ number 0 from ∷ number 0 to ∷ group 0 (forest (map (literal 0) values)) ∷ [])

-- the trees of ports
abbrev pub port_trees : List Port → List Located
port_trees ports = map (λ (port : Port). port_tree port.name port.width) ports

-- An item, of a document with these symbols. A theorem is printed without its steps.
abbrev pub entry_tree : List Symbol → Entry → Located
entry_tree symbols (symbol_entry n s) = symbol_tree s.name s.from s.to s.values
entry_tree symbols (protocol_entry name interface body) =
    headed (codes "protocol")
    (word 0 name ∷ headed (codes "inputs") (port_trees interface.inputs)
    ∷ headed (codes "outputs") (port_trees interface.outputs) ∷ protocol_tree symbols body ∷ [])
entry_tree symbols (assumption_entry name left right) =
    headed (codes "assume") (word 0 name ∷ word 0 left ∷ word 0 right ∷ [])
entry_tree symbols (theorem_entry name left right lefts rights) =
    headed (codes "theorem")
    (word 0 name ∷ word 0 left ∷ word 0 right ∷ headed (codes "left") [] ∷ headed (codes "right") [] ∷ [])

-- `(ipdl 1 ITEM ..)`
abbrev pub document_tree : Document → Located
document_tree d = headed (codes "ipdl") (number 0 d.version ∷ map (entry_tree d.symbols) d.entries)

-- ---- which items and documents

-- ports of which no two have one name, and none a name that came before
abbrev pub MayBeDeclared : (before : List (List ℕ)) → List Port → Type 0
MayBeDeclared before [] = Unit {0}
MayBeDeclared before (p ∷ ps) =
    (p.width ≤ greatest_width) × (is_among before p.name ≡ false) × MayBeDeclared (before ++ p.name ∷ []) ps

-- protocols that an earlier item declares
abbrev pub AreDeclared : Earlier → (left right : List ℕ) → Type 0
AreDeclared earlier left right =
    (is_among earlier.protocols left ≡ true) × (is_among earlier.protocols right ≡ true)

-- The item has a name of its own, may be declared after the earlier items and these symbols, and has no steps.
abbrev pub IsShowableEntry : List Symbol → Earlier → Entry → Type 0
IsShowableEntry symbols earlier (symbol_entry n s) =
    (n ≡ length earlier.symbols) × (is_taken earlier s.name ≡ false) × IsSymbol s
IsShowableEntry symbols earlier (protocol_entry name interface body) =
    (is_taken earlier name ≡ false) × MayBeDeclared [] interface.inputs
    × MayBeDeclared (port_names interface.inputs) interface.outputs × IsShowable symbols body
IsShowableEntry symbols earlier (assumption_entry name left right) =
    (is_taken earlier name ≡ false) × AreDeclared earlier left right
IsShowableEntry symbols earlier (theorem_entry name left right lefts rights) =
    (is_taken earlier name ≡ false) × AreDeclared earlier left right × (lefts ≡ []) × (rights ≡ [])

-- each item, after those before it and their symbols
abbrev pub AreShowable : List Symbol → Earlier → List Entry → Type 0
AreShowable symbols earlier [] = Unit {0}
AreShowable symbols earlier (e ∷ es) =
    IsShowableEntry symbols earlier e × AreShowable (symbols ++ symbols_in (e ∷ [])) (earlier_with e earlier) es

-- The tree of the document spells it, and has a spelling: its items may be declared in their order, it is within the
-- limits, and its words are names.
pub record IsShowableDocument (d : Document) : Type 0 where
  pub version : d.version ≡ this_version
  pub symbols : d.symbols ≡ symbols_in d.entries
  pub entries : AreShowable [] nothing_earlier d.entries
  pub limits : IsWithinLimits d
  pub formed : IsWellFormed (document_tree d)
