-- Which trees spell an item of a document and a whole document, and the tests of one in reading order.
use Rattle.std.specs.Prelude.{◌≡◌, ℕ, suc, ◌^◌, ◌==◌, ◌≤◌, ◌&&◌, ◌||◌, not, nat_le, nat_lt, Bool, true, false, List, [], ◌∷◌, ◌++◌, length, codes, bytes_eq, Option, Some, None, if◌then◌else◌}
use Rattle.ipdl_base.specs.Limits.{limit_number}
use Rattle.ipdl_base.specs.declared.limit.Limit.TheVariants.{Items}
use Rattle.ipdl_sig.specs.declared.symbol.Symbol.{Symbol}
use Rattle.ipdl_term.specs.declared.interface.Interface.{Interface}
use Rattle.ipdl_term.specs.declared.interface.Port.{Port}
use Rattle.ipdl_term.specs.Typing.{port_names}
use Rattle.ipdl_tree.specs.Trees.{Located, word, number, literal, group, Forest, no_trees, tree, offset_of}
use Rattle.ipdl_forms.specs.declared.fault.FormCause.TheVariants.{NotAForm, Repeated, WrongWidth, TableLength}
use Rattle.ipdl_forms.specs.declared.fault.DocFault.{DocFault}
use Rattle.ipdl_forms.specs.Documents.{Entry, symbol_entry, protocol_entry, assumption_entry, theorem_entry, Document, symbols_in}
use Rattle.ipdl_forms.specs.Faults.{form_fault, over_fault, tested, word_faults}
use Rattle.ipdl_forms.specs.Lists.{tree_count, tree_at, without_first, parts_of, is_among, word_in, number_in, literal_in, name_in, value_in, head_of, operands, operand, IsForm, IsLongForm}
use Rattle.ipdl_forms.specs.Operators.{is_operator}
use Rattle.ipdl_forms.specs.Protocols.{SpellsProtocol, protocol_faults}
use Rattle.ipdl_forms.specs.Scopes.{NameScope}
use Rattle.ipdl_forms.specs.Steps.{Earlier, SpellsSide, side_faults, headed_faults, declared_faults, new_name_faults, first_name, list_faults}
use Rattle.ipdl_forms.specs.Widths.{SpellsWidth, SpellsPort, greatest_width, width_faults, two_faults}

-- ---- what is declared

abbrev pub nothing_earlier : Earlier
nothing_earlier = record { symbols = []; protocols = []; statements = [] }

-- one more name
abbrev pub with_symbol : List ℕ → Earlier → Earlier
with_symbol name earlier =
    record { symbols = earlier.symbols ++ name ∷ []; protocols = earlier.protocols; statements = earlier.statements }

abbrev pub with_protocol : List ℕ → Earlier → Earlier
with_protocol name earlier =
    record { symbols = earlier.symbols; protocols = earlier.protocols ++ name ∷ []; statements = earlier.statements }

abbrev pub with_statement : List ℕ → Earlier → Earlier
with_statement name earlier =
    record { symbols = earlier.symbols; protocols = earlier.protocols; statements = earlier.statements ++ name ∷ [] }

-- what is declared after an item
abbrev pub earlier_with : Entry → Earlier → Earlier
earlier_with (symbol_entry n s) earlier = with_symbol s.name earlier
earlier_with (protocol_entry name interface body) earlier = with_protocol name earlier
earlier_with (assumption_entry name left right) earlier = with_statement name earlier
earlier_with (theorem_entry name left right lefts rights) earlier = with_statement name earlier

-- whether no item may have the name: an operator or an earlier item has it
abbrev pub is_taken : Earlier → List ℕ → Bool
is_taken earlier name =
    is_operator name
    || (is_among earlier.symbols name || (is_among earlier.protocols name || is_among earlier.statements name))

-- the scope of the body of a protocol
abbrev pub body_scope : Earlier → NameScope
body_scope earlier = record { symbols = earlier.symbols; binders = []; in_step = false }

-- the name of an item
abbrev pub SpellsNewName : Earlier → List ℕ → Located → Type 0
SpellsNewName earlier name t = (word_in t ≡ Some name) × (is_taken earlier name ≡ false)

abbrev pub item_name_faults : Earlier → Located → List DocFault
item_name_faults earlier t =
    word_faults t ++ tested (not (is_taken earlier (name_in t))) (form_fault Repeated (offset_of t))

-- ---- symbols

-- literals of one width
abbrev pub AreValues : ℕ → List (List Bool) → Forest → Type 0
AreValues w [] no_trees = Unit {0}
AreValues w [] (tree t ts) = ⊥
AreValues w (v ∷ vs) no_trees = ⊥
AreValues w (v ∷ vs) (tree t ts) = (literal_in t ≡ Some v) × (length v ≡ w) × AreValues w vs ts

-- the greatest width of a table's argument
abbrev pub greatest_table_width : ℕ
greatest_table_width = 12

abbrev pub SpellsSymbol : Earlier → Symbol → Located → Type 0
SpellsSymbol earlier s t =
    SpellsNewName earlier s.name (operand 0 t) × (number_in (operand 1 t) ≡ Some s.from)
    × SpellsWidth s.to (operand 2 t) × by_values s.values
  where
    by_values : Option (List (List Bool)) → Type 0
    by_values None = IsForm (codes "fun") 3 t × (s.from ≤ greatest_width)
    by_values (Some values) =
        IsForm (codes "table") 4 t × (s.from ≤ greatest_table_width) × AreValues s.to values (parts_of (operand 3 t))
        × (length values ≡ 2 ^ s.from)

abbrev pub value_faults : ℕ → Located → List DocFault
value_faults w (word pos name) = form_fault NotAForm pos ∷ []
value_faults w (number pos n) = form_fault NotAForm pos ∷ []
value_faults w (literal pos bits) = tested (length bits == w) (form_fault WrongWidth pos)
value_faults w (group pos ts) = form_fault NotAForm pos ∷ []

abbrev pub all_value_faults : ℕ → Forest → List DocFault
all_value_faults w no_trees = []
all_value_faults w (tree t ts) = value_faults w t ++ all_value_faults w ts

-- a value of the second width for each argument of the first one
abbrev pub table_faults : ℕ → ℕ → Located → List DocFault
table_faults from to t =
    list_faults t ++ all_value_faults to (parts_of t)
    ++ tested (tree_count (parts_of t) == 2 ^ from) (form_fault TableLength (offset_of t))

-- ---- protocols

-- ports of an interface, of which no two have one name, and none a name that came before
abbrev pub ArePorts : List (List ℕ) → List Port → Forest → Type 0
ArePorts before [] no_trees = Unit {0}
ArePorts before [] (tree t ts) = ⊥
ArePorts before (p ∷ ps) no_trees = ⊥
ArePorts before (p ∷ ps) (tree t ts) =
    SpellsPort p.name p.width t × (is_among before p.name ≡ false) × ArePorts (before ++ p.name ∷ []) ps ts

abbrev pub SpellsInterface : Interface → (inputs outputs : Located) → Type 0
SpellsInterface interface inputs outputs =
    (head_of inputs ≡ Some (codes "inputs")) × ArePorts [] interface.inputs (operands inputs)
    × (head_of outputs ≡ Some (codes "outputs"))
    × ArePorts (port_names interface.inputs) interface.outputs (operands outputs)

abbrev pub interface_port_faults : List (List ℕ) → Located → List DocFault
interface_port_faults before (word pos name) = form_fault NotAForm pos ∷ []
interface_port_faults before (number pos n) = form_fault NotAForm pos ∷ []
interface_port_faults before (literal pos bits) = form_fault NotAForm pos ∷ []
interface_port_faults before (group pos ts) =
    two_faults pos ts ++ new_name_faults before (tree_at 0 ts) ++ width_faults greatest_width (tree_at 1 ts)

abbrev pub all_port_faults : List (List ℕ) → Forest → List DocFault
all_port_faults before no_trees = []
all_port_faults before (tree t ts) = interface_port_faults before t ++ all_port_faults (before ++ first_name t ∷ []) ts

-- the names of ports, by their trees
abbrev pub first_names : Forest → List (List ℕ)
first_names no_trees = []
first_names (tree t ts) = first_name t ∷ first_names ts

abbrev pub interface_faults : (inputs outputs : Located) → List DocFault
interface_faults inputs outputs =
    headed_faults (codes "inputs") inputs ++ all_port_faults [] (operands inputs)
    ++ headed_faults (codes "outputs") outputs ++ all_port_faults (first_names (operands inputs)) (operands outputs)

-- ---- items

-- the two earlier protocols of an assumption or a theorem
abbrev pub SpellsSides : Earlier → (left right : List ℕ) → Located → Type 0
SpellsSides earlier left right t =
    (word_in (operand 1 t) ≡ Some left) × (is_among earlier.protocols left ≡ true)
    × (word_in (operand 2 t) ≡ Some right) × (is_among earlier.protocols right ≡ true)

abbrev pub SpellsEntry : Earlier → Entry → Located → Type 0
SpellsEntry earlier (symbol_entry n s) t = (n ≡ length earlier.symbols) × SpellsSymbol earlier s t
SpellsEntry earlier (protocol_entry name interface body) t =
    IsForm (codes "protocol") 4 t × SpellsNewName earlier name (operand 0 t)
    × SpellsInterface interface (operand 1 t) (operand 2 t) × SpellsProtocol (body_scope earlier) body (operand 3 t)
SpellsEntry earlier (assumption_entry name left right) t =
    IsForm (codes "assume") 3 t × SpellsNewName earlier name (operand 0 t) × SpellsSides earlier left right t
SpellsEntry earlier (theorem_entry name left right lefts rights) t =
    IsForm (codes "theorem") 5 t × SpellsNewName earlier name (operand 0 t) × SpellsSides earlier left right t
    × SpellsSide earlier (codes "left") lefts (operand 3 t) × SpellsSide earlier (codes "right") rights (operand 4 t)

pub data ItemForm : Type 0 where
  fun_form : ItemForm
  table_form : ItemForm
  protocol_form : ItemForm
  assume_form : ItemForm
  theorem_form : ItemForm

abbrev pub item_form : List ℕ → Option ItemForm
item_form name =
    if bytes_eq name (codes "fun") then Some fun_form
    else (if bytes_eq name (codes "table") then Some table_form
    else (if bytes_eq name (codes "protocol") then Some protocol_form
    else (if bytes_eq name (codes "assume") then Some assume_form
    else (if bytes_eq name (codes "theorem") then Some theorem_form
    else None))))

-- whether an item of this form has so many parts after its head
abbrev pub has_item_form : Option ItemForm → ℕ → Bool
has_item_form None count = false
has_item_form (Some fun_form) count = count == 3
has_item_form (Some table_form) count = count == 4
has_item_form (Some protocol_form) count = count == 4
has_item_form (Some assume_form) count = count == 3
has_item_form (Some theorem_form) count = count == 5

-- the tests of the parts after a head
abbrev pub item_part_faults : Earlier → Option ItemForm → Forest → List DocFault
item_part_faults earlier None ts = []
item_part_faults earlier (Some fun_form) ts =
    item_name_faults earlier (tree_at 0 ts) ++ width_faults greatest_width (tree_at 1 ts)
    ++ width_faults greatest_width (tree_at 2 ts)
item_part_faults earlier (Some table_form) ts =
    item_name_faults earlier (tree_at 0 ts) ++ width_faults greatest_table_width (tree_at 1 ts)
    ++ width_faults greatest_width (tree_at 2 ts)
    ++ table_faults (value_in (tree_at 1 ts)) (value_in (tree_at 2 ts)) (tree_at 3 ts)
item_part_faults earlier (Some protocol_form) ts =
    item_name_faults earlier (tree_at 0 ts) ++ interface_faults (tree_at 1 ts) (tree_at 2 ts)
    ++ protocol_faults (body_scope earlier) (Some 0) (tree_at 3 ts)
item_part_faults earlier (Some assume_form) ts =
    item_name_faults earlier (tree_at 0 ts) ++ declared_faults earlier.protocols (tree_at 1 ts)
    ++ declared_faults earlier.protocols (tree_at 2 ts)
item_part_faults earlier (Some theorem_form) ts =
    item_name_faults earlier (tree_at 0 ts) ++ declared_faults earlier.protocols (tree_at 1 ts)
    ++ declared_faults earlier.protocols (tree_at 2 ts)
    ++ side_faults earlier (codes "left") 0 (tree_at 3 ts)
    ++ side_faults earlier (codes "right") (tree_count (operands (tree_at 3 ts))) (tree_at 4 ts)

abbrev pub item_faults : Earlier → Located → List DocFault
item_faults earlier (word pos name) = form_fault NotAForm pos ∷ []
item_faults earlier (number pos n) = form_fault NotAForm pos ∷ []
item_faults earlier (literal pos bits) = form_fault NotAForm pos ∷ []
item_faults earlier (group pos no_trees) = form_fault NotAForm pos ∷ []
item_faults earlier (group pos (tree (word at name) ts)) =
    tested (has_item_form (item_form name) (tree_count ts)) (form_fault NotAForm pos)
    ++ item_part_faults earlier (item_form name) ts
item_faults earlier (group pos (tree (number at n) ts)) = form_fault NotAForm pos ∷ []
item_faults earlier (group pos (tree (literal at bits) ts)) = form_fault NotAForm pos ∷ []
item_faults earlier (group pos (tree (group at us) ts)) = form_fault NotAForm pos ∷ []

-- what is declared after the item of a tree
abbrev pub earlier_after : Option ItemForm → List ℕ → Earlier → Earlier
earlier_after None name earlier = earlier
earlier_after (Some fun_form) name earlier = with_symbol name earlier
earlier_after (Some table_form) name earlier = with_symbol name earlier
earlier_after (Some protocol_form) name earlier = with_protocol name earlier
earlier_after (Some assume_form) name earlier = with_statement name earlier
earlier_after (Some theorem_form) name earlier = with_statement name earlier

abbrev pub earlier_past : Located → Earlier → Earlier
earlier_past t earlier = earlier_after (item_form (first_name t)) (name_in (operand 0 t)) earlier

-- ---- documents

abbrev pub AreEntries : Earlier → List Entry → Forest → Type 0
AreEntries earlier [] no_trees = Unit {0}
AreEntries earlier [] (tree t ts) = ⊥
AreEntries earlier (e ∷ es) no_trees = ⊥
AreEntries earlier (e ∷ es) (tree t ts) = SpellsEntry earlier e t × AreEntries (earlier_with e earlier) es ts

-- the number of the version that is read
abbrev pub this_version : ℕ
this_version = 1

abbrev pub SpellsDocument : Document → Located → Type 0
SpellsDocument d t =
    IsLongForm (codes "ipdl") 1 t × (d.version ≡ this_version) × (number_in (operand 0 t) ≡ Some this_version)
    × AreEntries nothing_earlier d.entries (without_first (operands t)) × (d.symbols ≡ symbols_in d.entries)

-- the most items of a document
abbrev pub most_items : ℕ
most_items = limit_number Items

-- items, so many being read before
abbrev pub all_item_faults : Earlier → ℕ → Forest → List DocFault
all_item_faults earlier before no_trees = []
all_item_faults earlier before (tree t ts) =
    tested (nat_lt before most_items) (over_fault Items (offset_of t)) ++ item_faults earlier t
    ++ all_item_faults (earlier_past t earlier) (suc before) ts

abbrev pub version_faults : Located → List DocFault
version_faults (word pos name) = form_fault NotAForm pos ∷ []
version_faults (number pos n) = tested (n == this_version) (form_fault NotAForm pos)
version_faults (literal pos bits) = form_fault NotAForm pos ∷ []
version_faults (group pos ts) = form_fault NotAForm pos ∷ []

abbrev pub document_faults : Located → List DocFault
document_faults (word pos name) = form_fault NotAForm pos ∷ []
document_faults (number pos n) = form_fault NotAForm pos ∷ []
document_faults (literal pos bits) = form_fault NotAForm pos ∷ []
document_faults (group pos no_trees) = form_fault NotAForm pos ∷ []
document_faults (group pos (tree (word at name) ts)) =
    tested (bytes_eq name (codes "ipdl") && nat_le 1 (tree_count ts)) (form_fault NotAForm pos)
    ++ version_faults (tree_at 0 ts) ++ all_item_faults nothing_earlier 0 (without_first ts)
document_faults (group pos (tree (number at n) ts)) = form_fault NotAForm pos ∷ []
document_faults (group pos (tree (literal at bits) ts)) = form_fault NotAForm pos ∷ []
document_faults (group pos (tree (group at us) ts)) = form_fault NotAForm pos ∷ []
