-- A tree at which no test of an item or a document fails spells one.
use Rattle.std.proofs.Common.{◌≡◌, ℕ, suc, length, Bool, false, List, [], ◌∷◌, ◌++◌, refl, sym, ap, ◌∙◌, subst}
use Rattle.std.specs.Prelude.{◌==◌, ◌^◌, ◌&&◌, nat_le, nat_lt, not, Some, codes, bytes_eq}
use Rattle.std.proofs.lemmas.Bool.{leb-true, not-true, and_parts}
use Rattle.std.proofs.lemmas.Slice.Eq.{bytes_eq-Decides}
use Rattle.ipdl_base.specs.declared.limit.Limit.TheVariants.{Items}
use Rattle.ipdl_sig.specs.Symbols.{fun_symbol, table_symbol}
use Rattle.ipdl_term.specs.declared.interface.Interface.{Interface}
use Rattle.ipdl_term.specs.declared.interface.Port.{Port}
use Rattle.ipdl_tree.specs.Trees.{Located, word, number, literal, group, Forest, no_trees, tree, offset_of}
use Rattle.ipdl_forms.specs.declared.fault.FormCause.TheVariants.{NotAForm, TableLength}
use Rattle.ipdl_forms.specs.Documents.{Entry, symbol_entry, protocol_entry, assumption_entry, theorem_entry, Document, symbols_in}
use Rattle.ipdl_forms.specs.Faults.{form_fault, over_fault, tested, word_faults}
use Rattle.ipdl_term.specs.Typing.{port_names}
use Rattle.ipdl_forms.specs.Items.{nothing_earlier, is_taken, body_scope, SpellsNewName, item_name_faults, AreValues, greatest_table_width, value_faults, all_value_faults, table_faults, ArePorts, SpellsInterface, interface_port_faults, all_port_faults, first_names, interface_faults, SpellsEntry, item_form, has_item_form, item_part_faults, item_faults, earlier_past, AreEntries, SpellsDocument, this_version, most_items, all_item_faults, version_faults, document_faults}
use Rattle.ipdl_forms.specs.Limits.{IsWithinLimits}
use Rattle.ipdl_forms.specs.Lists.{tree_count, tree_at, without_first, parts_of, number_in, name_in, value_in, is_among, operands}
use Rattle.ipdl_forms.specs.Protocols.{protocol_faults}
use Rattle.ipdl_forms.specs.Steps.{Earlier, first_name, list_faults, new_name_faults, headed_faults, declared_faults, side_faults}
use Rattle.ipdl_forms.specs.Widths.{SpellsPort, greatest_width, width_faults, two_faults}
use Rattle.ipdl_forms.proofs.CleanItems.{earlier_past-with}
use Rattle.ipdl_forms.proofs.Faults.{append-clean, tested-holds}
use Rattle.ipdl_forms.proofs.Spelled.{by_name, count_tested, name_spelled, width_value}
use Rattle.ipdl_forms.proofs.SpelledProtocols.{protocol_spelled}
use Rattle.ipdl_forms.proofs.SpelledSteps.{headed_spelled, new_name_spelled, declared_spelled, side_spelled}
use Rattle.ipdl_forms.proofs.WithinLimits.{within_document}

-- ---- symbols

new_item_spelled : (earlier : Earlier) (t : Located) → item_name_faults earlier t ≡ [] → SpellsNewName earlier (name_in t) t
new_item_spelled earlier t clean =
    let parts = append-clean (word_faults t) (tested (not (is_taken earlier (name_in t))) _) clean in
    (name_spelled t parts.0, not-true (is_taken earlier (name_in t)) (tested-holds (not (is_taken earlier (name_in t))) _ parts.1))

-- the values of a table, as many as there are trees
values_spelled : (w : ℕ) (ts : Forest) → all_value_faults w ts ≡ [] → (vs : List (List Bool)) × AreValues w vs ts × (length vs ≡ tree_count ts)
values_spelled w no_trees clean = ([], tt, refl)
values_spelled w (tree (word pos name) ts) clean = cc
values_spelled w (tree (number pos n) ts) clean = cc
values_spelled w (tree (literal pos bits) ts) clean =
    let parts = append-clean (value_faults w (literal pos bits)) (all_value_faults w ts) clean in
    let rest = values_spelled w ts parts.1 in
    (bits ∷ rest.0, (refl, count_tested (length bits) w _ parts.0, rest.1), ap suc rest.2)
values_spelled w (tree (group pos us) ts) clean = cc

table_spelled : (from to : ℕ) (t : Located) → table_faults from to t ≡ [] → (vs : List (List Bool)) × AreValues to vs (parts_of t) × (length vs ≡ 2 ^ from)
table_spelled from to t clean =
    let count = tested (tree_count (parts_of t) == 2 ^ from) (form_fault TableLength (offset_of t)) in
    let parts = append-clean (list_faults t ++ all_value_faults to (parts_of t)) count clean in
    let front = append-clean (list_faults t) (all_value_faults to (parts_of t)) parts.0 in
    let values = values_spelled to (parts_of t) front.1 in
    (values.0, values.1, values.2 ∙ count_tested (tree_count (parts_of t)) (2 ^ from) _ parts.1)

-- ---- interfaces

-- the width in the list of a port
port_width : Located → ℕ
port_width t = value_in (tree_at 1 (parts_of t))

port_spelled : (before : List (List ℕ)) (t : Located) → interface_port_faults before t ≡ [] → SpellsPort (first_name t) (port_width t) t × (is_among before (first_name t) ≡ false)
unfolding port_width
port_spelled before (word pos name) clean = cc
port_spelled before (number pos n) clean = cc
port_spelled before (literal pos bits) clean = cc
port_spelled before (group pos ts) clean =
    let front = append-clean (two_faults pos ts ++ new_name_faults before (tree_at 0 ts)) (width_faults greatest_width (tree_at 1 ts)) clean in
    let head = append-clean (two_faults pos ts) (new_name_faults before (tree_at 0 ts)) front.0 in
    let fresh = new_name_spelled before (tree_at 0 ts) head.1 in
    ((count_tested (tree_count ts) 2 _ head.0, fresh.0, width_value greatest_width (tree_at 1 ts) front.1), fresh.1)

ports_spelled : (ts : Forest) (before : List (List ℕ)) → all_port_faults before ts ≡ [] → (ps : List Port) × ArePorts before ps ts × (port_names ps ≡ first_names ts)
ports_spelled no_trees before clean = ([], tt, refl)
ports_spelled (tree t ts) before clean =
    let parts = append-clean (interface_port_faults before t) (all_port_faults (before ++ first_name t ∷ []) ts) clean in
    let port = port_spelled before t parts.0 in
    let rest = ports_spelled ts (before ++ first_name t ∷ []) parts.1 in
    (record { name = first_name t; width = port_width t } ∷ rest.0, (port.0, port.1, rest.1), ap (λ names. first_name t ∷ names) rest.2)

interface_spelled : (inputs outputs : Located) → interface_faults inputs outputs ≡ [] → (interface : Interface) × SpellsInterface interface inputs outputs
interface_spelled inputs outputs clean =
    let first = headed_faults (codes "inputs") inputs in
    let second = all_port_faults [] (operands inputs) in
    let third = headed_faults (codes "outputs") outputs in
    let parts = append-clean (first ++ second ++ third) (all_port_faults (first_names (operands inputs)) (operands outputs)) clean in
    let front = append-clean (first ++ second) third parts.0 in
    let head = append-clean first second front.0 in
    let ins = ports_spelled (operands inputs) [] head.1 in
    let outs = ports_spelled (operands outputs) (first_names (operands inputs)) parts.1 in
    (record { inputs = ins.0; outputs = outs.0 }, (headed_spelled (codes "inputs") inputs head.0, ins.1, headed_spelled (codes "outputs") outputs front.1, subst (λ names. ArePorts names outs.0 (operands outputs)) (sym ins.2) outs.1))

-- ---- items

abbrev IsEntry : Earlier → Located → Type 0
IsEntry earlier t = (e : Entry) × SpellsEntry earlier e t

-- the tests of a list with this head, and what it spells
abbrev ListSpells : Earlier → (pos at : ℕ) → Forest → List ℕ → Type 0
ListSpells earlier pos at ts name =
    tested (has_item_form (item_form name) (tree_count ts)) (form_fault NotAForm pos) ≡ []
    → item_part_faults earlier (item_form name) ts ≡ [] → IsEntry earlier (group pos (tree (word at name) ts))

fun_spelled : (earlier : Earlier) (pos at : ℕ) (ts : Forest) → ListSpells earlier pos at ts (codes "fun")
fun_spelled earlier pos at ts head rest =
    let first = item_name_faults earlier (tree_at 0 ts) in
    let second = width_faults greatest_width (tree_at 1 ts) in
    let parts = append-clean (first ++ second) (width_faults greatest_width (tree_at 2 ts)) rest in
    let front = append-clean first second parts.0 in
    let from = width_value greatest_width (tree_at 1 ts) front.1 in
    (symbol_entry (length earlier.symbols) (fun_symbol (name_in (tree_at 0 ts)) (value_in (tree_at 1 ts)) (value_in (tree_at 2 ts))), (refl, (new_item_spelled earlier (tree_at 0 ts) front.0, from.0, width_value greatest_width (tree_at 2 ts) parts.1, ((refl, count_tested (tree_count ts) 3 _ head), from.1))))

table_item_spelled : (earlier : Earlier) (pos at : ℕ) (ts : Forest) → ListSpells earlier pos at ts (codes "table")
table_item_spelled earlier pos at ts head rest =
    let from = value_in (tree_at 1 ts) in
    let to = value_in (tree_at 2 ts) in
    let first = item_name_faults earlier (tree_at 0 ts) in
    let second = width_faults greatest_table_width (tree_at 1 ts) in
    let third = width_faults greatest_width (tree_at 2 ts) in
    let parts = append-clean (first ++ second ++ third) (table_faults from to (tree_at 3 ts)) rest in
    let front = append-clean (first ++ second) third parts.0 in
    let named = append-clean first second front.0 in
    let argument = width_value greatest_table_width (tree_at 1 ts) named.1 in
    let values = table_spelled from to (tree_at 3 ts) parts.1 in
    (symbol_entry (length earlier.symbols) (table_symbol (name_in (tree_at 0 ts)) from to values.0), (refl, (new_item_spelled earlier (tree_at 0 ts) named.0, argument.0, width_value greatest_width (tree_at 2 ts) front.1, ((refl, count_tested (tree_count ts) 4 _ head), argument.1, values.1, values.2))))

protocol_item_spelled : (earlier : Earlier) (pos at : ℕ) (ts : Forest) → ListSpells earlier pos at ts (codes "protocol")
protocol_item_spelled earlier pos at ts head rest =
    let first = item_name_faults earlier (tree_at 0 ts) in
    let second = interface_faults (tree_at 1 ts) (tree_at 2 ts) in
    let parts = append-clean (first ++ second) (protocol_faults (body_scope earlier) (Some 0) (tree_at 3 ts)) rest in
    let front = append-clean first second parts.0 in
    let interface = interface_spelled (tree_at 1 ts) (tree_at 2 ts) front.1 in
    let body = protocol_spelled (tree_at 3 ts) (body_scope earlier) (Some 0) parts.1 in
    (protocol_entry (name_in (tree_at 0 ts)) interface.0 body.0, ((refl, count_tested (tree_count ts) 4 _ head), new_item_spelled earlier (tree_at 0 ts) front.0, interface.1, body.1))

assume_spelled : (earlier : Earlier) (pos at : ℕ) (ts : Forest) → ListSpells earlier pos at ts (codes "assume")
assume_spelled earlier pos at ts head rest =
    let first = item_name_faults earlier (tree_at 0 ts) in
    let second = declared_faults earlier.protocols (tree_at 1 ts) in
    let parts = append-clean (first ++ second) (declared_faults earlier.protocols (tree_at 2 ts)) rest in
    let front = append-clean first second parts.0 in
    let left = declared_spelled earlier.protocols (tree_at 1 ts) front.1 in
    let right = declared_spelled earlier.protocols (tree_at 2 ts) parts.1 in
    (assumption_entry (name_in (tree_at 0 ts)) (name_in (tree_at 1 ts)) (name_in (tree_at 2 ts)), ((refl, count_tested (tree_count ts) 3 _ head), new_item_spelled earlier (tree_at 0 ts) front.0, (left.0, left.1, right.0, right.1)))

theorem_spelled : (earlier : Earlier) (pos at : ℕ) (ts : Forest) → ListSpells earlier pos at ts (codes "theorem")
theorem_spelled earlier pos at ts head rest =
    let first = item_name_faults earlier (tree_at 0 ts) in
    let second = declared_faults earlier.protocols (tree_at 1 ts) in
    let third = declared_faults earlier.protocols (tree_at 2 ts) in
    let fourth = side_faults earlier (codes "left") 0 (tree_at 3 ts) in
    let before = tree_count (operands (tree_at 3 ts)) in
    let parts = append-clean (first ++ second ++ third ++ fourth) (side_faults earlier (codes "right") before (tree_at 4 ts)) rest in
    let front = append-clean (first ++ second ++ third) fourth parts.0 in
    let sides = append-clean (first ++ second) third front.0 in
    let named = append-clean first second sides.0 in
    let left = declared_spelled earlier.protocols (tree_at 1 ts) named.1 in
    let right = declared_spelled earlier.protocols (tree_at 2 ts) sides.1 in
    let lefts = side_spelled earlier (codes "left") 0 (tree_at 3 ts) front.1 in
    let rights = side_spelled earlier (codes "right") before (tree_at 4 ts) parts.1 in
    (theorem_entry (name_in (tree_at 0 ts)) (name_in (tree_at 1 ts)) (name_in (tree_at 2 ts)) lefts.0 rights.0, ((refl, count_tested (tree_count ts) 5 _ head), new_item_spelled earlier (tree_at 0 ts) named.0, (left.0, left.1, right.0, right.1), lefts.1, rights.1))

list_spelled : (earlier : Earlier) (pos at : ℕ) (ts : Forest) (name : List ℕ) → ListSpells earlier pos at ts name
list_spelled earlier pos at ts name =
    let P = ListSpells earlier pos at ts in
    by_name P name (codes "fun") (fun_spelled earlier pos at ts) λ no_fun.
    by_name P name (codes "table") (table_item_spelled earlier pos at ts) λ no_table.
    by_name P name (codes "protocol") (protocol_item_spelled earlier pos at ts) λ no_protocol.
    by_name P name (codes "assume") (assume_spelled earlier pos at ts) λ no_assume.
    by_name P name (codes "theorem") (theorem_spelled earlier pos at ts) λ no_theorem.
    λ head rest. let wrong = rw (no_fun, no_table, no_protocol, no_assume, no_theorem) at head in cc

item_spelled : (earlier : Earlier) (t : Located) → item_faults earlier t ≡ [] → IsEntry earlier t
item_spelled earlier (word pos name) clean = cc
item_spelled earlier (number pos n) clean = cc
item_spelled earlier (literal pos bits) clean = cc
item_spelled earlier (group pos no_trees) clean = cc
item_spelled earlier (group pos (tree (word at name) ts)) clean =
    let parts = append-clean (tested (has_item_form (item_form name) (tree_count ts)) (form_fault NotAForm pos)) (item_part_faults earlier (item_form name) ts) clean in
    list_spelled earlier pos at ts name parts.0 parts.1
item_spelled earlier (group pos (tree (number at n) ts)) clean = cc
item_spelled earlier (group pos (tree (literal at bits) ts)) clean = cc
item_spelled earlier (group pos (tree (group at us) ts)) clean = cc

items_spelled : (ts : Forest) (earlier : Earlier) (before : ℕ) → all_item_faults earlier before ts ≡ [] → (es : List Entry) × AreEntries earlier es ts
items_spelled no_trees earlier before clean = ([], tt)
items_spelled (tree t ts) earlier before clean =
    let limit = tested (nat_lt before most_items) (over_fault Items (offset_of t)) in
    let parts = append-clean (limit ++ item_faults earlier t) (all_item_faults (earlier_past t earlier) (suc before) ts) clean in
    let item = item_spelled earlier t (append-clean limit (item_faults earlier t) parts.0).1 in
    let rest = items_spelled ts (earlier_past t earlier) (suc before) parts.1 in
    (item.0 ∷ rest.0, (item.1, subst (λ x. AreEntries x rest.0 ts) (earlier_past-with earlier item.0 t item.1) rest.1))

-- ---- documents

version_spelled : (t : Located) → version_faults t ≡ [] → number_in t ≡ Some this_version
version_spelled (word pos name) clean = cc
version_spelled (number pos n) clean = ap Some (count_tested n this_version _ clean)
version_spelled (literal pos bits) clean = cc
version_spelled (group pos ts) clean = cc

abbrev IsDocument : Located → Type 0
IsDocument t = (d : Document) × SpellsDocument d t

document_spelled : (t : Located) → document_faults t ≡ [] → IsDocument t
document_spelled (word pos name) clean = cc
document_spelled (number pos n) clean = cc
document_spelled (literal pos bits) clean = cc
document_spelled (group pos no_trees) clean = cc
document_spelled (group pos (tree (word at name) ts)) clean =
    let form = tested (bytes_eq name (codes "ipdl") && nat_le 1 (tree_count ts)) (form_fault NotAForm pos) in
    let parts = append-clean (form ++ version_faults (tree_at 0 ts)) (all_item_faults nothing_earlier 0 (without_first ts)) clean in
    let front = append-clean form (version_faults (tree_at 0 ts)) parts.0 in
    let head = and_parts (bytes_eq name (codes "ipdl")) (nat_le 1 (tree_count ts)) (tested-holds _ _ front.0) in
    let items = items_spelled (without_first ts) nothing_earlier 0 parts.1 in
    (record { version = this_version; symbols = symbols_in items.0; entries = items.0 }, ((ap Some ((bytes_eq-Decides name (codes "ipdl")).0 head.0), leb-true 1 (tree_count ts) head.1), refl, version_spelled (tree_at 0 ts) front.1, items.1, refl))
document_spelled (group pos (tree (number at n) ts)) clean = cc
document_spelled (group pos (tree (literal at bits) ts)) clean = cc
document_spelled (group pos (tree (group at us) ts)) clean = cc

-- a tree with no fault spells a document within the limits
pub document_within : (t : Located) → document_faults t ≡ [] → (d : Document) × SpellsDocument d t × IsWithinLimits d
document_within t clean =
    let document = document_spelled t clean in
    (document.0, document.1, within_document document.0 t document.1 clean)
