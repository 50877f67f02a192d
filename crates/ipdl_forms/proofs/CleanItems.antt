-- What spells an item or a document has no faults.
use Rattle.std.proofs.Common.{◌≡◌, ℕ, suc, ◌+◌, ◌^◌, ◌==◌, ◌≤◌, Bool, true, List, [], ◌∷◌, ◌++◌, length, Option, Some, None, refl, sym, ap, subst, ◌∙◌, arith}
use Rattle.std.specs.Prelude.{nat_le, nat_lt, codes}
use Rattle.std.specs.List.{AllByRecursion}
use Rattle.std.proofs.lemmas.Nat.{pow_pos}
use Rattle.std.proofs.lemmas.Bool.{le-leb, lt-ltb, eq-eqb}
use Rattle.ipdl_term.specs.declared.interface.Interface.{Interface}
use Rattle.ipdl_term.specs.declared.interface.Port.{Port}
use Rattle.ipdl_tree.specs.Trees.{Located, word, number, literal, group, Forest, no_trees, tree}
use Rattle.ipdl_term.specs.Steps.{Step}
use Rattle.ipdl_forms.specs.Documents.{Entry, symbol_entry, protocol_entry, assumption_entry, theorem_entry, Document}
use Rattle.ipdl_term.specs.Typing.{port_names}
use Rattle.ipdl_forms.specs.Items.{nothing_earlier, earlier_with, body_scope, SpellsNewName, item_name_faults, AreValues, greatest_table_width, SpellsSymbol, all_value_faults, table_faults, ArePorts, SpellsInterface, all_port_faults, first_names, interface_faults, SpellsEntry, item_faults, earlier_past, AreEntries, this_version, SpellsDocument, most_items, all_item_faults, version_faults, document_faults}
use Rattle.ipdl_forms.specs.Limits.{AreSidesWithin, IsEntryWithin, IsWithinLimits}
use Rattle.ipdl_forms.specs.Lists.{tree_count, tree_at, without_first, parts_of, is_list, number_in, operands}
use Rattle.ipdl_forms.specs.Steps.{Earlier, AreSteps, headed_faults, side_faults, most_steps, SpellsSide}
use Rattle.ipdl_forms.specs.Widths.{greatest_width}
use Rattle.ipdl_forms.proofs.CleanSteps.{clean_width, clean_head, clean_side}
use Rattle.ipdl_forms.proofs.Faults.{clean-append}
use Rattle.ipdl_forms.proofs.Terms.{clean_protocol}
use Rattle.ipdl_forms.proofs.TreeForms.{with_head, first_name_head}

clean_name : (earlier : Earlier) (name : List ℕ) (t : Located) → SpellsNewName earlier name t → item_name_faults earlier t ≡ []
clean_name earlier name t s = rw (s.0, s.1) refl

-- ---- symbols

clean_values : (w : ℕ) (vs : List (List Bool)) (ts : Forest) → AreValues w vs ts → all_value_faults w ts ≡ []
clean_values w [] no_trees s = refl
clean_values w [] (tree t ts) s = absurd s
clean_values w (v ∷ vs) no_trees s = absurd s
clean_values w (v ∷ vs) (tree (word pos name) ts) s = cc
clean_values w (v ∷ vs) (tree (number pos n) ts) s = cc
clean_values w (v ∷ vs) (tree (literal pos bits) ts) s =
    let same : bits ≡ v = cc in
    let holds : (length bits == w) ≡ true = eq-eqb (length bits) w (ap length same ∙ s.1) in
    rw holds (clean_values w vs ts s.2)
clean_values w (v ∷ vs) (tree (group pos us) ts) s = cc

value_count : (w : ℕ) (vs : List (List Bool)) (ts : Forest) → AreValues w vs ts → tree_count ts ≡ length vs
value_count w [] no_trees s = refl
value_count w [] (tree t ts) s = absurd s
value_count w (v ∷ vs) no_trees s = absurd s
value_count w (v ∷ vs) (tree t ts) s = ap suc (value_count w vs ts s.2)

-- there is a value at least, so they stand in a list
values_in_list : (from to : ℕ) (vs : List (List Bool)) (t : Located) → AreValues to vs (parts_of t) → length vs ≡ 2 ^ from → is_list t ≡ true
values_in_list from to vs (word pos name) s count = absurd (omega (arith, value_count to vs no_trees s, pow_pos from))
values_in_list from to vs (number pos n) s count = absurd (omega (arith, value_count to vs no_trees s, pow_pos from))
values_in_list from to vs (literal pos bits) s count = absurd (omega (arith, value_count to vs no_trees s, pow_pos from))
values_in_list from to vs (group pos ts) s count = refl

clean_table : (from to : ℕ) (vs : List (List Bool)) (t : Located) → AreValues to vs (parts_of t) → length vs ≡ 2 ^ from → table_faults from to t ≡ []
clean_table from to vs t s count =
    let all : (tree_count (parts_of t) == 2 ^ from) ≡ true = eq-eqb (tree_count (parts_of t)) (2 ^ from) (value_count to vs (parts_of t) s ∙ count) in
    rw (values_in_list from to vs t s count, clean_values to vs (parts_of t) s, all) refl

clean_symbol : (earlier : Earlier) (name : List ℕ) (from to : ℕ) (values : Option (List (List Bool))) (t : Located) → SpellsSymbol earlier (record { name = name; from = from; to = to; values = values }) t → item_faults earlier t ≡ []
clean_symbol earlier name from to None t s =
    with_head (λ u. SpellsSymbol earlier (record { name = name; from = from; to = to; values = None }) u → item_faults earlier u ≡ []) t (codes "fun") s.3.0.0 (λ pos at ts h. rw (h.3.0.1, clean_name earlier name (tree_at 0 ts) h.0, clean_width greatest_width from (tree_at 1 ts) h.1 h.3.1) (clean_width greatest_width to (tree_at 2 ts) h.2.0 h.2.1)) s
clean_symbol earlier name from to (Some values) t s =
    with_head (λ u. SpellsSymbol earlier (record { name = name; from = from; to = to; values = Some values }) u → item_faults earlier u ≡ []) t (codes "table") s.3.0.0 (λ pos at ts h. rw (h.3.0.1, clean_name earlier name (tree_at 0 ts) h.0, clean_width greatest_table_width from (tree_at 1 ts) h.1 h.3.1, clean_width greatest_width to (tree_at 2 ts) h.2.0 h.2.1, h.1, h.2.0) (clean_table from to values (tree_at 3 ts) h.3.2 h.3.3)) s

-- ---- protocols

clean_ports : (before : List (List ℕ)) (ps : List Port) (ts : Forest) → ArePorts before ps ts → all_port_faults before ts ≡ []
clean_ports before [] no_trees s = refl
clean_ports before [] (tree t ts) s = absurd s
clean_ports before (p ∷ ps) no_trees s = absurd s
clean_ports before (p ∷ ps) (tree (word pos name) ts) s = absurd (omega (arith, s.0.0))
clean_ports before (p ∷ ps) (tree (number pos n) ts) s = absurd (omega (arith, s.0.0))
clean_ports before (p ∷ ps) (tree (literal pos bits) ts) s = absurd (omega (arith, s.0.0))
clean_ports before (p ∷ ps) (tree (group pos us) ts) s =
    rw (s.0.0, s.0.1, s.1, clean_width greatest_width p.width (tree_at 1 us) s.0.2.0 s.0.2.1) (clean_ports (before ++ p.name ∷ []) ps ts s.2)

-- the trees of ports have their names
pub port_first_names : (before : List (List ℕ)) (ps : List Port) (ts : Forest) → ArePorts before ps ts → first_names ts ≡ port_names ps
port_first_names before [] no_trees s = refl
port_first_names before [] (tree t ts) s = absurd s
port_first_names before (p ∷ ps) no_trees s = absurd s
port_first_names before (p ∷ ps) (tree t ts) s =
    rw (s.0.1, port_first_names (before ++ p.name ∷ []) ps ts s.2) refl

clean_interface : (interface : Interface) (inputs outputs : Located) → SpellsInterface interface inputs outputs → interface_faults inputs outputs ≡ []
clean_interface interface inputs outputs s =
    let in_head = headed_faults (codes "inputs") inputs in
    let in_ports = all_port_faults [] (operands inputs) in
    let out_head = headed_faults (codes "outputs") outputs in
    let out_ports = all_port_faults (first_names (operands inputs)) (operands outputs) in
    let last : all_port_faults (first_names (operands inputs)) (operands outputs) ≡ [] = subst (λ names. all_port_faults names (operands outputs) ≡ []) (sym (port_first_names [] interface.inputs (operands inputs) s.1)) (clean_ports (port_names interface.inputs) interface.outputs (operands outputs) s.3) in
    clean-append (in_head ++ in_ports ++ out_head) out_ports (clean-append (in_head ++ in_ports) out_head (clean-append in_head in_ports (clean_head (codes "inputs") inputs s.0) (clean_ports [] interface.inputs (operands inputs) s.1)) (clean_head (codes "outputs") outputs s.2)) last

-- ---- items

pub step_count : (earlier : Earlier) (ms : List Step) (ts : Forest) → AreSteps earlier ms ts → tree_count ts ≡ length ms
step_count earlier [] no_trees s = refl
step_count earlier [] (tree t ts) s = absurd s
step_count earlier (m ∷ ms) no_trees s = absurd s
step_count earlier (m ∷ ms) (tree t ts) s = ap suc (step_count earlier ms ts s.1)

clean_sides : (earlier : Earlier) (lefts rights : List Step) (t u : Located) → SpellsSide earlier (codes "left") lefts t → SpellsSide earlier (codes "right") rights u → AreSidesWithin lefts rights → side_faults earlier (codes "left") 0 t ++ side_faults earlier (codes "right") (tree_count (operands t)) u ≡ []
clean_sides earlier lefts rights t u left right within =
    let few : 0 + length lefts ≤ most_steps = omega (arith, within.0) in
    let both : tree_count (operands t) + length rights ≤ most_steps = subst (λ n. n + length rights ≤ most_steps) (sym (step_count earlier lefts (operands t) left.1)) within.0 in
    clean-append (side_faults earlier (codes "left") 0 t) (side_faults earlier (codes "right") (tree_count (operands t)) u) (clean_side earlier (codes "left") 0 lefts t left within.1 few) (clean_side earlier (codes "right") (tree_count (operands t)) rights u right within.2 both)

pub clean_entry : (earlier : Earlier) (e : Entry) (t : Located) → SpellsEntry earlier e t → IsEntryWithin e → item_faults earlier t ≡ []
clean_entry earlier (symbol_entry n symbol) t s within =
    clean_symbol earlier symbol.name symbol.from symbol.to symbol.values t s.1
clean_entry earlier (protocol_entry name interface body) t s within =
    with_head (λ u. SpellsEntry earlier (protocol_entry name interface body) u → item_faults earlier u ≡ []) t (codes "protocol") s.0.0 (λ pos at ts h. rw (h.0.1, clean_name earlier name (tree_at 0 ts) h.1, clean_interface interface (tree_at 1 ts) (tree_at 2 ts) h.2) (clean_protocol (body_scope earlier) body (tree_at 3 ts) h.3 within)) s
clean_entry earlier (assumption_entry name left right) t s within =
    with_head (λ u. SpellsEntry earlier (assumption_entry name left right) u → item_faults earlier u ≡ []) t (codes "assume") s.0.0 (λ pos at ts h. rw (h.0.1, clean_name earlier name (tree_at 0 ts) h.1, h.2.0, h.2.1, h.2.2, h.2.3) refl) s
clean_entry earlier (theorem_entry name left right lefts rights) t s within =
    with_head (λ u. SpellsEntry earlier (theorem_entry name left right lefts rights) u → item_faults earlier u ≡ []) t (codes "theorem") s.0.0 (λ pos at ts h. rw (h.0.1, clean_name earlier name (tree_at 0 ts) h.1, h.2.0, h.2.1, h.2.2, h.2.3) (clean_sides earlier lefts rights (tree_at 3 ts) (tree_at 4 ts) h.3 h.4 within)) s

-- ---- what is declared after an item

past_symbol : (earlier : Earlier) (name : List ℕ) (from to : ℕ) (values : Option (List (List Bool))) (t : Located) → SpellsSymbol earlier (record { name = name; from = from; to = to; values = values }) t → earlier_past t earlier ≡ earlier_with (symbol_entry 0 (record { name = name; from = from; to = to; values = values })) earlier
past_symbol earlier name from to None t s = rw (first_name_head t (codes "fun") s.3.0.0, s.0.0) refl
past_symbol earlier name from to (Some values) t s = rw (first_name_head t (codes "table") s.3.0.0, s.0.0) refl

-- the trees tell what their items declare
pub earlier_past-with : (earlier : Earlier) (e : Entry) (t : Located) → SpellsEntry earlier e t → earlier_past t earlier ≡ earlier_with e earlier
earlier_past-with earlier (symbol_entry n symbol) t s =
    past_symbol earlier symbol.name symbol.from symbol.to symbol.values t s.1
earlier_past-with earlier (protocol_entry name interface body) t s =
    rw (first_name_head t (codes "protocol") s.0.0, s.1.0) refl
earlier_past-with earlier (assumption_entry name left right) t s =
    rw (first_name_head t (codes "assume") s.0.0, s.1.0) refl
earlier_past-with earlier (theorem_entry name left right lefts rights) t s =
    rw (first_name_head t (codes "theorem") s.0.0, s.1.0) refl

-- ---- documents

clean_items : (earlier : Earlier) (before : ℕ) (es : List Entry) (ts : Forest) → AreEntries earlier es ts → AllByRecursion IsEntryWithin es → before + length es ≤ most_items → all_item_faults earlier before ts ≡ []
clean_items earlier before [] no_trees s within few = refl
clean_items earlier before [] (tree t ts) s within few = absurd s
clean_items earlier before (e ∷ es) no_trees s within few = absurd s
clean_items earlier before (e ∷ es) (tree t ts) s within few =
    let first : nat_lt before most_items ≡ true = lt-ltb before most_items (omega arith) in
    let rest : suc before + length es ≤ most_items = omega arith in
    rw (first, clean_entry earlier e t s.0 within.0, earlier_past-with earlier e t s.0) (clean_items (earlier_with e earlier) (suc before) es ts s.1 within.1 rest)

clean_version : (t : Located) → number_in t ≡ Some this_version → version_faults t ≡ []
clean_version (word pos name) is = cc
clean_version (number pos n) is = let same : n ≡ this_version = cc in rw same refl
clean_version (literal pos bits) is = cc
clean_version (group pos ts) is = cc

-- a tree that spells a document within the limits has no faults
pub clean_document : (d : Document) (t : Located) → SpellsDocument d t → IsWithinLimits d → document_faults t ≡ []
clean_document d t s within =
    with_head (λ u. SpellsDocument d u → document_faults u ≡ []) t (codes "ipdl") s.0.0 (λ pos at ts h. at_group pos at ts h) s
  where
    at_group : (pos at : ℕ) (ts : Forest) → SpellsDocument d (group pos (tree (word at (codes "ipdl")) ts)) → document_faults (group pos (tree (word at (codes "ipdl")) ts)) ≡ []
    at_group pos at ts h =
        let long : nat_le 1 (tree_count ts) ≡ true = le-leb 1 (tree_count ts) h.0.1 in
        rw (long, clean_version (tree_at 0 ts) h.2) (clean_items nothing_earlier 0 d.entries (without_first ts) h.3 within.1 (omega (arith, within.0)))
