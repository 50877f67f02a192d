-- A tree spells one item, and one document.
use Rattle.std.proofs.Common.{◌≡◌, ℕ, Bool, List, [], ◌∷◌, ◌++◌, Option, Some, None, refl, sym, ap, ap₂, subst, ◌∙◌}
use Rattle.std.specs.Prelude.{codes}
use Rattle.ipdl_sig.specs.declared.symbol.Symbol.{Symbol}
use Rattle.ipdl_term.specs.declared.interface.Interface.{Interface}
use Rattle.ipdl_term.specs.declared.interface.Port.{Port}
use Rattle.ipdl_tree.specs.Trees.{Located, Forest, no_trees, tree}
use Rattle.ipdl_forms.specs.Documents.{Entry, symbol_entry, protocol_entry, assumption_entry, theorem_entry, Document, symbols_in}
use Rattle.ipdl_term.specs.Typing.{port_names}
use Rattle.ipdl_forms.specs.Items.{nothing_earlier, earlier_with, body_scope, AreValues, SpellsSymbol, ArePorts, SpellsInterface, SpellsEntry, ItemForm, fun_form, table_form, protocol_form, assume_form, theorem_form, item_form, AreEntries, SpellsDocument}
use Rattle.ipdl_forms.specs.Lists.{parts_of, without_first, head_of, operands, operand}
use Rattle.ipdl_forms.specs.Steps.{Earlier, first_name}
use Rattle.ipdl_forms.proofs.OneSteps.{one_side}
use Rattle.ipdl_forms.proofs.One.{one_protocol}
use Rattle.ipdl_forms.proofs.TreeForms.{first_name_head, heads_apart}

-- ---- symbols

one_values : (w : ℕ) (vs ws : List (List Bool)) (ts : Forest) → AreValues w vs ts → AreValues w ws ts → vs ≡ ws
one_values w [] [] ts s u = refl
one_values w [] (b ∷ ws) no_trees s u = absurd u
one_values w [] (b ∷ ws) (tree t ts) s u = absurd s
one_values w (a ∷ vs) [] no_trees s u = absurd s
one_values w (a ∷ vs) [] (tree t ts) s u = absurd u
one_values w (a ∷ vs) (b ∷ ws) no_trees s u = absurd s
one_values w (a ∷ vs) (b ∷ ws) (tree t ts) s u =
    let first : a ≡ b = cc (s.0, u.0) in let rest = one_values w vs ws ts s.2 u.2 in cc

-- the values of a symbol: none where the head is `fun`
one_table : (earlier : Earlier) (name other : List ℕ) (from to : ℕ) (values others : Option (List (List Bool))) (t : Located) → SpellsSymbol earlier (record { name = name; from = from; to = to; values = values }) t → SpellsSymbol earlier (record { name = other; from = from; to = to; values = others }) t → values ≡ others
one_table earlier name other from to None None t s u = refl
one_table earlier name other from to None (Some ws) t s u =
    absurd (heads_apart (codes "fun") (codes "table") (head_of t) s.3.0.0 u.3.0.0 refl)
one_table earlier name other from to (Some vs) None t s u =
    absurd (heads_apart (codes "table") (codes "fun") (head_of t) s.3.0.0 u.3.0.0 refl)
one_table earlier name other from to (Some vs) (Some ws) t s u =
    ap Some (one_values to vs ws (parts_of (operand 3 t)) s.3.2 u.3.2)

one_symbol : (earlier : Earlier) (a b : Symbol) (t : Located) → SpellsSymbol earlier a t → SpellsSymbol earlier b t → a ≡ b
one_symbol earlier a b t s u =
    let names : a.name ≡ b.name = cc (s.0.0, u.0.0) in
    let froms : a.from ≡ b.from = cc (s.1, u.1) in
    let tos : a.to ≡ b.to = cc (s.2.0, u.2.0) in
    by_fields b.name b.from b.to b.values names froms tos u
  where
    same_fields : (name name₂ : List ℕ) (from from₂ to to₂ : ℕ) (values values₂ : Option (List (List Bool))) → name ≡ name₂ → from ≡ from₂ → to ≡ to₂ → values ≡ values₂ → ◌≡◌ {A = Symbol} (record { name = name; from = from; to = to; values = values }) (record { name = name₂; from = from₂; to = to₂; values = values₂ })
    same_fields name name₂ from from₂ to to₂ values values₂ names froms tos tables = rw (names, froms, tos, tables) refl

    by_fields : (name : List ℕ) (from to : ℕ) (values : Option (List (List Bool))) → a.name ≡ name → a.from ≡ from → a.to ≡ to → SpellsSymbol earlier (record { name = name; from = from; to = to; values = values }) t → a ≡ record { name = name; from = from; to = to; values = values }
    by_fields name from to values names froms tos v =
        let moved : SpellsSymbol earlier (record { name = name; from = a.from; to = a.to; values = values }) t = subst (λ x. SpellsSymbol earlier (record { name = name; from = x; to = a.to; values = values }) t) (sym froms) (subst (λ x. SpellsSymbol earlier (record { name = name; from = from; to = x; values = values }) t) (sym tos) v) in
        let tables = one_table earlier a.name name a.from a.to a.values values t s moved in
        same_fields a.name name a.from from a.to to a.values values names froms tos tables

-- ---- interfaces

same_port : (p q : Port) → p.name ≡ q.name → p.width ≡ q.width → p ≡ q
same_port p q names widths =
    let make : List ℕ → ℕ → Port = λ name width. record { name = name; width = width } in ap₂ make names widths

one_ports : (before : List (List ℕ)) (ps qs : List Port) (ts : Forest) → ArePorts before ps ts → ArePorts before qs ts → ps ≡ qs
one_ports before [] [] ts s u = refl
one_ports before [] (q ∷ qs) no_trees s u = absurd u
one_ports before [] (q ∷ qs) (tree t ts) s u = absurd s
one_ports before (p ∷ ps) [] no_trees s u = absurd s
one_ports before (p ∷ ps) [] (tree t ts) s u = absurd u
one_ports before (p ∷ ps) (q ∷ qs) no_trees s u = absurd s
one_ports before (p ∷ ps) (q ∷ qs) (tree t ts) s u =
    let names : p.name ≡ q.name = cc (s.0.1, u.0.1) in
    let widths : p.width ≡ q.width = cc (s.0.2.0, u.0.2.0) in
    let rest = one_ports (before ++ p.name ∷ []) ps qs ts s.2 (subst (λ x. ArePorts (before ++ x ∷ []) qs ts) (sym names) u.2) in
    ap₂ (λ (x : Port) (xs : List Port). x ∷ xs) (same_port p q names widths) rest

one_interface : (a b : Interface) (inputs outputs : Located) → SpellsInterface a inputs outputs → SpellsInterface b inputs outputs → a ≡ b
one_interface a b inputs outputs s u =
    let make : List Port → List Port → Interface = λ ins outs. record { inputs = ins; outputs = outs } in
    let ins = one_ports [] a.inputs b.inputs (operands inputs) s.1 u.1 in
    let outs = one_ports (port_names a.inputs) a.outputs b.outputs (operands outputs) s.3 (subst (λ (x : List Port). ArePorts (port_names x) b.outputs (operands outputs)) (sym ins) u.3) in
    ap₂ make ins outs

-- ---- items

-- which item a form is of, whatever the values of a symbol
sort_of : Option ItemForm → Option ItemForm
sort_of None = None
sort_of (Some fun_form) = Some fun_form
sort_of (Some table_form) = Some fun_form
sort_of (Some protocol_form) = Some protocol_form
sort_of (Some assume_form) = Some assume_form
sort_of (Some theorem_form) = Some theorem_form

sort_of_entry : Entry → ItemForm
sort_of_entry (symbol_entry n symbol) = fun_form
sort_of_entry (protocol_entry name interface body) = protocol_form
sort_of_entry (assumption_entry name left right) = assume_form
sort_of_entry (theorem_entry name left right lefts rights) = theorem_form

symbol_sort : (earlier : Earlier) (name : List ℕ) (from to : ℕ) (values : Option (List (List Bool))) (t : Located) → SpellsSymbol earlier (record { name = name; from = from; to = to; values = values }) t → sort_of (item_form (first_name t)) ≡ Some fun_form
unfolding sort_of
symbol_sort earlier name from to None t s = rw (first_name_head t (codes "fun") s.3.0.0) refl
symbol_sort earlier name from to (Some values) t s = rw (first_name_head t (codes "table") s.3.0.0) refl

entry_sort : (earlier : Earlier) (e : Entry) (t : Located) → SpellsEntry earlier e t → sort_of (item_form (first_name t)) ≡ Some (sort_of_entry e)
unfolding sort_of sort_of_entry
entry_sort earlier (symbol_entry n symbol) t s =
    symbol_sort earlier symbol.name symbol.from symbol.to symbol.values t s.1
entry_sort earlier (protocol_entry name interface body) t s = rw (first_name_head t (codes "protocol") s.0.0) refl
entry_sort earlier (assumption_entry name left right) t s = rw (first_name_head t (codes "assume") s.0.0) refl
entry_sort earlier (theorem_entry name left right lefts rights) t s =
    rw (first_name_head t (codes "theorem") s.0.0) refl

one_entry : (earlier : Earlier) (e f : Entry) (t : Located) → sort_of_entry e ≡ sort_of_entry f → SpellsEntry earlier e t → SpellsEntry earlier f t → e ≡ f
unfolding sort_of_entry
one_entry earlier (symbol_entry n a) (symbol_entry m b) t sort s u =
    let numbers : n ≡ m = s.0 ∙ sym u.0 in let symbols = one_symbol earlier a b t s.1 u.1 in rw (numbers, symbols) refl
one_entry earlier (protocol_entry name a p) (protocol_entry other b q) t sort s u =
    let names : name ≡ other = cc (s.1.0, u.1.0) in
    let interfaces = one_interface a b (operand 1 t) (operand 2 t) s.2 u.2 in
    let bodies = one_protocol (body_scope earlier) p q (operand 3 t) s.3 u.3 in
    rw (names, interfaces, bodies) refl
one_entry earlier (assumption_entry name left right) (assumption_entry name₂ left₂ right₂) t sort s u =
    let names : name ≡ name₂ = cc (s.1.0, u.1.0) in
    let first : left ≡ left₂ = cc (s.2.0, u.2.0) in
    let second : right ≡ right₂ = cc (s.2.2, u.2.2) in
    rw (names, first, second) refl
one_entry earlier (theorem_entry name left right lefts rights) (theorem_entry name₂ left₂ right₂ lefts₂ rights₂) t sort s u =
    let names : name ≡ name₂ = cc (s.1.0, u.1.0) in
    let first : left ≡ left₂ = cc (s.2.0, u.2.0) in
    let second : right ≡ right₂ = cc (s.2.2, u.2.2) in
    let firsts = one_side earlier (codes "left") lefts lefts₂ (operand 3 t) s.3 u.3 in
    let seconds = one_side earlier (codes "right") rights rights₂ (operand 4 t) s.4 u.4 in
    rw (names, first, second, firsts, seconds) refl
one_entry earlier e f t sort s u = cc

-- a tree spells one item
pub one_item : (earlier : Earlier) (e f : Entry) (t : Located) → SpellsEntry earlier e t → SpellsEntry earlier f t → e ≡ f
one_item earlier e f t s u =
    let sorts : Some (sort_of_entry e) ≡ Some (sort_of_entry f) = sym (entry_sort earlier e t s) ∙ entry_sort earlier f t u in
    let sort : sort_of_entry e ≡ sort_of_entry f = cc sorts in one_entry earlier e f t sort s u

-- ---- documents

one_entries : (earlier : Earlier) (es fs : List Entry) (ts : Forest) → AreEntries earlier es ts → AreEntries earlier fs ts → es ≡ fs
one_entries earlier [] [] ts s u = refl
one_entries earlier [] (f ∷ fs) no_trees s u = absurd u
one_entries earlier [] (f ∷ fs) (tree t ts) s u = absurd s
one_entries earlier (e ∷ es) [] no_trees s u = absurd s
one_entries earlier (e ∷ es) [] (tree t ts) s u = absurd u
one_entries earlier (e ∷ es) (f ∷ fs) no_trees s u = absurd s
one_entries earlier (e ∷ es) (f ∷ fs) (tree t ts) s u =
    let first = one_item earlier e f t s.0 u.0 in
    let rest = one_entries (earlier_with e earlier) es fs ts s.1 (subst (λ x. AreEntries (earlier_with x earlier) fs ts) (sym first) u.1) in
    ap₂ (λ (x : Entry) (xs : List Entry). x ∷ xs) first rest

same_document : (v w : ℕ) (symbols others : List Symbol) (es fs : List Entry) → v ≡ w → symbols ≡ others → es ≡ fs → ◌≡◌ {A = Document} (record { version = v; symbols = symbols; entries = es }) (record { version = w; symbols = others; entries = fs })
same_document v w symbols others es fs versions tables entries = rw (versions, tables, entries) refl

-- a tree spells one document
pub one_document : (d e : Document) (t : Located) → SpellsDocument d t → SpellsDocument e t → d ≡ e
one_document d e t s u =
    let entries = one_entries nothing_earlier d.entries e.entries (without_first (operands t)) s.3 u.3 in
    same_document d.version e.version d.symbols e.symbols d.entries e.entries (s.1 ∙ sym u.1) (s.4 ∙ ap symbols_in entries ∙ sym u.4) entries
