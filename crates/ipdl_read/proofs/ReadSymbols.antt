-- What the reader says of function symbols, from what it read of their parts.
use Rattle.std.proofs.Common.{◌≡◌, ℕ, ◌+◌, ◌*◌, ◌%◌, ◌^◌, ◌<◌, ◌≤◌, ◌==◌, Bool, true, false, All, List, [], ◌∷◌, ◌++◌, length, get_or, drop, Some, refl, sym, ap, subst, ◌∙◌, arith}
use Rattle.std.specs.Prelude.{codes, ◌||◌, slice_index_or, unwrap_or}
use Rattle.std.proofs.Math.Pow.{pow_mono}
use Rattle.std.proofs.lemmas.Bool.{eq-eqb, ne_eqb}
use Rattle.std.proofs.lemmas.List.{append-nil, get_or_push, length-map}
use Rattle.std.proofs.lemmas.List.Elements.{All-nil, All-cons}
use Rattle.ipdl_sig.specs.declared.symbol.Symbol.{Symbol}
use Rattle.ipdl_sig.specs.Symbols.{has_symbol, IsTable, IsSymbol, fun_symbol, table_symbol}
use Rattle.ipdl_tree.specs.declared.tree.Tree.{Tree}
use Rattle.ipdl_tree.specs.Trees.{Located, Forest, word, group, tree, no_trees}
use Rattle.ipdl_tree.specs.Views.{located, all_located}
use Rattle.ipdl_forms.specs.declared.document.Item.{Item}
use Rattle.ipdl_forms.specs.declared.document.Item.TheVariants as I
use Rattle.ipdl_forms.specs.declared.fault.DocFault.{DocFault}
use Rattle.ipdl_forms.specs.declared.fault.FormCause.TheVariants.{TableLength}
use Rattle.ipdl_forms.specs.Documents.{entry_of, no_symbol, symbol_entry}
use Rattle.ipdl_forms.specs.Faults.{TellsFirst, tested, form_fault}
use Rattle.ipdl_forms.specs.Items.{SpellsEntry, SpellsNewName, AreValues, fun_form, table_form, greatest_table_width, item_name_faults, value_faults, all_value_faults, table_faults}
use Rattle.ipdl_forms.specs.Lists.{tree_count, parts_of, is_among, number_in, value_in}
use Rattle.ipdl_forms.specs.Operators.{is_operator}
use Rattle.ipdl_read.specs.Parts.{earlier_at, form_faults}
use Rattle.ipdl_forms.specs.Steps.{Earlier}
use Rattle.ipdl_forms.specs.Widths.{SpellsWidth, greatest_width, width_faults}
use Rattle.ipdl_forms.proofs.Faults.{TellsFirst-in_front, TellsFirst-after, TellsFirst-tested, clean-append}
use Rattle.ipdl_read_terms.proofs.Lists.{tree_count_located, rest_located, none_located}

-- ---- values

-- the number of arguments, as it is counted
arguments : (from : ℕ) → from ≤ 12 → 1 * 2 ^ from % 2 ^ 64 ≡ 2 ^ from
arguments from within = let few : 2 ^ from ≤ 2 ^ 12 = pow_mono within in omega arith

-- the first fault of a value that is read after others
pub values_first : (fault : DocFault) (from to pos : ℕ) (t : Located) (xs : List Tree) (i : ℕ) (x : Tree) → t ≡ group pos (all_located xs) → all_value_faults to (all_located xs) ≡ all_value_faults to (all_located (drop i xs)) → i < length xs → x ≡ get_or xs i x → TellsFirst fault (value_faults to (located x)) → TellsFirst fault (table_faults from to t)
values_first fault from to pos t xs i x grouped clean within is first =
    let rest = all_located (drop (i + 1) xs) in
    let last = tested (tree_count (all_located xs) == 2 ^ from) (form_fault TableLength pos) in
    let same = clean ∙ ap (all_value_faults to) (rest_located xs i x within is) in
    subst (λ u. TellsFirst fault (table_faults from to u)) (sym grouped)
    (TellsFirst-in_front fault (all_value_faults to (all_located xs)) last
    (subst (TellsFirst fault) (sym same) (TellsFirst-in_front fault (value_faults to (located x)) (all_value_faults to rest) first)))

-- all values are read
values_clean : (to : ℕ) (xs : List Tree) (i : ℕ) → all_value_faults to (all_located xs) ≡ all_value_faults to (all_located (drop i xs)) → length xs ≤ i → all_value_faults to (all_located xs) ≡ []
values_clean to xs i clean end = clean ∙ ap (all_value_faults to) (none_located xs i end)

-- there are not as many as arguments
pub values_other : (from to pos : ℕ) (t : Located) (xs : List Tree) (i : ℕ) → t ≡ group pos (all_located xs) → all_value_faults to (all_located xs) ≡ all_value_faults to (all_located (drop i xs)) → length xs ≤ i → from ≤ 12 → (length xs ≡ 1 * 2 ^ from % 2 ^ 64 → ⊥) → TellsFirst (form_fault TableLength pos) (table_faults from to t)
values_other from to pos t xs i grouped clean end within other =
    let fails = ne_eqb (tree_count (all_located xs)) (2 ^ from) (λ e. other (sym (tree_count_located xs) ∙ e ∙ sym (arguments from within))) in
    subst (λ u. TellsFirst (form_fault TableLength pos) (table_faults from to u)) (sym grouped)
    (TellsFirst-after (form_fault TableLength pos) (all_value_faults to (all_located xs)) (tested (tree_count (all_located xs) == 2 ^ from) (form_fault TableLength pos)) (values_clean to xs i clean end)
    (TellsFirst-tested (form_fault TableLength pos) (tree_count (all_located xs) == 2 ^ from) fails))

-- there are
pub values_none : (from to pos : ℕ) (t : Located) (xs : List Tree) (i : ℕ) → t ≡ group pos (all_located xs) → all_value_faults to (all_located xs) ≡ all_value_faults to (all_located (drop i xs)) → length xs ≤ i → from ≤ 12 → length xs ≡ 1 * 2 ^ from % 2 ^ 64 → table_faults from to t ≡ []
values_none from to pos t xs i grouped clean end within same =
    let holds = eq-eqb (tree_count (all_located xs)) (2 ^ from) (tree_count_located xs ∙ same ∙ arguments from within) in
    subst (λ u. table_faults from to u ≡ []) (sym grouped)
    (clean-append (all_value_faults to (all_located xs)) (tested (tree_count (all_located xs) == 2 ^ from) (form_fault TableLength pos)) (values_clean to xs i clean end) (rw holds refl))

pub values_spelled : (to pos : ℕ) (t : Located) (values : List (List Bool)) (xs : List Tree) (i : ℕ) → t ≡ group pos (all_located xs) → ((more : List (List Bool)) → AreValues to more (all_located (drop i xs)) → AreValues to (values ++ more) (all_located xs)) → length xs ≤ i → AreValues to values (parts_of t)
values_spelled to pos t values xs i grouped spelled end =
    let all = spelled [] (subst (λ ts. AreValues to [] ts) (sym (none_located xs i end)) tt) in
    subst (λ u. AreValues to values (parts_of u)) (sym grouped) (subst (λ vs. AreValues to vs (all_located xs)) (append-nil values) all)

-- ---- tables

-- the four parts of a table
abbrev four : (a b c d : Tree) → List Tree
four a b c d = a ∷ b ∷ c ∷ d ∷ []

pub table_first_from : (fault : DocFault) (earlier : Earlier) (pos : ℕ) (xs : List Tree) (a b c d : Tree) → xs ≡ four a b c d → item_name_faults earlier (located a) ≡ [] → TellsFirst fault (width_faults greatest_table_width (located b)) → TellsFirst fault (form_faults earlier table_form pos (all_located xs))
table_first_from fault earlier pos xs a b c d are named first =
    let N = item_name_faults earlier (located a) in
    let F = width_faults greatest_table_width (located b) in
    let W = width_faults greatest_width (located c) in
    let T = table_faults (value_in (located b)) (value_in (located c)) (located d) in
    subst (λ ys. TellsFirst fault (form_faults earlier table_form pos (all_located ys))) (sym are)
    (TellsFirst-in_front fault (N ++ F ++ W) T (TellsFirst-in_front fault (N ++ F) W (TellsFirst-after fault N F named first)))

pub table_first_to : (fault : DocFault) (earlier : Earlier) (pos : ℕ) (xs : List Tree) (a b c d : Tree) → xs ≡ four a b c d → item_name_faults earlier (located a) ≡ [] → width_faults greatest_table_width (located b) ≡ [] → TellsFirst fault (width_faults greatest_width (located c)) → TellsFirst fault (form_faults earlier table_form pos (all_located xs))
table_first_to fault earlier pos xs a b c d are named from_clean first =
    let N = item_name_faults earlier (located a) in
    let F = width_faults greatest_table_width (located b) in
    let W = width_faults greatest_width (located c) in
    let T = table_faults (value_in (located b)) (value_in (located c)) (located d) in
    subst (λ ys. TellsFirst fault (form_faults earlier table_form pos (all_located ys))) (sym are)
    (TellsFirst-in_front fault (N ++ F ++ W) T (TellsFirst-after fault (N ++ F) W (clean-append N F named from_clean) first))

-- the value of a number
number_value : (t : Located) (n : ℕ) → number_in t ≡ Some n → value_in t ≡ n
number_value t n is = ap (λ o. unwrap_or o 0) is

pub table_first_values : (fault : DocFault) (earlier : Earlier) (pos : ℕ) (xs : List Tree) (a b c d : Tree) (from to : ℕ) → xs ≡ four a b c d → item_name_faults earlier (located a) ≡ [] → width_faults greatest_table_width (located b) ≡ [] → width_faults greatest_width (located c) ≡ [] → number_in (located b) ≡ Some from → number_in (located c) ≡ Some to → TellsFirst fault (table_faults from to (located d)) → TellsFirst fault (form_faults earlier table_form pos (all_located xs))
table_first_values fault earlier pos xs a b c d from to are named from_clean to_clean from_is to_is first =
    let N = item_name_faults earlier (located a) in
    let F = width_faults greatest_table_width (located b) in
    let W = width_faults greatest_width (located c) in
    let T = table_faults (value_in (located b)) (value_in (located c)) (located d) in
    let one = subst (λ n. TellsFirst fault (table_faults n to (located d))) (sym (number_value (located b) from from_is)) first in
    let two = subst (λ n. TellsFirst fault (table_faults (value_in (located b)) n (located d))) (sym (number_value (located c) to to_is)) one in
    subst (λ ys. TellsFirst fault (form_faults earlier table_form pos (all_located ys))) (sym are)
    (TellsFirst-after fault (N ++ F ++ W) T (clean-append (N ++ F) W (clean-append N F named from_clean) to_clean) two)

pub table_none : (earlier : Earlier) (pos : ℕ) (xs : List Tree) (a b c d : Tree) (from to : ℕ) → xs ≡ four a b c d → item_name_faults earlier (located a) ≡ [] → width_faults greatest_table_width (located b) ≡ [] → width_faults greatest_width (located c) ≡ [] → number_in (located b) ≡ Some from → number_in (located c) ≡ Some to → table_faults from to (located d) ≡ [] → form_faults earlier table_form pos (all_located xs) ≡ []
table_none earlier pos xs a b c d from to are named from_clean to_clean from_is to_is clean =
    let N = item_name_faults earlier (located a) in
    let F = width_faults greatest_table_width (located b) in
    let W = width_faults greatest_width (located c) in
    let T = table_faults (value_in (located b)) (value_in (located c)) (located d) in
    let one = subst (λ n. table_faults n to (located d) ≡ []) (sym (number_value (located b) from from_is)) clean in
    let two = subst (λ n. table_faults (value_in (located b)) n (located d) ≡ []) (sym (number_value (located c) to to_is)) one in
    subst (λ ys. form_faults earlier table_form pos (all_located ys) ≡ []) (sym are)
    (clean-append (N ++ F ++ W) T (clean-append (N ++ F) W (clean-append N F named from_clean) to_clean) two)

-- the symbol that is added last has the number of those before
pub last_symbol : (symbols more : List Symbol) (n : ℕ) (s : Symbol) → n ≡ length symbols → more ≡ symbols ++ s ∷ [] → slice_index_or more n no_symbol ≡ s
last_symbol symbols more n s number added =
    ap (λ xs. slice_index_or xs n no_symbol) added ∙ get_or_push symbols s no_symbol n (sym number)

pub table_spelled : (symbols more : List Symbol) (items : List Item) (n from to : ℕ) (name : List ℕ) (values : List (List Bool)) (pos head : ℕ) (xs : List Tree) (a b c d : Tree) → xs ≡ four a b c d → n ≡ length symbols → more ≡ symbols ++ table_symbol name from to values ∷ [] → SpellsNewName (earlier_at symbols items) name (located a) → number_in (located b) ≡ Some from → from ≤ 12 → SpellsWidth to (located c) → AreValues to values (parts_of (located d)) → length values ≡ 2 ^ from → SpellsEntry (earlier_at symbols items) (entry_of more (I.Symbol n)) (group pos (tree (word head (codes "table")) (all_located xs)))
table_spelled symbols more items n from to name values pos head xs a b c d are number added named from_is within width spelled count =
    let whole : SpellsEntry (earlier_at symbols items) (symbol_entry n (table_symbol name from to values)) (group pos (tree (word head (codes "table")) (all_located (four a b c d)))) =
    (number ∙ sym (length-map symbols (λ s. s.name)), (named, from_is, width, ((refl, refl), within, spelled, count))) in
    subst (λ s. SpellsEntry (earlier_at symbols items) (symbol_entry n s) (group pos (tree (word head (codes "table")) (all_located xs)))) (sym (last_symbol symbols more n (table_symbol name from to values) number added))
    (subst (λ ys. SpellsEntry (earlier_at symbols items) (symbol_entry n (table_symbol name from to values)) (group pos (tree (word head (codes "table")) (all_located ys)))) (sym are) whole)

-- ---- abstract symbols

-- the three parts of an abstract symbol
abbrev three : (a b c : Tree) → List Tree
three a b c = a ∷ b ∷ c ∷ []

pub fun_first_name : (fault : DocFault) (earlier : Earlier) (pos : ℕ) (xs : List Tree) (a b c : Tree) → xs ≡ three a b c → TellsFirst fault (item_name_faults earlier (located a)) → TellsFirst fault (form_faults earlier fun_form pos (all_located xs))
fun_first_name fault earlier pos xs a b c are first =
    let N = item_name_faults earlier (located a) in
    let F = width_faults greatest_width (located b) in
    let W = width_faults greatest_width (located c) in
    subst (λ ys. TellsFirst fault (form_faults earlier fun_form pos (all_located ys))) (sym are)
    (TellsFirst-in_front fault (N ++ F) W (TellsFirst-in_front fault N F first))

pub fun_first_from : (fault : DocFault) (earlier : Earlier) (pos : ℕ) (xs : List Tree) (a b c : Tree) → xs ≡ three a b c → item_name_faults earlier (located a) ≡ [] → TellsFirst fault (width_faults greatest_width (located b)) → TellsFirst fault (form_faults earlier fun_form pos (all_located xs))
fun_first_from fault earlier pos xs a b c are named first =
    let N = item_name_faults earlier (located a) in
    let F = width_faults greatest_width (located b) in
    let W = width_faults greatest_width (located c) in
    subst (λ ys. TellsFirst fault (form_faults earlier fun_form pos (all_located ys))) (sym are)
    (TellsFirst-in_front fault (N ++ F) W (TellsFirst-after fault N F named first))

pub fun_first_to : (fault : DocFault) (earlier : Earlier) (pos : ℕ) (xs : List Tree) (a b c : Tree) → xs ≡ three a b c → item_name_faults earlier (located a) ≡ [] → width_faults greatest_width (located b) ≡ [] → TellsFirst fault (width_faults greatest_width (located c)) → TellsFirst fault (form_faults earlier fun_form pos (all_located xs))
fun_first_to fault earlier pos xs a b c are named from_clean first =
    let N = item_name_faults earlier (located a) in
    let F = width_faults greatest_width (located b) in
    let W = width_faults greatest_width (located c) in
    subst (λ ys. TellsFirst fault (form_faults earlier fun_form pos (all_located ys))) (sym are)
    (TellsFirst-after fault (N ++ F) W (clean-append N F named from_clean) first)

pub fun_none : (earlier : Earlier) (pos : ℕ) (xs : List Tree) (a b c : Tree) → xs ≡ three a b c → item_name_faults earlier (located a) ≡ [] → width_faults greatest_width (located b) ≡ [] → width_faults greatest_width (located c) ≡ [] → form_faults earlier fun_form pos (all_located xs) ≡ []
fun_none earlier pos xs a b c are named from_clean to_clean =
    let N = item_name_faults earlier (located a) in
    let F = width_faults greatest_width (located b) in
    let W = width_faults greatest_width (located c) in
    subst (λ ys. form_faults earlier fun_form pos (all_located ys) ≡ []) (sym are)
    (clean-append (N ++ F) W (clean-append N F named from_clean) to_clean)

pub fun_spelled : (symbols more : List Symbol) (items : List Item) (n from to : ℕ) (name : List ℕ) (pos head : ℕ) (xs : List Tree) (a b c : Tree) → xs ≡ three a b c → n ≡ length symbols → more ≡ symbols ++ fun_symbol name from to ∷ [] → SpellsNewName (earlier_at symbols items) name (located a) → SpellsWidth from (located b) → SpellsWidth to (located c) → SpellsEntry (earlier_at symbols items) (entry_of more (I.Symbol n)) (group pos (tree (word head (codes "fun")) (all_located xs)))
fun_spelled symbols more items n from to name pos head xs a b c are number added named argument width =
    let whole : SpellsEntry (earlier_at symbols items) (symbol_entry n (fun_symbol name from to)) (group pos (tree (word head (codes "fun")) (all_located (three a b c)))) =
    (number ∙ sym (length-map symbols (λ s. s.name)), (named, argument.0, width, ((refl, refl), argument.1))) in
    subst (λ s. SpellsEntry (earlier_at symbols items) (symbol_entry n s) (group pos (tree (word head (codes "fun")) (all_located xs)))) (sym (last_symbol symbols more n (fun_symbol name from to) number added))
    (subst (λ ys. SpellsEntry (earlier_at symbols items) (symbol_entry n (fun_symbol name from to)) (group pos (tree (word head (codes "fun")) (all_located ys)))) (sym are) whole)

-- ---- a symbol whose parts are tested is accepted

-- where neither of two holds
or_false : (a b : Bool) → (a || b) ≡ false → (a ≡ false) × (b ≡ false)
or_false true b none = cc
or_false false b none = (refl, none)

-- no symbol has the name of a new item
new_symbol : (symbols : List Symbol) (items : List Item) (name : List ℕ) (t : Located) → SpellsNewName (earlier_at symbols items) name t → has_symbol symbols name ≡ false
new_symbol symbols items name t s =
    let E = earlier_at symbols items in
    let after = or_false (is_operator name) (is_among E.symbols name || (is_among E.protocols name || is_among E.statements name)) s.1 in
    (or_false (is_among E.symbols name) (is_among E.protocols name || is_among E.statements name) after.1).0

-- values of one width
values_widths : (w : ℕ) (vs : List (List Bool)) (ts : Forest) → AreValues w vs ts → All (λ v. length v ≡ w) vs
values_widths w [] ts s = All-nil _
values_widths w (v ∷ vs) no_trees s = absurd s
values_widths w (v ∷ vs) (tree t ts) s = All-cons (λ u. length u ≡ w) v vs s.1 (values_widths w vs ts s.2)

-- so no fault but want of memory is left
pub table_accepted : (symbols : List Symbol) (items : List Item) (name : List ℕ) (t u : Located) (from to : ℕ) (values : List (List Bool)) (P : Type 0) → SpellsNewName (earlier_at symbols items) name t → from ≤ 12 → to ≤ 128 → AreValues to values (parts_of u) → length values ≡ 2 ^ from → (has_symbol symbols name ≡ false → IsSymbol (table_symbol name from to values) → P) → P
table_accepted symbols items name t u from to values P new from_within to_within are count accepts =
    let table : IsTable from to values = record { argument = from_within; count = count; widths = values_widths to values (parts_of u) are } in
    accepts (new_symbol symbols items name t new) (record { argument = omega arith; result_width = to_within; table = table })

pub fun_accepted : (symbols : List Symbol) (items : List Item) (name : List ℕ) (t : Located) (from to : ℕ) (P : Type 0) → SpellsNewName (earlier_at symbols items) name t → from ≤ 128 → to ≤ 128 → (has_symbol symbols name ≡ false → IsSymbol (fun_symbol name from to) → P) → P
fun_accepted symbols items name t from to P new from_within to_within accepts =
    accepts (new_symbol symbols items name t new) (record { argument = from_within; result_width = to_within; table = tt })
