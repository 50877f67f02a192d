-- What is read of a document, item after item.
use Rattle.std.proofs.Common.{◌≡◌, ℕ, true, suc, ◌+◌, ◌<◌, ◌≤◌, List, [], ◌∷◌, ◌++◌, length, map, drop, get_or, refl, sym, ap, ap₂, subst, ◌∙◌, arith}
use Rattle.std.specs.Prelude.{nat_lt, slice_index_or}
use Rattle.std.proofs.lemmas.Bool.{lt-ltb}
use Rattle.std.proofs.lemmas.List.{append-nil, append_assoc, get_or_append_left, length-map, length-append, length_push, map_push}
use Rattle.ipdl_base.specs.declared.limit.Limit.TheVariants.{Items}
use Rattle.ipdl_sig.specs.declared.symbol.Symbol.{Symbol}
use Rattle.ipdl_sig.specs.Symbols.{names_of}
use Rattle.ipdl_tree.specs.declared.tree.Tree.{Tree}
use Rattle.ipdl_tree.specs.Trees.{Located, Forest, tree, offset_of}
use Rattle.ipdl_tree.specs.Views.{located, all_located}
use Rattle.ipdl_forms.specs.declared.document.Item.{Item}
use Rattle.ipdl_forms.specs.declared.document.Item.TheVariants as I
use Rattle.ipdl_forms.specs.declared.fault.DocFault.{DocFault}
use Rattle.ipdl_forms.specs.Documents.{Entry, symbol_entry, protocol_entry, assumption_entry, theorem_entry, entry_of, no_symbol, symbols_in}
use Rattle.ipdl_forms.specs.Earlier.{protocol_names, statement_names}
use Rattle.ipdl_forms.specs.Faults.{TellsFirst, tested, over_fault}
use Rattle.ipdl_forms.specs.Items.{nothing_earlier, earlier_with, earlier_past, SpellsEntry, AreEntries, most_items, item_faults, all_item_faults}
use Rattle.ipdl_read.specs.Parts.{earlier_at}
use Rattle.ipdl_forms.specs.Steps.{Earlier}
use Rattle.ipdl_forms.proofs.CleanItems.{earlier_past-with}
use Rattle.ipdl_forms.proofs.Faults.{TellsFirst-in_front, TellsFirst-after}
use Rattle.ipdl_read_terms.proofs.Lists.{rest_located, none_located}

-- ---- the names that items declare

protocol_names-append : (xs ys : List Item) → protocol_names (xs ++ ys) ≡ protocol_names xs ++ protocol_names ys
protocol_names-append [] ys = refl
protocol_names-append (I.Symbol n ∷ xs) ys = protocol_names-append xs ys
protocol_names-append (I.Protocol p ∷ xs) ys = ap (λ l. p.name ∷ l) (protocol_names-append xs ys)
protocol_names-append (I.Assumption a ∷ xs) ys = protocol_names-append xs ys
protocol_names-append (I.Theorem t ∷ xs) ys = protocol_names-append xs ys

statement_names-append : (xs ys : List Item) → statement_names (xs ++ ys) ≡ statement_names xs ++ statement_names ys
statement_names-append [] ys = refl
statement_names-append (I.Symbol n ∷ xs) ys = statement_names-append xs ys
statement_names-append (I.Protocol p ∷ xs) ys = statement_names-append xs ys
statement_names-append (I.Assumption a ∷ xs) ys = ap (λ l. a.name ∷ l) (statement_names-append xs ys)
statement_names-append (I.Theorem t ∷ xs) ys = ap (λ l. t.name ∷ l) (statement_names-append xs ys)

symbols_in-append : (xs ys : List Entry) → symbols_in (xs ++ ys) ≡ symbols_in xs ++ symbols_in ys
symbols_in-append [] ys = refl
symbols_in-append (symbol_entry n s ∷ xs) ys = ap (λ l. s ∷ l) (symbols_in-append xs ys)
symbols_in-append (protocol_entry name interface body ∷ xs) ys = symbols_in-append xs ys
symbols_in-append (assumption_entry name left right ∷ xs) ys = symbols_in-append xs ys
symbols_in-append (theorem_entry name left right lefts rights ∷ xs) ys = symbols_in-append xs ys

-- ---- one item more

-- what is declared after an item
earlier_with-at : (symbols more : List Symbol) (items : List Item) (item : Item) → more ≡ symbols ++ symbols_in (entry_of more item ∷ []) → earlier_with (entry_of more item) (earlier_at symbols items) ≡ earlier_at more (items ++ item ∷ [])
earlier_with-at symbols more items (I.Symbol n) added =
    let s = slice_index_or more n no_symbol in
    let names : names_of more ≡ names_of symbols ++ s.name ∷ [] = ap names_of added ∙ map_push (λ (t : Symbol). t.name) symbols s in
    rw (names, protocol_names-append items (I.Symbol n ∷ []), statement_names-append items (I.Symbol n ∷ []), append-nil (protocol_names items), append-nil (statement_names items)) refl
earlier_with-at symbols more items (I.Protocol p) added =
    rw (added, append-nil symbols, protocol_names-append items (I.Protocol p ∷ []), statement_names-append items (I.Protocol p ∷ []), append-nil (statement_names items)) refl
earlier_with-at symbols more items (I.Assumption a) added =
    rw (added, append-nil symbols, protocol_names-append items (I.Assumption a ∷ []), statement_names-append items (I.Assumption a ∷ []), append-nil (protocol_names items)) refl
earlier_with-at symbols more items (I.Theorem t) added =
    rw (added, append-nil symbols, protocol_names-append items (I.Theorem t ∷ []), statement_names-append items (I.Theorem t ∷ []), append-nil (protocol_names items)) refl

-- the numbers of the symbols among some items are below the number of symbols
abbrev pub AreBelow : ℕ → List Item → Type 0
AreBelow count [] = Unit {0}
AreBelow count (I.Symbol n ∷ items) = (n < count) × AreBelow count items
AreBelow count (I.Protocol p ∷ items) = AreBelow count items
AreBelow count (I.Assumption a ∷ items) = AreBelow count items
AreBelow count (I.Theorem t ∷ items) = AreBelow count items

-- entries keep their value when symbols are added
entries_kept : (symbols more : List Symbol) (items : List Item) → AreBelow (length symbols) items → map (entry_of (symbols ++ more)) items ≡ map (entry_of symbols) items
entries_kept symbols more [] below = refl
entries_kept symbols more (I.Symbol n ∷ items) below =
    ap₂ (λ s l. symbol_entry n s ∷ l) (get_or_append_left symbols more no_symbol n below.0) (entries_kept symbols more items below.1)
entries_kept symbols more (I.Protocol p ∷ items) below = ap (λ l. entry_of symbols (I.Protocol p) ∷ l) (entries_kept symbols more items below)
entries_kept symbols more (I.Assumption a ∷ items) below = ap (λ l. entry_of symbols (I.Assumption a) ∷ l) (entries_kept symbols more items below)
entries_kept symbols more (I.Theorem t ∷ items) below = ap (λ l. entry_of symbols (I.Theorem t) ∷ l) (entries_kept symbols more items below)

below_push : (count more : ℕ) (items : List Item) (item : Item) → count ≤ more → AreBelow count items → AreBelow more (item ∷ []) → AreBelow more (items ++ item ∷ [])
below_push count more [] item up below last = last
below_push count more (I.Symbol n ∷ items) item up below last =
    let first : n < more = omega (arith, below.0) in (first, below_push count more items item up below.1 last)
below_push count more (I.Protocol p ∷ items) item up below last = below_push count more items item up below last
below_push count more (I.Assumption a ∷ items) item up below last = below_push count more items item up below last
below_push count more (I.Theorem t ∷ items) item up below last = below_push count more items item up below last

-- the number of a symbol that was added is that of those before
item_below : (symbols more : List Symbol) (earlier : Earlier) (item : Item) (t : Located) → earlier.symbols ≡ names_of symbols → more ≡ symbols ++ symbols_in (entry_of more item ∷ []) → SpellsEntry earlier (entry_of more item) t → AreBelow (length more) (item ∷ [])
item_below symbols more earlier (I.Symbol n) t names added s =
    let count : length more ≡ length symbols + 1 = ap length added ∙ length_push symbols (slice_index_or more n no_symbol) in
    let number : n ≡ length symbols = s.0 ∙ ap length names ∙ length-map symbols (λ (x : Symbol). x.name) in
    let below : n < length more = omega arith in
    (below, tt)
item_below symbols more earlier (I.Protocol p) t names added s = tt
item_below symbols more earlier (I.Assumption a) t names added s = tt
item_below symbols more earlier (I.Theorem u) t names added s = tt

-- an item adds one symbol at most
one_symbol : (e : Entry) → length (symbols_in (e ∷ [])) ≤ 1
one_symbol (symbol_entry n s) = omega arith
one_symbol (protocol_entry name interface body) = omega arith
one_symbol (assumption_entry name left right) = omega arith
one_symbol (theorem_entry name left right lefts rights) = omega arith

-- the items up to a place are read
pub record AreRead (trees : List Tree) (symbols : List Symbol) (items : List Item) (i : ℕ) : Type 0 where
  pub spelled : (es : List Entry) → AreEntries (earlier_at symbols items) es (all_located (drop i trees)) → AreEntries nothing_earlier (map (entry_of symbols) items ++ es) (all_located trees)
  pub declared : symbols ≡ symbols_in (map (entry_of symbols) items)
  pub below : AreBelow (length symbols) items
  pub few : length symbols ≤ length items
  pub clean : all_item_faults nothing_earlier 0 (all_located trees) ≡ all_item_faults (earlier_at symbols items) (length items) (all_located (drop i trees))

pub AreRead-none : (trees : List Tree) (symbols : List Symbol) (items : List Item) → symbols ≡ [] → items ≡ [] → AreRead trees symbols items 0
AreRead-none trees symbols items no_symbols no_items =
    subst (λ ss. AreRead trees ss items 0) (sym no_symbols) (subst (λ is. AreRead trees [] is 0) (sym no_items) (record {
      spelled = λ es all. all;
      declared = refl;
      below = tt;
      few = omega arith;
      clean = refl;
    }))

-- the entries after one item more
entries_more : (symbols more : List Symbol) (items : List Item) (item : Item) → AreBelow (length symbols) items → more ≡ symbols ++ symbols_in (entry_of more item ∷ []) → map (entry_of more) (items ++ item ∷ []) ≡ map (entry_of symbols) items ++ entry_of more item ∷ []
entries_more symbols more items item below added =
    let kept : map (entry_of more) items ≡ map (entry_of symbols) items = ap (λ (ss : List Symbol). map (entry_of ss) items) added ∙ entries_kept symbols (symbols_in (entry_of more item ∷ [])) items below in
    map_push (entry_of more) items item ∙ ap (λ l. l ++ entry_of more item ∷ []) kept

-- the tests after an item that has no faults
faults_after : (earlier : Earlier) (before : ℕ) (e : Entry) (t : Located) (ts : Forest) → before < most_items → SpellsEntry earlier e t → item_faults earlier t ≡ [] → all_item_faults earlier before (tree t ts) ≡ all_item_faults (earlier_with e earlier) (suc before) ts
faults_after earlier before e t ts few spelled clean =
    let within : nat_lt before most_items ≡ true = lt-ltb before most_items few in
    rw (within, clean, earlier_past-with earlier e t spelled) refl

pub AreRead-more : (trees : List Tree) (symbols more : List Symbol) (items : List Item) (item : Item) (i : ℕ) (t : Tree) → AreRead trees symbols items i → i < length trees → t ≡ get_or trees i t → length items < most_items → more ≡ symbols ++ symbols_in (entry_of more item ∷ []) → SpellsEntry (earlier_at symbols items) (entry_of more item) (located t) → item_faults (earlier_at symbols items) (located t) ≡ [] → (longer : List Item) → longer ≡ items ++ item ∷ [] → AreRead trees more longer (i + 1)
AreRead-more trees symbols more items item i t read within is few added spelled clean longer pushed =
    let e = entry_of more item in
    let rest = rest_located trees i t within is in
    let after = earlier_with-at symbols more items item added in
    let entries = entries_more symbols more items item read.below added in
    let count : suc (length items) ≡ length (items ++ item ∷ []) = omega (arith, length_push items item) in
    let symbol_count : length more ≤ length symbols + 1 = omega (arith, ap length added, length-append symbols (symbols_in (e ∷ [])), one_symbol e) in
    let up : length symbols ≤ length more = omega (arith, ap length added, length-append symbols (symbols_in (e ∷ []))) in
    subst (λ list. AreRead trees more list (i + 1)) (sym pushed) (record {
      spelled = λ es all.
          let here : AreEntries (earlier_with e (earlier_at symbols items)) es (all_located (drop (i + 1) trees)) = subst (λ earlier. AreEntries earlier es (all_located (drop (i + 1) trees))) (sym after) all in
          let both : AreEntries (earlier_at symbols items) (e ∷ es) (all_located (drop i trees)) = subst (AreEntries (earlier_at symbols items) (e ∷ es)) (sym rest) (spelled, here) in
          subst (λ list. AreEntries nothing_earlier list (all_located trees)) (sym (append_assoc (map (entry_of symbols) items) (e ∷ []) es) ∙ ap (λ list. list ++ es) (sym entries)) (read.spelled (e ∷ es) both);
      declared = added ∙ ap (λ list. list ++ symbols_in (e ∷ [])) read.declared ∙ sym (symbols_in-append (map (entry_of symbols) items) (e ∷ [])) ∙ ap symbols_in (sym entries);
      below = below_push (length symbols) (length more) items item up read.below (item_below symbols more (earlier_at symbols items) item (located t) refl added spelled);
      few = omega (arith, read.few);
      clean = read.clean ∙ ap (all_item_faults (earlier_at symbols items) (length items)) rest
          ∙ faults_after (earlier_at symbols items) (length items) e (located t) (all_located (drop (i + 1) trees)) few spelled clean
          ∙ ap₂ (λ earlier n. all_item_faults earlier n (all_located (drop (i + 1) trees))) after count;
    })

-- ---- the end, and the first fault

pub AreRead-entries : (trees : List Tree) (symbols : List Symbol) (items : List Item) (i : ℕ) → AreRead trees symbols items i → length trees ≤ i → AreEntries nothing_earlier (map (entry_of symbols) items) (all_located trees)
AreRead-entries trees symbols items i read end =
    subst (λ es. AreEntries nothing_earlier es (all_located trees)) (append-nil (map (entry_of symbols) items))
    (read.spelled [] (subst (AreEntries (earlier_at symbols items) []) (sym (none_located trees i end)) tt))

-- the fault of an item that is within the limit
pub AreRead-first : (fault : DocFault) (trees : List Tree) (symbols : List Symbol) (items : List Item) (i : ℕ) (t : Tree) → AreRead trees symbols items i → i < length trees → t ≡ get_or trees i t → length items < most_items → TellsFirst fault (item_faults (earlier_at symbols items) (located t)) → TellsFirst fault (all_item_faults nothing_earlier 0 (all_located trees))
AreRead-first fault trees symbols items i t read within is few first =
    let earlier = earlier_at symbols items in
    let ts = all_located (drop (i + 1) trees) in
    let limit = tested (nat_lt (length items) most_items) (over_fault Items (offset_of (located t))) in
    let faults = item_faults earlier (located t) in
    let holds : limit ≡ [] = ap (λ b. tested b (over_fault Items (offset_of (located t)))) (lt-ltb (length items) most_items few) in
    subst (TellsFirst fault) (sym (read.clean ∙ ap (all_item_faults earlier (length items)) (rest_located trees i t within is)))
    (TellsFirst-in_front fault (limit ++ faults) (all_item_faults (earlier_past (located t) earlier) (suc (length items)) ts) (TellsFirst-after fault limit faults holds first))
