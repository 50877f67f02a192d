-- The tree that a document is printed as spells it.
use Rattle.std.proofs.Common.{◌≡◌, ℕ, ◌+◌, ◌<◌, ◌≤◌, Bool, false, List, [], ◌∷◌, ◌++◌, length, map, slice_get, Option, Some, None, refl, sym, ap, subst, ◌∙◌, append-nil, append_assoc, length-append, arith}
use Rattle.std.specs.Prelude.{All}
use Rattle.std.proofs.lemmas.List.{get_or_append_left}
use Rattle.std.proofs.lemmas.List.Elements.{All-head, All-tail}
use Rattle.std.proofs.lemmas.Option.{slice_get-get_or}
use Rattle.ipdl_sig.specs.declared.symbol.Symbol.{Symbol}
use Rattle.ipdl_sig.specs.Symbols.{IsSymbol, IsTable, names_of}
use Rattle.ipdl_term.specs.declared.interface.Port.{Port}
use Rattle.ipdl_term.specs.Typing.{port_names}
use Rattle.ipdl_term.specs.Sizes.{printed_depth, greatest_printed_depth}
use Rattle.ipdl_tree.specs.Trees.{literal, depth_of, greatest_depth, most_open}
use Rattle.ipdl_tree.specs.Views.{forest}
use Rattle.ipdl_forms.specs.Documents.{Entry, symbol_entry, protocol_entry, assumption_entry, theorem_entry, Document, symbols_in}
use Rattle.ipdl_forms.specs.Items.{nothing_earlier, earlier_with, body_scope, is_taken, AreValues, SpellsSymbol, ArePorts, SpellsEntry, AreEntries, SpellsDocument}
use Rattle.ipdl_forms.specs.Protocols.{SpellsProtocol}
use Rattle.ipdl_forms.specs.Steps.{Earlier}
use Rattle.ipdl_printing.specs.Printing.{protocol_tree}
use Rattle.ipdl_printing.proofs.PrintedDepth.{depth_of-protocol_tree}
use Rattle.ipdl_roundtrip.specs.Shown.{shown_scope}
use Rattle.ipdl_roundtrip.specs.ShownDocuments.{symbol_tree, port_trees, entry_tree, document_tree, MayBeDeclared, IsShowableEntry, AreShowable, IsShowableDocument}
use Rattle.ipdl_roundtrip.proofs.PrintedNames.{AreFirst, symbol_there}
use Rattle.ipdl_roundtrip.proofs.PrintedProtocols.{SpellsProtocol-printed}

-- ---- symbols

AreValues-printed : (w : ℕ) (values : List (List Bool)) → All (λ value. length value ≡ w) values → AreValues w values (forest (map (literal 0) values))
AreValues-printed w [] widths = tt
AreValues-printed w (value ∷ values) widths =
    (refl, All-head (λ v. length v ≡ w) value values widths, AreValues-printed w values (All-tail (λ v. length v ≡ w) value values widths))

SpellsSymbol-printed : (earlier : Earlier) (name : List ℕ) (from to : ℕ) (values : Option (List (List Bool))) → is_taken earlier name ≡ false → IsSymbol (record { name = name; from = from; to = to; values = values }) → SpellsSymbol earlier (record { name = name; from = from; to = to; values = values }) (symbol_tree name from to values)
SpellsSymbol-printed earlier name from to None free is = ((refl, free), refl, (refl, is.result_width), ((refl, refl), is.argument))
SpellsSymbol-printed earlier name from to (Some values) free is =
    let table : IsTable from to values = is.table in
    ((refl, free), refl, (refl, is.result_width), ((refl, refl), table.argument, AreValues-printed to values table.widths, table.count))

-- ---- ports

ArePorts-printed : (before : List (List ℕ)) (ports : List Port) → MayBeDeclared before ports → ArePorts before ports (forest (port_trees ports))
ArePorts-printed before [] may = tt
ArePorts-printed before (p ∷ ps) may =
    ((refl, refl, (refl, may.0)), may.1, ArePorts-printed (before ++ p.name ∷ []) ps may.2)

-- ---- items

SpellsEntry-printed : (all symbols : List Symbol) (earlier : Earlier) (e : Entry) → AreFirst symbols all → earlier.symbols ≡ names_of symbols → IsShowableEntry symbols earlier e → SpellsEntry earlier e (entry_tree all e)
SpellsEntry-printed all symbols earlier (symbol_entry n s) first same may =
    (may.0, SpellsSymbol-printed earlier s.name s.from s.to s.values may.1 may.2)
SpellsEntry-printed all symbols earlier (protocol_entry name interface body) first same may =
    let scope : shown_scope symbols ≡ body_scope earlier = ap (λ names. record { symbols = names; binders = []; in_step = false }) (sym same) in (
      (refl, refl),
      (refl, may.0),
      (refl, ArePorts-printed [] interface.inputs may.1, refl, ArePorts-printed (port_names interface.inputs) interface.outputs may.2),
      subst (λ s. SpellsProtocol s body (protocol_tree all body)) scope (SpellsProtocol-printed all symbols body first may.3),
    )
SpellsEntry-printed all symbols earlier (assumption_entry name left right) first same may =
    ((refl, refl), (refl, may.0), (refl, may.1.0, refl, may.1.1))
SpellsEntry-printed all symbols earlier (theorem_entry name left right lefts rights) first same may =
    rw (may.2, may.3) ((refl, refl), (refl, may.0), (refl, may.1.0, refl, may.1.1), (refl, tt), (refl, tt))

-- the symbols before an item are the first of all, whatever follows
AreFirst-append : (symbols others : List Symbol) → AreFirst symbols (symbols ++ others)
AreFirst-append symbols others = record { each = each }
  where
    each : (f : ℕ) → f < length symbols → slice_get (symbols ++ others) f ≡ slice_get symbols f
    each f below =
        let s = (symbol_there symbols f below).0 in
        slice_get-get_or (symbols ++ others) f s (omega (arith, length-append symbols others))
        ∙ ap Some (get_or_append_left symbols others s f below)
        ∙ sym (slice_get-get_or symbols f s below)

names_of-append : (symbols others : List Symbol) → names_of (symbols ++ others) ≡ names_of symbols ++ names_of others
names_of-append [] others = refl
names_of-append (s ∷ symbols) others = ap (λ names. s.name ∷ names) (names_of-append symbols others)

-- what is declared after an item has the names of its symbols too
symbols-with : (earlier : Earlier) (symbols : List Symbol) (e : Entry) → earlier.symbols ≡ names_of symbols → (earlier_with e earlier).symbols ≡ names_of (symbols ++ symbols_in (e ∷ []))
symbols-with earlier symbols (symbol_entry n s) same =
    ap (λ names. names ++ s.name ∷ []) same ∙ sym (names_of-append symbols (s ∷ []))
symbols-with earlier symbols (protocol_entry name interface body) same = rw (append-nil symbols) same
symbols-with earlier symbols (assumption_entry name left right) same = rw (append-nil symbols) same
symbols-with earlier symbols (theorem_entry name left right lefts rights) same = rw (append-nil symbols) same

symbols_in-cons : (e : Entry) (es : List Entry) → symbols_in (e ∷ es) ≡ symbols_in (e ∷ []) ++ symbols_in es
symbols_in-cons (symbol_entry n s) es = refl
symbols_in-cons (protocol_entry name interface body) es = refl
symbols_in-cons (assumption_entry name left right) es = refl
symbols_in-cons (theorem_entry name left right lefts rights) es = refl

AreEntries-printed : (all symbols : List Symbol) (earlier : Earlier) (es : List Entry) → all ≡ symbols ++ symbols_in es → earlier.symbols ≡ names_of symbols → AreShowable symbols earlier es → AreEntries earlier es (forest (map (entry_tree all) es))
AreEntries-printed all symbols earlier [] whole same may = tt
AreEntries-printed all symbols earlier (e ∷ es) whole same may =
    let first : AreFirst symbols all = subst (λ a. AreFirst symbols a) (sym whole) (AreFirst-append symbols (symbols_in (e ∷ es))) in
    let further : all ≡ (symbols ++ symbols_in (e ∷ [])) ++ symbols_in es =
    whole ∙ ap (λ others. symbols ++ others) (symbols_in-cons e es) ∙ sym (append_assoc symbols (symbols_in (e ∷ [])) (symbols_in es)) in (
      SpellsEntry-printed all symbols earlier e first same may.0,
      AreEntries-printed all (symbols ++ symbols_in (e ∷ [])) (earlier_with e earlier) es further (symbols-with earlier symbols e same) may.1,
    )

pub SpellsDocument-printed : (d : Document) → IsShowableDocument d → SpellsDocument d (document_tree d)
SpellsDocument-printed d may =
    ((refl, omega arith), may.version, ap Some may.version, AreEntries-printed d.symbols [] nothing_earlier d.entries may.symbols refl may.entries, may.symbols)

-- ---- how deep the tree is

greatest_depth-literals : (values : List (List Bool)) → greatest_depth (forest (map (literal 0) values)) ≡ 0
greatest_depth-literals [] = refl
greatest_depth-literals (value ∷ values) = omega (arith, greatest_depth-literals values)

greatest_depth-ports : (ports : List Port) → greatest_depth (forest (port_trees ports)) ≤ 1
greatest_depth-ports [] = omega arith
greatest_depth-ports (p ∷ ps) = omega (arith, greatest_depth-ports ps)

depth_of-symbol : (name : List ℕ) (from to : ℕ) (values : Option (List (List Bool))) → depth_of (symbol_tree name from to values) ≤ 2
depth_of-symbol name from to None = omega arith
depth_of-symbol name from to (Some values) = omega (arith, greatest_depth-literals values)

depth_of-entry : (all symbols : List Symbol) (earlier : Earlier) (e : Entry) → IsShowableEntry symbols earlier e → depth_of (entry_tree all e) ≤ greatest_printed_depth + 1
depth_of-entry all symbols earlier (symbol_entry n s) may = omega (arith, depth_of-symbol s.name s.from s.to s.values)
depth_of-entry all symbols earlier (protocol_entry name interface body) may =
    let shallow : printed_depth body ≤ greatest_printed_depth = may.3.depth in
    omega (arith, depth_of-protocol_tree all body, greatest_depth-ports interface.inputs, greatest_depth-ports interface.outputs)
depth_of-entry all symbols earlier (assumption_entry name left right) may = omega arith
depth_of-entry all symbols earlier (theorem_entry name left right lefts rights) may = omega arith

greatest_depth-entries : (all symbols : List Symbol) (earlier : Earlier) (es : List Entry) → AreShowable symbols earlier es → greatest_depth (forest (map (entry_tree all) es)) ≤ greatest_printed_depth + 1
greatest_depth-entries all symbols earlier [] may = omega arith
greatest_depth-entries all symbols earlier (e ∷ es) may =
    omega (arith, depth_of-entry all symbols earlier e may.0, greatest_depth-entries all (symbols ++ symbols_in (e ∷ [])) (earlier_with e earlier) es may.1)

pub depth_of-document_tree : (d : Document) → IsShowableDocument d → depth_of (document_tree d) ≤ most_open
depth_of-document_tree d may = omega (arith, greatest_depth-entries d.symbols [] nothing_earlier d.entries may.entries)
