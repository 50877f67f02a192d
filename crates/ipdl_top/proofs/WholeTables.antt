-- In a document that is spelled each table has a value for each argument.
use Rattle.std.proofs.Common.{◌≡◌, ◌^◌, ℕ, Bool, List, [], ◌∷◌, length, Option, Some, None, sym, subst}
use Rattle.std.specs.Prelude.{All, IfSome}
use Rattle.std.proofs.lemmas.List.Elements.{All-cons, All-map, All-nil}
use Rattle.ipdl_forms.specs.Documents.{Document, Entry, symbol_entry, protocol_entry, assumption_entry, theorem_entry, symbols_in}
use Rattle.ipdl_forms.specs.Items.{SpellsDocument, SpellsSymbol, AreEntries, nothing_earlier, earlier_with}
use Rattle.ipdl_forms.specs.Steps.{Earlier}
use Rattle.ipdl_rules_r.specs.Tables.{TablesAreWhole}
use Rattle.ipdl_sig.specs.declared.symbol.Symbol.{Symbol}
use Rattle.ipdl_term.specs.Interpretations.{SymbolShape}
use Rattle.ipdl_tree.specs.Trees.{Located, Forest, no_trees, tree}
use Rattle.ipdl_typing.specs.Signatures.{symbol_of, signature_of}

-- a table has a value for each argument
abbrev IsWhole : Symbol → Type 0
IsWhole s = IfSome s.values (λ values. length values ≡ 2 ^ s.from)

whole_values : (earlier : Earlier) (name : List ℕ) (from to : ℕ) (values : Option (List (List Bool))) (t : Located) → SpellsSymbol earlier (record { name = name; from = from; to = to; values = values }) t → IfSome values (λ vs. length vs ≡ 2 ^ from)
whole_values earlier name from to None t spelled = tt
whole_values earlier name from to (Some vs) t spelled = spelled.3.3

whole_symbols : (earlier : Earlier) (entries : List Entry) (ts : Forest) → AreEntries earlier entries ts → All IsWhole (symbols_in entries)
whole_symbols earlier [] ts spelled = All-nil IsWhole
whole_symbols earlier (entry ∷ entries) no_trees spelled = absurd spelled
whole_symbols earlier (symbol_entry n s ∷ entries) (tree t ts) spelled =
    All-cons IsWhole s (symbols_in entries) (whole_values earlier s.name s.from s.to s.values t spelled.0.1)
    (whole_symbols (earlier_with (symbol_entry n s) earlier) entries ts spelled.1)
whole_symbols earlier (protocol_entry name interface body ∷ entries) (tree t ts) spelled =
    whole_symbols (earlier_with (protocol_entry name interface body) earlier) entries ts spelled.1
whole_symbols earlier (assumption_entry name left right ∷ entries) (tree t ts) spelled =
    whole_symbols (earlier_with (assumption_entry name left right) earlier) entries ts spelled.1
whole_symbols earlier (theorem_entry name left right lefts rights ∷ entries) (tree t ts) spelled =
    whole_symbols (earlier_with (theorem_entry name left right lefts rights) earlier) entries ts spelled.1

pub TablesAreWhole-spelled : (d : Document) (t : Located) → SpellsDocument d t → TablesAreWhole (signature_of d.symbols)
TablesAreWhole-spelled d t spelled =
    subst (λ symbols. TablesAreWhole (signature_of symbols)) (sym spelled.4)
    (All-map (λ (s : SymbolShape). IfSome s.values (λ values. length values ≡ 2 ^ s.from)) symbol_of (symbols_in d.entries)
    (whole_symbols nothing_earlier d.entries _ spelled.3))
