-- The names that the items of a document declare.
use Rattle.std.specs.Prelude.{ℕ, List, [], ◌∷◌}
use Rattle.ipdl_forms.specs.declared.document.Item.{Item}
use Rattle.ipdl_forms.specs.declared.document.Item.TheVariants as I

abbrev pub protocol_names : List Item → List (List ℕ)
protocol_names [] = []
protocol_names (I.Symbol n ∷ items) = protocol_names items
protocol_names (I.Protocol p ∷ items) = p.name ∷ protocol_names items
protocol_names (I.Assumption a ∷ items) = protocol_names items
protocol_names (I.Theorem t ∷ items) = protocol_names items

abbrev pub statement_names : List Item → List (List ℕ)
statement_names [] = []
statement_names (I.Symbol n ∷ items) = statement_names items
statement_names (I.Protocol p ∷ items) = statement_names items
statement_names (I.Assumption a ∷ items) = a.name ∷ statement_names items
statement_names (I.Theorem t ∷ items) = t.name ∷ statement_names items
