-- The interpretation that the tables are: a table leads from each argument to its value, and a symbol without values has
-- no entry, so that it gives zeros.
use Rattle.std.specs.Prelude.{ℕ, List, [], Option, Some, None, map}
use Rattle.ipdl_term.specs.Interpretations.{SymbolShape, Signature, Function, Interpretation, table_entries}
use Rattle.ipdl_term.specs.Terms.{Value}

-- the entries of a symbol whose argument has the width
abbrev pub entries_of : ℕ → Option (List Value) → List (Value × Value)
entries_of from None = []
entries_of from (Some values) = table_entries from 0 values

abbrev pub function_of : SymbolShape → Function
function_of s = record { from = s.from; to = s.to; entries = entries_of s.from s.values }

abbrev pub tables_of : Signature → Interpretation
tables_of sig = map function_of sig
