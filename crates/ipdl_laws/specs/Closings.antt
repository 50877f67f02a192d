-- An interpretation of each signature, and contexts that close each interface: equality is about something.
use Rattle.std.specs.Prelude.{◌≡◌, ℕ, List, [], ◌∷◌, ◌++◌, Option, Some, None, All, length, IfSome, if◌then◌else◌}
use Rattle.ipdl_term.specs.Channels.{has}
use Rattle.ipdl_term.specs.Contexts.{context_outputs}
use Rattle.ipdl_term.specs.Interpretations.{SymbolShape, Signature, Interpretation, table_entries, zeros}
use Rattle.ipdl_term.specs.Terms.{Value, Channel, literal, Reaction, returning, reading, assignment, Context, hole, in_left}
use Rattle.ipdl_term.specs.Typing.{Scope, scope_of, port_names}
use Rattle.ipdl_term.specs.declared.interface.Interface.{Interface}

-- ---- interpretations

-- the values of each table have the width of its result
abbrev pub TablesHaveWidths : Signature → Type 0
TablesHaveWidths sig = All (λ (s : SymbolShape). IfSome s.values (λ values. All (λ (v : Value). length v ≡ s.to) values)) sig

-- the entries of a table, and none for an abstract symbol
abbrev pub symbol_entries : ℕ → Option (List Value) → List (Value × Value)
symbol_entries from None = []
symbol_entries from (Some values) = table_entries from 0 values

-- each table as it is, and zeros for each abstract symbol
abbrev pub zero_interpretation : Signature → Interpretation
zero_interpretation [] = []
zero_interpretation (s ∷ sig) =
    record { from = s.from; to = s.to; entries = symbol_entries s.from s.values } ∷ zero_interpretation sig

-- ---- closing contexts

-- what a context writes on each channel that it feeds, which has this width
abbrev pub Feed : Type 0
Feed = Channel → ℕ → Reaction

-- zeros of the width
abbrev pub zero_feed : Feed
zero_feed c w = returning (literal (zeros w))

-- a read of the channel itself, so that it is never written
abbrev pub silent_feed : Feed
silent_feed c w = reading c

-- the context with a channel fed beside it, if that has a width and the context does not write it
abbrev pub feeding : Feed → Channel → Option ℕ → List Channel → Context → Context
feeding feed c None written C = C
feeding feed c (Some w) written C =
    if has (context_outputs C written) c then C else in_left C (assignment c (feed c w))

-- each of these channels fed that has a width and that the hole does not write
abbrev pub feeding_all : Feed → List Channel → Scope → List Channel → Context
feeding_all feed [] scope written = hole
feeding_all feed (c ∷ cs) scope written = feeding feed c (scope c) written (feeding_all feed cs scope written)

-- the inputs of an interface fed
abbrev pub fed_interface : Feed → Interface → Context
fed_interface feed i =
    feeding_all feed (port_names (i.inputs ++ i.outputs)) (scope_of (i.inputs ++ i.outputs)) (port_names i.outputs)
