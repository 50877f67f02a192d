-- What is said of a document whose items are well typed: a line for each item.
use Rattle.std.specs.Prelude.{ℕ, ◌+◌, ◌^◌, ◌<◌, Bool, List, [], ◌∷◌, ◌++◌, length, Option, Some, None, codes}
use Rattle.std.specs.Fmt.{decimal}
use Rattle.ipdl_sig.specs.declared.symbol.Symbol.{Symbol}
use Rattle.ipdl_term.specs.declared.interface.Interface.{Interface}
use Rattle.ipdl_term.specs.Protocols.{coins}
use Rattle.ipdl_term.specs.Sizes.{channel_count, protocol_nodes}
use Rattle.ipdl_term.specs.Terms.{Protocol}
use Rattle.ipdl_forms.specs.Documents.{Document, Entry, symbol_entry, protocol_entry, assumption_entry, theorem_entry}
use Rattle.ipdl_printing.specs.Texts.{line, spaced}

-- the head of a symbol's item: a table has values
abbrev pub symbol_head : Option (List (List Bool)) → List ℕ
symbol_head None = codes "fun"
symbol_head (Some values) = codes "table"

-- a symbol with the widths of its argument and its result
abbrev pub symbol_summary : Symbol → List ℕ
symbol_summary s = line (spaced (symbol_head s.values ∷ s.name ∷ decimal s.from ∷ decimal s.to ∷ []))

-- a protocol with the numbers of its ports, of all channels that it writes, of its nodes and of its random bits
abbrev pub protocol_summary : (name : List ℕ) → Interface → Protocol → List ℕ
protocol_summary name interface body =
    line
    (spaced
    (codes "protocol" ∷ name ∷ codes "inputs" ∷ decimal (length interface.inputs)
    ∷ codes "outputs" ∷ decimal (length interface.outputs) ∷ codes "channels" ∷ decimal (channel_count body)
    ∷ codes "nodes" ∷ decimal (protocol_nodes body) ∷ codes "coins" ∷ decimal (coins body) ∷ []))

abbrev pub assumption_summary : (name left right : List ℕ) → List ℕ
assumption_summary name left right = line (spaced (codes "assume" ∷ name ∷ left ∷ right ∷ []))

-- a theorem with the number of steps of both sides together
abbrev pub theorem_summary : (name left right : List ℕ) → (steps : ℕ) → List ℕ
theorem_summary name left right steps =
    line (spaced (codes "theorem" ∷ name ∷ left ∷ right ∷ codes "steps" ∷ decimal steps ∷ []))

abbrev pub item_summary : Entry → List ℕ
item_summary (symbol_entry n s) = symbol_summary s
item_summary (protocol_entry name interface body) = protocol_summary name interface body
item_summary (assumption_entry name left right) = assumption_summary name left right
item_summary (theorem_entry name left right lefts rights) =
    theorem_summary name left right (length lefts + length rights)

abbrev pub item_summaries : List Entry → List ℕ
item_summaries [] = []
item_summaries (item ∷ items) = item_summary item ++ item_summaries items

-- the last line, with the number of items
abbrev pub typed_line : (items : ℕ) → List ℕ
typed_line items = line (spaced (codes "typed items" ∷ decimal items ∷ []))

-- ---- counts

-- the counts of a protocol stand in 64 bits
pub record HasPlainCounts (body : Protocol) : Type 0 where
  pub channels : channel_count body < 2 ^ 64
  pub nodes : protocol_nodes body < 2 ^ 64
  pub random_bits : coins body < 2 ^ 64

abbrev pub IsCounted : Entry → Type 0
IsCounted (symbol_entry n s) = Unit {0}
IsCounted (protocol_entry name interface body) = HasPlainCounts body
IsCounted (assumption_entry name left right) = Unit {0}
IsCounted (theorem_entry name left right lefts rights) = Unit {0}

abbrev pub AreCounted : List Entry → Type 0
AreCounted [] = Unit {0}
AreCounted (item ∷ items) = IsCounted item × AreCounted items

-- ---- the text

unfoldable pub summary_text : Document → List ℕ
summary_text d = item_summaries d.entries ++ typed_line (length d.entries)
