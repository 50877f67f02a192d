-- Documents as plain data, and what the types of the program stand for.
use Rattle.std.specs.Prelude.{ℕ, List, [], ◌∷◌, map, slice_index_or}
use Rattle.ipdl_sig.specs.declared.symbol.Symbol.{Symbol}
use Rattle.ipdl_sig.specs.Symbols.{fun_symbol}
use Rattle.ipdl_term.specs.declared.interface.Interface.{Interface}
use Rattle.ipdl_term.specs.Steps.{Step, step_of}
use Rattle.ipdl_term.specs.Terms.{Protocol}
use Rattle.ipdl_term.specs.Views.{protocol_of}
use Rattle.ipdl_forms.specs.declared.document.Document.{Document as Held}
use Rattle.ipdl_forms.specs.declared.document.Item.{Item as HeldItem}
use Rattle.ipdl_forms.specs.declared.document.Item.TheVariants as I

pub data Entry : Type 0 where
  symbol_entry : (number : ℕ) → Symbol → Entry
  protocol_entry : (name : List ℕ) → Interface → Protocol → Entry
  assumption_entry : (name left right : List ℕ) → Entry
  theorem_entry : (name left right : List ℕ) → (lefts rights : List Step) → Entry

pub record Document : Type 0 where
  pub version : ℕ
  pub symbols : List Symbol
  pub entries : List Entry

-- ---- what the types of the program stand for

-- where there is no symbol, an abstract one without a name
abbrev pub no_symbol : Symbol
no_symbol = fun_symbol [] 0 0

-- an item, its symbol being one of these
abbrev pub entry_of : List Symbol → HeldItem → Entry
entry_of symbols (I.Symbol n) = symbol_entry n (slice_index_or symbols n no_symbol)
entry_of symbols (I.Protocol p) = protocol_entry p.name p.interface (protocol_of p.body)
entry_of symbols (I.Assumption a) = assumption_entry a.name a.left a.right
entry_of symbols (I.Theorem t) =
    theorem_entry t.name t.left t.right (map step_of t.left_steps) (map step_of t.right_steps)

abbrev pub document_of : Held → Document
document_of d =
    record { version = d.version; symbols = d.sig; entries = map (entry_of d.sig) d.items }

-- ---- what a document declares

abbrev pub name_of : Entry → List ℕ
name_of (symbol_entry n s) = s.name
name_of (protocol_entry name interface body) = name
name_of (assumption_entry name left right) = name
name_of (theorem_entry name left right lefts rights) = name

-- the symbols of some items, in order
abbrev pub symbols_in : List Entry → List Symbol
symbols_in [] = []
symbols_in (symbol_entry n s ∷ entries) = s ∷ symbols_in entries
symbols_in (protocol_entry name interface body ∷ entries) = symbols_in entries
symbols_in (assumption_entry name left right ∷ entries) = symbols_in entries
symbols_in (theorem_entry name left right lefts rights ∷ entries) = symbols_in entries
