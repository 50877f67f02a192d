-- The plain signature that typing speaks of.
use Rattle.std.specs.Prelude.{List, map}
use Rattle.ipdl_sig.specs.declared.symbol.Symbol.{Symbol as Declared}
use Rattle.ipdl_term.specs.Interpretations.{SymbolShape, Signature}

-- the widths and values of a symbol, without its name
abbrev pub symbol_of : Declared → SymbolShape
symbol_of s = record { from = s.from; to = s.to; values = s.values }

-- the symbols in their order
abbrev pub signature_of : List Declared → Signature
signature_of symbols = map symbol_of symbols
