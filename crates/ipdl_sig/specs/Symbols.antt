-- The symbols of a signature, and what refuses one more. A symbol's number is its place in the list.
use Rattle.std.specs.Prelude.{◌≡◌, ◌≢◌, ◌↔◌, ℕ, ◌-◌, ◌^◌, ◌<◌, ◌≤◌, ◌==◌, nat_lt, min, Bool, false, IsTrue, not, if◌then◌else◌, List, [], ◌∷◌, ◌++◌, length, map, filter, position, slice_get, All, bytes_eq, Option, None, Some, IfSome, Result, Err, IfOk, OnOk, OnErr, IsErrOf, IsOkUnless}
use Rattle.std.specs.List.{list_any}
use Rattle.std.specs.Map.{keys_of, values_of}
use Rattle.ipdl_sig.specs.declared.symbol.Symbol.{Symbol}
use Rattle.ipdl_sig.specs.declared.fault.SigFault.{SigFault}
use Rattle.ipdl_sig.specs.declared.fault.SigFault.TheVariants.{Repeated, Width, TableLength, Memory}

-- an abstract symbol
abbrev pub fun_symbol : List ℕ → ℕ → ℕ → Symbol
fun_symbol name from to = record { name = name; from = from; to = to; values = None }

-- a table
abbrev pub table_symbol : List ℕ → ℕ → ℕ → List (List Bool) → Symbol
table_symbol name from to values =
    record { name = name; from = from; to = to; values = Some values }

-- the names, in the symbols' order
abbrev pub names_of : List Symbol → List (List ℕ)
names_of symbols = map (λ s. s.name) symbols

-- whether a symbol has the name
abbrev pub has_symbol : List Symbol → List ℕ → Bool
has_symbol symbols name = list_any (bytes_eq name) (names_of symbols)

-- the number of the first symbol that has the name
abbrev pub symbol_number : List Symbol → List ℕ → Option ℕ
symbol_number symbols name = position (bytes_eq name) (names_of symbols)

-- the greatest width of an argument or a result, and that of a table's argument
abbrev pub greatest_width : ℕ
greatest_width = 128

abbrev pub greatest_table_width : ℕ
greatest_table_width = 12

-- one value for each argument, each as wide as the result
pub record IsTable (from to : ℕ) (values : List (List Bool)) : Type 0 where
  pub argument : from ≤ greatest_table_width
  pub count : length values ≡ 2 ^ from
  pub widths : All (λ value. length value ≡ to) values

-- a symbol that a signature may have
pub record IsSymbol (symbol : Symbol) : Type 0 where
  pub argument : symbol.from ≤ greatest_width
  pub result_width : symbol.to ≤ greatest_width
  pub table : IfSome symbol.values (IsTable symbol.from symbol.to)

-- the greatest width that the argument may have
abbrev pub greatest_argument : Option (List (List Bool)) → ℕ
greatest_argument None = greatest_width
greatest_argument (Some values) = greatest_table_width

-- the widths of the values, none of an abstract symbol
abbrev pub value_widths : Option (List (List Bool)) → List ℕ
value_widths None = []
value_widths (Some values) = map length values

-- the widths that are not allowed: of the argument, of the result, and of the values in order
abbrev pub bad_widths : ℕ → ℕ → Option (List (List Bool)) → List ℕ
bad_widths from to values =
    filter (nat_lt (greatest_argument values)) (from ∷ []) ++ filter (nat_lt greatest_width) (to ∷ []) ++ filter (λ w. not (w == to)) (value_widths values)

-- the first of them
abbrev pub first_bad_width : ℕ → ℕ → Option (List (List Bool)) → Option ℕ
first_bad_width from to values = slice_get (bad_widths from to values) 0

-- the fault of a number of values that is not the number of arguments
abbrev pub length_faults : ℕ → Option (List (List Bool)) → List SigFault
length_faults from None = []
length_faults from (Some values) =
    if length values == 2 ^ from then [] else (TableLength (2 ^ from) (min (length values) (2 ^ 32 - 1)) ∷ [])

-- the faults of a symbol, whatever its name, in their order
abbrev pub shape_faults : Symbol → List SigFault
shape_faults s = map Width (bad_widths s.from s.to s.values) ++ length_faults s.from s.values

-- the fault of a name that is there
abbrev pub name_faults : List Symbol → List ℕ → List SigFault
name_faults symbols name = if has_symbol symbols name then (Repeated ∷ []) else []

-- why the symbol is not added to these: the first of its faults
abbrev pub symbol_refusal : List Symbol → Symbol → Option SigFault
symbol_refusal symbols s = slice_get (name_faults symbols s.name ++ shape_faults s) 0

-- the result is an error, want of memory apart, exactly where that is the refusal
abbrev pub TellsRefusal : Result ℕ SigFault → Option SigFault → Type 0
TellsRefusal result refusal =
    (fault : SigFault) → fault ≢ Memory → (result ≡ Err fault) ↔ (refusal ≡ Some fault)

-- What adding a symbol answers: its number, or the refusal; and what is there afterwards. A refused symbol changes
-- nothing, and only want of memory refuses one that may be added.
pub record IsAdding (before : List Symbol) (s : Symbol) (answer : Result ℕ SigFault) (after : List Symbol) : Type 0 where
  pub number : IfOk answer (λ n. n ≡ length before)
  pub ok : OnOk answer (after ≡ before ++ s ∷ [])
  pub accepted : OnOk answer (symbol_refusal before s ≡ None)
  pub new : OnOk answer (has_symbol before s.name ≡ false)
  pub formed : OnOk answer (IsSymbol s)
  pub accepts : has_symbol before s.name ≡ false → IsSymbol s → IsOkUnless answer Memory
  pub repeated : IsErrOf answer Repeated ↔ IsTrue (has_symbol before s.name)
  pub refused : TellsRefusal answer (symbol_refusal before s)
  pub err : OnErr answer (after ≡ before)

-- the name of each symbol finds its own number, so no two have one name
abbrev pub AreNumbered : List Symbol → Type 0
AreNumbered symbols = (n : ℕ) (s : Symbol) → slice_get symbols n ≡ Some s → symbol_number symbols s.name ≡ Some n

-- what the entries of a signature keep: each symbol stands under its name
pub record KeepsSymbols (entries : List (List ℕ × Symbol)) : Type 0 where
  pub keys : keys_of entries ≡ names_of (values_of entries)
  pub formed : All IsSymbol (values_of entries)
  pub numbered : AreNumbered (values_of entries)
  pub few : length entries < 2 ^ 32
