-- What the symbols stand for, and the values of expressions.
use Rattle.std.specs.Prelude.{◌≡◌, ℕ, zero, suc, ◌+◌, true, false, List, [], ◌∷◌, ◌++◌, Option, length, take, drop, nat_eq, nat_le, IfSome, if◌then◌else◌}
use Rattle.ipdl_base.specs.Bits.{bits_of, xor_bits, and_bits, not_bits, same_bits}
use Rattle.ipdl_term.specs.Terms.{Value, Expression, literal, variable, outer, application, exclusive, conjunction, negation, concatenation, segment, equality, selection}

-- ---- signatures and interpretations

-- what is known of a symbol but its name: its two widths, and, of a table, its values in the order of the arguments
pub record SymbolShape : Type 0 where
  pub from : ℕ
  pub to : ℕ
  pub values : Option (List Value)

abbrev pub Signature : Type 0
Signature = List SymbolShape

-- what a symbol stands for: its two widths, and a finite map, of which the first entry of a key counts
pub record Function : Type 0 where
  pub from : ℕ
  pub to : ℕ
  pub entries : List (Value × Value)

-- a function for each symbol, in the symbols' order
abbrev pub Interpretation : Type 0
Interpretation = List Function

-- each entry leads from a value of the one width to a value of the other
abbrev pub HaveWidths : ℕ → ℕ → List (Value × Value) → Type 0
HaveWidths from to [] = Unit {0}
HaveWidths from to (e ∷ entries) = (length e.0 ≡ from) × (length e.1 ≡ to) × HaveWidths from to entries

-- the entries of a table, value number i at the argument whose bits are the number i
abbrev pub table_entries : ℕ → ℕ → List Value → List (Value × Value)
table_entries from i [] = []
table_entries from i (v ∷ values) = (bits_of from i, v) ∷ table_entries from (suc i) values

-- a function of the symbol's widths, and the table itself where the symbol is a table
pub record IsFunctionOf (s : SymbolShape) (f : Function) : Type 0 where
  pub from : f.from ≡ s.from
  pub to : f.to ≡ s.to
  pub entries : HaveWidths s.from s.to f.entries
  pub table : IfSome s.values (λ values. f.entries ≡ table_entries s.from 0 values)

-- an interpretation of the signature
abbrev pub Interprets : Signature → Interpretation → Type 0
Interprets [] [] = Unit {0}
Interprets (s ∷ sig) (f ∷ J) = IsFunctionOf s f × Interprets sig J
Interprets _ _ = ⊥

-- ---- values

abbrev pub zeros : ℕ → Value
zeros zero = []
zeros (suc n) = false ∷ zeros n

-- the value of the first entry of the key, or else the default
abbrev pub entry_value : List (Value × Value) → Value → Value → Value
entry_value [] key default = default
entry_value (e ∷ entries) key default = if same_bits e.0 key then e.1 else entry_value entries key default

-- the function's value at an argument: zeros where the map has no entry, nothing at another width
abbrev pub function_value : Function → Value → Value
function_value f a = if nat_eq (length a) f.from then entry_value f.entries a (zeros f.to) else []

-- the value of the symbol of this number at an argument
abbrev pub symbol_value : Interpretation → ℕ → Value → Value
symbol_value [] f a = []
symbol_value (g ∷ J) zero a = function_value g a
symbol_value (g ∷ J) (suc f) a = symbol_value J f a

-- the value of a variable, that of variable 0 being the first
abbrev pub variable_value : List Value → ℕ → Value
variable_value [] n = []
variable_value (v ∷ env) zero = v
variable_value (v ∷ env) (suc n) = variable_value env n

-- the value where two operands have one width, and else nothing
abbrev pub at_one_width : Value → Value → Value → Value
at_one_width a b v = if nat_eq (length a) (length b) then v else []

abbrev pub cat_value : Value → Value → Value
cat_value a b = if nat_le (length a + length b) 128 then a ++ b else []

abbrev pub cut_value : ℕ → ℕ → Value → Value
cut_value i n a = if nat_le (i + n) (length a) then take n (drop i a) else []

-- by one bit: the first for a one, the second for a zero; the third where it is not one bit
abbrev pub chosen {ℓ} : {X : Type ℓ} → Value → X → X → X → X
chosen [] x y z = z
chosen (true ∷ []) x y z = x
chosen (false ∷ []) x y z = y
chosen (b ∷ c ∷ bits) x y z = z

-- the value of an expression, the variables' values being given, that of variable 0 first
abbrev pub evaluation : Interpretation → List Value → Expression → Value
evaluation J env (literal bits) = bits
evaluation J env (variable n) = variable_value env n
evaluation J env (outer n) = []
evaluation J env (application f e) = symbol_value J f (evaluation J env e)
evaluation J env (exclusive a b) =
    let v = evaluation J env a in let w = evaluation J env b in at_one_width v w (xor_bits v w)
evaluation J env (conjunction a b) =
    let v = evaluation J env a in let w = evaluation J env b in at_one_width v w (and_bits v w)
evaluation J env (negation a) = not_bits (evaluation J env a)
evaluation J env (concatenation a b) = cat_value (evaluation J env a) (evaluation J env b)
evaluation J env (segment i n a) = cut_value i n (evaluation J env a)
evaluation J env (equality a b) =
    let v = evaluation J env a in let w = evaluation J env b in at_one_width v w (same_bits v w ∷ [])
evaluation J env (selection c a b) =
    let v = evaluation J env a in let w = evaluation J env b in at_one_width v w (chosen (evaluation J env c) v w [])
