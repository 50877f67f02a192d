-- Operations on the numbers of forms: what the program's words for them mean.
use Rattle.std.specs.Prelude.{◌≡◌, ℕ, Bool, true, false, not, List, [], ◌∷◌, ◌++◌, take, drop, map, filter, nat_eq, slice_get, unwrap_or}
use Rattle.ipdl_linear.specs.Entries.{Entry, variable_entry, symbol_entry, FormStands, FormsStand, nothing_number, one_form_number}
use Rattle.ipdl_linear.specs.LinearForms.{Atom, variable_bit, symbol_bit, Form, Forms, forms_of, plus, times, choice, negated, are_zero_form, bitwise, places, constant}
use Rattle.ipdl_linear.specs.declared.bitwise.Operator.{Operator}
use Rattle.ipdl_linear.specs.declared.bitwise.Operator.TheVariants.{Plus, Times, Negation, Choice}
use Rattle.ipdl_linear.specs.declared.leaves.Source.{Source}
use Rattle.ipdl_linear.specs.declared.leaves.Source.TheVariants.{Variable, Symbol}
use Rattle.ipdl_term.specs.Interpretations.{Signature}
use Rattle.ipdl_term.specs.Terms.{Expression, literal, variable, application, exclusive, conjunction, negation, concatenation, segment, equality}
use Rattle.ipdl_typing.specs.Checks.{symbol_to}

-- the operator is this operation on forms
abbrev pub IsOperation : List Entry → Operator → (Form → Form → Form) → Type 0
IsOperation t Plus op = op ≡ plus
IsOperation t Times op = op ≡ times
IsOperation t Negation op = op ≡ (λ p q. negated p)
IsOperation t (Choice n) op = (c : Form) × FormStands t n c × (op ≡ choice c)

-- the number of the form of a bit
abbrev pub constant_number : Bool → ℕ
constant_number true = one_form_number
constant_number false = nothing_number

-- the numbers of the forms that are not empty
abbrev pub not_empty : List ℕ → List ℕ
not_empty ns = filter (λ n. not (nat_eq n nothing_number)) ns

-- as many of a list as counted, from this one on
abbrev pub part_of : {X : Type 0} → ℕ → ℕ → List X → List X
part_of i n xs = take n (drop i xs)

-- these are the atoms for the places of what is told
abbrev pub IsSource : List Entry → Source → (ℕ → Atom) → Type 0
IsSource t (Variable n) atom = atom ≡ variable_bit n
IsSource t (Symbol f ns) atom = (ps : Forms) × FormsStand t ns.items ps × (atom ≡ symbol_bit f ps)

-- the entry of the atom for a place
abbrev pub entry_at : Source → ℕ → Entry
entry_at (Variable n) i = variable_entry n i
entry_at (Symbol f ns) i = symbol_entry f ns.items i

-- ---- the linear forms of an operator by those of its operands; whatever is no operator of so many operands has none

abbrev pub forms_of_leaf : List ℕ → Expression → List Form
forms_of_leaf widths (literal bits) = map constant bits
forms_of_leaf widths (variable n) = places (variable_bit n) 0 (unwrap_or (slice_get widths n) 0)
forms_of_leaf widths _ = []

abbrev pub forms_over_one : Signature → Expression → List Form → List Form
forms_over_one sig (application f e) ps = places (symbol_bit f (forms_of ps)) 0 (symbol_to (slice_get sig f))
forms_over_one sig (negation a) ps = map negated ps
forms_over_one sig (segment i n a) ps = part_of i n ps
forms_over_one sig _ ps = []

abbrev pub forms_over_two : Expression → List Form → List Form → List Form
forms_over_two (exclusive a b) ps qs = bitwise plus ps qs
forms_over_two (conjunction a b) ps qs = bitwise times ps qs
forms_over_two (concatenation a b) ps qs = ps ++ qs
forms_over_two (equality a b) ps qs = are_zero_form (bitwise plus ps qs) ∷ []
forms_over_two _ ps qs = []
