-- Linear forms: of each bit of an expression the atoms that it is the sum of, modulo 2.
use Rattle.std.specs.Prelude.{ℕ, zero, suc, Bool, true, false, not, ◌&&◌, ◌||◌, List, [], ◌∷◌, ◌++◌, take, drop, map, filter, nat_eq, slice_get, unwrap_or, if◌then◌else◌}
use Rattle.std.specs.List.{list_any}
use Rattle.ipdl_term.specs.Interpretations.{Signature}
use Rattle.ipdl_term.specs.Terms.{Expression, literal, variable, outer, application, exclusive, conjunction, negation, concatenation, segment, equality, selection}
use Rattle.ipdl_typing.specs.Checks.{symbol_to}

-- ---- forms

-- An atom is the constant 1, a bit of a variable, the product of two forms, whether all of some forms are 0, or a bit of
-- a symbol's value at the forms of its argument. A form has atoms, none of them twice; their order is open.
mutual
  pub data Atom : Type 0 where
    one : Atom
    variable_bit : (number place : ℕ) → Atom
    product : Form → Form → Atom
    all_zero : Forms → Atom
    symbol_bit : (symbol : ℕ) → Forms → (place : ℕ) → Atom

  pub data Form : Type 0 where
    nothing : Form
    adding : Atom → Form → Form

  pub data Forms : Type 0 where
    no_forms : Forms
    forms : Form → Forms → Forms

abbrev pub is_nothing : Form → Bool
is_nothing nothing = true
is_nothing (adding a p) = false

-- whether an atom of the form passes a test, and the form without the first one that does
abbrev pub some_atom : (Atom → Bool) → Form → Bool
some_atom test nothing = false
some_atom test (adding a p) = test a || some_atom test p

abbrev pub without : (Atom → Bool) → Form → Form
without test nothing = nothing
without test (adding a p) = if test a then p else adding a (without test p)

-- whether two atoms are the same: the two forms of a product in either order
abbrev mutual
  pub same_atom : Atom → Atom → Bool
  same_atom one one = true
  same_atom (variable_bit n i) (variable_bit m j) = nat_eq n m && nat_eq i j
  same_atom (product p q) (product r s) = (same_form p r && same_form q s) || (same_form p s && same_form q r)
  same_atom (all_zero ps) (all_zero qs) = same_forms ps qs
  same_atom (symbol_bit f ps i) (symbol_bit g qs j) = nat_eq f g && (same_forms ps qs && nat_eq i j)
  same_atom _ _ = false

  -- whether two forms have the same atoms, in whatever order: each atom of the first is taken out of the second
  pub same_form : Form → Form → Bool
  same_form nothing q = is_nothing q
  same_form (adding a p) q = some_atom (same_atom a) q && same_form p (without (same_atom a) q)

  -- whether two lists have the same forms, in their order
  pub same_forms : Forms → Forms → Bool
  same_forms no_forms no_forms = true
  same_forms (forms p ps) (forms q qs) = same_form p q && same_forms ps qs
  same_forms _ _ = false

-- a list of forms as atoms hold it
abbrev pub forms_of : List Form → Forms
forms_of [] = no_forms
forms_of (p ∷ ps) = forms p (forms_of ps)

-- ---- operations

abbrev pub single : Atom → Form
single a = adding a nothing

-- the form of the bit 1
abbrev pub one_form : Form
one_form = single one

abbrev pub is_one : Form → Bool
is_one p = same_form p one_form

-- a form and one more atom, which cancels with itself
abbrev pub toggled : Atom → Form → Form
toggled a p = if some_atom (same_atom a) p then without (same_atom a) p else adding a p

-- the atoms that one of the two has and the other has not
abbrev pub plus : Form → Form → Form
plus nothing q = q
plus (adding a p) q = toggled a (plus p q)

abbrev pub times : Form → Form → Form
times p q =
    if is_nothing p || is_nothing q then nothing else
    (if is_one p then q else (if is_one q then p else (if same_form p q then p else single (product p q))))

-- the second where the first is 1, and else the third
abbrev pub choice : Form → Form → Form → Form
choice p a b = plus b (times p (plus a b))

abbrev pub negated : Form → Form
negated p = plus p one_form

-- whether all forms are 0, of which none is empty
abbrev pub zero_test : List Form → Form
zero_test [] = one_form
zero_test (p ∷ ps) = if list_any is_one (p ∷ ps) then nothing else several ps
  where
    several : List Form → Form
    several [] = negated p
    several (q ∷ qs) = single (all_zero (forms_of (p ∷ ps)))

-- whether all forms are 0
abbrev pub are_zero_form : List Form → Form
are_zero_form ps = zero_test (filter (λ p. not (is_nothing p)) ps)

-- bit by bit, as far as both go
abbrev pub bitwise : (Form → Form → Form) → List Form → List Form → List Form
bitwise op [] qs = []
bitwise op (p ∷ ps) [] = []
bitwise op (p ∷ ps) (q ∷ qs) = op p q ∷ bitwise op ps qs

-- forms of one atom each, for so many places from this one on
abbrev pub places : (ℕ → Atom) → ℕ → ℕ → List Form
places atom i zero = []
places atom i (suc w) = single (atom i) ∷ places atom (suc i) w

abbrev pub constant : Bool → Form
constant true = one_form
constant false = nothing

-- by a test of one bit
abbrev pub choices : List Form → List Form → List Form → List Form
choices [] ps qs = []
choices (t ∷ ts) ps qs = bitwise (choice t) ps qs

-- ---- the linear forms of an expression

-- a form for each bit; the widths of the binders are given, that of variable 0 first
abbrev pub linear_forms : Signature → List ℕ → Expression → List Form
linear_forms sig widths (literal bits) = map constant bits
linear_forms sig widths (variable n) = places (variable_bit n) 0 (unwrap_or (slice_get widths n) 0)
linear_forms sig widths (outer n) = []
linear_forms sig widths (application f e) =
    places (symbol_bit f (forms_of (linear_forms sig widths e))) 0 (symbol_to (slice_get sig f))
linear_forms sig widths (exclusive a b) = bitwise plus (linear_forms sig widths a) (linear_forms sig widths b)
linear_forms sig widths (conjunction a b) = bitwise times (linear_forms sig widths a) (linear_forms sig widths b)
linear_forms sig widths (negation a) = map negated (linear_forms sig widths a)
linear_forms sig widths (concatenation a b) = linear_forms sig widths a ++ linear_forms sig widths b
linear_forms sig widths (segment i n a) = take n (drop i (linear_forms sig widths a))
linear_forms sig widths (equality a b) = are_zero_form (bitwise plus (linear_forms sig widths a) (linear_forms sig widths b)) ∷ []
linear_forms sig widths (selection c a b) = choices (linear_forms sig widths c) (linear_forms sig widths a) (linear_forms sig widths b)
