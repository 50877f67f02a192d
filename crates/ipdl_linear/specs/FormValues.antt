-- What forms mean: the bits of which they are the sum, where the symbols and the variables have values.
use Rattle.std.specs.Prelude.{ℕ, zero, suc, Bool, true, false, not, ◌&&◌, List, [], ◌∷◌}
use Rattle.ipdl_base.specs.Bits.{xor}
use Rattle.ipdl_linear.specs.LinearForms.{Atom, one, variable_bit, product, all_zero, symbol_bit, Form, nothing, adding, Forms, no_forms, forms}
use Rattle.ipdl_term.specs.Interpretations.{Interpretation, variable_value, symbol_value}
use Rattle.ipdl_term.specs.Terms.{Value}

-- the bit at a place, counted from 0 on the left
abbrev pub bit_at_place : Value → ℕ → Bool
bit_at_place [] i = false
bit_at_place (b ∷ v) zero = b
bit_at_place (b ∷ v) (suc i) = bit_at_place v i

abbrev pub are_zero : Value → Bool
are_zero [] = true
are_zero (b ∷ v) = not b && are_zero v

-- the bits of atoms and of forms; the variables' values are given, that of variable 0 first
abbrev mutual
  pub atom_value : Interpretation → List Value → Atom → Bool
  atom_value J env one = true
  atom_value J env (variable_bit n i) = bit_at_place (variable_value env n) i
  atom_value J env (product p q) = form_value J env p && form_value J env q
  atom_value J env (all_zero ps) = are_zero (forms_value J env ps)
  atom_value J env (symbol_bit f ps i) = bit_at_place (symbol_value J f (forms_value J env ps)) i

  pub form_value : Interpretation → List Value → Form → Bool
  form_value J env nothing = false
  form_value J env (adding a p) = xor (atom_value J env a) (form_value J env p)

  pub forms_value : Interpretation → List Value → Forms → Value
  forms_value J env no_forms = []
  forms_value J env (forms p ps) = form_value J env p ∷ forms_value J env ps
