-- The first difference of a question: its valuations are tried in the order of the numbers as which they are read.
use Rattle.std.specs.Prelude.{ℕ, ◌^◌, Bool, ◌&&◌, not, List, [], ◌∷◌, Option, map, reverse, find, option_map}
use Rattle.std.specs.List.{list_all, range_with_len}
use Rattle.ipdl_base.specs.Bits.{same_bits}
use Rattle.ipdl_term.specs.Interpretations.{Interpretation, evaluation, zeros}
use Rattle.ipdl_term.specs.Surroundings.{Condition}
use Rattle.ipdl_term.specs.Terms.{Value}
use Rattle.ipdl_truth.specs.Questions.{Question, free_variables, free_bits}
use Rattle.ipdl_truth.specs.Tables.{tables_of}
use Rattle.ipdl_truth.specs.Valuations.{valued, put_in}

-- the values of all binders where the free variables have those that the number stands for, and all others are zeros
abbrev pub values_at : Question → ℕ → List Value
values_at q n = put_in (valued (free_variables q) n) (map zeros q.widths)

-- whether each test has the value of its arm
abbrev pub are_met : Interpretation → List Value → List Condition → Bool
are_met J env conditions = list_all (λ (c : Condition). same_bits (evaluation J env c.test) (c.value ∷ [])) conditions

-- whether the conditions are met there, and the two expressions differ
abbrev pub is_difference : Question → ℕ → Bool
is_difference q n =
    are_met (tables_of q.sig) (reverse (values_at q n)) q.conditions
    && not (same_bits (evaluation (tables_of q.sig) (reverse (values_at q n)) q.left) (evaluation (tables_of q.sig) (reverse (values_at q n)) q.right))

-- the valuation of the least number at which they do
abbrev pub first_difference : Question → Option (List (ℕ × Value))
first_difference q = option_map (valued (free_variables q)) (find (is_difference q) (range_with_len 0 (2 ^ free_bits q)))
