-- That the side conditions of the rules are needed: for each one a left side that fails it alone, what the rule would make
-- of it, and that the two are told apart.
use Rattle.std.specs.Prelude.{◌≡◌, ℕ, ◌-◌, true, false, List, [], ◌∷◌, ◌++◌, Option, Some, None, take, drop}
use Rattle.ipdl_laws.specs.Refutations.{AreToldApart, one_bit_interface}
use Rattle.ipdl_rules_r.specs.Matching.{Matched, matched, Answer, other_shape, failing, gives, after_sides, answer}
use Rattle.ipdl_term.specs.Interpretations.{SymbolShape, Signature}
use Rattle.ipdl_term.specs.Rules.{Rule}
use Rattle.ipdl_term.specs.Terms.{Value, Channel, Expression, literal, variable, application, exclusive, negation, concatenation, segment, Reaction, returning, flipping, reading, branching, binding, assignment}
use Rattle.ipdl_term.specs.Worked.{a, m, one, zero_bit}

-- ---- what is refuted

-- what a rule would make of a left side, whatever its side conditions say
abbrev pub right_side : Signature → Rule → Reaction → Option Reaction
right_side sig rule left = right_of (matched sig rule left)
  where
    right_of : Option Matched → Option Reaction
    right_of None = None
    right_of (Some match) = Some match.right

-- what a rule would answer if it did not ask its side condition of this number
abbrev pub answer_without : (number : ℕ) → Signature → Rule → Reaction → Answer
answer_without number sig rule left = answer_of_others (matched sig rule left)
  where
    answer_of_others : Option Matched → Answer
    answer_of_others None = other_shape
    answer_of_others (Some match) = after_sides 1 (take (number - 1) match.sides ++ drop number match.sides) match.right

-- a left side, and what a rule would make of it
pub record Pair : Type 0 where
  pub left : Reaction
  pub right : Reaction

-- `(out a LEFT)` and `(out a RIGHT)` are told apart, where these channels are inputs, each of one bit
abbrev pub AreApartOnA : Signature → (inputs : List Channel) → Pair → Type 0
AreApartOnA sig inputs pair =
    AreToldApart sig (one_bit_interface inputs (a ∷ [])) (assignment a pair.left) (assignment a pair.right)

-- the left side fails the side condition of this number, the rule without it would give the right side, and the two are
-- told apart
pub record IsRefutedWithout (number : ℕ) (sig : Signature) (rule : Rule) (inputs : List Channel) (pair : Pair) : Type 0 where
  pub fails : answer sig rule pair.left ≡ failing number
  pub otherwise : answer_without number sig rule pair.left ≡ gives pair.right
  pub apart : AreApartOnA sig inputs pair

-- ---- parts

abbrev pub x0 : Expression
x0 = variable 0

-- `(ret #1)` and `(ret #0)`
abbrev pub returning_one : Reaction
returning_one = returning (literal one)

abbrev pub returning_zero : Reaction
returning_zero = returning (literal zero_bit)

-- `(flip 1)`
abbrev pub coin : Reaction
coin = flipping 1

-- `(cut 0 1 (cat E #0))`: the first bit of E, and 0 where E has none. A rule that takes a binder away puts `#` for its
-- variable, and this is typed with either.
abbrev pub first_bit : Expression → Expression
first_bit e = segment 0 1 (concatenation e (literal zero_bit))

-- `(cut 0 1 (cat # #0))`
abbrev pub first_bit_of_none : Expression
first_bit_of_none = first_bit (literal [])

-- ---- a value that is used

-- y is the bit of x, and before x it is 0:
-- `(bind x 1 (ret #1) (bind y 1 (ret (cut 0 1 (cat x #0))) (ret y)))`
-- `(bind y 1 (ret (cut 0 1 (cat # #0))) (bind x 1 (ret #1) (ret y)))`
abbrev pub swap_of_a_use : Pair
swap_of_a_use = record {
  left = binding 1 returning_one (binding 1 (returning (first_bit x0)) (returning x0));
  right = binding 1 (returning first_bit_of_none) (binding 1 returning_one (returning (variable 1)));
}

-- the bit of x, and without x 0:
-- `(bind x 1 (ret #1) (ret (cut 0 1 (cat x #0))))`
-- `(ret (cut 0 1 (cat # #0)))`
abbrev pub dropr_of_a_use : Pair
dropr_of_a_use = record {
  left = binding 1 returning_one (returning (first_bit x0));
  right = returning first_bit_of_none;
}

-- x is 1, the negation of a bit that is not there, and y is 0, that of x:
-- `(bind x 1 (ret (not (cut 0 1 (cat # #0)))) (bind y 1 (ret (not (cut 0 1 (cat x #0)))) (ret y)))`
-- `(bind x 1 (ret (not (cut 0 1 (cat # #0)))) (ret x))`
abbrev pub again_of_a_use : Pair
again_of_a_use = record {
  left = binding 1 (returning (negation first_bit_of_none)) (binding 1 (returning (negation (first_bit x0))) (returning x0));
  right = binding 1 (returning (negation first_bit_of_none)) (returning x0);
}

-- ---- reads, flips and other parts

-- where m is never written, the read waits for ever:
-- `(bind x 1 (read m) (ret #1))`
-- `(ret #1)`
abbrev pub dropr_of_a_read : Pair
dropr_of_a_read = record {
  left = binding 1 (reading m) returning_one;
  right = returning_one;
}

-- y is 0, and x is 1:
-- `(bind x 1 (ret #1) (bind y 1 (ret #0) (ret y)))`
-- `(bind x 1 (ret #1) (ret x))`
abbrev pub again_of_another_part : Pair
again_of_another_part = record {
  left = binding 1 returning_one (binding 1 returning_zero (returning x0));
  right = binding 1 returning_one (returning x0);
}

-- two fair bits differ on half of the tapes, and a bit never from itself:
-- `(bind x 1 (flip 1) (bind y 1 (flip 1) (ret (xor x y))))`
-- `(bind x 1 (flip 1) (ret (xor x x)))`
abbrev pub again_of_a_flip : Pair
again_of_a_flip = record {
  left = binding 1 coin (binding 1 coin (returning (exclusive (variable 1) x0)));
  right = binding 1 coin (returning (exclusive x0 x0));
}

-- the second arm, and the first one, of a test that is 0:
-- `(if #0 (ret #1) (ret #0))`
-- `(ret #1)`
abbrev pub ifsame_of_other_arms : Pair
ifsame_of_other_arms = record {
  left = branching (literal zero_bit) returning_one returning_zero;
  right = returning_one;
}

-- ---- fair bits

-- a fair bit, which with itself added is always 0:
-- `(bind x 1 (flip 1) (ret x))`
-- `(bind x 1 (flip 1) (ret (xor x x)))`
abbrev pub mask_of_itself : Pair
mask_of_itself = record {
  left = binding 1 coin (returning x0);
  right = binding 1 coin (returning (exclusive x0 x0));
}

-- a fair bit, and what the symbol f, which is symbol 0, makes of it:
-- `(bind x 1 (flip 1) (ret x))`
-- `(bind x 1 (flip 1) (ret (f x)))`
abbrev pub perm_of_a_bit : Pair
perm_of_a_bit = record {
  left = binding 1 coin (returning x0);
  right = binding 1 coin (returning (application 0 x0));
}

-- the first bit of a fair bit, and that of what f makes of it:
-- `(bind x 1 (flip 1) (ret (cut 0 1 x)))`
-- `(bind x 1 (flip 1) (ret (cut 0 1 (f x))))`
abbrev pub perm_of_a_first_bit : Pair
perm_of_a_first_bit = record {
  left = binding 1 coin (returning (segment 0 1 x0));
  right = binding 1 coin (returning (segment 0 1 (application 0 x0)));
}

-- an abstract symbol from one bit to one
abbrev pub abstract_symbol : SymbolShape
abstract_symbol = record { from = 1; to = 1; values = None }

-- the table that makes 0 of both bits
abbrev pub constant_table : SymbolShape
constant_table = record { from = 1; to = 1; values = Some (zero_bit ∷ zero_bit ∷ []) }

-- the table that puts a 0 in front of the bit
abbrev pub widened_bits : List Value
widened_bits = (false ∷ false ∷ []) ∷ (false ∷ true ∷ []) ∷ []

abbrev pub widening_table : SymbolShape
widening_table = record { from = 1; to = 2; values = Some widened_bits }
