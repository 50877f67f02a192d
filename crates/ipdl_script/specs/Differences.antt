-- Where two terms differ first: at a place where both have a part, these differ in their heads, and no place before it in
-- preorder is such a one.
use Rattle.std.specs.Prelude.{◌≡◌, ◌≢◌, ℕ, ◌<◌, ◌⊎◌, List, [], ◌∷◌, Some}
use Rattle.ipdl_term.specs.Places.{term_at}
use Rattle.ipdl_term.specs.Terms.{Expression, literal, variable, outer, application, exclusive, conjunction, negation, concatenation, segment, equality, selection, Reaction, returning, flipping, reading, branching, binding, nil, assignment, parallel, hiding, Term, protocol_term, reaction_term, expression_term}

abbrev empty : Expression
empty = literal []

abbrev still : Reaction
still = flipping 0

-- the head of a term, with its names and numbers: the same one for all children
abbrev pub head_of : Term → Term
head_of (expression_term (literal bits)) = expression_term (literal bits)
head_of (expression_term (variable n)) = expression_term (variable n)
head_of (expression_term (outer n)) = expression_term (outer n)
head_of (expression_term (application f a)) = expression_term (application f empty)
head_of (expression_term (exclusive a b)) = expression_term (exclusive empty empty)
head_of (expression_term (conjunction a b)) = expression_term (conjunction empty empty)
head_of (expression_term (negation a)) = expression_term (negation empty)
head_of (expression_term (concatenation a b)) = expression_term (concatenation empty empty)
head_of (expression_term (segment i n a)) = expression_term (segment i n empty)
head_of (expression_term (equality a b)) = expression_term (equality empty empty)
head_of (expression_term (selection c a b)) = expression_term (selection empty empty empty)
head_of (reaction_term (returning e)) = reaction_term (returning empty)
head_of (reaction_term (flipping w)) = reaction_term (flipping w)
head_of (reaction_term (reading c)) = reaction_term (reading c)
head_of (reaction_term (branching e r s)) = reaction_term (branching empty still still)
head_of (reaction_term (binding w r s)) = reaction_term (binding w still still)
head_of (protocol_term nil) = protocol_term nil
head_of (protocol_term (assignment c r)) = protocol_term (assignment c still)
head_of (protocol_term (parallel p q)) = protocol_term (parallel nil nil)
head_of (protocol_term (hiding c w p)) = protocol_term (hiding c w nil)

-- both have a part at the place, and these differ in head, name or number
pub record DifferAt (t u : Term) (place : List ℕ) : Type 0 where
  pub left : Term
  pub right : Term
  pub in_left : term_at t place ≡ Some left
  pub in_right : term_at u place ≡ Some right
  pub heads : head_of left ≢ head_of right

-- the first place comes before the second in preorder: it is above it, or in an earlier child
abbrev pub IsBefore : List ℕ → List ℕ → Type 0
IsBefore place [] = ⊥
IsBefore [] (n ∷ place) = Unit {0}
IsBefore (m ∷ earlier) (n ∷ place) = (m < n) ⊎ ((m ≡ n) × IsBefore earlier place)

-- they differ there, and at no place before
pub record DifferFirstAt (t u : Term) (place : List ℕ) : Type 0 where
  pub differ : DifferAt t u place
  pub first : (earlier : List ℕ) → IsBefore earlier place → DifferAt t u earlier → ⊥
