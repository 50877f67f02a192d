-- What a rule asks of a protocol that has its left shape, and what it answers: the first side condition that fails, or the
-- right side.
use Rattle.std.specs.Prelude.{ℕ, suc, not, Bool, true, false, ◌&&◌, List, [], ◌∷◌, Option, Some, None, nat_eq, if◌then◌else◌}
use Rattle.std.specs.List.{list_all}
use Rattle.ipdl_rules_p.specs.Instances.{reaction_with}
use Rattle.ipdl_rules_p.specs.ReadPlaces.{read_count}
use Rattle.ipdl_term.specs.Channels.{same_channel, has, reads, must_reads, outputs, free_channels}
use Rattle.ipdl_term.specs.Places.{term_at}
use Rattle.ipdl_term.specs.Renaming.{occurs, renaming_one, renamed}
use Rattle.ipdl_term.specs.Rewriting.{lowered_reaction}
use Rattle.ipdl_term.specs.Rules.{Rule}
use Rattle.ipdl_term.specs.Rules as R
use Rattle.ipdl_term.specs.Terms.{Channel, Reaction, reading, binding, Protocol, nil, assignment, parallel, hiding, Term, reaction_term}
use Rattle.ipdl_term.specs.Variables.{reaction_uses, has_flip, lifted_reaction}

-- ---- tests

-- whether the term at a place is there and a `read` of the channel
abbrev pub is_read_of : Channel → Option Term → Bool
is_read_of c (Some (reaction_term (reading d))) = same_channel d c
is_read_of c _ = false

-- whether the channel is read at the place
abbrev pub is_read_at : Channel → Reaction → (place : List ℕ) → Bool
is_read_at c k place = is_read_of c (term_at (reaction_term k) place)

-- whether the set has no channel
abbrev pub is_empty : List Channel → Bool
is_empty [] = true
is_empty (c ∷ cs) = false

-- whether each channel of the first set is in the second
abbrev pub is_within : List Channel → List Channel → Bool
is_within cs ds = list_all (has ds) cs

-- ---- left sides

-- the side conditions of the rule in their order, each true where it holds, and the right side
pub record Matched : Type 0 where
  pub sides : List Bool
  pub right : Protocol

abbrev with_sides : List Bool → Protocol → Option Matched
with_sides sides right = Some (record { sides = sides; right = right })

-- a left shape of which a part is a test
abbrev pub if_shape : Bool → Option Matched → Option Matched
if_shape has_shape matched = if has_shape then matched else None

-- none where the protocol has not the left shape of the rule
abbrev pub matched : Rule → Protocol → Option Matched
matched R.comm (parallel p q) = with_sides [] (parallel q p)
matched R.assocl (parallel p (parallel q r)) = with_sides [] (parallel (parallel p q) r)
matched R.assocr (parallel (parallel p q) r) = with_sides [] (parallel p (parallel q r))
matched R.unit (parallel p nil) = with_sides [] p
matched R.newswap (hiding c v (hiding d w p)) = with_sides (not (same_channel c d) ∷ []) (hiding d w (hiding c v p))
matched R.scope (parallel p (hiding c w q)) = with_sides (not (has (free_channels p) c) ∷ []) (hiding c w (parallel p q))
matched (R.rename d) (hiding c w p) = with_sides (not (occurs d p) ∷ []) (hiding d w (renamed (renaming_one c d) p))
matched R.absorb (parallel p q) = with_sides (is_empty (outputs q) ∷ []) p
matched (R.fold place) (hiding c w (parallel (assignment o k) (assignment d r))) =
    if_shape (same_channel d c && (not (same_channel o c) && is_read_at c k place))
    (with_sides (nat_eq (read_count c k) 1 ∷ not (has (reads r) c) ∷ []) (assignment o (reaction_with k place r)))
matched (R.subst place) (parallel (assignment a r) (assignment b k)) =
    if_shape (not (same_channel a b) && is_read_at a k place)
    (with_sides (not (has_flip r) ∷ []) (parallel (assignment a r) (assignment b (reaction_with k place r))))
matched R.drop (parallel (assignment a r) (assignment b (binding w (reading e) s))) =
    if_shape (same_channel e a && not (same_channel a b))
    (with_sides (not (reaction_uses s 0) ∷ is_within (reads r) (must_reads s) ∷ [])
    (parallel (assignment a r) (assignment b (lowered_reaction s))))
matched (R.subsume c w) (parallel (assignment a r) (assignment b s)) =
    if_shape (not (same_channel a b))
    (with_sides (has (must_reads s) a ∷ has (must_reads r) c ∷ [])
    (parallel (assignment a r) (assignment b (binding w (reading c) (lifted_reaction s 0 1)))))
matched R.diverge (assignment a r) = with_sides (has (must_reads r) a ∷ []) (assignment a (reading a))
matched _ _ = None

-- ---- answers

pub data Answer : Type 0 where
  -- the protocol has not the left shape
  other_shape : Answer
  -- the side condition of this number is the first that fails
  failing : (number : ℕ) → Answer
  -- all hold, and this is the right side
  gives : (right : Protocol) → Answer

-- the first of the side conditions that fails, counted on from a number
abbrev pub after_sides : ℕ → List Bool → Protocol → Answer
after_sides number [] right = gives right
after_sides number (true ∷ sides) right = after_sides (suc number) sides right
after_sides number (false ∷ sides) right = failing number

abbrev pub answer_of : Option Matched → Answer
answer_of None = other_shape
answer_of (Some m) = after_sides 1 m.sides m.right

-- what the rule answers to a protocol
abbrev pub answer : Rule → Protocol → Answer
answer rule left = answer_of (matched rule left)
