-- What a rule asks of a reaction that has its left shape, and what it answers: the first side condition that fails, or the
-- right side.
use Rattle.std.specs.Prelude.{ℕ, zero, suc, ◌+◌, not, Bool, true, false, ◌&&◌, List, [], ◌∷◌, Option, Some, None, is_some, nat_eq, nat_le, if◌then◌else◌}
use Rattle.ipdl_rules_r.specs.Tables.{table_on, all_different}
use Rattle.ipdl_term.specs.Interpretations.{Signature}
use Rattle.ipdl_term.specs.Rewriting.{lowered_reaction, exchanged_reaction, replaced_reaction, joined_reaction}
use Rattle.ipdl_term.specs.Rules.{Rule}
use Rattle.ipdl_term.specs.Rules as R
use Rattle.ipdl_term.specs.Same.{same_reaction}
use Rattle.ipdl_term.specs.Terms.{Value, literal, variable, application, exclusive, Reaction, returning, flipping, branching, binding}
use Rattle.ipdl_term.specs.Variables.{expression_uses, reaction_uses, has_flip, has_read, lifted_reaction, put_reaction}

-- the side conditions of the rule in their order, each true where it holds, and the right side
pub record Matched : Type 0 where
  pub sides : List Bool
  pub right : Reaction

abbrev with_sides : List Bool → Reaction → Option Matched
with_sides sides right = Some (record { sides = sides; right = right })

-- the left shape has one number at two places
abbrev if_same : (one other : ℕ) → Option Matched → Option Matched
if_same v w matched = if nat_eq v w then matched else None

-- the values of a table, where there is one, are all different
abbrev pub all_different_in : Option (List Value) → Bool
all_different_in None = false
all_different_in (Some values) = all_different values

-- none where the reaction has not the left shape of the rule
abbrev pub matched : Signature → Rule → Reaction → Option Matched
matched sig R.beta (binding w (returning e) s) = with_sides [] (put_reaction 0 s e)
matched sig R.eta (binding w r (returning (variable zero))) = with_sides [] r
matched sig R.assoc (binding w (binding v r s) t) = with_sides [] (binding v r (binding w s (lifted_reaction t 1 1)))
matched sig R.swap (binding v r (binding w s t)) =
    with_sides (not (reaction_uses s 0) ∷ [])
    (binding w (lowered_reaction s) (binding v (lifted_reaction r 0 1) (exchanged_reaction t)))
matched sig R.dropr (binding w r s) = with_sides (not (reaction_uses s 0) ∷ not (has_read r) ∷ []) (lowered_reaction s)
matched sig R.again (binding v r (binding w q t)) =
    with_sides (not (reaction_uses q 0) ∷ (nat_eq v w && same_reaction (lowered_reaction q) r) ∷ not (has_flip r) ∷ [])
    (binding v r (put_reaction 0 t (variable 0)))
matched sig R.iftrue (branching (literal (true ∷ [])) r s) = with_sides [] r
matched sig R.iffalse (branching (literal (false ∷ [])) r s) = with_sides [] s
matched sig R.ifsame (branching e r s) = with_sides (same_reaction r s ∷ []) r
matched sig R.ifbind (binding w (branching e r s) t) = with_sides [] (branching e (binding w r t) (binding w s t))
matched sig (R.mask e) (binding w (flipping v) s) =
    if_same w v (with_sides (not (expression_uses e 0) ∷ [])
    (binding w (flipping w) (replaced_reaction s (exclusive (variable 0) e))))
matched sig (R.perm f) (binding w (flipping v) s) =
    if_same w v (with_sides (is_some (table_on sig f w) ∷ all_different_in (table_on sig f w) ∷ [])
    (binding w (flipping w) (replaced_reaction s (application f (variable 0)))))
matched sig R.join (binding v (flipping n) (binding w (flipping m) s)) =
    if_same v n (if_same w m (with_sides (nat_le (v + w) 128 ∷ [])
    (binding (v + w) (flipping (v + w)) (joined_reaction v w s))))
matched sig R.flip0 (flipping zero) = with_sides [] (returning (literal []))
matched _ _ _ = None

-- ---- answers

pub data Answer : Type 0 where
  -- the reaction has not the left shape
  other_shape : Answer
  -- the side condition of this number is the first that fails
  failing : (number : ℕ) → Answer
  -- all hold, and this is the right side
  gives : (right : Reaction) → Answer

-- the first of the side conditions that fails, counted on from a number
abbrev pub after_sides : ℕ → List Bool → Reaction → Answer
after_sides number [] right = gives right
after_sides number (true ∷ sides) right = after_sides (suc number) sides right
after_sides number (false ∷ sides) right = failing number

abbrev pub answer_of : Option Matched → Answer
answer_of None = other_shape
answer_of (Some m) = after_sides 1 m.sides m.right

-- what the rule answers to a reaction
abbrev pub answer : Signature → Rule → Reaction → Answer
answer sig rule left = answer_of (matched sig rule left)
