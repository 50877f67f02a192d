-- Reactions with a hole in them.
use Rattle.std.specs.Prelude.{◌≡◌, ℕ, Bool, false, List, [], ◌∷◌, Option}
use Rattle.ipdl_term.specs.Channels.{union, reads}
use Rattle.ipdl_term.specs.Interpretations.{Interpretation, evaluation, chosen}
use Rattle.ipdl_term.specs.Reactions.{Outcome, with_tape, continued, reaction_outcome}
use Rattle.ipdl_term.specs.Terms.{Value, Channel, Expression, Reaction, branching, binding}
use Rattle.ipdl_term.specs.Valuations.{Valuation}
use Rattle.ipdl_term.specs.Variables.{reaction_uses}

-- a reaction with one hole in it
pub data ReactionContext : Type 0 where
  reaction_hole : ReactionContext
  in_then : Expression → ReactionContext → Reaction → ReactionContext
  in_else : Expression → Reaction → ReactionContext → ReactionContext
  in_first : (width : ℕ) → ReactionContext → Reaction → ReactionContext
  in_second : (width : ℕ) → Reaction → ReactionContext → ReactionContext

-- the reaction in the hole, its variables being those of the hole
abbrev pub filled : ReactionContext → Reaction → Reaction
filled reaction_hole r = r
filled (in_then e C s) r = branching e (filled C r) s
filled (in_else e s C) r = branching e s (filled C r)
filled (in_first w C s) r = binding w (filled C r) s
filled (in_second w s C) r = binding w s (filled C r)

-- the channels that are read outside of the hole
abbrev pub context_reads : ReactionContext → List Channel
context_reads reaction_hole = []
context_reads (in_then e C s) = union (context_reads C) (reads s)
context_reads (in_else e s C) = union (reads s) (context_reads C)
context_reads (in_first w C s) = union (context_reads C) (reads s)
context_reads (in_second w s C) = union (reads s) (context_reads C)

-- what the reaction does where this value stands in the hole, or where it is stuck there
abbrev pub outcome_with : Interpretation → ReactionContext → Option Value → List Value → Valuation → List Bool → Outcome
outcome_with J reaction_hole o env inputs tape = with_tape o tape
outcome_with J (in_then e C s) o env inputs tape =
    let other = reaction_outcome J s env inputs tape in
    chosen (evaluation J env e) (outcome_with J C o env inputs tape) other other
outcome_with J (in_else e s C) o env inputs tape =
    let here = outcome_with J C o env inputs tape in
    chosen (evaluation J env e) (reaction_outcome J s env inputs tape) here here
outcome_with J (in_first w C s) o env inputs tape =
    continued (outcome_with J C o env inputs tape) (λ v rest. reaction_outcome J s (v ∷ env) inputs rest)
outcome_with J (in_second w s C) o env inputs tape =
    continued (reaction_outcome J s env inputs tape) (λ v rest. outcome_with J C o (v ∷ env) inputs rest)

-- no variable of a binder outside occurs
abbrev pub IsClosed : Reaction → Type 0
IsClosed r = (n : ℕ) → reaction_uses r n ≡ false
