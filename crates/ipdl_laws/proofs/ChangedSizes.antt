-- How many nodes a reaction has whose variables are changed, and when they have room to grow.
use Rattle.std.proofs.Common.{◌≡◌, ℕ, suc, ◌+◌, ◌^◌, ◌<◌, [], refl, ap, ◌∙◌, arith}
use Rattle.ipdl_laws.proofs.Numbering.{by_order, put-near, put-here, put-behind}
use Rattle.ipdl_term.proofs.FittingLemmas.{LiftFitsInExpression-greatest}
use Rattle.ipdl_term.proofs.SizeLemmas.{expression_nodes-lifted}
use Rattle.ipdl_term.specs.Fitting.{LiftFitsInReaction}
use Rattle.ipdl_term.specs.Rewriting.{lowered_reaction}
use Rattle.ipdl_term.specs.Sizes.{expression_nodes, reaction_nodes, greatest_in_reaction}
use Rattle.ipdl_term.specs.Terms.{Expression, literal, variable, outer, application, exclusive, conjunction, negation, concatenation, segment, equality, selection, Reaction, returning, flipping, reading, branching, binding}
use Rattle.ipdl_term.specs.Variables.{lifted_reaction, put_number, put_expression, put_reaction}

-- ---- lifting

pub lifted_reaction-nodes : (from by : ℕ) (r : Reaction) → reaction_nodes (lifted_reaction r from by) ≡ reaction_nodes r
lifted_reaction-nodes from by (returning e) = rw (expression_nodes-lifted e from by)
lifted_reaction-nodes from by (flipping w) = refl
lifted_reaction-nodes from by (reading c) = refl
lifted_reaction-nodes from by (branching e r s) = rw (expression_nodes-lifted e from by, lifted_reaction-nodes from by r, lifted_reaction-nodes from by s)
lifted_reaction-nodes from by (binding w r s) = rw (lifted_reaction-nodes from by r, lifted_reaction-nodes (suc from) by s)

-- where the greatest number has room for the growth, each has
pub LiftFitsInReaction-greatest : (r : Reaction) (from by : ℕ) → greatest_in_reaction r + by < 2 ^ 32 → LiftFitsInReaction r from by
LiftFitsInReaction-greatest (returning e) from by room = LiftFitsInExpression-greatest e from by room
LiftFitsInReaction-greatest (flipping w) from by room = tt
LiftFitsInReaction-greatest (reading c) from by room = tt
LiftFitsInReaction-greatest (branching e r s) from by room =
    (LiftFitsInExpression-greatest e from by (omega arith), LiftFitsInReaction-greatest r from by (omega arith), LiftFitsInReaction-greatest s from by (omega arith))
LiftFitsInReaction-greatest (binding w r s) from by room =
    (LiftFitsInReaction-greatest r from by (omega arith), LiftFitsInReaction-greatest s (suc from) by (omega arith))

-- ---- a value of one node in the place of a variable

module _ (v : Expression) (one : expression_nodes v ≡ 1) where
  put_number-same_nodes : (d n : ℕ) → expression_nodes (put_number d v n) ≡ 1
  put_number-same_nodes d n = by_order n d
      (λ l. ap expression_nodes (put-near d v n l))
      (λ e. ap expression_nodes (put-here d v n e) ∙ expression_nodes-lifted v 0 d ∙ one)
      (λ l. ap expression_nodes (put-behind d v n l))

  put_expression-same_nodes : (d : ℕ) (e : Expression) → expression_nodes (put_expression d e v) ≡ expression_nodes e
  put_expression-same_nodes d (literal bits) = refl
  put_expression-same_nodes d (variable n) = put_number-same_nodes d n
  put_expression-same_nodes d (outer n) = refl
  put_expression-same_nodes d (application f e) = rw (put_expression-same_nodes d e)
  put_expression-same_nodes d (exclusive a b) = rw (put_expression-same_nodes d a, put_expression-same_nodes d b)
  put_expression-same_nodes d (conjunction a b) = rw (put_expression-same_nodes d a, put_expression-same_nodes d b)
  put_expression-same_nodes d (negation a) = rw (put_expression-same_nodes d a)
  put_expression-same_nodes d (concatenation a b) = rw (put_expression-same_nodes d a, put_expression-same_nodes d b)
  put_expression-same_nodes d (segment i m a) = rw (put_expression-same_nodes d a)
  put_expression-same_nodes d (equality a b) = rw (put_expression-same_nodes d a, put_expression-same_nodes d b)
  put_expression-same_nodes d (selection c a b) = rw (put_expression-same_nodes d c, put_expression-same_nodes d a, put_expression-same_nodes d b)

  pub put_reaction-same_nodes : (d : ℕ) (r : Reaction) → reaction_nodes (put_reaction d r v) ≡ reaction_nodes r
  put_reaction-same_nodes d (returning e) = rw (put_expression-same_nodes d e)
  put_reaction-same_nodes d (flipping w) = refl
  put_reaction-same_nodes d (reading c) = refl
  put_reaction-same_nodes d (branching e r s) = rw (put_expression-same_nodes d e, put_reaction-same_nodes d r, put_reaction-same_nodes d s)
  put_reaction-same_nodes d (binding w r s) = rw (put_reaction-same_nodes d r, put_reaction-same_nodes (suc d) s)

pub lowered_reaction-nodes : (r : Reaction) → reaction_nodes (lowered_reaction r) ≡ reaction_nodes r
lowered_reaction-nodes r = put_reaction-same_nodes (literal []) refl 0 r
