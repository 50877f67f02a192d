-- The laws of terms whose nodes are counted from 0 on, as steps and items have them.
use Rattle.std.proofs.Common.{◌≡◌, ℕ, ◌≤◌, [], arith}
use Rattle.std.specs.Prelude.{Some, None}
use Rattle.ipdl_term.specs.Sizes.{reaction_nodes, protocol_nodes, most_nodes}
use Rattle.ipdl_term.specs.Terms.{Expression, Reaction, Protocol}
use Rattle.ipdl_tree.specs.Trees.{Located}
use Rattle.ipdl_forms.specs.Counts.{counted, IsWithinNodes}
use Rattle.ipdl_forms.specs.Expressions.{SpellsExpression, expression_faults}
use Rattle.ipdl_forms.specs.Protocols.{SpellsProtocol, protocol_faults}
use Rattle.ipdl_forms.specs.Reactions.{SpellsReaction, reaction_faults}
use Rattle.ipdl_forms.specs.Scopes.{NameScope}
use Rattle.ipdl_forms.proofs.Clean.{expression_faults-clean}
use Rattle.ipdl_forms.proofs.CleanProtocols.{protocol_faults-clean}
use Rattle.ipdl_forms.proofs.CleanReactions.{reaction_faults-clean}
use Rattle.ipdl_forms.proofs.Fits.{reaction_nodes-fit, protocol_nodes-fit}

-- nodes that are counted from 0 on
pub nodes_counted : (n : ℕ) → n ≤ most_nodes → IsWithinNodes (counted n (Some 0))
nodes_counted n few = omega arith

counted_nodes : (n : ℕ) → IsWithinNodes (counted n (Some 0)) → n ≤ most_nodes
counted_nodes n fits = omega arith

pub clean_expression : (scope : NameScope) (e : Expression) (t : Located) → SpellsExpression scope e t → expression_faults scope None t ≡ []
clean_expression scope e t is = expression_faults-clean scope e None t is tt

pub clean_reaction : (scope : NameScope) (r : Reaction) (t : Located) → SpellsReaction scope r t → reaction_nodes r ≤ most_nodes → reaction_faults scope (Some 0) t ≡ []
clean_reaction scope r t is few = reaction_faults-clean scope r (Some 0) t is (nodes_counted (reaction_nodes r) few)

pub clean_protocol : (scope : NameScope) (p : Protocol) (t : Located) → SpellsProtocol scope p t → protocol_nodes p ≤ most_nodes → protocol_faults scope (Some 0) t ≡ []
clean_protocol scope p t is few = protocol_faults-clean scope p (Some 0) t is (nodes_counted (protocol_nodes p) few)

pub nodes_reaction : (scope : NameScope) (r : Reaction) (t : Located) → SpellsReaction scope r t → reaction_faults scope (Some 0) t ≡ [] → reaction_nodes r ≤ most_nodes
nodes_reaction scope r t is clean = counted_nodes (reaction_nodes r) (reaction_nodes-fit scope r (Some 0) t is clean)

pub nodes_protocol : (scope : NameScope) (p : Protocol) (t : Located) → SpellsProtocol scope p t → protocol_faults scope (Some 0) t ≡ [] → protocol_nodes p ≤ most_nodes
nodes_protocol scope p t is clean = counted_nodes (protocol_nodes p) (protocol_nodes-fit scope p (Some 0) t is clean)
