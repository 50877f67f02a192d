-- What a call for one rule says, in the words of the rule's answer.
use Rattle.std.specs.Prelude.{◌≡◌, ◌<◌, ◌≤◌, Result, Ok, Err}
use Rattle.ipdl_rules_r.specs.Matching.{Answer, other_shape, failing, gives}
use Rattle.ipdl_rules_r.specs.declared.fault.RuleFault.{RuleFault}
use Rattle.ipdl_rules_r.specs.declared.fault.RuleFault.TheVariants.{NoMatch, Side, Nodes, Memory}
use Rattle.ipdl_term.specs.Sizes.{most_nodes, reaction_nodes}
use Rattle.ipdl_term.specs.Terms.{Reaction}
use Rattle.ipdl_term.specs.Views.{reaction_of}
use Rattle.ipdl_term.specs.declared.reaction.React.{React}

-- the answer is a right side that is not too large
pub record GivesWithin (answer : Answer) (right : Reaction) : Type 0 where
  pub given : answer ≡ gives right
  pub within : reaction_nodes right ≤ most_nodes

-- A new reaction, or the fault of the answer. Memory runs out only where there is a right side to be made.
abbrev pub Answers : Result React RuleFault → Answer → Type 0
Answers (Ok new) answer = GivesWithin answer (reaction_of new)
Answers (Err NoMatch) answer = answer ≡ other_shape
Answers (Err (Side k)) answer = answer ≡ failing k
Answers (Err Nodes) answer = (right : Reaction) × (answer ≡ gives right) × (most_nodes < reaction_nodes right)
Answers (Err Memory) answer = (right : Reaction) × GivesWithin answer right
