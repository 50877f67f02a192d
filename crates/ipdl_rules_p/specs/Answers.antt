-- What a call for one rule says, in the words of the rule's answer.
use Rattle.std.specs.Prelude.{◌≡◌, ◌⊎◌, ◌<◌, ◌≤◌, Result, Ok, Err}
use Rattle.ipdl_rules_p.specs.Matching.{Answer, other_shape, failing, gives}
use Rattle.ipdl_rules_p.specs.declared.fault.RuleFault.{RuleFault}
use Rattle.ipdl_rules_p.specs.declared.fault.RuleFault.TheVariants.{NoMatch, Side, Nodes, Memory}
use Rattle.ipdl_term.specs.Sizes.{most_nodes, protocol_nodes}
use Rattle.ipdl_term.specs.Terms.{Protocol}
use Rattle.ipdl_term.specs.Views.{protocol_of}
use Rattle.ipdl_term.specs.declared.protocol.Proto.{Proto}

-- the answer is a right side that is not too large
pub record GivesWithin (answer : Answer) (right : Protocol) : Type 0 where
  pub given : answer ≡ gives right
  pub within : protocol_nodes right ≤ most_nodes

-- A new protocol, or the fault of the answer. Memory may run out at any answer: sets of names take some.
abbrev pub Answers : Result Proto RuleFault → Answer → Type 0
Answers (Ok new) answer = GivesWithin answer (protocol_of new)
Answers (Err NoMatch) answer = answer ≡ other_shape
Answers (Err (Side k)) answer = answer ≡ failing k
Answers (Err Nodes) answer = (right : Protocol) × (answer ≡ gives right) × (most_nodes < protocol_nodes right)
Answers (Err Memory) answer = Unit {0}

-- the fault is told exactly where the fact holds, unless memory ran out
abbrev pub IsToldWhere : Result Proto RuleFault → RuleFault → (fact : Type 0) → Type 0
IsToldWhere result fault fact = (result ≡ Err fault → fact) × (fact → (result ≡ Err fault) ⊎ (result ≡ Err Memory))
