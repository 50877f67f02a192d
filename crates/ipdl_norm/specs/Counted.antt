-- What the calls on the way to a tidy form answer.
use Rattle.std.specs.Prelude.{◌≡◌, ◌<◌, ◌≤◌, Result, Ok, Err}
use Rattle.ipdl_norm.specs.declared.tidying.Counted.{Counted}
use Rattle.ipdl_term.specs.Sizes.{most_nodes, reaction_nodes}
use Rattle.ipdl_term.specs.Terms.{Reaction}
use Rattle.ipdl_term.specs.Views.{reaction_of}
use Rattle.ipdl_term.specs.declared.put.TermFault.{TermFault}
use Rattle.ipdl_term.specs.declared.put.TermFault.TheVariants.{Nodes, Memory}

-- the count is right, and not too large
pub record IsCounted (c : Counted) : Type 0 where
  pub counted : c.nodes ≡ reaction_nodes (reaction_of c.reaction)
  pub within : c.nodes ≤ most_nodes

-- the reaction, or that it is too large; memory may run out
abbrev pub Makes : Result Counted TermFault → Reaction → Type 0
Makes (Ok made) r = (reaction_of made.reaction ≡ r) × IsCounted made
Makes (Err Nodes) r = most_nodes < reaction_nodes r
Makes (Err Memory) r = Unit {0}
