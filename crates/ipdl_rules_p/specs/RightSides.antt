-- The protocols that the right sides of the program stand for, before they are made, and which of them have room.
use Rattle.std.specs.Prelude.{◌+◌, ◌^◌, ◌<◌}
use Rattle.ipdl_rules_p.specs.Instances.{reaction_with}
use Rattle.ipdl_rules_p.specs.declared.new_react.NewReact.{NewReact}
use Rattle.ipdl_rules_p.specs.declared.new_react.NewReact.TheVariants as N
use Rattle.ipdl_rules_p.specs.declared.right_side.RightSide.{RightSide, Par', Hide'}
use Rattle.ipdl_rules_p.specs.declared.right_side.RightSide.TheVariants.{Part, Renamed, Out}
use Rattle.ipdl_term.specs.Renaming.{renaming_one, renamed}
use Rattle.ipdl_term.specs.Rewriting.{lowered_reaction}
use Rattle.ipdl_term.specs.Sizes.{reaction_binders, greatest_in_reaction}
use Rattle.ipdl_term.specs.Terms.{Reaction, reading, binding, Protocol, assignment, parallel, hiding}
use Rattle.ipdl_term.specs.Variables.{lifted_reaction}
use Rattle.ipdl_term.specs.Views.{reaction_of, protocol_of}

abbrev pub new_reaction_of : NewReact → Reaction
new_reaction_of (N.Part r) = reaction_of r.now
new_reaction_of (N.Filled k place r) = reaction_with (reaction_of k.now) place.now (reaction_of r.now)
new_reaction_of (N.Lowered r) = lowered_reaction (reaction_of r.now)
new_reaction_of (N.After c w r) = binding w (reading c.now) (lifted_reaction (reaction_of r.now) 0 1)
new_reaction_of (N.Read c) = reading c.now

-- A reference to another right side comes as its pointer and then its value.
abbrev pub right_side_of : RightSide → Protocol
right_side_of (Part p) = protocol_of p.now
right_side_of (Renamed p c d) = renamed (renaming_one c.now d.now) (protocol_of p.now)
right_side_of (Out c r) = assignment c.now (new_reaction_of r)
right_side_of (Par' _ p _ q) = parallel (right_side_of p) (right_side_of q)
right_side_of (Hide' c w _ p) = hiding c.now w (right_side_of p)

-- ---- room for the numbers of variables

abbrev pub ReactionFits : NewReact → Type 0
ReactionFits (N.Lowered r) = greatest_in_reaction (reaction_of r.now) + reaction_binders (reaction_of r.now) < 2 ^ 32
ReactionFits (N.After c w r) = greatest_in_reaction (reaction_of r.now) + 1 < 2 ^ 32
ReactionFits _ = Unit {0}

abbrev pub Fits : RightSide → Type 0
Fits (Part p) = Unit {0}
Fits (Renamed p c d) = Unit {0}
Fits (Out c r) = ReactionFits r
Fits (Par' _ p _ q) = Fits p × Fits q
Fits (Hide' c w _ p) = Fits p
