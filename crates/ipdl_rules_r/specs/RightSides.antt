-- The reactions that the right sides of the program stand for, before they are made, and which of them have room.
use Rattle.std.specs.Prelude.{◌+◌, ◌^◌, ◌<◌, max, []}
use Rattle.ipdl_rules_r.specs.declared.right_side.NewValue.{NewValue}
use Rattle.ipdl_rules_r.specs.declared.right_side.NewValue.TheVariants as N
use Rattle.ipdl_rules_r.specs.declared.right_side.RightSide.{RightSide}
use Rattle.ipdl_rules_r.specs.declared.right_side.RightSide.TheVariants as S
use Rattle.ipdl_term.specs.Rewriting.{lowered_reaction, exchanged_reaction, replaced_reaction, joined_reaction}
use Rattle.ipdl_term.specs.Sizes.{reaction_binders, greatest_in_expression, greatest_in_reaction}
use Rattle.ipdl_term.specs.Terms.{Expression, literal, variable, application, exclusive, segment, Reaction, flipping, branching, binding}
use Rattle.ipdl_term.specs.Variables.{lifted_reaction, put_reaction}
use Rattle.ipdl_term.specs.Views.{expression_of, reaction_of}

-- the expression that comes to stand for a variable
abbrev pub new_value_of : NewValue → Expression
new_value_of (N.Part e) = expression_of e.now
new_value_of (N.Var n) = variable n
new_value_of (N.Masked e) = exclusive (variable 0) (expression_of e.now)
new_value_of (N.Mapped f) = application f (variable 0)
new_value_of (N.Cut i n x) = segment i n (variable x)
new_value_of N.NoBits = literal []

-- A reference to another right side comes as its pointer and then its value.
abbrev pub right_side_of : RightSide → Reaction
right_side_of (S.Part r) = reaction_of r.now
right_side_of (S.Lifted r from) = lifted_reaction (reaction_of r.now) from 1
right_side_of (S.Lowered r) = lowered_reaction (reaction_of r.now)
right_side_of (S.Exchanged r) = exchanged_reaction (reaction_of r.now)
right_side_of (S.Put r v) = put_reaction 0 (reaction_of r.now) (new_value_of v)
right_side_of (S.Replaced r v) = replaced_reaction (reaction_of r.now) (new_value_of v)
right_side_of (S.Joined v w r) = joined_reaction v w (reaction_of r.now)
right_side_of (S.Flip w) = flipping w
right_side_of (S.Cond' e _ r _ s) = branching (expression_of e.now) (right_side_of r) (right_side_of s)
right_side_of (S.Bind' w _ r _ s) = binding w (right_side_of r) (right_side_of s)

-- ---- room for the numbers of variables

-- the numbers of the variables of both have 32 bits, also under all binders of the reaction
abbrev pub FitsPut : Reaction → Expression → Type 0
FitsPut r v = max (greatest_in_reaction r) (greatest_in_expression v) + reaction_binders r < 2 ^ 32

-- the same, and under two more
abbrev pub FitsWith : Reaction → Expression → Type 0
FitsWith r v = max (greatest_in_reaction r) (greatest_in_expression v) + reaction_binders r + 2 < 2 ^ 32

abbrev pub Fits : RightSide → Type 0
Fits (S.Part r) = Unit {0}
Fits (S.Lifted r from) = FitsWith (reaction_of r.now) (literal [])
Fits (S.Lowered r) = FitsWith (reaction_of r.now) (literal [])
Fits (S.Exchanged r) = FitsWith (reaction_of r.now) (variable 1)
Fits (S.Put r v) = FitsWith (reaction_of r.now) (new_value_of v)
Fits (S.Replaced r v) = FitsWith (reaction_of r.now) (new_value_of v)
Fits (S.Joined v w r) = FitsWith (reaction_of r.now) (variable 1)
Fits (S.Flip w) = Unit {0}
Fits (S.Cond' e _ r _ s) = Fits r × Fits s
Fits (S.Bind' w _ r _ s) = Fits r × Fits s
