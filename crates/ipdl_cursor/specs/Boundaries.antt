-- What is entered on the way to a place: hidden channels, binders and arms of an `if`. The loops go over these.
use Rattle.std.specs.Prelude.{ℕ, zero, suc, Bool, true, false, List, [], ◌∷◌, Option, Some, None, length, max}
use Rattle.std.specs.Option.{option_map_or}
use Rattle.ipdl_term.specs.Places.{child}
use Rattle.ipdl_term.specs.Sizes.{greatest_in_expression}
use Rattle.ipdl_term.specs.Surroundings.{Condition}
use Rattle.ipdl_term.specs.Terms.{Channel, Expression, branching, binding, hiding, Term, protocol_term, reaction_term}
use Rattle.ipdl_term.specs.Variables.{lifted_expression}
use Rattle.ipdl_term.specs.Views.{expression_of}
use Rattle.ipdl_term.specs.declared.interface.Port.{Port}
use Rattle.ipdl_cursor.specs.declared.boundaries.Boundary.{Boundary as HeldBoundary}
use Rattle.ipdl_cursor.specs.declared.boundaries.Boundary.TheVariants as B

pub data Boundary : Type 0 where
  channel : Channel → (width : ℕ) → Boundary
  binder : (width : ℕ) → Boundary
  arm : (test : Expression) → (value : Bool) → Boundary

-- the boundary that the program's one stands for
abbrev pub boundary_of : HeldBoundary → Boundary
boundary_of (B.Channel name width) = channel name.now width
boundary_of (B.Binder width) = binder width
boundary_of (B.Arm test value) = arm (expression_of test.now) value

-- what is entered on the way to the child of this number
abbrev pub boundary_at : Term → ℕ → Option Boundary
boundary_at (protocol_term (hiding c w p)) zero = Some (channel c w)
boundary_at (reaction_term (branching e r s)) (suc zero) = Some (arm e true)
boundary_at (reaction_term (branching e r s)) (suc (suc zero)) = Some (arm e false)
boundary_at (reaction_term (binding w r s)) (suc zero) = Some (binder w)
boundary_at _ _ = None

-- a boundary, if there is one, and then others
abbrev pub with_boundary : Option Boundary → List Boundary → List Boundary
with_boundary None boundaries = boundaries
with_boundary (Some b) boundaries = b ∷ boundaries

-- what is entered on the way to a place, from the outermost
abbrev pub boundaries_to : Term → List ℕ → List Boundary
boundaries_to t [] = []
boundaries_to t (n ∷ place) = option_map_or (λ c. with_boundary (boundary_at t n) (boundaries_to c.part place)) (child t n) []

-- ---- what is around the place then, each from the outermost

-- the widths of the binders
abbrev pub binder_widths : List Boundary → List ℕ
binder_widths [] = []
binder_widths (binder w ∷ bs) = w ∷ binder_widths bs
binder_widths (_ ∷ bs) = binder_widths bs

-- the hidden channels
abbrev pub channel_ports : List Boundary → List Port
channel_ports [] = []
channel_ports (channel c w ∷ bs) = record { name = c; width = w } ∷ channel_ports bs
channel_ports (_ ∷ bs) = channel_ports bs

-- the conditions of the arms, each lifted over the binders that are entered after it
abbrev pub arm_conditions : List Boundary → List Condition
arm_conditions [] = []
arm_conditions (arm e value ∷ bs) =
    record { test = lifted_expression e 0 (length (binder_widths bs)); value = value } ∷ arm_conditions bs
arm_conditions (_ ∷ bs) = arm_conditions bs

-- the greatest number of a variable in the tests, 0 where there is none
abbrev pub greatest_in_arms : List Boundary → ℕ
greatest_in_arms [] = 0
greatest_in_arms (arm e value ∷ bs) = max (greatest_in_expression e) (greatest_in_arms bs)
greatest_in_arms (_ ∷ bs) = greatest_in_arms bs
