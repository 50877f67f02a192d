use Rattle.std.proofs.Common.{◌≡◌, ℕ, suc, ◌<◌, ◌≤◌, List, ◌∷◌, Bool, length, get_or, drop, map, ap, sym, ◌∙◌, arith, drop-cons}
use Rattle.ipdl_term.proofs.FittingLemmas.{LiftFitsInExpression-greatest}
use Rattle.ipdl_term.specs.Sizes.{greatest_in_expression}
use Rattle.ipdl_term.specs.Terms.{Expression}
use Rattle.ipdl_term.specs.Views.{expression_of}
use Rattle.ipdl_cursor.specs.Boundaries.{arm, boundary_of, greatest_in_arms}
use Rattle.ipdl_cursor.specs.declared.boundaries.Boundary.{Boundary}
use Rattle.ipdl_cursor.proofs.focusing.conditions.Goals as goal

-- the test at an index is among those of the rest
arm_there : (boundaries : List Boundary) (i : ℕ) (x : Boundary) (e : Expression) (value : Bool) → i < length boundaries → x ≡ get_or boundaries i x → boundary_of x ≡ arm e value → greatest_in_expression e ≤ greatest_in_arms (map boundary_of (drop i boundaries))
arm_there boundaries i x e value within is told =
    let rest = map boundary_of (drop (suc i) boundaries) in
    let here : map boundary_of (drop i boundaries) ≡ arm e value ∷ rest = ap (map boundary_of) (drop-cons boundaries i x within ∙ ap (λ y. y ∷ drop (suc i) boundaries) (sym is)) ∙ ap (λ p. p ∷ rest) told in
    let g = ap greatest_in_arms here in
    omega arith

pub lift_expr-requires : goal.lift_expr-requires
lift_expr-requires c =
    let least = arm_there c.args.boundaries.now c.loop-boundary.boundary-index c.boundary-item.result (expression_of c.in-Arm.test.now) c.in-Arm.value c.loop-boundary-test.true c.boundary-item.is (ap boundary_of c.in-Arm.is) in
    LiftFitsInExpression-greatest (expression_of c.in-Arm.test.now) 0 _ (omega arith)
