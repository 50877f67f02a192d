-- The tree that a protocol is printed as is as deep as the depth of the term tells.
use Rattle.std.proofs.Common.{◌≡◌, ℕ, ◌+◌, ◌≤◌, List, refl, arith}
use Rattle.ipdl_sig.specs.declared.symbol.Symbol.{Symbol}
use Rattle.ipdl_term.specs.Sizes.{expression_depth, reaction_depth, depth_in, no_spine, par_spine, new_spine, printed_depth}
use Rattle.ipdl_term.specs.Terms.{Expression, literal, variable, outer, application, exclusive, conjunction, negation, concatenation, segment, equality, selection, Reaction, returning, flipping, reading, branching, binding, Protocol, nil, assignment, parallel, hiding}
use Rattle.ipdl_tree.specs.Trees.{depth_of, greatest_depth}
use Rattle.ipdl_tree.specs.Views.{forest}
use Rattle.ipdl_printing.specs.Printing.{expression_tree, reaction_tree, printed_protocol, protocol_tree}

pub depth_of-expression_tree : (symbols : List Symbol) (d : ℕ) (e : Expression) → depth_of (expression_tree symbols d e) ≡ expression_depth e
depth_of-expression_tree symbols d (literal bits) = refl
depth_of-expression_tree symbols d (variable n) = refl
depth_of-expression_tree symbols d (outer n) = refl
depth_of-expression_tree symbols d (application f e) = omega (arith, depth_of-expression_tree symbols d e)
depth_of-expression_tree symbols d (exclusive a b) = omega (arith, depth_of-expression_tree symbols d a, depth_of-expression_tree symbols d b)
depth_of-expression_tree symbols d (conjunction a b) = omega (arith, depth_of-expression_tree symbols d a, depth_of-expression_tree symbols d b)
depth_of-expression_tree symbols d (negation a) = omega (arith, depth_of-expression_tree symbols d a)
depth_of-expression_tree symbols d (concatenation a b) = omega (arith, depth_of-expression_tree symbols d a, depth_of-expression_tree symbols d b)
depth_of-expression_tree symbols d (segment i n a) = omega (arith, depth_of-expression_tree symbols d a)
depth_of-expression_tree symbols d (equality a b) = omega (arith, depth_of-expression_tree symbols d a, depth_of-expression_tree symbols d b)
depth_of-expression_tree symbols d (selection c a b) = omega (arith, depth_of-expression_tree symbols d c, depth_of-expression_tree symbols d a, depth_of-expression_tree symbols d b)

pub depth_of-reaction_tree : (symbols : List Symbol) (d : ℕ) (r : Reaction) → depth_of (reaction_tree symbols d r) ≡ reaction_depth r
depth_of-reaction_tree symbols d (returning e) = omega (arith, depth_of-expression_tree symbols d e)
depth_of-reaction_tree symbols d (flipping w) = refl
depth_of-reaction_tree symbols d (reading c) = refl
depth_of-reaction_tree symbols d (branching e r s) = omega (arith, depth_of-expression_tree symbols d e, depth_of-reaction_tree symbols d r, depth_of-reaction_tree symbols d s)
depth_of-reaction_tree symbols d (binding w r s) = omega (arith, depth_of-reaction_tree symbols d r, depth_of-reaction_tree symbols (d + 1) s)

-- alone; as the last parts of a `par`; and as its outer ports and what stands in them
record HasDepths (symbols : List Symbol) (p : Protocol) : Type 0 where
  whole : depth_of (protocol_tree symbols p) ≡ depth_in no_spine p
  parts : greatest_depth (forest (printed_protocol symbols p).parts) ≡ depth_in par_spine p
  ports : greatest_depth (forest (printed_protocol symbols p).ports) ≤ 1
  body : depth_of (printed_protocol symbols p).body ≡ depth_in new_spine p

depths : (symbols : List Symbol) (p : Protocol) → HasDepths symbols p
depths symbols nil = record { whole = refl; parts = refl; ports = omega arith; body = refl }
depths symbols (assignment c r) =
    let deep : depth_of (reaction_tree symbols 0 r) ≡ reaction_depth r = depth_of-reaction_tree symbols 0 r in
    record { whole = omega arith; parts = omega arith; ports = omega arith; body = omega arith }
depths symbols (parallel p q) =
    let left : HasDepths symbols p = depths symbols p in
    let right : HasDepths symbols q = depths symbols q in
    record { whole = omega arith; parts = omega arith; ports = omega arith; body = omega arith }
depths symbols (hiding c w p) =
    let inner : HasDepths symbols p = depths symbols p in
    record { whole = omega arith; parts = omega arith; ports = omega arith; body = omega arith }

pub depth_of-protocol_tree : (symbols : List Symbol) (p : Protocol) → depth_of (protocol_tree symbols p) ≡ printed_depth p
depth_of-protocol_tree symbols p = (depths symbols p).whole
