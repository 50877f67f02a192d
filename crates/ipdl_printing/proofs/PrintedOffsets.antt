-- The tree that a protocol is printed as has no offsets.
use Rattle.std.proofs.Common.{◌≡◌, ℕ, ◌+◌, List, refl}
use Rattle.ipdl_sig.specs.declared.symbol.Symbol.{Symbol}
use Rattle.ipdl_term.specs.Terms.{Expression, literal, variable, outer, application, exclusive, conjunction, negation, concatenation, segment, equality, selection, Reaction, returning, flipping, reading, branching, binding, Protocol, nil, assignment, parallel, hiding}
use Rattle.ipdl_tree.specs.Trees.{without_offsets, all_without_offsets}
use Rattle.ipdl_tree.specs.Views.{forest}
use Rattle.ipdl_printing.specs.Printing.{expression_tree, reaction_tree, printed_protocol, protocol_tree}

without_offsets-expression : (symbols : List Symbol) (d : ℕ) (e : Expression) → without_offsets (expression_tree symbols d e) ≡ expression_tree symbols d e
without_offsets-expression symbols d (literal bits) = refl
without_offsets-expression symbols d (variable n) = refl
without_offsets-expression symbols d (outer n) = refl
without_offsets-expression symbols d (application f e) = rw (without_offsets-expression symbols d e) refl
without_offsets-expression symbols d (exclusive a b) = simp (without_offsets-expression symbols d a, without_offsets-expression symbols d b)
without_offsets-expression symbols d (conjunction a b) = simp (without_offsets-expression symbols d a, without_offsets-expression symbols d b)
without_offsets-expression symbols d (negation a) = rw (without_offsets-expression symbols d a) refl
without_offsets-expression symbols d (concatenation a b) = simp (without_offsets-expression symbols d a, without_offsets-expression symbols d b)
without_offsets-expression symbols d (segment i n a) = rw (without_offsets-expression symbols d a) refl
without_offsets-expression symbols d (equality a b) = simp (without_offsets-expression symbols d a, without_offsets-expression symbols d b)
without_offsets-expression symbols d (selection c a b) = simp (without_offsets-expression symbols d c, without_offsets-expression symbols d a, without_offsets-expression symbols d b)

without_offsets-reaction : (symbols : List Symbol) (d : ℕ) (r : Reaction) → without_offsets (reaction_tree symbols d r) ≡ reaction_tree symbols d r
without_offsets-reaction symbols d (returning e) = rw (without_offsets-expression symbols d e) refl
without_offsets-reaction symbols d (flipping w) = refl
without_offsets-reaction symbols d (reading c) = refl
without_offsets-reaction symbols d (branching e r s) = simp (without_offsets-expression symbols d e, without_offsets-reaction symbols d r, without_offsets-reaction symbols d s)
without_offsets-reaction symbols d (binding w r s) = simp (without_offsets-reaction symbols d r, without_offsets-reaction symbols (d + 1) s)

-- alone; as the last parts of a `par`; and as its outer ports and what stands in them
record HasNoOffsets (symbols : List Symbol) (p : Protocol) : Type 0 where
  whole : without_offsets (protocol_tree symbols p) ≡ protocol_tree symbols p
  parts : all_without_offsets (forest (printed_protocol symbols p).parts) ≡ forest (printed_protocol symbols p).parts
  ports : all_without_offsets (forest (printed_protocol symbols p).ports) ≡ forest (printed_protocol symbols p).ports
  body : without_offsets (printed_protocol symbols p).body ≡ (printed_protocol symbols p).body

no_offsets : (symbols : List Symbol) (p : Protocol) → HasNoOffsets symbols p
no_offsets symbols nil = record { whole = refl; parts = refl; ports = refl; body = refl }
no_offsets symbols (assignment c r) =
    let offsetless = without_offsets-reaction symbols 0 r in
    record { whole = rw offsetless refl; parts = rw offsetless refl; ports = refl; body = rw offsetless refl }
no_offsets symbols (parallel p q) =
    let left = no_offsets symbols p in
    let right = no_offsets symbols q in
    record { whole = simp (left.whole, right.parts); parts = simp (left.whole, right.parts); ports = refl; body = simp (left.whole, right.parts) }
no_offsets symbols (hiding c w p) =
    let inner = no_offsets symbols p in
    record { whole = simp (inner.ports, inner.body); parts = simp (inner.ports, inner.body); ports = rw inner.ports refl; body = inner.body }

pub without_offsets-protocol_tree : (symbols : List Symbol) (p : Protocol) → without_offsets (protocol_tree symbols p) ≡ protocol_tree symbols p
without_offsets-protocol_tree symbols p = (no_offsets symbols p).whole
