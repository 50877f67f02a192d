-- The tree that a protocol is printed as spells it.
use Rattle.std.proofs.Common.{◌≡◌, ℕ, suc, ◌≤◌, eqb, Bool, true, false, if◌then◌else◌, List, length, refl, sym, subst, arith}
use Rattle.std.proofs.lemmas.Bool.Decides.{nat_tests}
use Rattle.ipdl_sig.specs.declared.symbol.Symbol.{Symbol}
use Rattle.ipdl_sig.specs.Symbols.{AreNumbered}
use Rattle.ipdl_term.specs.Sizes.{greatest_printed_depth, Spine, depth_in, no_spine, par_spine, new_spine}
use Rattle.ipdl_term.specs.Terms.{Channel, Protocol, nil, assignment, parallel, hiding}
use Rattle.ipdl_tree.specs.Trees.{Located}
use Rattle.ipdl_tree.specs.Views.{forest}
use Rattle.ipdl_forms.specs.Lists.{tree_count}
use Rattle.ipdl_printing.specs.Printing.{printed_protocol, protocol_tree}
use Rattle.ipdl_forms.specs.Protocols.{beside_first, under_first, SpellsProtocol}
use Rattle.ipdl_roundtrip.specs.Shown.{AreNoOperators, HasNoOuter, HasSmallNumbers, IsShowable, shown_scope}
use Rattle.ipdl_term.specs.Within.{IsProtocolWithin}
use Rattle.ipdl_roundtrip.proofs.PrintedNames.{AreFirst, printed_scope}
use Rattle.ipdl_roundtrip.proofs.PrintedReactions.{SpellsReaction-printed}

-- ---- what stands beside the first part of a `par`, and under the first port of a `new`

-- at least one part is printed
parts-some : (symbols : List Symbol) (p : Protocol) → 1 ≤ tree_count (forest (printed_protocol symbols p).parts)
parts-some symbols nil = omega arith
parts-some symbols (assignment c r) = omega arith
parts-some symbols (parallel p q) = omega arith
parts-some symbols (hiding c w p) = omega arith

other_branch : (a b : Located) (test : Bool) → test ≡ false → (if test then a else b) ≡ b
other_branch a b true e = cc
other_branch a b false e = refl

more_than_two : (n : ℕ) → 1 ≤ n → eqb (suc (suc n)) 2 ≡ false
more_than_two n h = grind (arith, nat_tests)

more_than_one : (n : ℕ) → eqb (suc (suc n)) 1 ≡ false
more_than_one n = grind (arith, nat_tests)

pub beside_first-printed : (symbols : List Symbol) (p q : Protocol) → beside_first (protocol_tree symbols (parallel p q)) ≡ protocol_tree symbols q
beside_first-printed symbols p nil = refl
beside_first-printed symbols p (assignment c r) = refl
beside_first-printed symbols p (parallel q s) =
    other_branch _ _ _ (more_than_two (tree_count (forest (printed_protocol symbols s).parts)) (parts-some symbols s))
beside_first-printed symbols p (hiding c w q) = refl

pub under_first-printed : (symbols : List Symbol) (c : Channel) (w : ℕ) (p : Protocol) → under_first (protocol_tree symbols (hiding c w p)) ≡ protocol_tree symbols p
under_first-printed symbols c w nil = refl
under_first-printed symbols c w (assignment d r) = refl
under_first-printed symbols c w (parallel p q) = refl
under_first-printed symbols c w (hiding d v p) =
    other_branch _ _ _ (more_than_one (tree_count (forest (printed_protocol symbols p).ports)))

-- ---- the depths of the parts

pub depth_in-left : (spine : Spine) (p q : Protocol) → depth_in no_spine p ≤ depth_in spine (parallel p q)
depth_in-left no_spine p q = omega arith
depth_in-left par_spine p q = omega arith
depth_in-left new_spine p q = omega arith

pub depth_in-right : (spine : Spine) (p q : Protocol) → depth_in par_spine q ≤ depth_in spine (parallel p q)
depth_in-right no_spine p q = omega arith
depth_in-right par_spine p q = omega arith
depth_in-right new_spine p q = omega arith

pub depth_in-body : (spine : Spine) (c : Channel) (w : ℕ) (p : Protocol) → depth_in new_spine p ≤ depth_in spine (hiding c w p)
depth_in-body no_spine c w p = omega arith
depth_in-body par_spine c w p = omega arith
depth_in-body new_spine c w p = omega arith

-- ---- what is spelled

-- in whatever the protocol stands
SpellsProtocol-in : (all symbols : List Symbol) (spine : Spine) (p : Protocol) → AreFirst symbols all → AreNoOperators symbols → AreNumbered symbols → depth_in spine p ≤ greatest_printed_depth → IsProtocolWithin (length symbols) p → HasNoOuter p → HasSmallNumbers p → SpellsProtocol (printed_scope symbols 0) p (protocol_tree all p)
SpellsProtocol-in all symbols spine nil first names distinct few within no_outer small = (refl, refl)
SpellsProtocol-in all symbols spine (assignment c r) first names distinct few within no_outer small =
    ((refl, refl), refl, SpellsReaction-printed all symbols 0 r first names distinct (omega arith) within no_outer small)
SpellsProtocol-in all symbols spine (parallel p q) first names distinct few within no_outer small = (
  (refl, omega (arith, parts-some all q)),
  SpellsProtocol-in all symbols no_spine p first names distinct (omega (arith, depth_in-left spine p q)) within.0 no_outer.0 small.0,
  subst (λ (t : Located). SpellsProtocol (printed_scope symbols 0) q t) (sym (beside_first-printed all p q))
      (SpellsProtocol-in all symbols par_spine q first names distinct (omega (arith, depth_in-right spine p q)) within.1 no_outer.1 small.1),
)
SpellsProtocol-in all symbols spine (hiding c w p) first names distinct few within no_outer small = (
  (refl, refl),
  (refl, refl, (refl, small.0)),
  subst (λ (t : Located). SpellsProtocol (printed_scope symbols 0) p t) (sym (under_first-printed all c w p))
      (SpellsProtocol-in all symbols new_spine p first names distinct (omega (arith, depth_in-body spine c w p)) within no_outer small.1),
)

pub SpellsProtocol-printed : (all symbols : List Symbol) (p : Protocol) → AreFirst symbols all → IsShowable symbols p → SpellsProtocol (shown_scope symbols) p (protocol_tree all p)
SpellsProtocol-printed all symbols p first showable =
    SpellsProtocol-in all symbols no_spine p first showable.names showable.distinct showable.depth showable.within showable.no_outer showable.widths

-- all symbols may be named
pub SpellsProtocol-shown : (symbols : List Symbol) (p : Protocol) → IsShowable symbols p → SpellsProtocol (shown_scope symbols) p (protocol_tree symbols p)
SpellsProtocol-shown symbols p showable = SpellsProtocol-printed symbols symbols p (record { each = λ f below. refl }) showable
