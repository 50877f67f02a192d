-- The tree that a reaction is printed as spells it.
use Rattle.std.proofs.Common.{ℕ, suc, ◌+◌, ◌≤◌, List, length, refl, sym, subst, add-one, arith}
use Rattle.ipdl_sig.specs.declared.symbol.Symbol.{Symbol}
use Rattle.ipdl_sig.specs.Symbols.{AreNumbered}
use Rattle.ipdl_term.specs.Sizes.{reaction_depth, greatest_printed_depth}
use Rattle.ipdl_term.specs.Terms.{Reaction, returning, flipping, reading, branching, binding}
use Rattle.ipdl_printing.specs.Printing.{reaction_tree}
use Rattle.ipdl_forms.specs.Reactions.{SpellsReaction}
use Rattle.ipdl_roundtrip.specs.Shown.{AreNoOperators, HasNoOuterInReaction, HasSmallNumbersInReaction}
use Rattle.ipdl_term.specs.Within.{IsReactionWithin}
use Rattle.ipdl_roundtrip.proofs.PrintedNames.{AreFirst, printed_scope}
use Rattle.ipdl_roundtrip.proofs.PrintedExpressions.{SpellsExpression-printed}

-- of which the binders around and its own depth are not too many
pub SpellsReaction-printed : (all symbols : List Symbol) (d : ℕ) (r : Reaction) → AreFirst symbols all → AreNoOperators symbols → AreNumbered symbols → d + reaction_depth r ≤ greatest_printed_depth → IsReactionWithin (length symbols) d r → HasNoOuterInReaction r → HasSmallNumbersInReaction r → SpellsReaction (printed_scope symbols d) r (reaction_tree all d r)
SpellsReaction-printed all symbols d (returning e) first names distinct few within no_outer small =
    ((refl, refl), SpellsExpression-printed all symbols d e first names distinct (omega arith) within no_outer small)
SpellsReaction-printed all symbols d (flipping w) first names distinct few within no_outer small = ((refl, refl), (refl, small))
SpellsReaction-printed all symbols d (reading c) first names distinct few within no_outer small = ((refl, refl), refl)
SpellsReaction-printed all symbols d (branching e r s) first names distinct few within no_outer small = (
  (refl, refl),
  SpellsExpression-printed all symbols d e first names distinct (omega arith) within.0 no_outer.0 small.0,
  SpellsReaction-printed all symbols d r first names distinct (omega arith) within.1 no_outer.1 small.1,
  SpellsReaction-printed all symbols d s first names distinct (omega arith) within.2 no_outer.2 small.2,
)
SpellsReaction-printed all symbols d (binding w r s) first names distinct few within no_outer small =
    let inside : IsReactionWithin (length symbols) (suc d) s = subst (λ (k : ℕ). IsReactionWithin (length symbols) k s) (add-one d) within.1 in (
      (refl, refl),
      refl,
      (refl, small.0),
      SpellsReaction-printed all symbols d r first names distinct (omega arith) within.0 no_outer.0 small.1,
      subst (λ (k : ℕ). SpellsReaction (printed_scope symbols (suc d)) s (reaction_tree all k s)) (sym (add-one d))
          (SpellsReaction-printed all symbols (suc d) s first names distinct (omega arith) inside no_outer.1 small.2),
    )
