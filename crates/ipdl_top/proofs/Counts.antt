-- The counts of a body of few nodes stand in 64 bits.
use Rattle.std.proofs.Common.{◌≡◌, ℕ, ◌*◌, ◌^◌, ◌<◌, ◌≤◌, List, [], ◌∷◌, arith}
use Rattle.std.proofs.Math.Nat.{min-eq_left}
use Rattle.ipdl_sig.specs.declared.symbol.Symbol.{Symbol}
use Rattle.ipdl_term.specs.Terms.{Reaction, returning, flipping, reading, branching, binding, Protocol, nil, assignment, parallel, hiding}
use Rattle.ipdl_term.specs.Interpretations.{Signature}
use Rattle.ipdl_term.specs.Protocols.{coins}
use Rattle.ipdl_term.specs.Reactions.{reaction_coins}
use Rattle.ipdl_term.specs.Sizes.{saturated, reaction_nodes, protocol_nodes, channel_count}
use Rattle.ipdl_term.specs.Typing.{Scope, scope_with, GivesWidth, IsTyped}
use Rattle.std.specs.List.{AllByRecursion}
use Rattle.ipdl_forms.specs.Documents.{Entry, symbol_entry, protocol_entry, assumption_entry, theorem_entry}
use Rattle.ipdl_forms.specs.Limits.{IsEntryWithin}
use Rattle.ipdl_top.specs.Summaries.{AreCounted}
use Rattle.ipdl_top.specs.Typed.{AreTyped}

-- each assignment is a node
channels_few : (p : Protocol) → channel_count p ≤ protocol_nodes p
channels_few nil = omega arith
channels_few (assignment c r) = omega arith
channels_few (parallel p q) = omega (arith, channels_few p, channels_few q)
channels_few (hiding c w p) = omega (arith, channels_few p)

-- a draw of at most 128 bits is a node
reaction_coins_few : (sig : Signature) (scope : Scope) (widths : List ℕ) (r : Reaction) (w : ℕ) → GivesWidth sig scope widths r w → reaction_coins r ≤ 128 * reaction_nodes r
reaction_coins_few sig scope widths (returning e) w gives = omega arith
reaction_coins_few sig scope widths (flipping n) w gives = omega (arith, gives.0, gives.1)
reaction_coins_few sig scope widths (reading c) w gives = omega arith
reaction_coins_few sig scope widths (branching e r s) w gives =
    omega (arith, reaction_coins_few sig scope widths r w gives.1, reaction_coins_few sig scope widths s w gives.2)
reaction_coins_few sig scope widths (binding v r s) w gives =
    omega (arith, reaction_coins_few sig scope widths r v gives.0, reaction_coins_few sig scope (v ∷ widths) s w gives.1)

coins_few : (sig : Signature) (scope : Scope) (p : Protocol) → IsTyped sig scope p → coins p ≤ 128 * protocol_nodes p
coins_few sig scope nil typed = omega arith
coins_few sig scope (assignment c r) typed = omega (arith, reaction_coins_few sig scope [] r typed.0 typed.2)
coins_few sig scope (parallel p q) typed = omega (arith, coins_few sig scope p typed.0, coins_few sig scope q typed.1)
coins_few sig scope (hiding c w p) typed = omega (arith, coins_few sig (scope_with c w scope) p typed.1)

pub AreCounted-typed : (symbols : List Symbol) (entries items : List Entry) → AllByRecursion IsEntryWithin items → AreTyped symbols entries items → AreCounted items
AreCounted-typed symbols entries [] within typed = tt
AreCounted-typed symbols entries (symbol_entry n s ∷ items) within typed = (tt, AreCounted-typed symbols entries items within.1 typed.1)
AreCounted-typed symbols entries (protocol_entry name declared body ∷ items) within typed = (
  record {
    channels = omega (arith, channels_few body, within.0);
    nodes = omega (arith, within.0);
    random_bits = omega (arith, coins_few _ _ body typed.0.typed.typed, within.0);
  },
  AreCounted-typed symbols entries items within.1 typed.1,
)
AreCounted-typed symbols entries (assumption_entry name left right ∷ items) within typed = (tt, AreCounted-typed symbols entries items within.1 typed.1)
AreCounted-typed symbols entries (theorem_entry name left right lefts rights ∷ items) within typed = (tt, AreCounted-typed symbols entries items within.1 typed.1)

-- a count that stands in 64 bits is told as it is
pub saturated-few : (n : ℕ) → n < 2 ^ 64 → saturated n ≡ n
saturated-few n few = min-eq_left (omega arith)
