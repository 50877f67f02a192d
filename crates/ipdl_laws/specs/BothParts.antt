-- What two parts side by side write, as a pair: one step on both at once.
use Rattle.std.specs.Prelude.{ℕ, zero, suc, Bool, List, take, drop}
use Rattle.ipdl_term.specs.Channels.{outputs}
use Rattle.ipdl_term.specs.Interpretations.{Interpretation}
use Rattle.ipdl_term.specs.Protocols.{coins, protocol_valuation}
use Rattle.ipdl_term.specs.Terms.{Protocol}
use Rattle.ipdl_term.specs.Valuations.{Valuation, nothing, combined}

-- what the left part and the right part have written
abbrev pub Both : Type 0
Both = Valuation × Valuation

-- each part writes what it does with what the other wrote before added to the inputs
abbrev pub step_of_both : Interpretation → Protocol → Protocol → List Bool → Valuation → Both → Both
step_of_both J p q tape inputs before = (
  protocol_valuation J p (take (coins p) tape) (combined (outputs q) before.1 inputs),
  protocol_valuation J q (drop (coins p) tape) (combined (outputs p) before.0 inputs),
)

-- so many steps, from where neither has written anything
abbrev pub after_steps : Interpretation → Protocol → Protocol → List Bool → Valuation → ℕ → Both
after_steps J p q tape inputs zero = (nothing, nothing)
after_steps J p q tape inputs (suc n) = step_of_both J p q tape inputs (after_steps J p q tape inputs n)
