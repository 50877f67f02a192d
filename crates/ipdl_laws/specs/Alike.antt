-- Alike protocols: no surroundings tell them apart. This relation stands between the rules, which are proved for it,
-- and the equality of protocols, which follows from it.
use Rattle.std.specs.Prelude.{◌≡◌, ℕ, ◌≤◌, Bool, List, Some, length}
use Rattle.ipdl_term.specs.Terms.{Value, Channel, Protocol}
use Rattle.ipdl_term.specs.Interpretations.{Interpretation}
use Rattle.ipdl_term.specs.Channels.{outputs, SameSet}
use Rattle.ipdl_term.specs.Valuations.{Valuation, LiesWithin}
use Rattle.ipdl_term.specs.Protocols.{solution, coins, protocol_valuation}
use Rattle.ipdl_term.specs.Typing.{Scope}
use Rattle.ipdl_term.specs.Counts.{total}

-- each value has the width that the scope gives to its channel
abbrev pub FitsScope : Scope → Valuation → Type 0
FitsScope scope p = (c : Channel) (v : Value) (w : ℕ) → p c ≡ Some v → scope c ≡ Some w → length v ≡ w

-- makes values of the right widths of values of the right widths
abbrev pub KeepsScope : Scope → (Valuation → Valuation) → Type 0
KeepsScope scope step = (p : Valuation) → FitsScope scope p → FitsScope scope (step p)

-- makes more, or the same, of more
abbrev pub IsMonotone : (Valuation → Valuation) → Type 0
IsMonotone step = (p q : Valuation) → LiesWithin p q → LiesWithin (step p) (step q)

-- A response of the surroundings: what is written around a protocol, given what the protocol has written. More is
-- answered to more, with values of the widths of the scope.
pub record IsResponse (scope : Scope) (response : Valuation → Valuation) : Type 0 where
  pub monotone : IsMonotone response
  pub keeps : KeepsScope scope response

-- what a protocol writes on a tape in surroundings that respond
abbrev pub loop_valuation : Interpretation → Protocol → List Bool → (Valuation → Valuation) → Valuation
loop_valuation J p tape response = solution (outputs p) (λ before. protocol_valuation J p tape (response before))

-- the sum over all tapes of n bits of the weight of what the protocol writes there
abbrev pub loop_total : Interpretation → Protocol → ℕ → (Valuation → Valuation) → (Valuation → ℕ) → ℕ
loop_total J p n response weight = total n (λ tape. weight (loop_valuation J p tape response))

-- the same outputs and, against each response, the same sum of each weight over the tapes that are long enough for both
pub record Alike (J : Interpretation) (scope : Scope) (p q : Protocol) : Type 0 where
  pub same_outputs : SameSet (outputs p) (outputs q)
  pub totals : (response : Valuation → Valuation) → IsResponse scope response → (weight : Valuation → ℕ)
      (n : ℕ) → coins p ≤ n → coins q ≤ n → loop_total J p n response weight ≡ loop_total J q n response weight
