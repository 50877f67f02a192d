-- Two parts that mean the same in what surrounds them: what a rule shows of its two sides, so that either may replace the
-- other in a whole.
use Rattle.std.specs.Prelude.{◌≡◌, ℕ, ◌≤◌, List}
use Rattle.ipdl_term.specs.Interpretations.{Interpretation, evaluation}
use Rattle.ipdl_term.specs.Reactions.{reaction_coins}
use Rattle.ipdl_term.specs.Surroundings.{Surroundings, FitWidths, Meets}
use Rattle.ipdl_term.specs.Terms.{Value, Term, protocol_term, reaction_term, expression_term}
use Rattle.ipdl_term.specs.Valuations.{Valuation}
use Rattle.ipdl_laws.specs.Alike.{FitsScope, Alike}
use Rattle.ipdl_laws.specs.ReactionTotals.{Weight, reaction_total}

-- Expressions have one value, and reactions one total of each weight over tapes that are long enough for both, wherever
-- the variables fit and the conditions are met. Protocols are alike. Terms of different kinds never mean the same.
abbrev pub MeanSame : Interpretation → Surroundings → Term → Term → Type 0
MeanSame J s (expression_term a) (expression_term b) =
    (env : List Value) → FitWidths s.widths env → Meets J env s.conditions → evaluation J env a ≡ evaluation J env b
MeanSame J s (reaction_term r) (reaction_term q) =
    (env : List Value) → FitWidths s.widths env → Meets J env s.conditions →
    (inputs : Valuation) → FitsScope s.scope inputs → (weight : Weight) (n : ℕ) →
    reaction_coins r ≤ n → reaction_coins q ≤ n → reaction_total J r env inputs n weight ≡ reaction_total J q env inputs n weight
MeanSame J s (protocol_term p) (protocol_term q) = Alike J s.scope p q
MeanSame J s _ _ = ⊥
