-- Where two expressions are equal, and the first values of the free variables at which they are not. The values of the
-- binders stand from the outermost, and the tables give the functions of the symbols.
use Rattle.std.specs.Prelude.{◌≡◌, ℕ, ◌<◌, List, reverse}
use Rattle.ipdl_term.specs.Interpretations.{evaluation}
use Rattle.ipdl_term.specs.Surroundings.{FitWidths, Meets}
use Rattle.ipdl_term.specs.Terms.{Value}
use Rattle.ipdl_truth.specs.FreeVariables.{reading}
use Rattle.ipdl_truth.specs.Questions.{Question, valuation_of}
use Rattle.ipdl_truth.specs.Tables.{tables_of}
use Rattle.ipdl_truth.specs.declared.agreement.Agreement.{Agreement}
use Rattle.ipdl_truth.specs.declared.agreement.Agreement.TheVariants.{Same, Differ}

-- the values have the binders' widths and meet the conditions
pub record IsAllowed (q : Question) (env : List Value) : Type 0 where
  pub widths : FitWidths q.widths env
  pub conditions : Meets (tables_of q.sig) (reverse env) q.conditions

-- the two expressions have one value
abbrev pub AgreeOn : Question → List Value → Type 0
AgreeOn q env = evaluation (tables_of q.sig) (reverse env) q.left ≡ evaluation (tables_of q.sig) (reverse env) q.right

-- the two expressions have one value wherever the conditions are met
abbrev pub AgreeEverywhere : Question → Type 0
AgreeEverywhere q = (env : List Value) → IsAllowed q env → AgreeOn q env

-- They differ somewhere with these values of the free variables, and they agree with all values that are read as a
-- smaller number, the outermost variable's first.
pub record DifferFirstAt (q : Question) (valuation : List (ℕ × Value)) : Type 0 where
  pub env : List Value
  pub allowed : IsAllowed q env
  pub values : valuation_of q env ≡ valuation
  pub differ : AgreeOn q env → ⊥
  pub first : (others : List Value) → IsAllowed q others → reading (valuation_of q others) < reading valuation → AgreeOn q others

-- what an answer tells
abbrev pub Tells : Question → Agreement → Type 0
Tells q Same = AgreeEverywhere q
Tells q (Differ valuation) = DifferFirstAt q valuation
