-- What is asked of two expressions, and the answers: whether they have the same linear forms, and which bit differs first.
use Rattle.std.specs.Prelude.{◌≡◌, ℕ, suc, ◌+◌, ◌<◌, true, List, [], ◌∷◌, Option, Some, None, reverse, option_map, if◌then◌else◌}
use Rattle.ipdl_linear.specs.LinearForms.{Form, same_form, same_forms, forms_of, linear_forms}
use Rattle.ipdl_linear.specs.Weights.{greatest_weight, weight}
use Rattle.ipdl_linear.specs.declared.likeness.Likeness.{Likeness}
use Rattle.ipdl_linear.specs.declared.likeness.Likeness.TheVariants.{Same, Differ}
use Rattle.ipdl_sig.specs.declared.symbol.Symbol.{Symbol}
use Rattle.ipdl_term.specs.Interpretations.{Signature}
use Rattle.ipdl_term.specs.Sizes.{saturated}
use Rattle.ipdl_term.specs.Terms.{Expression}
use Rattle.ipdl_term.specs.Views.{expression_of}
use Rattle.ipdl_term.specs.declared.expression.Expr.{Expr}
use Rattle.ipdl_typing.specs.Signatures.{signature_of}

-- two expressions among binders, whose widths stand from the outermost
pub record Pair : Type 0 where
  pub sig : Signature
  pub widths : List ℕ
  pub left : Expression
  pub right : Expression

-- the pair that the program's values stand for
abbrev pub pair_of : List Symbol → List ℕ → Expr → Expr → Pair
pair_of symbols widths left right =
    record { sig = signature_of symbols; widths = widths; left = expression_of left; right = expression_of right }

-- the linear forms of the two
abbrev pub left_forms : Pair → List Form
left_forms p = linear_forms p.sig (reverse p.widths) p.left

abbrev pub right_forms : Pair → List Form
right_forms p = linear_forms p.sig (reverse p.widths) p.right

-- the two have the same linear forms, bit by bit, and so many
abbrev pub HaveSameForms : Pair → Type 0
HaveSameForms p = same_forms (forms_of (left_forms p)) (forms_of (right_forms p)) ≡ true

-- the first bit whose forms differ, or that only one of the lists has
abbrev pub first_difference : List Form → List Form → Option ℕ
first_difference [] [] = None
first_difference (p ∷ ps) (q ∷ qs) = if same_form p q then option_map suc (first_difference ps qs) else Some 0
first_difference _ _ = Some 0

-- the answer that tells it
abbrev pub telling : Option ℕ → Likeness
telling None = Same
telling (Some bit) = Differ bit

abbrev pub likeness_of : Pair → Likeness
likeness_of p = telling (first_difference (left_forms p) (right_forms p))

-- the widths of all subexpressions of both
abbrev pub weight_of : Pair → ℕ
weight_of p = weight p.sig (reverse p.widths) p.left + weight p.sig (reverse p.widths) p.right

-- they add up to too much, and this is their sum
abbrev pub IsLarge : Pair → ℕ → Type 0
IsLarge p bits = (greatest_weight < weight_of p) × (bits ≡ saturated (weight_of p))
