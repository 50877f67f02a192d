-- The rules that rewrite an expression: by the truth where conditions are met, and by linear forms. When the second
-- expression is what the rule makes of the first. Binders and conditions stand innermost first, as in the surroundings of a
-- place; a question of truth and a pair of expressions have the widths from the outermost.
use Rattle.std.specs.Prelude.{◌≡◌, ℕ, ◌≤◌, List, None, length, reverse, take}
use Rattle.ipdl_linear.specs.Likeness.{Pair, HaveSameForms}
use Rattle.ipdl_linear.specs.Likeness as L
use Rattle.ipdl_term.specs.Interpretations.{Signature}
use Rattle.ipdl_term.specs.Rules.{Rule}
use Rattle.ipdl_term.specs.Rules as R
use Rattle.ipdl_term.specs.Surroundings.{Condition, AreTests}
use Rattle.ipdl_term.specs.Terms.{Expression}
use Rattle.ipdl_term.specs.Typing.{HasWidth}
use Rattle.ipdl_truth.specs.Agreement.{AgreeEverywhere}
use Rattle.ipdl_truth.specs.FreeVariables.{greatest_free_bits}
use Rattle.ipdl_truth.specs.Questions.{Question, first_abstract, weight_of, free_bits}
use Rattle.ipdl_truth.specs.Weights.{greatest_weight}

-- whether the two expressions are equal where the k innermost conditions are met
abbrev pub question_at : Signature → (widths : List ℕ) → List Condition → (k : ℕ) → (left right : Expression) → Question
question_at sig widths conditions k left right =
    record { sig = sig; widths = reverse widths; left = left; right = right; conditions = take k conditions }

-- The answer is that they are: no abstract symbol occurs, the widths of all subexpressions add up to 8,192 at most and
-- those of the free variables to 12 at most, and the two have one value wherever the conditions are met.
pub record IsAnsweredSame (q : Question) : Type 0 where
  pub tables : first_abstract q ≡ None
  pub light : weight_of q ≤ greatest_weight
  pub narrow : free_bits q ≤ greatest_free_bits
  pub agree : AgreeEverywhere q

-- the two expressions among these binders
abbrev pub pair_at : Signature → (widths : List ℕ) → (left right : Expression) → Pair
pair_at sig widths left right = record { sig = sig; widths = reverse widths; left = left; right = right }

-- They have the same linear forms, bit by bit, and the widths of all subexpressions add up to 8,192 at most.
pub record AreFoundAlike (p : Pair) : Type 0 where
  pub light : L.weight_of p ≤ greatest_weight
  pub same : HaveSameForms p

-- the second expression is what the rule makes of the first
abbrev pub IsExpressionInstance : Signature → (widths : List ℕ) → List Condition → Rule → (left right : Expression) → Type 0
IsExpressionInstance sig widths conditions (R.table k e) left right =
    (k ≤ length conditions) × IsAnsweredSame (question_at sig widths conditions k left e) × (right ≡ e)
IsExpressionInstance sig widths conditions (R.lin e) left right = AreFoundAlike (pair_at sig widths left e) × (right ≡ e)
IsExpressionInstance _ _ _ _ _ _ = ⊥

-- ---- what a rule asks

-- the rule asks a question of truth and the one is so of it, or it compares linear forms and the other is so of the pair
abbrev pub AsksWhere : (P : Question → Type 0) → (Q : Pair → Type 0) → Signature → (widths : List ℕ) → List Condition → Rule → (left : Expression) → Type 0
AsksWhere P Q sig widths conditions (R.table k e) left = P (question_at sig widths conditions k left e)
AsksWhere P Q sig widths conditions (R.lin e) left = Q (pair_at sig widths left e)
AsksWhere _ _ _ _ _ _ _ = ⊥

-- so it is of no question, and of no pair
abbrev pub OfNone : {X : Type 0} → X → Type 0
OfNone x = ⊥

-- the rule asks a question, or compares linear forms
abbrev pub IsAsking : Rule → Type 0
IsAsking (R.table k e) = Unit {0}
IsAsking (R.lin e) = Unit {0}
IsAsking _ = ⊥

-- The expression of the rule is typed, and for `table` there are as many conditions as it uses, of which each tests one
-- bit. The rules that are made for other terms ask nothing.
abbrev pub CanBeAsked : Signature → (widths : List ℕ) → List Condition → Rule → Type 0
CanBeAsked sig widths conditions (R.table k e) =
    ((w : ℕ) × HasWidth sig widths e w) × (k ≤ length conditions) × AreTests sig widths (take k conditions)
CanBeAsked sig widths conditions (R.lin e) = (w : ℕ) × HasWidth sig widths e w
CanBeAsked _ _ _ _ = Unit {0}
