-- What the answer on the truth of two expressions says of the rule that asked.
use Rattle.std.proofs.Common.{◌≡◌, ℕ, ◌<◌, ◌≤◌, List, Option, Some, None, Ok, Err, map, reverse, refl, sym, ap, ◌∙◌, subst, inl, inr, arith}
use Rattle.std.specs.Prelude.{◌↔◌, ◌⊎◌, Result, IfOk, take}
use Rattle.std.proofs.lemmas.Bool.{cases_lt}
use Rattle.std.proofs.lemmas.List.{reverse-reverse, take-map}
use Rattle.ipdl_linear.specs.Likeness as L
use Rattle.ipdl_linear.specs.Likeness.{Pair}
use Rattle.ipdl_rules_r.specs.Expressions.{question_at, IsAnsweredSame, IsExpressionInstance, AsksWhere, CanBeAsked, OfNone}
use Rattle.ipdl_rules_r.specs.Told.{told_of}
use Rattle.ipdl_rules_r.specs.declared.expressions.ExprFault.TheVariants as E
use Rattle.ipdl_sig.specs.declared.symbol.Symbol.{Symbol}
use Rattle.ipdl_term.specs.Sizes.{saturated}
use Rattle.ipdl_term.specs.Steps.{rule_of}
use Rattle.ipdl_term.specs.Surroundings.{Condition, AreTests, condition_of}
use Rattle.ipdl_term.specs.Terms.{Value, Expression}
use Rattle.ipdl_term.specs.Views.{expression_of}
use Rattle.ipdl_term.specs.declared.expression.Expr.{Expr}
use Rattle.ipdl_term.specs.declared.part.Condition.{Condition as HeldCondition}
use Rattle.ipdl_term.specs.declared.step.Rule.{Rule as HeldRule}
use Rattle.ipdl_term.specs.declared.step.Rule.TheVariants as H
use Rattle.ipdl_truth.specs.Agreement.{AgreeEverywhere, DifferFirstAt}
use Rattle.ipdl_truth.specs.FreeVariables.{greatest_free_bits}
use Rattle.ipdl_truth.specs.Questions.{Question, question_of, first_abstract, weight_of, free_bits}
use Rattle.ipdl_truth.specs.Weights.{greatest_weight}
use Rattle.ipdl_truth.specs.declared.agreement.Agreement.{Agreement}
use Rattle.ipdl_truth.specs.declared.agreement.Agreement.TheVariants.{Same, Differ}
use Rattle.ipdl_truth.specs.declared.agreement.TruthFault.{TruthFault}
use Rattle.ipdl_truth.specs.declared.agreement.TruthFault.TheVariants.{Abstract, Large, TooWide, Memory}
use Rattle.ipdl_typing.specs.Signatures.{signature_of}

-- ---- the same faults

pub same_told : (answer : Result Agreement TruthFault) → told_of answer ≡ Ok tt → answer ≡ Ok Same
same_told (Ok Same) e = refl
same_told (Ok (Differ valuation)) e = cc
same_told (Err (Abstract symbol)) e = cc
same_told (Err (Large bits)) e = cc
same_told (Err (TooWide bits)) e = cc
same_told (Err Memory) e = cc

pub differ_told : (answer : Result Agreement TruthFault) (v : List (ℕ × Value)) → told_of answer ≡ Err (E.NotSame v) → answer ≡ Ok (Differ v)
differ_told (Ok Same) v e = cc
differ_told (Ok (Differ valuation)) v e = cc
differ_told (Err (Abstract symbol)) v e = cc
differ_told (Err (Large bits)) v e = cc
differ_told (Err (TooWide bits)) v e = cc
differ_told (Err Memory) v e = cc

abstract_told : (answer : Result Agreement TruthFault) (x : ℕ) → told_of answer ≡ Err (E.Abstract x) → answer ≡ Err (Abstract x)
abstract_told (Ok Same) x e = cc
abstract_told (Ok (Differ valuation)) x e = cc
abstract_told (Err (Abstract symbol)) x e = cc
abstract_told (Err (Large bits)) x e = cc
abstract_told (Err (TooWide bits)) x e = cc
abstract_told (Err Memory) x e = cc

large_told : (answer : Result Agreement TruthFault) (x : ℕ) → told_of answer ≡ Err (E.Large x) → answer ≡ Err (Large x)
large_told (Ok Same) x e = cc
large_told (Ok (Differ valuation)) x e = cc
large_told (Err (Abstract symbol)) x e = cc
large_told (Err (Large bits)) x e = cc
large_told (Err (TooWide bits)) x e = cc
large_told (Err Memory) x e = cc

wide_told : (answer : Result Agreement TruthFault) (x : ℕ) → told_of answer ≡ Err (E.TooWide x) → answer ≡ Err (TooWide x)
wide_told (Ok Same) x e = cc
wide_told (Ok (Differ valuation)) x e = cc
wide_told (Err (Abstract symbol)) x e = cc
wide_told (Err (Large bits)) x e = cc
wide_told (Err (TooWide bits)) x e = cc
wide_told (Err Memory) x e = cc

pub no_match_told : (answer : Result Agreement TruthFault) → told_of answer ≡ Err E.NoMatch → ⊥
no_match_told (Ok Same) e = cc
no_match_told (Ok (Differ valuation)) e = cc
no_match_told (Err (Abstract symbol)) e = cc
no_match_told (Err (Large bits)) e = cc
no_match_told (Err (TooWide bits)) e = cc
no_match_told (Err Memory) e = cc

pub form_not_told : (answer : Result Agreement TruthFault) (bit : ℕ) → told_of answer ≡ Err (E.NotForm bit) → ⊥
form_not_told (Ok Same) bit e = cc
form_not_told (Ok (Differ valuation)) bit e = cc
form_not_told (Err (Abstract symbol)) bit e = cc
form_not_told (Err (Large bits)) bit e = cc
form_not_told (Err (TooWide bits)) bit e = cc
form_not_told (Err Memory) bit e = cc

-- ---- an answer to a question

module _ (q : Question) (answer : Result Agreement TruthFault) where
  abbrev pub TellsAbstract : Type 0
  TellsAbstract = (symbol : ℕ) → (answer ≡ Err (Abstract symbol)) ↔ (first_abstract q ≡ Some symbol)

  abbrev pub TellsLarge : Type 0
  TellsLarge = (bits : ℕ) → (answer ≡ Err (Large bits)) ↔ ((first_abstract q ≡ None) × (greatest_weight < weight_of q) × (bits ≡ saturated (weight_of q)))

  abbrev pub TellsWide : Type 0
  TellsWide = (bits : ℕ) → (answer ≡ Err (TooWide bits)) ↔ ((first_abstract q ≡ None) × (weight_of q ≤ greatest_weight) × (greatest_free_bits < free_bits q) × (bits ≡ free_bits q))

  abbrev pub TellsSame : Type 0
  TellsSame = IfOk answer (λ agreement. (agreement ≡ Same) ↔ AgreeEverywhere q)

-- The two expressions are compared: no abstract symbol occurs, and neither sum is too large.
pub record IsCompared (q : Question) : Type 0 where
  pub tables : first_abstract q ≡ None
  pub light : weight_of q ≤ greatest_weight
  pub narrow : free_bits q ≤ greatest_free_bits

-- so it is where there is an agreement
pub is_compared : (q : Question) (answer : Result Agreement TruthFault) → TellsAbstract q answer → TellsLarge q answer → TellsWide q answer → (agreement : Agreement) → answer ≡ Ok agreement → IsCompared q
is_compared q answer abstracts large wide agreement e = record { tables = tables; light = light; narrow = narrow }
  where
    none : (o : Option ℕ) → first_abstract q ≡ o → o ≡ None
    none None is = refl
    none (Some symbol) is = let k = (abstracts symbol).1 is in cc

    tables : first_abstract q ≡ None
    tables = none (first_abstract q) refl

    light : weight_of q ≤ greatest_weight
    light = elim (cases_lt greatest_weight (weight_of q)) [
      | inl more ↦ (let k = (large (saturated (weight_of q))).1 (tables, more, refl) in cc)
      | inr few ↦ few
    ]

    narrow : free_bits q ≤ greatest_free_bits
    narrow = elim (cases_lt greatest_free_bits (free_bits q)) [
      | inl more ↦ (let k = (wide (free_bits q)).1 (tables, light, more, refl) in cc)
      | inr few ↦ few
    ]

-- the answer Same tells all that an instance asks
pub answered_same : (q : Question) (answer : Result Agreement TruthFault) → TellsAbstract q answer → TellsLarge q answer → TellsWide q answer → TellsSame q answer → answer ≡ Ok Same → IsAnsweredSame q
answered_same q answer abstracts large wide same e =
    let h = is_compared q answer abstracts large wide Same e in
    let told = subst (λ a. IfOk a (λ agreement. (agreement ≡ Same) ↔ AgreeEverywhere q)) e same in
    record { tables = h.tables; light = h.light; narrow = h.narrow; agree = told.0 refl }

-- and where it holds the answer is Same, or memory ran out
pub same_or_memory : (q : Question) (answer : Result Agreement TruthFault) → TellsAbstract q answer → TellsLarge q answer → TellsWide q answer → TellsSame q answer → IsAnsweredSame q → (told_of answer ≡ Ok tt) ⊎ (told_of answer ≡ Err E.Memory)
same_or_memory q (Ok Same) abstracts large wide same h = inl refl
same_or_memory q (Ok (Differ valuation)) abstracts large wide same h = let k = same.1 h.agree in cc
same_or_memory q (Err (Abstract symbol)) abstracts large wide same h = let k = (abstracts symbol).0 refl in let t = h.tables in cc
same_or_memory q (Err (Large bits)) abstracts large wide same h = let k = ((large bits).0 refl).1 in let l = h.light in absurd (omega arith)
same_or_memory q (Err (TooWide bits)) abstracts large wide same h = let k = ((wide bits).0 refl).2 in let n = h.narrow in absurd (omega arith)
same_or_memory q (Err Memory) abstracts large wide same h = inr refl

-- ---- at `table`

module _ (symbols : List Symbol) (widths : List ℕ) (conditions : List HeldCondition) (old : Expr) (rule : HeldRule) (k : ℕ) (new : Expr) (is : rule ≡ H.Table k new) where
  abbrev stated : List Condition
  stated = map condition_of conditions

  -- what is asked, as it is asked
  abbrev asked : Question
  asked = question_of symbols widths old new (take k conditions)

  with_parts : List ℕ → List Condition → Question
  with_parts ws cs = record { sig = signature_of symbols; widths = ws; left = expression_of old; right = expression_of new; conditions = cs }

  asked_is : asked ≡ question_at (signature_of symbols) (reverse widths) stated k (expression_of old) (expression_of new)
  unfolding with_parts
  asked_is =
      ap (λ ws. with_parts ws (map condition_of (take k conditions))) (sym (reverse-reverse widths))
      ∙ ap (with_parts (reverse (reverse widths))) (sym (take-map condition_of k conditions))

  -- what is so of the question is so of the one that the rule asks
  pub asks : (P : Question → Type 0) (R : Pair → Type 0) → P asked → AsksWhere P R (signature_of symbols) (reverse widths) stated (rule_of rule) (expression_of old)
  asks P R p =
      let Q : HeldRule → Type 0 = λ x. AsksWhere P R (signature_of symbols) (reverse widths) stated (rule_of x) (expression_of old) in
      subst Q (sym is) (subst P asked_is p)

  pub is_asked : (P : Question → Type 0) (R : Pair → Type 0) → AsksWhere P R (signature_of symbols) (reverse widths) stated (rule_of rule) (expression_of old) → P asked
  is_asked P R p =
      let Q : HeldRule → Type 0 = λ x. AsksWhere P R (signature_of symbols) (reverse widths) stated (rule_of x) (expression_of old) in
      subst P (sym asked_is) (subst Q is p)

  tests_there : CanBeAsked (signature_of symbols) (reverse widths) stated (rule_of rule) → CanBeAsked (signature_of symbols) (reverse widths) stated (rule_of (H.Table k new))
  tests_there h = subst (λ x. CanBeAsked (signature_of symbols) (reverse widths) stated (rule_of x)) is h

  pub tests_of_asked : CanBeAsked (signature_of symbols) (reverse widths) stated (rule_of rule) → AreTests (signature_of symbols) (reverse widths) (map condition_of (take k conditions))
  tests_of_asked h = subst (AreTests (signature_of symbols) (reverse widths)) (take-map condition_of k conditions) (tests_there h).2

  pub instance_told : CanBeAsked (signature_of symbols) (reverse widths) stated (rule_of rule) → IsAnsweredSame asked → (right : Expression) × IsExpressionInstance (signature_of symbols) (reverse widths) stated (rule_of rule) (expression_of old) right
  instance_told h same =
      let Q : HeldRule → Type 0 = λ x. IsExpressionInstance (signature_of symbols) (reverse widths) stated (rule_of x) (expression_of old) (expression_of new) in
      (expression_of new, subst Q (sym is) ((tests_there h).1, subst IsAnsweredSame asked_is same, refl))

  pub told_instance : (right : Expression) → IsExpressionInstance (signature_of symbols) (reverse widths) stated (rule_of rule) (expression_of old) right → IsAnsweredSame asked
  told_instance right h =
      let Q : HeldRule → Type 0 = λ x. IsExpressionInstance (signature_of symbols) (reverse widths) stated (rule_of x) (expression_of old) right in
      let there = subst Q is h in
      subst IsAnsweredSame (sym asked_is) there.1

  module _ (answer : Result Agreement TruthFault) where
    pub abstracts_told : TellsAbstract asked answer → (symbol : ℕ) → (told_of answer ≡ Err (E.Abstract symbol)) ↔ AsksWhere (λ q. first_abstract q ≡ Some symbol) OfNone (signature_of symbols) (reverse widths) stated (rule_of rule) (expression_of old)
    abstracts_told h symbol =
        let P : Question → Type 0 = λ q. first_abstract q ≡ Some symbol in
        (λ e. asks P OfNone ((h symbol).0 (abstract_told answer symbol e)), λ p. ap told_of ((h symbol).1 (is_asked P OfNone p)))

    pub larges_told : TellsLarge asked answer → (bits : ℕ) → (told_of answer ≡ Err (E.Large bits)) ↔ AsksWhere (λ q. (first_abstract q ≡ None) × (greatest_weight < weight_of q) × (bits ≡ saturated (weight_of q))) (λ p. L.IsLarge p bits) (signature_of symbols) (reverse widths) stated (rule_of rule) (expression_of old)
    larges_told h bits =
        let P : Question → Type 0 = λ q. (first_abstract q ≡ None) × (greatest_weight < weight_of q) × (bits ≡ saturated (weight_of q)) in
        (λ e. asks P (λ p. L.IsLarge p bits) ((h bits).0 (large_told answer bits e)), λ p. ap told_of ((h bits).1 (is_asked P (λ x. L.IsLarge x bits) p)))

    pub wides_told : TellsWide asked answer → (bits : ℕ) → (told_of answer ≡ Err (E.TooWide bits)) ↔ AsksWhere (λ q. (first_abstract q ≡ None) × (weight_of q ≤ greatest_weight) × (greatest_free_bits < free_bits q) × (bits ≡ free_bits q)) OfNone (signature_of symbols) (reverse widths) stated (rule_of rule) (expression_of old)
    wides_told h bits =
        let P : Question → Type 0 = λ q. (first_abstract q ≡ None) × (weight_of q ≤ greatest_weight) × (greatest_free_bits < free_bits q) × (bits ≡ free_bits q) in
        (λ e. asks P OfNone ((h bits).0 (wide_told answer bits e)), λ p. ap told_of ((h bits).1 (is_asked P OfNone p)))

    pub differs_told : ((valuation : List (ℕ × Value)) → answer ≡ Ok (Differ valuation) → DifferFirstAt asked valuation) → (valuation : List (ℕ × Value)) → told_of answer ≡ Err (E.NotSame valuation) → AsksWhere (λ q. DifferFirstAt q valuation) OfNone (signature_of symbols) (reverse widths) stated (rule_of rule) (expression_of old)
    differs_told h valuation e = asks (λ q. DifferFirstAt q valuation) OfNone (h valuation (differ_told answer valuation e))
