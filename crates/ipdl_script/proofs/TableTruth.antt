-- The truth that `table` asks for: both expressions are typed at the place, and the answer on the question is the test.
use Rattle.std.proofs.Common.{◌≡◌, ℕ, zero, suc, ◌≤◌, nat_le, true, List, [], ◌∷◌, length, Some, None, Result, sym, ap, ◌∙◌, subst}
use Rattle.std.proofs.lemmas.Bool.{leb-true}
use Rattle.std.specs.Prelude.{take, option_map}
use Rattle.ipdl_laws.proofs.Sets.{if-true}
use Rattle.ipdl_laws.proofs.TypedParts.{typed_part}
use Rattle.ipdl_rules_r.specs.Expressions.{question_at}
use Rattle.ipdl_rules_r.specs.TruthTests.{truth_refusal}
use Rattle.ipdl_script.proofs.PartTests.{table_refusal, plain_refusal}
use Rattle.ipdl_script.proofs.PlacedExpressions.{old_is_typed, new_is_typed}
use Rattle.ipdl_script.proofs.StepTests.{none_of_either}
use Rattle.ipdl_script.proofs.StepTests.{true_unless}
use Rattle.ipdl_script.specs.Fitting.{WholeFits}
use Rattle.ipdl_script.specs.Instances.{failing, gives, answer_at}
use Rattle.ipdl_script.specs.Settling.{unsettled_in_arguments}
use Rattle.ipdl_script.specs.Steps.{Setting, scope_in, around_place, refused_unless, side_fails, variable_test, truth_test, untrue, answer_to, after_step}
use Rattle.ipdl_script.specs.TestGroups.{AnswersTest, part_refusal, truth_there}
use Rattle.ipdl_script.specs.declared.fault.StepFault.{StepFault}
use Rattle.ipdl_term.specs.Interpretations.{Signature}
use Rattle.ipdl_term.specs.Places.{protocol_or, term_at, term_with}
use Rattle.ipdl_term.specs.Rules as R
use Rattle.ipdl_term.specs.Rules.{rule_arguments}
use Rattle.ipdl_term.specs.Steps.{Step, plain}
use Rattle.ipdl_term.specs.Surroundings.{Surroundings, Condition, outermost, IsTypedAt, AreTests}
use Rattle.ipdl_term.specs.Terms.{Expression, Protocol, protocol_term, expression_term}
use Rattle.ipdl_term.specs.Typing.{HasWidth, HasInterface, IsTyped}
use Rattle.ipdl_term.specs.Variables.{settled_expression}

-- the first of some tests
AreTests-take : (sig : Signature) (widths : List ℕ) (k : ℕ) (conditions : List Condition) → AreTests sig widths conditions → AreTests sig widths (take k conditions)
AreTests-take sig widths zero conditions h = tt
AreTests-take sig widths (suc k) [] h = tt
AreTests-take sig widths (suc k) (c ∷ conditions) h = (h.0, AreTests-take sig widths k conditions h.1)

module _ (x : Setting) (before : Protocol) (place : List ℕ) (k : ℕ) (e old : Expression) (at : term_at (protocol_term before) place ≡ Some (expression_term old)) where
  abbrev there : Surroundings
  there = around_place x before place

  abbrev new : Expression
  new = settled_expression (length there.widths) e

  abbrev step : Step
  step = plain place (R.table k e)

  -- as many conditions are around as the rule uses
  enough : part_refusal x before step ≡ None → nat_le k (length there.conditions) ≡ true
  enough passed =
      let parts = none_of_either (variable_test (unsettled_in_arguments (length there.widths) (rule_arguments (R.table k e)))) _ (sym (plain_refusal x before place (R.table k e) (expression_term old) at) ∙ passed) in
      let answer = none_of_either (refused_unless (nat_le k (length there.conditions)) (side_fails 1)) _ (sym (table_refusal there.conditions (length there.widths) k e) ∙ parts.1) in
      true_unless (nat_le k (length there.conditions)) (side_fails 1) answer.0

  answered : part_refusal x before step ≡ None → answer_at x.sig there (R.table k new) (expression_term old) ≡ gives (expression_term new)
  answered passed = if-true (nat_le k (length there.conditions)) (gives (expression_term new)) (failing 1) (enough passed)

  told : part_refusal x before step ≡ None → truth_there x before step ≡ option_map untrue (truth_refusal (question_at x.sig there.widths there.conditions k old new))
  told passed =
      ap (λ part. truth_test x there (plain place (R.table k new)) part (answer_to x there (plain place (R.table k new)) part)) at
      ∙ ap (truth_test x there (plain place (R.table k new)) (Some (expression_term old))) (answered passed)

  -- ---- where widths, conditions and depth are held by the program

  module _ (widths : List ℕ) (conditions : List Condition) (depth : ℕ) (w : widths ≡ there.widths) (c : conditions ≡ there.conditions) (d : depth ≡ length there.widths) where
    pub old_fits : WholeFits x before → (n : ℕ) × HasWidth x.sig widths old n
    old_fits whole =
        subst (λ ws. (n : ℕ) × HasWidth x.sig ws old n) (sym w) (old_is_typed x before place old at whole)

    pub new_fits : part_refusal x before step ≡ None → HasInterface x.sig x.interface (after_step x before step) → (n : ℕ) × HasWidth x.sig widths (settled_expression depth e) n
    new_fits passed typed =
        subst (λ m. (n : ℕ) × HasWidth x.sig widths (settled_expression m e) n) (sym d)
        (subst (λ ws. (n : ℕ) × HasWidth x.sig ws new n) (sym w) (new_is_typed x before place old at (R.table k e) new (answered passed) typed))

    pub tests_fit : WholeFits x before → AreTests x.sig widths (take k conditions)
    tests_fit whole =
        subst (λ ws. AreTests x.sig ws (take k conditions)) (sym w)
        (subst (λ cs. AreTests x.sig there.widths (take k cs)) (sym c)
        (AreTests-take x.sig there.widths k there.conditions (typed_part x.sig (outermost (scope_in x)) (protocol_term before) whole.typed.typed tt place (expression_term old) at).1))

    pub enough_held : part_refusal x before step ≡ None → k ≤ length conditions
    enough_held passed = subst (λ cs. k ≤ length cs) (sym c) (leb-true k (length there.conditions) (enough passed))

    pub truth_told : {X : Type 0} (r : Result X StepFault) → part_refusal x before step ≡ None →
        AnswersTest r (option_map untrue (truth_refusal (question_at x.sig widths conditions k old (settled_expression depth e)))) → AnswersTest r (truth_there x before step)
    truth_told r passed h =
        let Told : List ℕ → List Condition → ℕ → Type 0 = λ ws cs m. AnswersTest r (option_map untrue (truth_refusal (question_at x.sig ws cs k old (settled_expression m e)))) in
        subst (AnswersTest r) (sym (told passed))
        (subst (λ m. Told there.widths there.conditions m) d (subst (λ cs. Told there.widths cs depth) c (subst (λ ws. Told ws conditions depth) w h)))
