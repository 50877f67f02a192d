-- The linear forms that `lin` compares: both expressions are typed at the place, and the answer on the pair is the test.
use Rattle.std.proofs.Common.{◌≡◌, ℕ, List, length, None, Some, Result, refl, sym, ap, subst}
use Rattle.std.specs.Prelude.{option_map}
use Rattle.ipdl_rules_r.specs.Expressions.{pair_at}
use Rattle.ipdl_rules_r.specs.TruthTests.{form_refusal}
use Rattle.ipdl_script.proofs.PlacedExpressions.{old_is_typed, new_is_typed}
use Rattle.ipdl_script.specs.Fitting.{WholeFits}
use Rattle.ipdl_script.specs.Steps.{Setting, around_place, truth_test, untrue, answer_to, after_step}
use Rattle.ipdl_script.specs.TestGroups.{AnswersTest, truth_there}
use Rattle.ipdl_script.specs.declared.fault.StepFault.{StepFault}
use Rattle.ipdl_term.specs.Places.{term_at}
use Rattle.ipdl_term.specs.Rules as R
use Rattle.ipdl_term.specs.Steps.{plain}
use Rattle.ipdl_term.specs.Surroundings.{Surroundings}
use Rattle.ipdl_term.specs.Terms.{Expression, Protocol, protocol_term, expression_term}
use Rattle.ipdl_term.specs.Typing.{HasWidth, HasInterface}
use Rattle.ipdl_term.specs.Variables.{settled_expression}

module _ (x : Setting) (before : Protocol) (place : List ℕ) (e old : Expression) (at : term_at (protocol_term before) place ≡ Some (expression_term old)) where
  abbrev there : Surroundings
  there = around_place x before place

  abbrev new : Expression
  new = settled_expression (length there.widths) e

  told : truth_there x before (plain place (R.lin e)) ≡ option_map untrue (form_refusal (pair_at x.sig there.widths old new))
  told = ap (λ part. truth_test x there (plain place (R.lin new)) part (answer_to x there (plain place (R.lin new)) part)) at

  -- ---- where widths and depth are held by the program

  module _ (widths : List ℕ) (depth : ℕ) (w : widths ≡ there.widths) (d : depth ≡ length there.widths) where
    pub old_fits : WholeFits x before → (n : ℕ) × HasWidth x.sig widths old n
    old_fits whole = subst (λ ws. (n : ℕ) × HasWidth x.sig ws old n) (sym w) (old_is_typed x before place old at whole)

    pub new_fits : HasInterface x.sig x.interface (after_step x before (plain place (R.lin e))) → (n : ℕ) × HasWidth x.sig widths (settled_expression depth e) n
    new_fits typed =
        subst (λ m. (n : ℕ) × HasWidth x.sig widths (settled_expression m e) n) (sym d)
        (subst (λ ws. (n : ℕ) × HasWidth x.sig ws new n) (sym w) (new_is_typed x before place old at (R.lin e) new refl typed))

    pub forms_told : {X : Type 0} (r : Result X StepFault) →
        AnswersTest r (option_map untrue (form_refusal (pair_at x.sig widths old (settled_expression depth e)))) → AnswersTest r (truth_there x before (plain place (R.lin e)))
    forms_told r h =
        let Told : List ℕ → ℕ → Type 0 = λ ws m. AnswersTest r (option_map untrue (form_refusal (pair_at x.sig ws old (settled_expression m e)))) in
        subst (AnswersTest r) (sym told) (subst (λ m. Told there.widths m) d (subst (λ ws. Told ws depth) w h))
