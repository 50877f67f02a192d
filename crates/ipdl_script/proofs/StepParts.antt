-- A step by a rule from the two groups of its tests, and what it adds.
use Rattle.std.proofs.Common.{◌≡◌, List, [], ◌∷◌, length, Result, Ok, Err, None, refl, ap, sym, ◌∙◌, subst}
use Rattle.std.proofs.lemmas.List.Elements.{All-cons, All-nil}
use Rattle.std.specs.Option.{option_or}
use Rattle.std.specs.Prelude.{IfOk}
use Rattle.ipdl_chain.specs.Views.{IsMarkWithin, mark_of}
use Rattle.ipdl_chain.specs.declared.chain.Mark.{Mark as HeldMark}
use Rattle.ipdl_script.proofs.Fits.{whole_is_within}
use Rattle.ipdl_script.proofs.StepLaws.{plain_keeps_type}
use Rattle.ipdl_script.proofs.Refusals.{told_first, told_later, none_told, first_refusal-append}
use Rattle.ipdl_script.proofs.StepTests.{option_or-none}
use Rattle.ipdl_script.specs.Adding.{IsAdded}
use Rattle.ipdl_script.specs.Answers.{TellsRefusal, StepsFrom}
use Rattle.ipdl_script.specs.Fitting.{WholeFits}
use Rattle.ipdl_script.specs.Scripts.{links_of_step}
use Rattle.ipdl_script.specs.Steps.{Setting, nodes_test, channels_test, depth_test, type_test, rule_tests, first_refusal, step_refusal, after_rule, after_step}
use Rattle.ipdl_script.specs.TestGroups.{AnswersTest, KeepsType, part_tests, part_refusal, whole_refusal, truth_there}
use Rattle.ipdl_script.specs.Trails.{IsByRule}
use Rattle.ipdl_script.specs.declared.fault.StepFault.{StepFault}
use Rattle.ipdl_term.specs.Steps.{Step, plain, rev, invoke}
use Rattle.ipdl_term.specs.Terms.{Protocol}
use Rattle.ipdl_term.specs.Typing.{HasInterface}
use Rattle.ipdl_term.specs.Views.{protocol_of}
use Rattle.ipdl_term.specs.Within.{IsProtocolWithin}
use Rattle.ipdl_term.specs.declared.protocol.Proto.{Proto}

-- The first of the tests of a rule is that of the part, and else that of the new whole term, and else that of the truth.
split_tests : (x : Setting) (before : Protocol) (step : Step) →
    first_refusal (rule_tests x before step) ≡ option_or (part_refusal x before step) (option_or (whole_refusal x (after_rule x before step)) (truth_there x before step))
split_tests x before step =
    let after = after_rule x before step in
    first_refusal-append (part_tests x before step) (nodes_test after ∷ channels_test after ∷ depth_test after ∷ type_test x after ∷ truth_there x before step ∷ [])
    ∙ ap (option_or (part_refusal x before step))
    (first_refusal-append (nodes_test after ∷ channels_test after ∷ depth_test after ∷ type_test x after ∷ []) (truth_there x before step ∷ [])
    ∙ ap (option_or (whole_refusal x after)) (option_or-none (truth_there x before step)))

-- so it is with the refusal of a step by a rule
split : (x : Setting) (before : Protocol) (step : Step) → IsByRule step →
    step_refusal x before step ≡ option_or (part_refusal x before step) (option_or (whole_refusal x (after_step x before step)) (truth_there x before step))
split x before (plain place rule) by = split_tests x before (plain place rule)
split x before (rev place rule term) by = split_tests x before (rev place rule term)
split x before (invoke place name direction pairs) by = absurd by

module _ (x : Setting) (before : Protocol) (step : Step) (by : IsByRule step) where
  pub told_of_part : (fault : StepFault) → TellsRefusal fault (part_refusal x before step) → TellsRefusal fault (step_refusal x before step)
  told_of_part fault h = subst (TellsRefusal fault) (sym (split x before step by)) (told_first fault _ _ h)

  pub told_of_whole : (after : Protocol) (r : Result Proto StepFault) → part_refusal x before step ≡ None → after_step x before step ≡ after →
      AnswersTest r (option_or (whole_refusal x after) (truth_there x before step)) → IfOk r (λ whole. protocol_of whole ≡ after) → StepsFrom r x before step
  told_of_whole after (Ok whole) part is h same =
      (split x before step by ∙ none_told _ _ part (ap (λ p. option_or (whole_refusal x p) (truth_there x before step)) is ∙ h), same ∙ sym is)
  told_of_whole after (Err fault) part is h same =
      subst (TellsRefusal fault) (sym (split x before step by))
      (told_later fault _ _ part (subst (λ p. TellsRefusal fault (option_or (whole_refusal x p) (truth_there x before step))) (sym is) h))

-- what a step leads to that keeps the type is typed
pub kept_is_typed : (x : Setting) (before : Protocol) (step : Step) (after : Protocol) → HasInterface x.sig x.interface before → part_refusal x before step ≡ None → after_step x before step ≡ after →
    KeepsType step → HasInterface x.sig x.interface after
kept_is_typed x before (plain place rule) after typed part is h = subst (HasInterface x.sig x.interface) is (plain_keeps_type x before place rule h typed part)
kept_is_typed x before (rev place rule term) after typed part is h = absurd h
kept_is_typed x before (invoke place name direction pairs) after typed part is h = absurd h

-- ---- what it adds

-- The step adds this term by its mark.
pub one_is_added : (x : Setting) (before : Protocol) (step : Step) (term : Proto) (mark : HeldMark) (terms : List Proto) (marks : List HeldMark) → terms ≡ term ∷ [] → marks ≡ mark ∷ [] →
    protocol_of term ≡ after_step x before step → WholeFits x (protocol_of term) →
    links_of_step x before step (protocol_of term) ≡ record { mark = mark_of mark; term = protocol_of term } ∷ [] → IsMarkWithin (length x.sig) mark → IsAdded x before step terms marks
one_is_added x before step term mark terms marks ts ms is fits link within =
    let Printed : Proto → Type 0 = λ t. IsProtocolWithin (length x.sig) (protocol_of t) in
    let Carried : HeldMark → Type 0 = λ m. IsMarkWithin (length x.sig) m in
    let one : IsAdded x before step (term ∷ []) (mark ∷ []) = record {
      paired = refl;
      links = sym link ∙ ap (links_of_step x before step) is;
      leads = is;
      end = subst (WholeFits x) is fits;
      terms = All-cons Printed term [] (whole_is_within x (protocol_of term) fits) (All-nil Printed);
      marks = All-cons Carried mark [] within (All-nil Carried);
    } in
    subst (λ us. IsAdded x before step us marks) (sym ts) (subst (λ ns. IsAdded x before step (term ∷ []) ns) (sym ms) one)
