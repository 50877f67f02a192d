-- The tests of a step by a rule in groups, as the calls make them: of the part at the place, and of the new whole term.
use Rattle.std.specs.Prelude.{◌≡◌, ℕ, Bool, true, false, option_map, List, [], ◌∷◌, Option, None, Result, Ok, Err, IsSomeAnd}
use Rattle.std.specs.Option.{option_or}
use Rattle.ipdl_chain.specs.Chains.{last_of}
use Rattle.ipdl_rules_p.specs.Room as P
use Rattle.ipdl_rules_r.specs.Room as Q
use Rattle.ipdl_script.specs.Answers.{TellsRefusal, TellsWrong}
use Rattle.ipdl_script.specs.Instances.{Answer, other_shape, answer_at}
use Rattle.ipdl_script.specs.EndPlaces.{differing_place}
use Rattle.ipdl_script.specs.Scripts.{Wrong, right_side, wrong_ends, wrong_in_script, links_of_script}
use Rattle.ipdl_script.specs.Settling.{unsettled_in_step, settled_rule}
use Rattle.ipdl_script.specs.Steps.{Setting, Refusal, is_of_kind, depth_at, around_step, settled_there, place_test, variable_test, match_test, side_test, size_test, result_test, nodes_test, channels_test, depth_test, type_test, truth_test, part_of, answered_there, first_refusal, place_of, after_step}
use Rattle.ipdl_script.specs.declared.fault.ScriptFault.{ScriptFault}
use Rattle.ipdl_script.specs.declared.fault.StepFault.{StepFault}
use Rattle.ipdl_term.specs.Interpretations.{Signature}
use Rattle.ipdl_term.specs.Places.{AreOfOneKind, protocol_or, term_with}
use Rattle.ipdl_term.specs.Rules.{Rule, row_of}
use Rattle.ipdl_term.specs.Rules as R
use Rattle.ipdl_term.specs.Steps.{Step, plain}
use Rattle.ipdl_term.specs.Surroundings.{Surroundings}
use Rattle.ipdl_term.specs.Terms.{Protocol, nil, Term, protocol_term, reaction_term, expression_term}

-- a call passes where nothing refuses, and else tells the refusal
abbrev pub AnswersTest : {X : Type 0} → Result X StepFault → Option Refusal → Type 0
AnswersTest (Ok value) refusal = refusal ≡ None
AnswersTest (Err fault) refusal = TellsRefusal fault refusal

-- a call for scripts finds nothing wrong, and else tells what is
abbrev pub AnswersScripts : {X : Type 0} → Result X ScriptFault → Option Wrong → Type 0
AnswersScripts (Ok value) wrong = wrong ≡ None
AnswersScripts (Err fault) wrong = TellsWrong fault wrong

-- ---- the answer of a rule

-- what a rule answers to the term that is written out, where this part stands at the place
abbrev pub written_answer : Signature → Surroundings → Rule → (written part : Term) → Answer
written_answer sig there rule (protocol_term left) (protocol_term part) = answer_at sig there rule (protocol_term left)
written_answer sig there rule (reaction_term left) (reaction_term part) = answer_at sig there rule (reaction_term left)
written_answer sig there rule _ _ = other_shape

-- the numbers of the variables of a rule, settled under so many binders, and of its left side have 32 bits
abbrev pub HasRoomFor : (depth : ℕ) → Rule → (left : Term) → Type 0
HasRoomFor depth rule (protocol_term left) = P.HasRoom rule left
HasRoomFor depth rule (reaction_term left) = Q.HasRoom (settled_rule depth rule) left
HasRoomFor depth rule (expression_term left) = Unit {0}

-- what refuses an answer: no left side, a side condition, or too large a right side
abbrev pub answer_refusal : Answer → Option Refusal
answer_refusal answered = first_refusal (match_test answered ∷ side_test answered ∷ size_test answered ∷ [])

-- or, for `rev`, another right side than the part at the place
abbrev pub change_refusal : Step → (part : Option Term) → Answer → Option Refusal
change_refusal step part answered =
    first_refusal (match_test answered ∷ side_test answered ∷ size_test answered ∷ result_test step part answered ∷ [])

-- ---- the two groups

-- the tests before the new whole term is made
abbrev pub part_tests : Setting → Protocol → Step → List (Option Refusal)
part_tests x before step =
    place_test (part_of before step)
    ∷ variable_test (unsettled_in_step (depth_at x before step) step)
    ∷ match_test (answered_there x before step)
    ∷ side_test (answered_there x before step)
    ∷ size_test (answered_there x before step)
    ∷ result_test (settled_there x before step) (part_of before step) (answered_there x before step)
    ∷ []

abbrev pub part_refusal : Setting → Protocol → Step → Option Refusal
part_refusal x before step = first_refusal (part_tests x before step)

-- the tests of the whole term that is made
abbrev pub whole_refusal : Setting → (after : Protocol) → Option Refusal
whole_refusal x after =
    first_refusal (nodes_test after ∷ channels_test after ∷ depth_test after ∷ type_test x after ∷ [])

-- The step puts this part in the place of one of its kind: where the tests pass, that is the new whole term.
pub record IsChanged (x : Setting) (before : Protocol) (step : Step) (new : Term) : Type 0 where
  pub kind : IsSomeAnd (part_of before step) (λ old. AreOfOneKind old new)
  pub whole : after_step x before step ≡ protocol_or before (term_with (protocol_term before) (place_of step) new)

-- the test of the truth
abbrev pub truth_there : Setting → Protocol → Step → Option Refusal
truth_there x before step =
    truth_test x (around_step x before step) (settled_there x before step) (part_of before step) (answered_there x before step)

-- ---- types

-- whether each right side of the rule has the type of its left side: so it is of the rules for protocols but `subsume`
abbrev pub keeps_type : Rule → Bool
keeps_type (R.subsume c w) = false
keeps_type rule = is_of_kind (row_of rule).kind (protocol_term nil)

-- the step goes from the left side to the right one of such a rule
abbrev pub KeepsType : Step → Type 0
KeepsType (plain place rule) = keeps_type rule ≡ true
KeepsType _ = ⊥

-- ---- scripts

-- what is wrong after the left side has come to its end: a step of the right side, and else the two ends
abbrev pub wrong_on_right : Setting → (so_far : ℕ) → (left_end right : Protocol) → List Step → Option Wrong
wrong_on_right x so_far left_end right steps =
    option_or (wrong_in_script x so_far right_side 1 right steps)
    (option_map wrong_ends (differing_place left_end (last_of right (links_of_script x right steps))))
