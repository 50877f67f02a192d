-- The tests of a step before the new whole term is made, by what its calls tell.
use Rattle.std.proofs.Common.{◌≡◌, ℕ, nat_le, Bool, true, false, List, [], ◌∷◌, length, Option, Some, None, Result, refl, sym, ap, ap₂, ◌∙◌, subst}
use Rattle.std.specs.Option.{option_or}
use Rattle.std.specs.Prelude.{IsSomeAnd, if◌then◌else◌, ◌&&◌}
use Rattle.ipdl_base.specs.declared.limit.Limit.TheVariants.{Nodes}
use Rattle.ipdl_script.proofs.InstanceLaws.{given_at_protocol, given_at_reaction, given_expression, given_right}
use Rattle.ipdl_script.proofs.Refusals.{told_first, none_told, answers_later}
use Rattle.ipdl_script.proofs.StepTests.{option_or-none}
use Rattle.ipdl_script.specs.Answers.{TellsRefusal}
use Rattle.ipdl_script.specs.Instances.{Answer, other_shape, failing, gives, expression_answer, answer_at}
use Rattle.ipdl_script.specs.Settling.{unsettled_in_arguments, settled_rule}
use Rattle.ipdl_script.specs.Steps.{Setting, around_place, is_of_kind, is_reversible, answer_to, changed, Refusal, refused_unless, limit_test, side_fails, place_test, variable_test, match_test, side_test, size_test, result_test, first_refusal}
use Rattle.ipdl_script.specs.TestGroups.{AnswersTest, written_answer, answer_refusal, change_refusal, part_refusal, IsChanged}
use Rattle.ipdl_script.specs.declared.fault.StepFault.{StepFault}
use Rattle.ipdl_term.specs.Interpretations.{Signature}
use Rattle.ipdl_term.specs.Places.{AreOfOneKind, term_at}
use Rattle.ipdl_term.specs.Rules.{Rule, rule_arguments, row_of}
use Rattle.ipdl_term.specs.Rules as R
use Rattle.ipdl_term.specs.Sizes.{most_nodes, expression_nodes, term_nodes}
use Rattle.ipdl_term.specs.Steps.{Step, plain, rev}
use Rattle.ipdl_term.specs.Surroundings.{Surroundings, Condition}
use Rattle.ipdl_term.specs.Terms.{Expression, literal, variable, outer, application, exclusive, conjunction, negation, concatenation, segment, equality, selection, Reaction, Protocol, Term, protocol_term, reaction_term, expression_term}
use Rattle.ipdl_term.specs.Variables.{first_number, settled_expression, settled_term, unsettled_number}

-- ---- table

expression_nodes-settled : (d : ℕ) (e : Expression) → expression_nodes (settled_expression d e) ≡ expression_nodes e
expression_nodes-settled d (literal bits) = refl
expression_nodes-settled d (variable m) = refl
expression_nodes-settled d (outer m) = refl
expression_nodes-settled d (application f e) = rw (expression_nodes-settled d e) refl
expression_nodes-settled d (exclusive a b) = rw (expression_nodes-settled d a, expression_nodes-settled d b) refl
expression_nodes-settled d (conjunction a b) = rw (expression_nodes-settled d a, expression_nodes-settled d b) refl
expression_nodes-settled d (negation a) = rw (expression_nodes-settled d a) refl
expression_nodes-settled d (concatenation a b) = rw (expression_nodes-settled d a, expression_nodes-settled d b) refl
expression_nodes-settled d (segment i m a) = rw (expression_nodes-settled d a) refl
expression_nodes-settled d (equality a b) = rw (expression_nodes-settled d a, expression_nodes-settled d b) refl
expression_nodes-settled d (selection c a b) = rw (expression_nodes-settled d c, expression_nodes-settled d a, expression_nodes-settled d b) refl

-- its answer is refused for want of conditions, and else for too many nodes
refused_answer : (b : Bool) (t : Term) → answer_refusal (if b then gives t else failing 1) ≡ option_or (refused_unless b (side_fails 1)) (limit_test Nodes most_nodes (term_nodes t))
refused_answer true t = option_or-none (limit_test Nodes most_nodes (term_nodes t))
refused_answer false t = refl

pub table_refusal : (conditions : List Condition) (d k : ℕ) (e : Expression) → answer_refusal (expression_answer conditions (settled_rule d (R.table k e))) ≡
    option_or (refused_unless (nat_le k (length conditions)) (side_fails 1)) (limit_test Nodes most_nodes (expression_nodes e))
table_refusal conditions d k e =
    refused_answer (nat_le k (length conditions)) (expression_term (settled_expression d e))
    ∙ ap (λ n. option_or (refused_unless (nat_le k (length conditions)) (side_fails 1)) (limit_test Nodes most_nodes n)) (expression_nodes-settled d e)

-- what `lin` answers is too large or not
pub lin_refusal : (d : ℕ) (e : Expression) → answer_refusal (gives (expression_term (settled_expression d e))) ≡ limit_test Nodes most_nodes (expression_nodes e)
lin_refusal d e =
    refused_answer true (expression_term (settled_expression d e)) ∙ ap (limit_test Nodes most_nodes) (expression_nodes-settled d e)

-- ---- changes

-- an answer is refused by itself, and then for another result
by_parts : (m s z r : Option Refusal) → option_or m (option_or s (option_or z (option_or r None))) ≡ option_or (option_or m (option_or s (option_or z None))) r
by_parts None None None r = option_or-none r
by_parts None None (Some z) r = refl
by_parts None (Some s) z r = refl
by_parts (Some m) s z r = refl

pub told_of_answer : (fault : StepFault) (step : Step) (part : Option Term) (answered : Answer) → TellsRefusal fault (answer_refusal answered) → TellsRefusal fault (change_refusal step part answered)
told_of_answer fault step part answered h =
    subst (TellsRefusal fault) (sym (by_parts (match_test answered) (side_test answered) (size_test answered) (result_test step part answered)))
    (told_first fault (answer_refusal answered) (result_test step part answered) h)

-- ---- answers, where a rule is for other terms

module _ (sig : Signature) (s : Surroundings) where
  at_protocol : (rule : Rule) (p : Protocol) → (if is_of_kind (row_of rule).kind (protocol_term p) then answer_at sig s rule (protocol_term p) else other_shape) ≡ answer_at sig s rule (protocol_term p)
  at_protocol R.comm p = refl
  at_protocol _ p = refl

  at_reaction : (rule : Rule) (r : Reaction) → (if is_of_kind (row_of rule).kind (reaction_term r) then answer_at sig s rule (reaction_term r) else other_shape) ≡ answer_at sig s rule (reaction_term r)
  at_reaction R.comm r = refl
  at_reaction _ r = refl

  at_expression : (rule : Rule) (e : Expression) → (if is_of_kind (row_of rule).kind (expression_term e) then answer_at sig s rule (expression_term e) else other_shape) ≡ answer_at sig s rule (expression_term e)
  at_expression R.comm e = refl
  at_expression _ e = refl

  -- to the part
  plain_answer : (rule : Rule) (part : Term) → (if is_of_kind (row_of rule).kind part then answer_at sig s rule part else other_shape) ≡ answer_at sig s rule part
  plain_answer rule (protocol_term p) = at_protocol rule p
  plain_answer rule (reaction_term r) = at_reaction rule r
  plain_answer rule (expression_term e) = at_expression rule e

  -- to the term that is written out
  abbrev Back : Rule → (written part : Term) → Type 0
  Back rule written part =
      (if is_reversible (row_of rule).kind && is_of_kind (row_of rule).kind part then answer_at sig s rule written else other_shape) ≡ written_answer sig s rule written part

  back_answer : (rule : Rule) (written part : Term) → Back rule written part
  back_answer R.comm (protocol_term l) (protocol_term p) = refl
  back_answer R.comm (protocol_term l) (reaction_term p) = refl
  back_answer R.comm (protocol_term l) (expression_term p) = refl
  back_answer R.comm (reaction_term l) (protocol_term p) = refl
  back_answer R.comm (reaction_term l) (reaction_term p) = refl
  back_answer R.comm (reaction_term l) (expression_term p) = refl
  back_answer R.comm (expression_term l) (protocol_term p) = refl
  back_answer R.comm (expression_term l) (reaction_term p) = refl
  back_answer R.comm (expression_term l) (expression_term p) = refl
  back_answer _ (protocol_term l) (protocol_term p) = refl
  back_answer _ (protocol_term l) (reaction_term p) = refl
  back_answer _ (protocol_term l) (expression_term p) = refl
  back_answer _ (reaction_term l) (protocol_term p) = refl
  back_answer _ (reaction_term l) (reaction_term p) = refl
  back_answer _ (reaction_term l) (expression_term p) = refl
  back_answer _ (expression_term l) (protocol_term p) = refl
  back_answer _ (expression_term l) (reaction_term p) = refl
  back_answer _ (expression_term l) (expression_term p) = refl

  -- ---- kinds

  kept_kind : (rule : Rule) (left right : Term) → answer_at sig s rule left ≡ gives right → AreOfOneKind left right
  kept_kind rule (protocol_term left) right h = let given = given_at_protocol rule left right h in subst (AreOfOneKind (protocol_term left)) (sym given.1) tt
  kept_kind rule (reaction_term left) right h = let given = given_at_reaction sig rule left right h in subst (AreOfOneKind (reaction_term left)) (sym given.1) tt
  kept_kind (R.table k e) (expression_term left) right h =
      let given = given_expression (nat_le k (length s.conditions)) (expression_term e) right h in subst (AreOfOneKind (expression_term left)) (sym given.1) tt
  kept_kind (R.lin e) (expression_term left) right h = subst (AreOfOneKind (expression_term left)) (given_right (expression_term e) right h) tt
  kept_kind _ (expression_term left) right h = cc

  written_kind : (rule : Rule) (written part : Term) → written_answer sig s rule written part ≡ gives part → AreOfOneKind part written
  written_kind rule (protocol_term left) (protocol_term part) h = tt
  written_kind rule (reaction_term left) (reaction_term part) h = tt
  written_kind rule _ _ h = cc

-- ---- a plain step

module _ (x : Setting) (before : Protocol) (place : List ℕ) (rule : Rule) (part : Term) (at : term_at (protocol_term before) place ≡ Some part) where
  abbrev there : Surroundings
  there = around_place x before place

  abbrev depth : ℕ
  depth = length there.widths

  abbrev settled : Rule
  settled = settled_rule depth rule

  -- the tests, by the part and the answer
  abbrev Tests : Step → Option ℕ → Option Term → Answer → Option Refusal
  Tests step unsettled found answered =
      first_refusal (place_test found ∷ variable_test unsettled ∷ match_test answered ∷ side_test answered ∷ size_test answered ∷ result_test step found answered ∷ [])

  abbrev unsettled : Option ℕ
  unsettled = unsettled_in_arguments depth (rule_arguments rule)

  pub plain_refusal : part_refusal x before (plain place rule) ≡ option_or (variable_test unsettled) (answer_refusal (answer_at x.sig there settled part))
  plain_refusal =
      ap (λ found. Tests (plain place settled) unsettled found (answer_to x there (plain place settled) found)) at
      ∙ ap (Tests (plain place settled) unsettled (Some part)) (plain_answer x.sig there settled part)

  pub plain_changed : (new : Term) → answer_at x.sig there settled part ≡ gives new → IsChanged x before (plain place rule) new
  plain_changed new h = record {
    kind = subst (λ found. IsSomeAnd found (λ old. AreOfOneKind old new)) (sym at) (kept_kind x.sig there settled part new h);
    whole = ap (λ found. changed before (plain place settled) (answer_to x there (plain place settled) found)) at ∙ ap (changed before (plain place settled)) (plain_answer x.sig there settled part ∙ h);
  }

  -- ---- a step back

  first_variable : (one other : Option ℕ) → variable_test (first_number one other) ≡ option_or (variable_test one) (variable_test other)
  first_variable None other = refl
  first_variable (Some n) other = refl

  -- where the rule stands in the step makes no difference to the test
  same_change : (term : Term) (answered : Answer) → change_refusal (rev place settled term) (Some part) answered ≡ change_refusal (rev [] settled term) (Some part) answered
  same_change term other_shape = refl
  same_change term (failing number) = refl
  same_change term (gives right) = refl

  module _ (term : Term) where
    abbrev written : Term
    written = settled_term depth term

    pub rev_refusal : part_refusal x before (rev place rule term) ≡
        option_or (option_or (variable_test unsettled) (variable_test (unsettled_number depth term)))
        (change_refusal (rev [] settled written) (Some part) (written_answer x.sig there settled written part))
    rev_refusal =
        let both = first_number unsettled (unsettled_number depth term) in
        ap (λ found. Tests (rev place settled written) both found (answer_to x there (rev place settled written) found)) at
        ∙ ap (Tests (rev place settled written) both (Some part)) (back_answer x.sig there settled written part)
        ∙ ap₂ option_or (first_variable unsettled (unsettled_number depth term)) (same_change written (written_answer x.sig there settled written part))

    pub rev_changed : written_answer x.sig there settled written part ≡ gives part → IsChanged x before (rev place rule term) written
    rev_changed h = record {
      kind = subst (λ found. IsSomeAnd found (λ old. AreOfOneKind old written)) (sym at) (written_kind x.sig there settled written part h);
      whole = ap (λ found. changed before (rev place settled written) (answer_to x there (rev place settled written) found)) at ∙ ap (changed before (rev place settled written)) (back_answer x.sig there settled written part ∙ h);
    }

-- ---- the same, where the depth and the written term are held by the program

module _ (x : Setting) (before : Protocol) (place : List ℕ) (rule : Rule) (part : Term) (at : term_at (protocol_term before) place ≡ Some part) (term : Term) where
  abbrev Depth : ℕ
  Depth = length (around_place x before place).widths

  abbrev WrittenAnswer : (d : ℕ) (left : Term) → Answer
  WrittenAnswer d left = written_answer x.sig (around_place x before place) (settled_rule d rule) left part

  -- what is said of the settled term, at this depth
  at_depth : (Claim : (d : ℕ) (left : Term) → Type 0) → (d : ℕ) (left : Term) → d ≡ Depth → left ≡ settled_term d term → Claim Depth (settled_term Depth term) → Claim d left
  at_depth Claim d v is w h =
      subst (λ u. Claim d u) (sym w) (subst (λ n. Claim n (settled_term n term)) (sym is) h)

  module _ (d : ℕ) (left : Term) (is : d ≡ Depth) (w : left ≡ settled_term d term) where
    pub back_told : {X : Type 0} (r : Result X StepFault) → variable_test (unsettled_in_arguments d (rule_arguments rule)) ≡ None → variable_test (unsettled_number d term) ≡ None →
        AnswersTest r (change_refusal (rev [] (settled_rule d rule) left) (Some part) (WrittenAnswer d left)) → AnswersTest r (part_refusal x before (rev place rule term))
    back_told r =
        at_depth (λ n v. variable_test (unsettled_in_arguments n (rule_arguments rule)) ≡ None → variable_test (unsettled_number n term) ≡ None →
        AnswersTest r (change_refusal (rev [] (settled_rule n rule) v) (Some part) (WrittenAnswer n v)) → AnswersTest r (part_refusal x before (rev place rule term)))
        d left is w
        (λ one other h. subst (AnswersTest r) (sym (rev_refusal x before place rule part at term)) (answers_later r _ _ (none_told _ _ one other) h))

    pub back_changed : WrittenAnswer d left ≡ gives part → IsChanged x before (rev place rule term) left
    back_changed =
        at_depth (λ n v. WrittenAnswer n v ≡ gives part → IsChanged x before (rev place rule term) v) d left is w
        (rev_changed x before place rule part at term)
