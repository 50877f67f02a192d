-- Steps are exactly where no test refuses.
use Rattle.std.proofs.Common.{◌≡◌, ℕ, ◌≤◌, Bool, true, ◌&&◌, List, [], ◌∷◌, Option, Some, None, refl, sym, ap, ◌∙◌, subst}
use Rattle.std.proofs.lemmas.Bool.{and_parts, and_from}
use Rattle.std.specs.Prelude.{◌↔◌, option_map}
use Rattle.ipdl_base.specs.declared.limit.Limit.TheVariants.{Nodes}
use Rattle.ipdl_laws.proofs.Replacing.{kept}
use Rattle.ipdl_script.proofs.InstanceLaws.{instance_answers, instance_is_true, reversible_is_true, answer_is_instance, instance_kinds, keeps_type-settled, keeping_is_true, keeping_is_equal, one_kind, protocol_is}
use Rattle.ipdl_script.proofs.StepTests.{none_of_map, first_refusal-passed, all_pass, refused_unless-true, true_unless, limit_test-kept, limit_is_kept, type_passes, passed_type, all_bound, extent_is_kept, extent_passes, answer_of_kind, kind_of_answer}
use Rattle.ipdl_script.proofs.UseSteps.{use_passes, passed_use}
use Rattle.ipdl_script.specs.Instances.{IsInstanceAt, Answer, other_shape, failing, gives, answer_at, truth_at}
use Rattle.ipdl_script.specs.Settling.{unsettled_in_step, settled_rule}
use Rattle.ipdl_script.specs.Steps.{Setting, scope_in, place_of, depth_at, around_step, settled_there, is_reversible, IsChange, result_side, KeepsLimits, IsStep, is_of_kind, place_test, match_test, side_test, answer_to, changed, Refusal, AllPass, nodes_test, channels_test, depth_test, type_test, untrue, truth_test, tests_of, part_of, answered_there, rule_tests, use_tests, first_refusal, step_refusal, after_step}
use Rattle.ipdl_script.specs.TestGroups.{keeps_type, part_tests, part_refusal}
use Rattle.ipdl_term.specs.Places.{protocol_or, AreOfOneKind, term_at, term_with}
use Rattle.ipdl_term.specs.Rules.{Rule, row_of}
use Rattle.ipdl_term.specs.Same.{same_term, same_term-itself, same_term-Decides}
use Rattle.ipdl_term.specs.Sizes.{most_nodes, term_nodes}
use Rattle.ipdl_term.specs.Steps.{Step, plain, rev, invoke}
use Rattle.ipdl_term.specs.Surroundings.{Surroundings, around, outermost}
use Rattle.ipdl_term.specs.Terms.{Protocol, Term, protocol_term}
use Rattle.ipdl_term.specs.Typing.{HasInterface, port_names}
use Rattle.ipdl_term.specs.Variables.{settled_term}

-- ---- a settled step, where this is around its place

module _ (x : Setting) (before : Protocol) (s : Surroundings) where
  -- the tests of the new whole term, and then that of the truth
  abbrev WholePasses : Protocol → (truth : Option Refusal) → Type 0
  WholePasses p truth = AllPass (nodes_test p ∷ channels_test p ∷ depth_test p ∷ type_test x p ∷ truth ∷ [])

  whole_passes : (p after : Protocol) (truth : Option Refusal) → p ≡ after → KeepsLimits after → HasInterface x.sig x.interface after → truth ≡ None → WholePasses p truth
  whole_passes p after truth e within typed told =
      let fits = extent_passes after within in
      subst (λ q. WholePasses q truth) (sym e) (fits.0, (fits.1, (fits.2, (type_passes x after typed, (told, tt)))))

  whole_fits : (p : Protocol) (truth : Option Refusal) → WholePasses p truth → KeepsLimits p × HasInterface x.sig x.interface p
  whole_fits p truth h = (extent_is_kept p h.0 h.1.0 h.1.1.0, passed_type x p h.1.1.1.0)

  -- no test refuses, and this is the new whole term
  abbrev Passes : Step → Option ℕ → Option Term → Answer → Protocol → Type 0
  Passes step unsettled part answered after = (first_refusal (tests_of x before s step unsettled part answered) ≡ None) × (changed before step answered ≡ after)

  plain_passes : (place : List ℕ) (rule : Rule) (old new : Term) (after : Protocol) → IsInstanceAt x.sig s rule old new → term_nodes new ≤ most_nodes →
      term_with (protocol_term before) place new ≡ protocol_term after → KeepsLimits after → HasInterface x.sig x.interface after →
      Passes (plain place rule) None (Some old) (answer_to x s (plain place rule) (Some old)) after
  plain_passes place rule old new after inst small whole within typed =
      let answered : answer_to x s (plain place rule) (Some old) ≡ gives new = answer_of_kind (is_of_kind (row_of rule).kind old) (answer_at x.sig s rule old) new (instance_kinds x.sig s rule old new inst).0 (instance_answers x.sig s rule old new inst) in
      let is_after : changed before (plain place rule) (gives new) ≡ after = ap (protocol_or before) whole in
      let told : truth_test x s (plain place rule) (Some old) (gives new) ≡ None = ap (option_map untrue) (instance_is_true x.sig s rule old new inst) in
      subst (λ a. Passes (plain place rule) None (Some old) a after) (sym answered) (
        first_refusal-passed (tests_of x before s (plain place rule) None (Some old) (gives new))
            (refl, (refl, (refl, (refl, (limit_test-kept Nodes most_nodes (term_nodes new) small, (refl, whole_passes _ after _ is_after within typed told)))))),
        is_after,
      )

  -- what a step back asks of the kind of its rule
  abbrev goes_back : Rule → Term → Bool
  goes_back rule part = is_reversible (row_of rule).kind && is_of_kind (row_of rule).kind part

  rev_passes : (place : List ℕ) (rule : Rule) (new old : Term) (after : Protocol) → is_reversible (row_of rule).kind ≡ true → IsInstanceAt x.sig s rule new old → term_nodes old ≤ most_nodes →
      term_with (protocol_term before) place new ≡ protocol_term after → KeepsLimits after → HasInterface x.sig x.interface after →
      Passes (rev place rule new) None (Some old) (answer_to x s (rev place rule new) (Some old)) after
  rev_passes place rule new old after back inst small whole within typed =
      let kind : goes_back rule old ≡ true = and_from (is_reversible (row_of rule).kind) (is_of_kind (row_of rule).kind old) back (instance_kinds x.sig s rule new old inst).1 in
      let answered : answer_to x s (rev place rule new) (Some old) ≡ gives old = answer_of_kind (goes_back rule old) (answer_at x.sig s rule new) old kind (instance_answers x.sig s rule new old inst) in
      let is_after : changed before (rev place rule new) (gives old) ≡ after = ap (protocol_or before) whole in
      subst (λ a. Passes (rev place rule new) None (Some old) a after) (sym answered) (
        first_refusal-passed (tests_of x before s (rev place rule new) None (Some old) (gives old))
            (refl, (refl, (refl, (refl, (limit_test-kept Nodes most_nodes (term_nodes old) small, (refused_unless-true (same_term old old) _ (same_term-itself old), whole_passes _ after _ is_after within typed refl)))))),
        is_after,
      )

  -- what the tests say of the parts
  pub record Found (step : Step) (unsettled : Option ℕ) (part : Option Term) (after : Protocol) : Type 0 where
    old : Term
    new : Term
    place : part ≡ Some old
    bound : unsettled ≡ None
    change : IsChange x s step old new
    small : term_nodes (result_side step old new) ≤ most_nodes
    whole : term_with (protocol_term before) (place_of step) new ≡ protocol_term after
    within : KeepsLimits after
    typed : HasInterface x.sig x.interface after

  -- a whole term in which a part of one kind replaces another
  whole_is : (place : List ℕ) (old new : Term) → term_at (protocol_term before) place ≡ Some old → AreOfOneKind old new →
      term_with (protocol_term before) place new ≡ protocol_term (protocol_or before (term_with (protocol_term before) place new))
  whole_is place old new at kind = protocol_is before _ (kept (outermost (scope_in x)) (protocol_term before) place old new at kind).0

  found : (step : Step) (unsettled : Option ℕ) (part : Option Term) (answered : Answer) → term_at (protocol_term before) (place_of step) ≡ part → answer_to x s step part ≡ answered →
      AllPass (tests_of x before s step unsettled part answered) → Found step unsettled part (changed before step answered)
  found step unsettled None answered at e h = let k = h.0 in cc
  found step unsettled (Some old) other_shape at e h = let k = h.1.1.0 in cc
  found step unsettled (Some old) (failing number) at e h = let k = h.1.1.1.0 in cc
  found (plain place rule) unsettled (Some old) (gives new) at e h =
      let given = kind_of_answer (is_of_kind (row_of rule).kind old) (answer_at x.sig s rule old) new e in
      let inst = answer_is_instance x.sig s rule old new given.1 (none_of_map untrue (truth_at x.sig s rule old) h.1.1.1.1.1.1.1.1.1.1.0) in
      let fits = whole_fits (changed before (plain place rule) (gives new)) _ h.1.1.1.1.1.1 in
      record {
        old = old;
        new = new;
        place = refl;
        bound = all_bound unsettled h.1.0;
        change = inst;
        small = limit_is_kept Nodes most_nodes (term_nodes new) h.1.1.1.1.0;
        whole = whole_is place old new at (one_kind (row_of rule).kind old new given.0 (instance_kinds x.sig s rule old new inst).1);
        within = fits.0;
        typed = fits.1;
      }
  found (rev place rule new) unsettled (Some old) (gives right) at e h =
      let given = kind_of_answer (goes_back rule old) (answer_at x.sig s rule new) right e in
      let both = and_parts (is_reversible (row_of rule).kind) (is_of_kind (row_of rule).kind old) given.0 in
      let is_old : right ≡ old = (same_term-Decides right old).0 (true_unless (same_term right old) _ h.1.1.1.1.1.0) in
      let inst = answer_is_instance x.sig s rule new old (subst (λ t. answer_at x.sig s rule new ≡ gives t) is_old given.1) (reversible_is_true x.sig s rule new both.0) in
      let fits = whole_fits (changed before (rev place rule new) (gives right)) _ h.1.1.1.1.1.1 in
      record {
        old = old;
        new = new;
        place = refl;
        bound = all_bound unsettled h.1.0;
        change = (refl, both.0, inst);
        small = subst (λ t. term_nodes t ≤ most_nodes) is_old (limit_is_kept Nodes most_nodes (term_nodes right) h.1.1.1.1.0);
        whole = whole_is place old new at (one_kind (row_of rule).kind old new both.1 (instance_kinds x.sig s rule new old inst).0);
        within = fits.0;
        typed = fits.1;
      }
  found (invoke place name direction pairs) unsettled (Some old) (gives right) at e h = cc

  -- A step from the left side to the right one keeps the type, by a rule that does.
  plain_typed : (place : List ℕ) (rule : Rule) (part : Option Term) (answered : Answer) → keeps_type rule ≡ true → HasInterface x.sig x.interface before → s ≡ around (outermost (scope_in x)) (protocol_term before) place →
      term_at (protocol_term before) place ≡ part → answer_to x s (plain place rule) part ≡ answered → place_test part ≡ None → match_test answered ≡ None → side_test answered ≡ None →
      HasInterface x.sig x.interface (changed before (plain place rule) answered)
  plain_typed place rule None answered keeps typed around_it at e there matched held = cc
  plain_typed place rule (Some old) other_shape keeps typed around_it at e there matched held = cc
  plain_typed place rule (Some old) (failing number) keeps typed around_it at e there matched held = cc
  plain_typed place rule (Some old) (gives new) keeps typed around_it at e there matched held =
      let given = kind_of_answer (is_of_kind (row_of rule).kind old) (answer_at x.sig s rule old) new e in
      let inst = answer_is_instance x.sig s rule old new given.1 (keeping_is_true x.sig s rule old keeps) in
      let whole = whole_is place old new at (one_kind (row_of rule).kind old new given.0 (instance_kinds x.sig s rule old new inst).1) in
      (keeping_is_equal x.sig (scope_in x) (port_names x.interface.outputs) before _ place rule old new keeps typed at whole (subst (λ t. IsInstanceAt x.sig t rule old new) around_it inst)).right

-- ---- a step

-- by a rule that keeps the type, where no test of its part refuses
pub plain_keeps_type : (x : Setting) (before : Protocol) (place : List ℕ) (rule : Rule) → keeps_type rule ≡ true → HasInterface x.sig x.interface before → part_refusal x before (plain place rule) ≡ None →
    HasInterface x.sig x.interface (after_step x before (plain place rule))
plain_keeps_type x before place rule keeps typed h =
    let step = plain place rule in
    let passed = all_pass (part_tests x before step) h in
    let settled = settled_rule (depth_at x before step) rule in
    plain_typed x before (around_step x before step) place settled (part_of before step) (answered_there x before step) (keeps_type-settled (depth_at x before step) rule keeps) typed refl refl refl passed.0 passed.1.1.0 passed.1.1.1.0

module _ (x : Setting) (before : Protocol) where
  abbrev Stands : Step → Protocol → Type 0
  Stands step after = (step_refusal x before step ≡ None) × (after_step x before step ≡ after)

  pub step_stands : (step : Step) (after : Protocol) → IsStep x before step after → Stands step after
  step_stands (plain place rule) after h =
      let step = plain place rule in
      let s = around_step x before step in
      let there = settled_there x before step in
      subst (λ u. Passes x before s there u (part_of before step) (answer_to x s there (part_of before step)) after) (sym h.bound)
      (subst (λ part. Passes x before s there None part (answer_to x s there part) after) (sym h.place)
      (plain_passes x before s place (settled_rule (depth_at x before step) rule) h.old h.new after h.change h.small h.whole h.within h.typed))
  step_stands (rev place rule term) after h =
      let step = rev place rule term in
      let s = around_step x before step in
      let there = settled_there x before step in
      let written = settled_term (depth_at x before step) term in
      let settled = settled_rule (depth_at x before step) rule in
      subst (λ u. Passes x before s there u (part_of before step) (answer_to x s there (part_of before step)) after) (sym h.bound)
      (subst (λ part. Passes x before s there None part (answer_to x s there part) after) (sym h.place)
      (rev_passes x before s place settled written h.old after h.change.1 (subst (λ t. IsInstanceAt x.sig s settled t h.old) h.change.0 h.change.2) h.small (subst (λ t. term_with (protocol_term before) place t ≡ protocol_term after) h.change.0 h.whole) h.within h.typed))
  step_stands (invoke place name direction pairs) after h =
      (first_refusal-passed (use_tests x before place name direction pairs) (use_passes x before place name direction pairs after h), h.leads)

  pub stands_step : (step : Step) → step_refusal x before step ≡ None → IsStep x before step (after_step x before step)
  stands_step (plain place rule) h =
      let step = plain place rule in
      let f = found x before (around_step x before step) (settled_there x before step) (unsettled_in_step (depth_at x before step) step) (part_of before step) (answered_there x before step) refl refl (all_pass (rule_tests x before step) h) in
      record { old = f.old; new = f.new; place = f.place; bound = f.bound; change = f.change; small = f.small; whole = f.whole; within = f.within; typed = f.typed }
  stands_step (rev place rule term) h =
      let step = rev place rule term in
      let f = found x before (around_step x before step) (settled_there x before step) (unsettled_in_step (depth_at x before step) step) (part_of before step) (answered_there x before step) refl refl (all_pass (rule_tests x before step) h) in
      record { old = f.old; new = f.new; place = f.place; bound = f.bound; change = f.change; small = f.small; whole = f.whole; within = f.within; typed = f.typed }
  stands_step (invoke place name direction pairs) h = passed_use x before place name direction pairs (all_pass (use_tests x before place name direction pairs) h)

-- exactly where no test refuses
pub step_exactly : (x : Setting) (before : Protocol) (step : Step) (after : Protocol) → IsStep x before step after ↔ ((step_refusal x before step ≡ None) × (after_step x before step ≡ after))
step_exactly x before step after = (step_stands x before step after, λ h. subst (IsStep x before step) h.1 (stands_step x before step h.0))

-- to one term at most
pub one_result : (x : Setting) (before : Protocol) (step : Step) (after other : Protocol) → IsStep x before step after → IsStep x before step other → after ≡ other
one_result x before step after other h k = sym (step_stands x before step after h).1 ∙ (step_stands x before step other k).1
