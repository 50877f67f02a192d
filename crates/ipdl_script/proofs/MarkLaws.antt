-- The neighbours of a step by a rule have the sides of the rule of their mark, in its direction.
use Rattle.std.proofs.Common.{◌≡◌, ℕ, List, Some, refl, sym, subst}
use Rattle.ipdl_chain.specs.Chains.{EachTwo}
use Rattle.ipdl_laws.proofs.Replacing.{kept}
use Rattle.ipdl_script.proofs.InstanceLaws.{instance_kinds, one_kind}
use Rattle.ipdl_script.proofs.PuttingBack.{term_with_back}
use Rattle.ipdl_script.specs.Instances.{IsInstanceAt}
use Rattle.ipdl_script.specs.Meanings.{IsRewritten, IsMarked}
use Rattle.ipdl_script.specs.Scripts.{links_of_step}
use Rattle.ipdl_script.specs.Settling.{settled_rule}
use Rattle.ipdl_script.specs.Steps.{Setting, scope_in, depth_at, around_step, IsStep}
use Rattle.ipdl_script.specs.Trails.{IsByRule}
use Rattle.ipdl_term.specs.Places.{term_at, term_with}
use Rattle.ipdl_term.specs.Rules.{Rule, rule_word, row_of}
use Rattle.ipdl_term.specs.Rules as R
use Rattle.ipdl_term.specs.Steps.{Step, plain, rev, invoke}
use Rattle.ipdl_term.specs.Surroundings.{outermost, around}
use Rattle.ipdl_term.specs.Terms.{Protocol, Term, protocol_term}

-- ---- settled rules

rule_word-settled : (depth : ℕ) (rule : Rule) → rule_word (settled_rule depth rule) ≡ rule_word rule
rule_word-settled depth (R.mask e) = refl
rule_word-settled depth (R.table k e) = refl
rule_word-settled depth (R.lin e) = refl
rule_word-settled depth rule = refl

module _ (x : Setting) where
  abbrev settled_for : Protocol → Step → Rule → Rule
  settled_for before step rule = settled_rule (depth_at x before step) rule

  pub rewritten : (before : Protocol) (place : List ℕ) (rule : Rule) (after : Protocol) → IsStep x before (plain place rule) after → IsRewritten x (settled_for before (plain place rule) rule) place before after
  rewritten before place rule after h = record { left = h.old; right = h.new; there = h.place; sides = h.change; whole = h.whole }

  -- by a step back the new whole term has the left side, and the old one comes from it
  pub rewritten_back : (before : Protocol) (place : List ℕ) (rule : Rule) (term : Term) (after : Protocol) → IsStep x before (rev place rule term) after → IsRewritten x (settled_for before (rev place rule term) rule) place after before
  rewritten_back before place rule term after h =
      let s = around_step x before (rev place rule term) in
      let settled = settled_for before (rev place rule term) rule in
      let kinds = instance_kinds x.sig s settled h.new h.old h.change.2 in
      let kind = one_kind (row_of settled).kind h.old h.new kinds.1 kinds.0 in
      let there = kept (outermost (scope_in x)) (protocol_term before) place h.old h.new h.place kind in
      let back = term_with_back (outermost (scope_in x)) (protocol_term before) place h.old h.new h.place kind in
      record {
        left = h.new;
        right = h.old;
        there = subst (λ t. term_at t place ≡ Some h.new) h.whole there.1;
        sides = subst (λ t. IsInstanceAt x.sig (around (outermost (scope_in x)) t place) settled h.new h.old) h.whole (subst (λ y. IsInstanceAt x.sig y settled h.new h.old) (sym there.2) h.change.2);
        whole = subst (λ t. term_with t place h.old ≡ protocol_term before) h.whole back;
      }

  pub step_is_marked : (before : Protocol) (step : Step) (after : Protocol) → IsByRule step → IsStep x before step after → EachTwo (IsMarked x) before (links_of_step x before step after)
  step_is_marked before (plain place rule) after by_rule h =
      (record { rule = settled_for before (plain place rule) rule; named = rule_word-settled (depth_at x before (plain place rule)) rule; rewritten = rewritten before place rule after h }, tt)
  step_is_marked before (rev place rule term) after by_rule h =
      (record { rule = settled_for before (rev place rule term) rule; named = rule_word-settled (depth_at x before (rev place rule term)) rule; rewritten = rewritten_back before place rule term after h }, tt)
  step_is_marked before (invoke place name direction pairs) after by_rule h = absurd by_rule
