-- A theorem has a chain exactly where nothing is wrong, and then the one.
use Rattle.std.proofs.Common.{◌≡◌, ℕ, suc, ◌+◌, List, [], ◌∷◌, ◌++◌, Option, Some, None, refl, sym, ap, ap₂, ◌∙◌, subst}
use Rattle.std.specs.Option.{option_or}
use Rattle.std.specs.Prelude.{◌↔◌, option_map}
use Rattle.ipdl_base.specs.Limits.{limit_number}
use Rattle.ipdl_base.specs.declared.limit.Limit.TheVariants.{Chain as ChainLimit}
use Rattle.ipdl_chain.specs.Chains.{Link, Chain, last_of, neighbour_count, turned_links}
use Rattle.ipdl_script.proofs.DifferenceLaws.{differing_place-none, differing_place-same}
use Rattle.ipdl_script.proofs.StepLaws.{step_stands, stands_step}
use Rattle.ipdl_script.proofs.StepTests.{none_of_map, none_of_either, limit_test-kept, limit_is_kept}
use Rattle.ipdl_script.specs.EndPlaces.{differing_place}
use Rattle.ipdl_script.specs.Scripts.{Theorem, links_of_step, count_after, IsScript, IsChain, Side, left_side, right_side, wrong_step, wrong_ends, chain_test, wrong_in_script, links_of_script, left_links, right_links, left_end, right_end, first_wrong, chain_of_scripts}
use Rattle.ipdl_script.specs.Steps.{Setting, step_refusal, after_step}
use Rattle.ipdl_term.specs.Steps.{Step}
use Rattle.ipdl_term.specs.Terms.{Protocol}

-- ---- options

all_none : {X Y : Type 0} (f : X → Y) (a b : Option X) (c : Option Y) → a ≡ None → b ≡ None → c ≡ None → option_or (option_map f (option_or a b)) c ≡ None
all_none f None None c h k l = l
all_none f None (Some y) c h k l = cc
all_none f (Some x) b c h k l = cc

none_of_all : {X Y : Type 0} (f : X → Y) (a b : Option X) (c : Option Y) → option_or (option_map f (option_or a b)) c ≡ None → (a ≡ None) × (b ≡ None) × (c ≡ None)
none_of_all f None None c h = (refl, refl, h)
none_of_all f None (Some y) c h = cc
none_of_all f (Some x) b c h = cc

either_none : {X : Type 0} (a b : Option X) → a ≡ None → b ≡ None → option_or a b ≡ None
either_none None b h k = k
either_none (Some x) b h k = cc

-- ---- scripts

module _ (x : Setting) where
  -- what the tests of a script say, from the whole term on to which its first step leads
  abbrev Goes : ℕ → Side → ℕ → Protocol → Step → List Step → List Link → Protocol → Type 0
  Goes so_far side number before step steps links after =
      (option_or (option_map (wrong_step side number) (option_or (step_refusal x before step) (chain_test x so_far before step after))) (wrong_in_script x (count_after x so_far before step after) side (suc number) after steps) ≡ None)
      × (links_of_step x before step after ++ links_of_script x after steps ≡ links)

  pub script_stands : (so_far : ℕ) (side : Side) (number : ℕ) (before : Protocol) (steps : List Step) (links : List Link) → IsScript x so_far before steps links →
      (wrong_in_script x so_far side number before steps ≡ None) × (links_of_script x before steps ≡ links)
  script_stands so_far side number before [] links h = (refl, sym h)
  script_stands so_far side number before (step ∷ steps) links h =
      let after = h.after in
      let many = count_after x so_far before step after in
      let stands = step_stands x before step after h.stands in
      let rest = script_stands many side (suc number) after steps h.later h.rest in
      subst (Goes so_far side number before step steps links) (sym stands.1) (
        all_none (wrong_step side number) (step_refusal x before step) (chain_test x so_far before step after) (wrong_in_script x many side (suc number) after steps)
            stands.0 (limit_test-kept ChainLimit (limit_number ChainLimit) many h.short) rest.0,
        ap (λ ls. links_of_step x before step after ++ ls) rest.1 ∙ sym h.all,
      )

  pub stands_script : (so_far : ℕ) (side : Side) (number : ℕ) (before : Protocol) (steps : List Step) → wrong_in_script x so_far side number before steps ≡ None → IsScript x so_far before steps (links_of_script x before steps)
  stands_script so_far side number before [] h = refl
  stands_script so_far side number before (step ∷ steps) h =
      let after = after_step x before step in
      let many = count_after x so_far before step after in
      let parts = none_of_all (wrong_step side number) (step_refusal x before step) (chain_test x so_far before step after) (wrong_in_script x many side (suc number) after steps) h in
      record {
        after = after;
        later = links_of_script x after steps;
        stands = stands_step x before step parts.0;
        short = limit_is_kept ChainLimit (limit_number ChainLimit) many parts.1;
        rest = stands_script many side (suc number) after steps parts.2;
        all = refl;
      }

  -- ---- chains

  pub chain_stands : (so_far : ℕ) (t : Theorem) (chain : Chain) → IsChain x so_far t chain → (first_wrong x so_far t ≡ None) × (chain_of_scripts x t ≡ chain)
  chain_stands so_far t chain h =
      let after_left = so_far + neighbour_count (left_links x t) in
      let left = script_stands so_far left_side 1 t.left t.lefts h.lefts h.left_script in
      let same : h.lefts ≡ left_links x t = sym left.1 in
      let right = script_stands after_left right_side 1 t.right t.rights h.rights (subst (λ ls. IsScript x (so_far + neighbour_count ls) t.right t.rights h.rights) same h.right_script) in
      let meet : left_end x t ≡ right_end x t = ap (last_of t.left) left.1 ∙ h.meet ∙ ap (last_of t.right) (sym right.1) in (
        either_none (wrong_in_script x so_far left_side 1 t.left t.lefts) _ left.0
            (either_none (wrong_in_script x after_left right_side 1 t.right t.rights) _ right.0
            (ap (option_map wrong_ends) (differing_place-same (left_end x t) (right_end x t) meet))),
        ap₂ (λ f ls. record { first = f; links = ls }) (sym h.first) (ap₂ (λ ls ks. ls ++ turned_links t.right ks) left.1 right.1 ∙ sym h.links),
      )

  pub stands_chain : (so_far : ℕ) (t : Theorem) → first_wrong x so_far t ≡ None → IsChain x so_far t (chain_of_scripts x t)
  stands_chain so_far t h =
      let after_left = so_far + neighbour_count (left_links x t) in
      let ends = option_map wrong_ends (differing_place (left_end x t) (right_end x t)) in
      let first = none_of_either (wrong_in_script x so_far left_side 1 t.left t.lefts) (option_or (wrong_in_script x after_left right_side 1 t.right t.rights) ends) h in
      let second = none_of_either (wrong_in_script x after_left right_side 1 t.right t.rights) ends first.1 in
      record {
        lefts = left_links x t;
        rights = right_links x t;
        left_script = stands_script so_far left_side 1 t.left t.lefts first.0;
        right_script = stands_script after_left right_side 1 t.right t.rights second.0;
        meet = differing_place-none (left_end x t) (right_end x t) (none_of_map wrong_ends _ second.1);
        first = refl;
        links = refl;
      }

  pub chain_exactly : (so_far : ℕ) (t : Theorem) (chain : Chain) → IsChain x so_far t chain ↔ ((first_wrong x so_far t ≡ None) × (chain_of_scripts x t ≡ chain))
  chain_exactly so_far t chain = (chain_stands so_far t chain, λ h. subst (IsChain x so_far t) h.1 (stands_chain so_far t h.0))

  pub one_chain : (so_far : ℕ) (t : Theorem) (chain other : Chain) → IsChain x so_far t chain → IsChain x so_far t other → chain ≡ other
  one_chain so_far t chain other h k = sym (chain_stands so_far t chain h).1 ∙ (chain_stands so_far t other k).1
