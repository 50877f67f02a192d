-- Steps by `use` are exactly where no test refuses them.
use Rattle.std.proofs.Common.{◌≡◌, ℕ, List, [], ◌∷◌, Option, Some, None, refl, sym, ap, ◌∙◌, subst}
use Rattle.std.specs.Prelude.{option_map}
use Rattle.ipdl_chain.specs.Chains.{Chain}
use Rattle.ipdl_embed.specs.Completing.{completed}
use Rattle.ipdl_embed.specs.Pairs.{Pairs}
use Rattle.ipdl_script.proofs.StepTests.{none_of_map, none_of_either, all_of_both, both_pass, extents_pass, extents_are_kept, type_passes, passed_type}
use Rattle.ipdl_script.specs.Steps.{Setting, around_place, lemma_named, used_there, further_terms, IsUseStep, AllPass, place_test, type_test, refusal_of_use, use_test, extent_tests, use_tests}
use Rattle.ipdl_term.specs.Places.{term_at}
use Rattle.ipdl_term.specs.Steps.{Direction}
use Rattle.ipdl_term.specs.Terms.{Protocol, Term, protocol_term, reaction_term, expression_term}
use Rattle.ipdl_term.specs.Typing.{Scope}
use Rattle.ipdl_uses.proofs.Usable.{usable_exactly}
use Rattle.ipdl_uses.specs.Lemmas.{Lemma, right_of}
use Rattle.ipdl_uses.specs.Usable.{IsUsable, use_refusal, channel_refusal, clash_refusal, capture_refusal}

-- there is no protocol at the place, so it has not the side
no_part_refused : (lemma : Lemma) (direction : Direction) (scope : Scope) (pairs : Pairs) → option_map refusal_of_use (use_refusal lemma direction None scope pairs) ≡ None → ⊥
no_part_refused lemma direction scope pairs h =
    let all = completed lemma.interface pairs in
    let channels = none_of_either (channel_refusal lemma.interface pairs) _ (none_of_map refusal_of_use (use_refusal lemma direction None scope pairs) h) in
    let clashes = none_of_either (clash_refusal all) _ channels.1 in
    let captures = none_of_either (capture_refusal lemma all) _ clashes.1 in
    let told = captures.1 in cc

-- what the test of a use finds
record IsFoundUse (found : Option Lemma) (direction : Direction) (part : Option Term) (scope : Scope) (pairs : Pairs) : Type 0 where
  lemma : Lemma
  protocol : Protocol
  there : found ≡ Some lemma
  at_place : part ≡ Some (protocol_term protocol)
  usable : IsUsable lemma direction protocol scope pairs

found_use : (found : Option Lemma) (direction : Direction) (part : Option Term) (scope : Scope) (pairs : Pairs) → use_test found direction part scope pairs ≡ None → IsFoundUse found direction part scope pairs
found_use None direction part scope pairs h = cc
found_use (Some lemma) direction None scope pairs h = absurd (no_part_refused lemma direction scope pairs h)
found_use (Some lemma) direction (Some (protocol_term p)) scope pairs h = record {
  lemma = lemma;
  protocol = p;
  there = refl;
  at_place = refl;
  usable = (usable_exactly lemma direction p scope pairs).1 (none_of_map refusal_of_use (use_refusal lemma direction (Some p) scope pairs) h);
}
found_use (Some lemma) direction (Some (reaction_term r)) scope pairs h = absurd (no_part_refused lemma direction scope pairs h)
found_use (Some lemma) direction (Some (expression_term e)) scope pairs h = absurd (no_part_refused lemma direction scope pairs h)

module _ (x : Setting) (before : Protocol) (place name : List ℕ) (direction : Direction) (pairs : Pairs) where
  abbrev added : Chain
  added = used_there x before place name direction pairs

  abbrev part_there : Option Term
  part_there = term_at (protocol_term before) place

  abbrev scope_there : Scope
  scope_there = (around_place x before place).scope

  pub use_passes : (after : Protocol) → IsUseStep x before place name direction pairs after → AllPass (use_tests x before place name direction pairs)
  use_passes after h =
      let usable : option_map refusal_of_use (use_refusal h.lemma direction (Some h.part) scope_there pairs) ≡ None = ap (option_map refusal_of_use) ((usable_exactly h.lemma direction h.part scope_there pairs).0 h.usable) in (
        ap place_test h.at_place,
        (
          subst (λ l. use_test l direction part_there scope_there pairs ≡ None) (sym h.there) (subst (λ t. use_test (Some h.lemma) direction t scope_there pairs ≡ None) (sym h.at_place) usable),
          all_of_both (extent_tests (further_terms added)) (type_test x (right_of added) ∷ []) (extents_pass (further_terms added) h.within)
              (ap (type_test x) h.leads ∙ type_passes x after h.typed, tt),
        ),
      )

  pub passed_use : AllPass (use_tests x before place name direction pairs) → IsUseStep x before place name direction pairs (right_of added)
  passed_use h =
      let found = found_use (lemma_named x name) direction part_there scope_there pairs h.1.0 in
      let both = both_pass (extent_tests (further_terms added)) (type_test x (right_of added) ∷ []) h.1.1 in
      record {
        lemma = found.lemma;
        part = found.protocol;
        there = found.there;
        at_place = found.at_place;
        usable = found.usable;
        within = extents_are_kept (further_terms added) both.0;
        leads = refl;
        typed = passed_type x (right_of added) both.1.0;
      }
