-- The tests of a use in their groups, and the chain that it gives where what is known and what is around are known.
use Rattle.std.proofs.Common.{◌≡◌, ℕ, List, ◌++◌, Option, Some, None, Result, Ok, Err, refl, sym, ap, ◌∙◌, subst}
use Rattle.std.specs.Map.{values_of}
use Rattle.std.specs.Option.{option_or}
use Rattle.std.specs.Prelude.{IfOk}
use mathlib.Core.Path.{fun_ext}
use Rattle.ipdl_cursor.proofs.AroundPlaces.{scope-around}
use Rattle.ipdl_cursor.proofs.ContextPlaces.{context_there}
use Rattle.ipdl_cursor.specs.Hidden.{hidden_ports}
use Rattle.ipdl_embed.specs.Completing.{completed}
use Rattle.ipdl_embed.specs.Pairs.{Pairs}
use Rattle.ipdl_script.proofs.Refusals.{told_first, answers_later}
use Rattle.ipdl_script.proofs.StepTests.{none_of_map}
use Rattle.ipdl_script.specs.Adding.{AreLinksOf, IsAdded, added_tests, use_in}
use Rattle.ipdl_script.specs.Answers.{TellsRefusal}
use Rattle.ipdl_script.specs.Steps.{Setting, Refusal, around_place, first_refusal, lemma_named, no_match, place_test, protocol_in, refusal_of_use, use_test, use_tests, used_at, used_there}
use Rattle.ipdl_script.specs.TestGroups.{AnswersTest}
use Rattle.ipdl_script.specs.declared.adding_step.AddedTerms.{AddedTerms}
use Rattle.ipdl_script.specs.declared.fault.Cause.TheVariants.{NoMatch}
use Rattle.ipdl_script.specs.declared.fault.StepFault.{StepFault}
use Rattle.ipdl_script.specs.declared.fault.StepFault.TheVariants.{Refused}
use Rattle.ipdl_term.specs.Channels.{AreDisjoint}
use Rattle.ipdl_term.specs.Places.{context_at, term_at}
use Rattle.ipdl_term.specs.Steps.{Direction, invoke}
use Rattle.ipdl_term.specs.Terms.{Protocol, Context, Term, protocol_term, reaction_term, expression_term}
use Rattle.ipdl_term.specs.Typing.{Scope, scope_of}
use Rattle.ipdl_term.specs.declared.interface.Port.{Port}
use Rattle.ipdl_uses.proofs.Usable.{usable_exactly}
use Rattle.ipdl_uses.specs.Lemmas.{Lemma, hidden_in_chain}
use Rattle.ipdl_uses.specs.Usable.{IsUsable, UseRefusal, not_side, capture_refusal, channel_refusal, clash_refusal, port_refusal, use_refusal}
use Rattle.ipdl_uses.specs.Uses.{used}

-- ---- the place

-- the ports that are visible at the place
pub scope_there : (x : Setting) (before : Protocol) (place : List ℕ) (ports : List Port) → ports ≡ (x.interface.inputs ++ x.interface.outputs) ++ hidden_ports (protocol_term before) place →
    scope_of ports ≡ (around_place x before place).scope
scope_there x before place ports e =
    ap scope_of e ∙ fun_ext (λ c. sym (scope-around (x.interface.inputs ++ x.interface.outputs) before place c))

-- ---- a use that passes

-- without a protocol a use is refused
no_side : (a b c d : Option UseRefusal) → option_or a (option_or b (option_or c (option_or (Some not_side) d))) ≡ None → ⊥
no_side None None None d h = cc
no_side None None (Some r) d h = cc
no_side None (Some r) c d h = cc
no_side (Some r) b c d h = cc

module _ (lemma : Lemma) (direction : Direction) (scope : Scope) (pairs : Pairs) where
  refused_without : use_refusal lemma direction None scope pairs ≡ None → ⊥
  refused_without h =
      no_side (channel_refusal lemma.interface pairs) (clash_refusal (completed lemma.interface pairs)) (capture_refusal lemma (completed lemma.interface pairs))
      (port_refusal lemma.interface scope (completed lemma.interface pairs)) h

  usable_part : (part : Term) → use_refusal lemma direction (protocol_in (Some part)) scope pairs ≡ None → (p : Protocol) × (part ≡ protocol_term p) × IsUsable lemma direction p scope pairs
  usable_part (protocol_term p) h = (p, refl, (usable_exactly lemma direction p scope pairs).1 h)
  usable_part (reaction_term r) h = absurd (refused_without h)
  usable_part (expression_term e) h = absurd (refused_without h)

module _ (x : Setting) (before : Protocol) (place name : List ℕ) (direction : Direction) (pairs : Pairs) (lemma : Lemma) (part : Term) (scope : Scope)
    (at : term_at (protocol_term before) place ≡ Some part) (passed : use_test (Some lemma) direction (Some part) scope pairs ≡ None) where
  usable : (p : Protocol) × (part ≡ protocol_term p) × IsUsable lemma direction p scope pairs
  usable = usable_part lemma direction scope pairs part (none_of_map refusal_of_use (use_refusal lemma direction (protocol_in (Some part)) scope pairs) passed)

  -- a protocol stands at the place
  pub place_of_use : (C : Context) × (context_at before place ≡ Some C)
  place_of_use =
      let there = context_there before place usable.0 (at ∙ ap (λ (t : Term). Some t) usable.1) in
      (there.context, there.around)

  module _ (renaming : Pairs) (renamed_by : renaming ≡ completed lemma.interface pairs) where
    -- no new name is hidden in the chain
    pub free_in_use : AreDisjoint (values_of renaming) (hidden_in_chain lemma.chain)
    free_in_use = subst (λ r. AreDisjoint (values_of r) (hidden_in_chain lemma.chain)) (sym renamed_by) usable.2.free

    module _ (C : Context) (around : context_at before place ≡ Some C) where
      used_is : used direction (use_in C name place renaming) lemma.chain ≡ used_at before place name direction pairs (Some lemma) (context_at before place)
      used_is =
          ap (λ r. used direction (use_in C name place r) lemma.chain) renamed_by
          ∙ sym (ap (used_at before place name direction pairs (Some lemma)) around)

      -- what is told of the terms that are added is told of the use
      pub answers_added : {X : Type 0} (r : Result X StepFault) → AnswersTest r (first_refusal (added_tests x (used direction (use_in C name place renaming) lemma.chain))) →
          AnswersTest r (option_or (use_test (Some lemma) direction (Some part) scope pairs) (first_refusal (added_tests x (used_at before place name direction pairs (Some lemma) (context_at before place)))))
      answers_added r h = answers_later r _ _ passed (subst (λ chain. AnswersTest r (first_refusal (added_tests x chain))) used_is h)

      pub links_added : (r : Result AddedTerms StepFault) → IfOk r (λ added. AreLinksOf x before (used direction (use_in C name place renaming) lemma.chain) added.terms added.marks) →
          IfOk r (λ added. AreLinksOf x before (used_at before place name direction pairs (Some lemma) (context_at before place)) added.terms added.marks)
      links_added r h = subst (λ chain. IfOk r (λ added. AreLinksOf x before chain added.terms added.marks)) used_is h

-- ---- a step

module _ (x : Setting) (before : Protocol) (place name : List ℕ) (direction : Direction) (pairs : Pairs) where
  -- the tests after that of the place, of what is known, the part and the visible ports
  abbrev refusal_after : Option Lemma → Option Term → Scope → Option Refusal
  refusal_after known part scope =
      option_or (use_test known direction part scope pairs) (first_refusal (added_tests x (used_at before place name direction pairs known (context_at before place))))

  abbrev refusal_of : Option Lemma → Option Term → Scope → Option Refusal
  refusal_of known part scope = option_or (place_test part) (refusal_after known part scope)

  -- no such place
  pub told_of_place : (fault : StepFault) → TellsRefusal fault (place_test (term_at (protocol_term before) place)) → TellsRefusal fault (first_refusal (use_tests x before place name direction pairs))
  told_of_place fault h = told_first fault (place_test (term_at (protocol_term before) place)) _ h

  module _ (known : Option Lemma) (is : known ≡ lemma_named x name) (part : Term) (at : term_at (protocol_term before) place ≡ Some part) (scope : Scope) (there : scope ≡ (around_place x before place).scope) where
    pub answers_use : {X : Type 0} (r : Result X StepFault) → AnswersTest r (refusal_after known (Some part) scope) → AnswersTest r (first_refusal (use_tests x before place name direction pairs))
    answers_use r h =
        let here = term_at (protocol_term before) place in
        let same : refusal_of known (Some part) scope ≡ refusal_of (lemma_named x name) here (around_place x before place).scope =
        ap (λ p. refusal_of known p scope) (sym at) ∙ ap (λ s. refusal_of known here s) there ∙ ap (λ l. refusal_of l here (around_place x before place).scope) is in
        subst (AnswersTest r) same h

  -- nothing has the name
  pub refused_unknown : None ≡ lemma_named x name → (part : Term) → term_at (protocol_term before) place ≡ Some part → (scope : Scope) → scope ≡ (around_place x before place).scope →
      first_refusal (use_tests x before place name direction pairs) ≡ Some no_match
  refused_unknown is part at scope there = answers_use None is part at scope there {X = Unit {0}} (Err (Refused NoMatch)) refl

  pub is_added : (known : Option Lemma) → known ≡ lemma_named x name → (r : Result AddedTerms StepFault) →
      IfOk r (λ added. AreLinksOf x before (used_at before place name direction pairs known (context_at before place)) added.terms added.marks) →
      IfOk r (λ added. IsAdded x before (invoke place name direction pairs) added.terms added.marks)
  is_added known is (Err fault) h = tt
  is_added known is (Ok added) h =
      let there : AreLinksOf x before (used_there x before place name direction pairs) added.terms added.marks =
      subst (λ l. AreLinksOf x before (used_at before place name direction pairs l (context_at before place)) added.terms added.marks) is h in
      record { paired = there.paired; links = there.links; leads = there.leads; end = there.end; terms = there.terms; marks = there.marks }
