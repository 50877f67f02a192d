-- The tests of the terms that a use adds, and that these are the links of its chain.
use Rattle.std.proofs.Common.{◌≡◌, ℕ, List, [], ◌∷◌, length, map, Some, None, Result, Ok, Err, refl, sym, ap, ap₂, ◌∙◌, subst}
use Rattle.std.proofs.lemmas.List.{length-map}
use Rattle.std.proofs.lemmas.List.Elements.{All-head, All-tail, All-cons, All-nil, All-map, All-weaker}
use Rattle.std.specs.Borrow.{Bor}
use Rattle.std.specs.Option.{option_or}
use Rattle.std.specs.Prelude.{All, IfOk}
use Rattle.ipdl_chain.specs.Chains.{Link, Chain, last_of}
use Rattle.ipdl_chain.specs.Views.{IsMarkWithin, links_of}
use Rattle.ipdl_chain.specs.declared.chain.Mark.{Mark as HeldMark}
use Rattle.ipdl_embed.specs.Pairs.{Pairs}
use Rattle.ipdl_instances.proofs.WithinLaws.{IsContextWithin-context_at, IsProtocolWithin-plugged, IsProtocolWithin-renamed}
use Rattle.ipdl_script.proofs.AddedLists.{holds_of_last, last_of_links, last_of-later, links_of-by, terms_of_links_by, used-some}
use Rattle.ipdl_script.proofs.Fits.{whole_is_within}
use Rattle.ipdl_script.proofs.Refusals.{answers_later, first_refusal-append, told_first}
use Rattle.ipdl_script.proofs.StepTests.{option_or-none}
use Rattle.ipdl_script.specs.Adding.{AreLinksOf, added_tests, last_among, whole_in}
use Rattle.ipdl_script.specs.Answers.{TellsRefusal}
use Rattle.ipdl_script.specs.Fitting.{WholeFits}
use Rattle.ipdl_script.specs.Steps.{Setting, KeepsLimits, extent_tests, first_refusal, further_terms, type_test}
use Rattle.ipdl_script.specs.TestGroups.{AnswersTest}
use Rattle.ipdl_script.specs.declared.fault.StepFault.{StepFault}
use Rattle.ipdl_term.specs.Places.{context_at}
use Rattle.ipdl_term.specs.Renaming.{renamed, renaming_of}
use Rattle.ipdl_term.specs.Steps.{Direction}
use Rattle.ipdl_term.specs.Terms.{Protocol, Context}
use Rattle.ipdl_term.specs.Typing.{HasInterface}
use Rattle.ipdl_term.specs.Views.{protocol_of}
use Rattle.ipdl_term.specs.Within.{IsProtocolWithin}
use Rattle.ipdl_term.specs.declared.protocol.Proto.{Proto}
use Rattle.ipdl_uses.specs.Adding.{lent_terms, links_by, terms_at}
use Rattle.ipdl_uses.specs.Lemmas.{right_of}
use Rattle.ipdl_uses.specs.Uses.{Use, instance_of, used}
use Rattle.ipdl_uses.specs.declared.adding.Added.{Added}

-- what is made of terms that are lent
pub map-lent : (f : Proto → Protocol) (terms : List (Bor Proto)) → map f (lent_terms terms) ≡ map (λ (term : Bor Proto). f term.now) terms
map-lent f [] = refl
map-lent f (term ∷ terms) = ap (λ ts. f term.now ∷ ts) (map-lent f terms)

pub links_of_lent : {E : Type 0} (u : Use) (links : List Link) (r : Result Added E) → IfOk r (λ added. links_by added.marks.items (terms_at u (lent_terms added.terms.items)) ≡ links) →
    IfOk r (λ added. links_by added.marks.items (map (λ (term : Bor Proto). whole_in u.around u.pairs term.now) added.terms.items) ≡ links)
links_of_lent u links (Ok added) h = ap (links_by added.marks.items) (sym (map-lent (λ term. instance_of u (protocol_of term)) added.terms.items)) ∙ h
links_of_lent u links (Err error) h = tt

-- what holds of each of what is made holds of what each is made of
All-of_map : {X Y : Type 0} (P : Y → Type 0) (f : X → Y) (xs : List X) → All P (map f xs) → All (λ y. P (f y)) xs
All-of_map P f [] h = All-nil (λ y. P (f y))
All-of_map P f (x ∷ xs) h =
    All-cons (λ y. P (f y)) x xs (All-head P (f x) (map f xs) h) (All-of_map P f xs (All-tail P (f x) (map f xs) h))

module _ (x : Setting) (before : Protocol) (direction : Direction) (u : Use) (lemma : Chain) (marks : List HeldMark) {X : Type 0} (f : X → Protocol) (terms : List X)
    (paired : length terms ≡ length marks) (links : links_by marks (map f terms) ≡ (used direction u lemma).links) where
  paired_made : length (map f terms) ≡ length marks
  paired_made = length-map terms f ∙ paired

  further_is : further_terms (used direction u lemma) ≡ map f terms
  further_is = ap (map (λ (link : Link). link.term)) (sym links) ∙ terms_of_links_by marks (map f terms) paired_made

  tests_split : first_refusal (added_tests x (used direction u lemma)) ≡ option_or (first_refusal (extent_tests (map f terms))) (type_test x (right_of (used direction u lemma)))
  tests_split =
      let chain = used direction u lemma in
      first_refusal-append (extent_tests (further_terms chain)) (type_test x (right_of chain) ∷ [])
      ∙ ap₂ option_or (ap (λ ts. first_refusal (extent_tests ts)) further_is) (option_or-none (type_test x (right_of chain)))

  -- too large a term is told
  pub told_of_extents : (fault : StepFault) → TellsRefusal fault (first_refusal (extent_tests (map f terms))) → TellsRefusal fault (first_refusal (added_tests x (used direction u lemma)))
  told_of_extents fault h = subst (TellsRefusal fault) (sym tests_split) (told_first fault _ _ h)

  module _ (whole : List Proto) (made : map protocol_of whole ≡ map f terms) where
    last_is_right : right_of (used direction u lemma) ≡ last_among before (map protocol_of whole)
    last_is_right =
        let chain = used direction u lemma in
        last_of-later chain.first before chain.links (used-some u lemma direction) ∙ last_of_links before chain.links ∙ ap (last_among before) (further_is ∙ sym made)

    -- and else what is told of the last one
    answers_last : {Y : Type 0} (r : Result Y StepFault) → first_refusal (extent_tests (map f terms)) ≡ None →
        AnswersTest r (type_test x (last_among before (map protocol_of whole))) → AnswersTest r (first_refusal (added_tests x (used direction u lemma)))
    answers_last r passed h =
        subst (AnswersTest r) (sym tests_split) (answers_later r _ _ passed (subst (λ p. AnswersTest r (type_test x p)) (sym last_is_right) h))

    pub told_of_last : (fault : StepFault) → first_refusal (extent_tests (map f terms)) ≡ None →
        TellsRefusal fault (type_test x (last_among before (map protocol_of whole))) → TellsRefusal fault (first_refusal (added_tests x (used direction u lemma)))
    told_of_last fault passed h = answers_last {Y = Unit {0}} (Err fault) passed h

    pub all_passed : first_refusal (extent_tests (map f terms)) ≡ None → type_test x (last_among before (map protocol_of whole)) ≡ None → first_refusal (added_tests x (used direction u lemma)) ≡ None
    all_passed passed h = answers_last {Y = Unit {0}} (Ok tt) passed h

    paired_whole : length whole ≡ length marks
    paired_whole = sym (length-map whole protocol_of) ∙ ap length made ∙ paired_made

    links_are : links_of marks whole ≡ (used direction u lemma).links
    links_are = links_of-by marks whole paired_whole ∙ ap (links_by marks) made ∙ links

    -- the terms that were made and the marks are the links
    pub are_links : WholeFits x before → All (λ term. KeepsLimits (protocol_of term)) whole → HasInterface x.sig x.interface (last_among before (map protocol_of whole)) →
        All (λ term. IsProtocolWithin (length x.sig) (f term)) terms → All (λ mark. IsMarkWithin (length x.sig) mark) marks → AreLinksOf x before (used direction u lemma) whole marks
    are_links first limits typed within marks_within =
        let chain = used direction u lemma in
        let Within : Protocol → Type 0 = λ p. IsProtocolWithin (length x.sig) p in
        let fits : WholeFits x (last_among before (map protocol_of whole)) = record { limits = holds_of_last KeepsLimits before whole first.limits limits; typed = typed } in
        record {
          paired = paired_whole;
          links = links_are;
          leads = ap (last_of before) links_are ∙ last_of-later before chain.first chain.links (used-some u lemma direction);
          end = subst (WholeFits x) (sym last_is_right) fits;
          terms = All-of_map Within protocol_of whole (subst (All Within) (sym made) (All-map Within f terms within));
          marks = marks_within;
        }

-- ---- whole terms can be printed

module _ (x : Setting) (before : Protocol) (place : List ℕ) (C : Context) (pairs : Pairs) (fits : WholeFits x before) (around : context_at before place ≡ Some C) where
  whole_within : (term : Bor Proto) → IsProtocolWithin (length x.sig) (protocol_of term.now) → IsProtocolWithin (length x.sig) (whole_in C pairs term.now)
  whole_within term h =
      let symbols = length x.sig in
      let context = IsContextWithin-context_at symbols before place C around (whole_is_within x before fits) in
      IsProtocolWithin-plugged symbols C (renamed (renaming_of pairs) (protocol_of term.now)) context (IsProtocolWithin-renamed symbols (renaming_of pairs) (protocol_of term.now) h)

  pub wholes_within : (terms : List (Bor Proto)) → All (λ (term : Bor Proto). IsProtocolWithin (length x.sig) (protocol_of term.now)) terms →
      All (λ (term : Bor Proto). IsProtocolWithin (length x.sig) (whole_in C pairs term.now)) terms
  wholes_within terms h =
      All-weaker (λ (term : Bor Proto). IsProtocolWithin (length x.sig) (protocol_of term.now)) (λ (term : Bor Proto). IsProtocolWithin (length x.sig) (whole_in C pairs term.now)) whole_within terms h
