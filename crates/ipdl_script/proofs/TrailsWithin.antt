-- Trails that go on or back stay such that they can be printed.
use Rattle.std.proofs.Common.{◌≡◌, ℕ, suc, List, [], ◌∷◌, ◌++◌, length, sym, ap, ap₂, ◌∙◌, subst, arith}
use Rattle.std.proofs.lemmas.List.{length-append}
use Rattle.std.proofs.lemmas.List.Elements.{All-append, All-cons, All-nil, All-same}
use Rattle.std.specs.Prelude.{All}
use Rattle.ipdl_chain.specs.Chains.{Mark, by_rule, by_theorem, by_assumption, turned_mark, last_of}
use Rattle.ipdl_chain.specs.Views.{IsMarkWithin, mark_of, first_of, others_of, links_of}
use Rattle.ipdl_chain.specs.declared.chain.Mark.{Mark as HeldMark}
use Rattle.ipdl_chain.specs.declared.chain.Mark.TheVariants.{ByRule, ByTheorem, ByAssumption}
use Rattle.ipdl_script.proofs.Fits.{whole_is_within}
use Rattle.ipdl_script.specs.Fitting.{WholeFits}
use Rattle.ipdl_script.specs.Steps.{Setting}
use Rattle.ipdl_script.specs.Trails.{IsTrail, IsTrailWithin}
use Rattle.ipdl_script.specs.declared.trail.Trail.{Trail}
use Rattle.ipdl_term.specs.Terms.{Context, hole}
use Rattle.ipdl_term.specs.Views.{protocol_of}
use Rattle.ipdl_term.specs.Within.{IsProtocolWithin, IsContextWithin}
use Rattle.ipdl_term.specs.declared.protocol.Proto.{Proto}

module _ (symbols : ℕ) where
  abbrev pub TermsWithin : List Proto → Type 0
  TermsWithin terms = All (λ term. IsProtocolWithin symbols (protocol_of term)) terms

  abbrev pub MarksWithin : List HeldMark → Type 0
  MarksWithin marks = All (λ mark. IsMarkWithin symbols mark) marks

  pub one_term : (term : Proto) → IsProtocolWithin symbols (protocol_of term) → TermsWithin (term ∷ [])
  one_term term h =
      let Within : Proto → Type 0 = λ t. IsProtocolWithin symbols (protocol_of t) in All-cons Within term [] h (All-nil Within)

  pub one_mark : (mark : HeldMark) → IsMarkWithin symbols mark → MarksWithin (mark ∷ [])
  one_mark mark h = let Within : HeldMark → Type 0 = λ m. IsMarkWithin symbols m in All-cons Within mark [] h (All-nil Within)

  -- ---- further terms

  pub within_appended : (old new : Trail) (terms : List Proto) (marks : List HeldMark) → length terms ≡ length marks → new.terms ≡ old.terms ++ terms → new.marks ≡ old.marks ++ marks →
      IsTrailWithin symbols old → TermsWithin terms → MarksWithin marks → IsTrailWithin symbols new
  within_appended old new terms marks paired ts ms h others more =
      let longer = ap length ts ∙ length-append old.terms terms in
      let as_long = ap length ms ∙ length-append old.marks marks in
      record {
        paired = omega (arith, h.paired, paired, longer, as_long);
        terms = All-same (λ term. IsProtocolWithin symbols (protocol_of term)) new.terms (old.terms ++ terms) ts (All-append (λ term. IsProtocolWithin symbols (protocol_of term)) old.terms terms h.terms others);
        marks = All-same (λ mark. IsMarkWithin symbols mark) new.marks (old.marks ++ marks) ms (All-append (λ mark. IsMarkWithin symbols mark) old.marks marks h.marks more);
      }

  -- ---- marks turned round

  abbrev context_in : Mark → Context
  context_in (by_rule direction word place) = hole
  context_in (by_theorem direction name place pairs) = hole
  context_in (by_assumption direction name place pairs C) = C

  pub turned_within : (mark other : HeldMark) → mark_of other ≡ turned_mark (mark_of mark) → IsMarkWithin symbols mark → IsMarkWithin symbols other
  turned_within mark (ByRule dir word path) e h = tt
  turned_within mark (ByTheorem dir name path renaming) e h = tt
  turned_within (ByRule d w p) (ByAssumption dir name path renaming ctx) e h = cc
  turned_within (ByTheorem d n p r) (ByAssumption dir name path renaming ctx) e h = cc
  turned_within (ByAssumption d n p r other_ctx) (ByAssumption dir name path renaming ctx) e h =
      subst (IsContextWithin symbols) (sym (ap context_in e)) h

-- ---- the trail of a side of which no step was taken

pub start_is_trail : (x : Setting) (from term : Proto) (trail : Trail) → trail.terms ≡ term ∷ [] → trail.marks ≡ [] → protocol_of term ≡ protocol_of from → WholeFits x (protocol_of from) → IsTrail x trail
start_is_trail x from term trail ts ms same fits =
    let Printed : Proto → Type 0 = λ t. IsProtocolWithin (length x.sig) (protocol_of t) in
    let Carried : HeldMark → Type 0 = λ m. IsMarkWithin (length x.sig) m in
    let whole : WholeFits x (protocol_of term) = subst (WholeFits x) (sym same) fits in
    record {
      within = record {
        paired = ap length ts ∙ sym (ap (λ marks. suc (length marks)) ms);
        terms = All-same Printed trail.terms (term ∷ []) ts (one_term (length x.sig) term (whole_is_within x (protocol_of term) whole));
        marks = All-same Carried trail.marks [] ms (All-nil Carried);
      };
      end = subst (WholeFits x) (sym (ap₂ (λ us marks. last_of (first_of us) (links_of marks (others_of us))) ts ms)) whole;
    }
