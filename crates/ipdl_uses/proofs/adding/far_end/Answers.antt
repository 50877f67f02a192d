use Rattle.std.proofs.Common.{◌≡◌, length, get_or, refl, sym, ap, ap₂, ◌∙◌, subst, arith}
use Rattle.std.specs.List.{Contains}
use Rattle.ipdl_term.specs.Steps.{direction_of}
use Rattle.ipdl_term.specs.Views.{protocol_of}
use Rattle.ipdl_uses.proofs.AddedLinks.{far_of_chain}
use Rattle.ipdl_uses.proofs.LentTerms.{contained_at, far_among}
use Rattle.ipdl_uses.proofs.adding.far_end.Goals as goal

pub returns-clause-value : goal.returns-clause-value
returns-clause-value c =
    let chain = c.args.chain.now in
    let first = c.index-terms-0.result in
    let last = c.index-terms-last.result in
    let at_first : first ≡ get_or chain.terms 0 first = c.index-terms-0.is ∙ ap (λ terms. get_or terms 0 first) c.as_slice-terms.ensures in
    let at_last : last ≡ get_or chain.terms (length chain.marks) last = c.index-terms-last.is ∙ ap₂ (λ terms marks. get_or terms (length marks) last) c.as_slice-terms.ensures c.as_slice-last.ensures in
    ap protocol_of c.far_side.ensures ∙ far_of_chain (direction_of c.args.dir) chain first last (length chain.marks) c.requires at_first at_last refl

pub returns-clause-among : goal.returns-clause-among
returns-clause-among c =
    let chain = c.args.chain.now in
    let first = c.index-terms-0.result in
    let last = c.index-terms-last.result in
    let at_first : first ≡ get_or chain.terms 0 first = c.index-terms-0.is ∙ ap (λ terms. get_or terms 0 first) c.as_slice-terms.ensures in
    let at_last : last ≡ get_or chain.terms (length chain.marks) last = c.index-terms-last.is ∙ ap₂ (λ terms marks. get_or terms (length marks) last) c.as_slice-terms.ensures c.as_slice-last.ensures in
    subst (Contains chain.terms) (sym c.far_side.ensures)
    (far_among (direction_of c.args.dir) chain.terms first last (contained_at chain.terms 0 first (omega (arith, c.requires)) at_first) (contained_at chain.terms (length chain.marks) last (omega (arith, c.requires)) at_last))
