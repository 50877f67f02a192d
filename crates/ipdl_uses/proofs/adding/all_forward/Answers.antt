use Rattle.std.proofs.Common.{◌≡◌, [], drop, ap, ◌∙◌}
use Rattle.std.proofs.lemmas.List.{take_rest}
use Rattle.ipdl_uses.proofs.AddedLinks.{chain_links_carried, others_are}
use Rattle.ipdl_uses.proofs.LentTerms.{among_drop}
use Rattle.ipdl_uses.specs.Adding.{lent_terms, links_by, terms_at}
use Rattle.ipdl_uses.specs.Views.{use_at}
use Rattle.ipdl_uses.proofs.adding.all_forward.Goals as goal

pub returns-clause-links : goal.returns-clause-links
returns-clause-links c =
    let u = use_at [] c.args.site.now in
    let chain = c.args.chain.now in
    let made = c.in_ok-marks.marks.items in
    let terms = c.in_ok-terms.terms.items in
    let lent : lent_terms terms ≡ drop 1 chain.terms = c.in_ok-terms.ensures ∙ take_rest c.as_slice-all.result.now 1 ∙ ap (drop 1) c.as_slice-all.ensures in
    ap (λ ts. links_by made (terms_at u ts)) (lent ∙ others_are chain.terms)
    ∙ chain_links_carried u chain c.requires made c.in_ok-marks.ensures.value

pub returns-clause-terms : goal.returns-clause-terms
returns-clause-terms c =
    among_drop c.args.chain.now.terms 1 c.in_ok-terms.terms.items
    (c.in_ok-terms.ensures ∙ take_rest c.as_slice-all.result.now 1 ∙ ap (drop 1) c.as_slice-all.ensures)
