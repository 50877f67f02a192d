use Rattle.std.proofs.Common.{rules, ◌≡◌, [], length, take, ap, ap₂, ◌∙◌}
use Rattle.ipdl_uses.proofs.AddedLinks.{chain_links_turned}
use Rattle.ipdl_uses.proofs.LentTerms.{among_take}
use Rattle.ipdl_uses.specs.Adding.{lent_terms, links_back, terms_at}
use Rattle.ipdl_uses.specs.Views.{use_at}
use Rattle.ipdl_uses.proofs.adding.all_back.Goals as goal

pub returns-clause-links : goal.returns-clause-links
returns-clause-links c =
    let u = use_at [] c.args.site.now in
    let chain = c.args.chain.now in
    let made = c.in_ok-marks.marks.items in
    let uppers = c.in_ok-uppers.uppers.items in
    let len : c.len-last.result ≡ length made = search rules in
    let lent : lent_terms uppers ≡ take (length chain.marks) chain.terms = c.in_ok-uppers.ensures ∙ ap₂ take (len ∙ c.in_ok-marks.ensures.count) c.as_slice-all.ensures in
    c.in_ok-added.ensures.links u
    ∙ ap (λ ts. links_back made (terms_at u ts)) lent
    ∙ chain_links_turned u chain c.requires made c.in_ok-marks.ensures.value

pub returns-clause-marks : goal.returns-clause-marks
returns-clause-marks c = λ symbols within around. c.in_ok-added.ensures.marks symbols (c.in_ok-marks.ensures.within symbols within around)

pub returns-clause-terms : goal.returns-clause-terms
returns-clause-terms c =
    let chain = c.args.chain.now in
    let uppers = c.in_ok-uppers.uppers.items in
    let lent : lent_terms uppers ≡ take c.len-last.result chain.terms = c.in_ok-uppers.ensures ∙ ap (take c.len-last.result) c.as_slice-all.ensures in
    c.in_ok-added.ensures.terms chain.terms (among_take chain.terms c.len-last.result uppers lent)
