use Rattle.std.proofs.Common.{sym, ◌∙◌}
use Rattle.ipdl_chain.specs.Chains.{by_theorem}
use Rattle.ipdl_chain.specs.Views.{chain_of}
use Rattle.ipdl_term.specs.Steps.{direction_of}
use Rattle.ipdl_uses.proofs.AddedLinks.{links_of_one, links_of_theorem, theorem_alike}
use Rattle.ipdl_uses.proofs.LentTerms.{among_one}
use Rattle.ipdl_uses.specs.Views.{use_at}
use Rattle.ipdl_uses.proofs.adding.theorem_added.Goals as goal

pub returns-clause-links : goal.returns-clause-links
returns-clause-links c =
    let site = c.args.site.now in
    let u = use_at c.args.name.now site in
    let direction = direction_of c.args.dir in
    let added = c.in_ok-added.added in
    let term = c.far_end-term.result.now in
    links_of_one u added.terms.items added.marks.items term _ (by_theorem direction c.args.name.now site.path.now site.renaming.now) _
    c.in_ok-added.ensures.terms c.in_ok-added.ensures.marks
    (theorem_alike direction c.in_ok-name.name c.args.name.now c.in_ok-path.path site.path.now c.in_ok-renaming.renaming site.renaming.now
    c.in_ok-name.ensures (c.in_ok-path.ensures ∙ c.parts.ensures) (c.in_ok-renaming.ensures ∙ c.requires.pairs))
    c.far_end-term.ensures.value
    ∙ sym (links_of_theorem u direction (chain_of c.args.chain.now))

pub returns-clause-terms : goal.returns-clause-terms
returns-clause-terms c =
    among_one c.args.chain.now.terms c.in_ok-added.added.terms.items c.far_end-term.result.now c.in_ok-added.ensures.terms c.far_end-term.ensures.among
