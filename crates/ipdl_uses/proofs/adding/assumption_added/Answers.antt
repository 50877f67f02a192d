use Rattle.std.proofs.Common.{[], ◌∷◌, sym, ap, ◌∙◌, subst}
use Rattle.std.specs.List.{Contains}
use Rattle.ipdl_chain.specs.Chains.{by_assumption}
use Rattle.ipdl_term.specs.Steps.{direction_of}
use Rattle.ipdl_term.specs.Views.{context_of, protocol_of}
use Rattle.ipdl_uses.proofs.AddedLinks.{assumption_alike, far_of_assumption, links_of_one}
use Rattle.ipdl_uses.proofs.LentTerms.{among_one, far_of_two}
use Rattle.ipdl_uses.proofs.OwnNames.{links_of_assumption}
use Rattle.ipdl_uses.specs.Views.{use_at}
use Rattle.ipdl_uses.proofs.adding.assumption_added.Goals as goal

pub returns-clause-links : goal.returns-clause-links
returns-clause-links c =
    let known = c.args.known.now in
    let site = c.args.site.now in
    let u = use_at known.name.now site in
    let direction = direction_of c.args.dir in
    let added = c.in_ok-added.added in
    let term = c.far_side-term.result.now in
    links_of_one u added.terms.items added.marks.items term _ (by_assumption direction known.name.now site.path.now site.renaming.now (context_of site.ctx.now)) _
    c.in_ok-added.ensures.terms c.in_ok-added.ensures.marks
    (assumption_alike direction c.in_ok-name.name known.name.now c.in_ok-path.path site.path.now c.in_ok-renaming.renaming site.renaming.now (context_of c.in_ok-ctx.ctx) (context_of site.ctx.now)
    c.in_ok-name.ensures (c.in_ok-path.ensures ∙ c.parts.ensures) (c.in_ok-renaming.ensures ∙ c.requires.pairs) c.in_ok-ctx.ensures)
    (ap protocol_of c.far_side-term.ensures ∙ far_of_assumption direction known.name.now known.interface.now c.args.left.now c.args.right.now)
    ∙ sym (links_of_assumption u known.interface.now c.requires.named.0 c.requires.named.1 direction known.name.now (protocol_of c.args.left.now) (protocol_of c.args.right.now))

pub returns-clause-terms : goal.returns-clause-terms
returns-clause-terms c =
    let two = c.args.left.now ∷ c.args.right.now ∷ [] in
    among_one two c.in_ok-added.added.terms.items c.far_side-term.result.now c.in_ok-added.ensures.terms
    (subst (Contains two) (sym c.far_side-term.ensures) (far_of_two (direction_of c.args.dir) c.args.left.now c.args.right.now))
