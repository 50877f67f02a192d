use Rattle.std.proofs.Common.{[], ◌∷◌, refl, ap₂, ◌∙◌}
use Rattle.ipdl_chain.specs.Views.{others_of, links_of}
use Rattle.ipdl_script.proofs.TrailLists.{trail_links-append}
use Rattle.ipdl_script.proofs.TrailsWithin.{one_term, one_mark, within_appended}
use Rattle.ipdl_script.proofs.trail.Trail.push.Goals as goal

pub returns-clause-links : goal.returns-clause-links
returns-clause-links c =
    ap₂ (λ marks terms. links_of marks (others_of terms)) c.in_ok-push-2.ensures.ok c.in_ok-push.ensures.ok
    ∙ trail_links-append c.args.self.now.marks (c.args.mark ∷ []) c.args.self.now.terms (c.args.term ∷ []) c.requires

pub returns-clause-within : goal.returns-clause-within
returns-clause-within c = λ symbols old term mark.
    within_appended symbols c.args.self.now _ (c.args.term ∷ []) (c.args.mark ∷ []) refl c.in_ok-push.ensures.ok c.in_ok-push-2.ensures.ok old
    (one_term symbols c.args.term term) (one_mark symbols c.args.mark mark)
