use Rattle.std.proofs.Common.{◌≡◌, [], ◌∷◌, ◌++◌, ap, ◌∙◌}
use Rattle.ipdl_script.proofs.TrailsWithin.{start_is_trail}
use Rattle.ipdl_script.proofs.trail.start.Goals as goal

pub returns-clause-trail : goal.returns-clause-trail
returns-clause-trail c = λ x fits.
    let term = c.in_ok-copy_proto.field-0 in
    let terms : c.push.new.self ≡ term ∷ [] = c.in_ok-push.ensures.ok ∙ ap (λ ts. ts ++ term ∷ []) c.empty-terms.ensures in
    start_is_trail x c.args.from.now term _ terms c.empty.ensures c.in_ok-copy_proto.ensures fits
