use Rattle.std.proofs.Common.{rules, ◌≡◌, ◌<◌, [], ◌∷◌, ◌++◌, length, get_or, refl, ap, ◌∙◌}
use Rattle.ipdl_term.specs.Renaming.{renaming_of}
use Rattle.ipdl_embed.specs.Following.{names_of}
use Rattle.ipdl_embed.specs.Tables.{holds}
use Rattle.ipdl_embed.proofs.Followed.{kept_below, followed-more}
use Rattle.ipdl_embed.proofs.following.follow_below.Goals as goal

pub loop-pair-preserved : goal.loop-pair-preserved
loop-pair-preserved c =
    let hidden = names_of c.args.hidden.now in
    let outer = c.args.renaming.now in
    let pairs = c.args.inner.now in
    let i = c.loop-pair.pair-index in
    let x = c.pair-item.result in
    let within : i < length pairs = search rules in
    let at : get_or pairs i x ≡ x = search rules in
    let kept = kept_below hidden (renaming_of outer) (holds c.enter_all.new.set) (holds c.new-set.result) c.in_ok-enter_all.ensures (λ d. rw c.new-set.ensures.empty refl) in
    c.in_ok-push.ensures.items ∙ ap (λ pair. c.loop-pair.made.items ++ pair ∷ []) c.in_ok-followed_pair.ensures
    ∙ ap (λ f. c.loop-pair.made.items ++ (x.0, f x.1) ∷ []) kept ∙ followed-more hidden outer pairs c.loop-pair.made.items i x within at c.loop-pair.invariant
