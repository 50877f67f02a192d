use Rattle.std.proofs.Common.{rules, ◌≡◌, ◌<◌, if◌then◌else◌, [], ◌∷◌, ◌++◌, take, length, get_or, is_some, sym, ap, ◌∙◌}
use Rattle.std.proofs.lemmas.List.{take_more}
use Rattle.ipdl_embed.specs.Pairs.{new_name}
use Rattle.ipdl_embed.proofs.NameSets.{new_name-append}
use Rattle.ipdl_embed.proofs.names.given_names.Goals as goal

pub loop-pair-preserved : goal.loop-pair-preserved
loop-pair-preserved c d =
    let pairs = c.args.pairs.now in
    let i = c.loop-pair.pair-index in
    let x = c.pair-item.result in
    let within : i < length pairs = search rules in
    let at : get_or pairs i x ≡ x = search rules in
    c.in_ok-give.ensures d
    ∙ ap (λ o. if is_some o then o else new_name (x ∷ []) d) (c.loop-pair.invariant d)
    ∙ sym (new_name-append (take i pairs) (x ∷ []) d)
    ∙ ap (λ y. new_name (take i pairs ++ y ∷ []) d) (sym at)
    ∙ ap (λ list. new_name list d) (sym (take_more pairs i x within))
