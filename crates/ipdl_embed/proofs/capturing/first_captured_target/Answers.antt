use Rattle.std.proofs.Common.{rules, ◌≡◌, ◌<◌, Some, None, length, get_or, sym, ap, ◌∙◌}
use Rattle.ipdl_embed.specs.Captures.{first_captured_target}
use Rattle.ipdl_embed.proofs.Captures.{target_here, target_later, no_target, none_where_disjoint}
use Rattle.ipdl_embed.proofs.capturing.first_captured_target.Goals as goal

-- the new name that is looked at is hidden
found : (c : goal.Then-has) → Some c.pair-item.result.1 ≡ first_captured_target c.args.renaming.now c.args.hidden.now
found c =
    let pairs = c.pairs-pairs.result.now in
    let i = c.loop-pair.pair-index in
    let x = c.pair-item.result in
    let within : i < length pairs = search rules in
    let at : get_or pairs i x ≡ x = search rules in
    target_here c.args.hidden.now pairs i x within at (sym c.has.ensures ∙ c.if-has.true) c.loop-pair.invariant
    ∙ ap (λ list. first_captured_target list c.args.hidden.now) c.pairs-pairs.ensures.value

pub returns-then-has-clause-value : goal.returns-then-has-clause-value
returns-then-has-clause-value c = found c

pub returns-then-has-clause-none : goal.returns-then-has-clause-none
returns-then-has-clause-none c = none_where_disjoint c.args.renaming.now c.args.hidden.now (Some _) (found c)

pub loop-pair-preserved : goal.loop-pair-preserved
loop-pair-preserved c =
    let pairs = c.pairs-pairs.result.now in
    let i = c.loop-pair.pair-index in
    let x = c.pair-item.result in
    let within : i < length pairs = search rules in
    let at : get_or pairs i x ≡ x = search rules in
    target_later c.args.hidden.now pairs i x within at (sym c.has.ensures ∙ c.if-has.false) c.loop-pair.invariant

pub returns-clause-none : goal.returns-clause-none
returns-clause-none c =
    none_where_disjoint c.args.renaming.now c.args.hidden.now None
    (no_target c.args.hidden.now c.pairs-pairs.result.now c.loop-pair.pair-index c.loop-pair-test.false c.loop-pair.invariant ∙ ap (λ list. first_captured_target list c.args.hidden.now) c.pairs-pairs.ensures.value)
