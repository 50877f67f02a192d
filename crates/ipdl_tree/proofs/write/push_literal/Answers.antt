use Rattle.std.proofs.Common.{◌<◌, ◌-◌, ◌∷◌, ◌++◌, [], length, ap, ap₂, ◌∙◌, sym, take, map, arith}
use Rattle.std.proofs.lemmas.List.{append_assoc}
use Rattle.ipdl_base.specs.Bits.{bit}
use Rattle.ipdl_tree.specs.Spelling.{bit_digit}
use Rattle.ipdl_tree.proofs.Writing.{digits-more}
use Rattle.ipdl_tree.proofs.write.push_literal.Goals as goal

pub loop-index-preserved : goal.loop-index-preserved
loop-index-preserved c =
    let below : c.loop-index.index < length c.args.bits = omega (arith, c.width-width.ensures.value) in
    let same = ap₂ (λ n w. bit_digit (bit n (w - 1 - c.loop-index.index))) c.value-number.ensures c.width-width.ensures.value in
    let more = digits-more c.args.bits c.loop-index.index c.digit_at.result below (c.digit_at.ensures ∙ same) in
    c.in_ok-push-2.ensures.items
    ∙ ap (λ x. x ++ c.digit_at.result ∷ []) c.loop-index.invariant
    ∙ append_assoc c.push.new.self.items (map bit_digit (take c.loop-index.index c.args.bits)) (c.digit_at.result ∷ [])
    ∙ ap (λ x. c.push.new.self.items ++ x) (sym more)
