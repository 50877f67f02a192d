use Rattle.std.proofs.Common.{◌≡◌, ◌^◌, ◌<◌, true, sym, subst, ◌∙◌}
use Rattle.std.specs.Prelude.{bytes_eq}
use Rattle.std.specs.Fmt.{decimal}
use Rattle.std.proofs.lemmas.Slice.Eq.{bytes_eq-Decides}
use Rattle.ipdl_top.proofs.Requests.{order_found, order_missing}
use Rattle.ipdl_top.proofs.request.order_in.Goals as goal

pub returns-in_default : goal.returns-in_default
returns-in_default c =
    order_missing c.args.word.now c.parse.result c.parse.ensures.value.0 (λ n e f. cc (c.in_default.is, e))

pub returns-then-eq : goal.returns-then-eq
returns-then-eq c =
    let small : c.in-Ok.number < 2 ^ 64 = search in
    let same : bytes_eq c.format.result.now c.args.word.now ≡ true = sym c.eq.ensures ∙ c.if-eq.true in
    order_found c.args.word.now c.in-Ok.number small
    (sym c.format.ensures.text ∙ (bytes_eq-Decides c.format.result.now c.args.word.now).0 same)

pub returns-else-eq : goal.returns-else-eq
returns-else-eq c =
    order_missing c.args.word.now c.parse.result c.parse.ensures.value.0
    (λ n e f.
    let one : c.in-Ok.number ≡ n = cc (c.in-Ok.is, e) in
    let written : decimal c.in-Ok.number ≡ c.args.word.now = subst (λ m. decimal m ≡ c.args.word.now) (sym one) f in
    let same : bytes_eq c.format.result.now c.args.word.now ≡ true =
    (bytes_eq-Decides c.format.result.now c.args.word.now).1 (c.format.ensures.text ∙ written) in
    cc (c.eq.ensures, c.if-eq.false, same))
