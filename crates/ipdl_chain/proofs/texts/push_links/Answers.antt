use Rattle.std.proofs.Common.{◌≡◌, ◌<◌, ◌+◌, suc, length, get_or, ap, arith}
use Rattle.ipdl_chain.proofs.Links.{links_written}
use Rattle.ipdl_chain.proofs.texts.push_links.Goals as goal

pub loop-index-preserved : goal.loop-index-preserved
loop-index-preserved c =
    let marks = c.args.chain.now.marks in
    let terms = c.args.chain.now.terms in
    let i = c.loop-index.index in
    let mark = c.mark-item.result in
    let term = c.index-terms-number.result in
    let next : i + 1 ≡ suc i = omega arith in
    let some : i < length marks = omega (arith, ap length c.as_slice-mark-items.ensures) in
    let enough : i + 1 < length terms = omega (arith, c.requires.paired) in
    let at_mark : mark ≡ get_or marks i mark = (let is = c.mark-item.is in let slice = c.as_slice-mark-items.ensures in cc) in
    let at_term : term ≡ get_or terms (i + 1) term = (let is = c.index-terms-number.is in let slice = c.as_slice-terms.ensures in cc) in
    links_written c.args.sig.now marks terms i (i + 1) mark term _ _ _ _ next some enough at_mark at_term
    c.loop-index.invariant c.in_ok-push_mark.ensures c.in_ok-push_term.ensures
