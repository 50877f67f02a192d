use Rattle.std.proofs.Common.{◌≡◌, ◌<◌, ◌+◌, [], ◌∷◌, ◌++◌, suc, length, get_or, sym, ap, ◌∙◌, subst, arith}
use Rattle.std.proofs.lemmas.List.{length-append}
use Rattle.std.proofs.lemmas.List.Elements.{All-push, All-same}
use Rattle.ipdl_chain.specs.Views.{IsMarkWithin}
use Rattle.ipdl_chain.specs.declared.chain.Mark.{Mark}
use Rattle.ipdl_uses.proofs.LinkSteps.{carried_step}
use Rattle.ipdl_uses.specs.Views.{use_at}
use Rattle.ipdl_uses.proofs.carrying.carried_marks.Goals as goal

pub loop-index-preserved : goal.loop-index-preserved
loop-index-preserved c =
    let marks = c.args.chain.now.marks in
    let terms = c.args.chain.now.terms in
    let i = c.loop-index.index in
    let mark = c.mark-item.result in
    let term = c.index-terms-index.result in
    let new = c.in_ok-carried.carried in
    let made = c.loop-index.made.items in
    let pushed : c.push.new.self.items ≡ made ++ new ∷ [] = c.in_ok-push.ensures.items in
    let next : i + 1 ≡ suc i = omega arith in
    let some : i < length marks = omega (arith, ap length c.as_slice-mark-items.ensures) in
    let at_mark : mark ≡ get_or marks i mark = (let is = c.mark-item.is in let slice = c.as_slice-mark-items.ensures in cc) in
    let at_term : term ≡ get_or terms i term = (let is = c.index-terms-index.is in let slice = c.as_slice-terms.ensures in cc) in
    record {
      value = carried_step (use_at [] c.args.site.now) marks terms i (i + 1) mark new term made c.push.new.self.items _ next some c.requires at_mark at_term c.in_ok-carried.ensures.value pushed c.loop-index.invariant.value;
      count = ap length pushed ∙ length-append made (new ∷ []) ∙ ap (λ n. n + 1) c.loop-index.invariant.count;
      within = λ symbols within around.
          let Within : Mark → Type 0 = λ m. IsMarkWithin symbols m in
          let here : Within mark = subst Within (sym at_mark) (within.marks i mark some) in
          All-same Within c.push.new.self.items (made ++ new ∷ []) pushed (All-push Within made new (c.loop-index.invariant.within symbols within around) (c.in_ok-carried.ensures.within symbols here around));
    }
