use Rattle.std.proofs.Common.{◌≡◌, ◌+◌, ◌++◌, [], ◌∷◌, length, Some, sym, ap, ◌∙◌, arith}
use Rattle.std.proofs.lemmas.List.Elements.{All-pop, All-push, All-same}
use Rattle.std.specs.Borrow.{Bor}
use Rattle.std.specs.List.{Contains}
use Rattle.ipdl_chain.specs.Views.{IsMarkWithin}
use Rattle.ipdl_chain.specs.declared.chain.Mark.{Mark}
use Rattle.ipdl_term.specs.declared.protocol.Proto.{Proto}
use Rattle.ipdl_uses.proofs.LinkSteps.{back_step, length-push, within_turned}
use Rattle.ipdl_uses.proofs.adding.turned_back.Goals as goal

pub loop-mark-preserved : goal.loop-mark-preserved
loop-mark-preserved c =
    let marks = c.loop-mark.marks.items in
    let rest = c.pop.new.self.items in
    let mark = c.in-Some.mark in
    let uppers = c.loop-mark.uppers.items in
    let others = c.pop-in-Some.new.self.items in
    let upper = c.in-Some-pop.upper in
    let turned = c.loop-mark.turned.items in
    let turned' = c.push-in-Some.new.self.items in
    let back = c.turned.result in
    let lower = c.loop-mark.lower.items in
    let lower' = c.push.new.self.items in
    let m : marks ≡ rest ++ mark ∷ [] = c.in-Some.ensures.items in
    let t : uppers ≡ others ++ upper ∷ [] = c.in-Some-pop.ensures.items in
    let b : turned' ≡ turned ++ back ∷ [] = c.in_ok-push-2.ensures.items in
    let l : lower' ≡ lower ++ upper ∷ [] = c.in_ok-push.ensures.items in
    let paired : length uppers ≡ length marks = c.loop-mark.invariant.paired in
    let same : length lower ≡ length turned = c.loop-mark.invariant.same in
    let left : length others ≡ length rest = omega (arith, paired, length-push marks rest mark m, length-push uppers others upper t) in
    record {
      paired = left;
      same = length-push lower' lower upper l ∙ ap (λ n. n + 1) same ∙ sym (length-push turned' turned back b);
      links = λ u. back_step u marks rest turned turned' uppers others lower lower' mark back upper _ m t b l c.turned.ensures left same (c.loop-mark.invariant.links u);
      marks = λ symbols within.
          let Within : Mark → Type 0 = λ held. IsMarkWithin symbols held in
          let held = c.loop-mark.invariant.marks symbols within in
          let parts = All-pop Within marks rest (Some mark) m held.0 in
          (parts.0, All-same Within turned' (turned ++ back ∷ []) b (All-push Within turned back held.1 (within_turned symbols mark back c.turned.ensures parts.1)));
      terms = λ terms among.
          let Among : Bor Proto → Type 0 = λ reference. Contains terms reference.now in
          let held = c.loop-mark.invariant.terms terms among in
          let parts = All-pop Among uppers others (Some upper) t held.0 in
          (parts.0, All-same Among lower' (lower ++ upper ∷ []) l (All-push Among lower upper held.1 parts.1));
    }
