use Rattle.std.proofs.Common.{◌≡◌, ◌++◌, [], ◌∷◌, length, Some, ◌∙◌, arith}
use Rattle.std.proofs.lemmas.List.Elements.{All-pop}
use Rattle.ipdl_chain.specs.Views.{IsMarkWithin}
use Rattle.ipdl_script.proofs.TrailLists.{back_step, length-push}
use Rattle.ipdl_script.proofs.TrailsWithin.{turned_within}
use Rattle.ipdl_script.specs.Trails.{trail_links}
use Rattle.ipdl_term.specs.Views.{protocol_of}
use Rattle.ipdl_term.specs.Within.{IsProtocolWithin}
use Rattle.ipdl_script.proofs.trail.push_back.Goals as goal

pub loop-mark-preserved : goal.loop-mark-preserved
loop-mark-preserved c =
    let m : c.loop-mark.marks.items ≡ c.pop.new.self.items ++ c.in-Some.mark ∷ [] = c.in-Some.ensures.items in
    let t : c.loop-mark.terms.items ≡ c.pop-in-Some.new.self.items ++ c.in-Some-pop.term ∷ [] = c.in-Some-pop.ensures.items in
    let marks = length-push c.loop-mark.marks.items c.pop.new.self.items c.in-Some.mark m in
    let terms = length-push c.loop-mark.terms.items c.pop-in-Some.new.self.items c.in-Some-pop.term t in
    let left : length c.pop-in-Some.new.self.items ≡ length c.pop.new.self.items = omega (arith, c.loop-mark.invariant.paired) in
    record {
      trail = c.in_ok-push.ensures.paired;
      paired = left;
      first = c.in_ok-push.ensures.first ∙ c.loop-mark.invariant.first;
      links =
          back_step (trail_links c.loop-mark.trail) (trail_links c.push.new.self) _ c.loop-mark.marks.items c.pop.new.self.items c.loop-mark.terms.items c.pop-in-Some.new.self.items
          c.in-Some.mark c.in-Some-pop.term _ m t left c.turned.ensures c.in_ok-push.ensures.links c.loop-mark.invariant.links;
      within = λ symbols whole terms_fit marks_fit.
          let held = c.loop-mark.invariant.within symbols whole terms_fit marks_fit in
          let parts = All-pop (λ term. IsProtocolWithin symbols (protocol_of term)) c.loop-mark.terms.items c.pop-in-Some.new.self.items (Some c.in-Some-pop.term) t held.1 in
          let others = All-pop (λ mark. IsMarkWithin symbols mark) c.loop-mark.marks.items c.pop.new.self.items (Some c.in-Some.mark) m held.2 in
          (c.in_ok-push.ensures.within symbols held.0 parts.1 (turned_within symbols c.in-Some.mark c.turned.result c.turned.ensures others.1), parts.0, others.0);
    }
