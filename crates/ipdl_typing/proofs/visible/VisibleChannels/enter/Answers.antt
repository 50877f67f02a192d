use Rattle.std.proofs.Common.{ap, ◌∙◌, ◌≡◌, Some, if◌then◌else◌}
use Rattle.std.specs.Prelude.{bytes_eq}
use Rattle.ipdl_term.specs.Terms.{Channel}
use Rattle.ipdl_typing.specs.Visible.{found_in}
use Rattle.ipdl_typing.proofs.Index.{IsIndexed-push, a_name}
use Rattle.ipdl_typing.proofs.visible.VisibleChannels.enter.Goals as goal

pub invariant_of-self-2 : goal.invariant_of-self-2
invariant_of-self-2 c =
    let stack = c.self.inside.stack in
    let old = c.self.inside.innermost in
    let counted = ap (λ n. Some n) (c.len-index.ensures ∙ stack.ok.0) in
    let put : (d : Channel) → found_in c.insert.new.self d ≡ (if bytes_eq c.args.name.now d then Some c.len-index.result else found_in old d) = λ d. c.in_ok-outer.ensures.updates.0 (a_name d) in
    IsIndexed-push stack.items c.reserve.new.self.items c.push.new.self.items (found_in old) (found_in c.insert.new.self) _ c.self.invariant c.in_ok-reserve.ensures.items c.in_ok-push.ensures.items c.in_ok-outer.ensures.old (λ d. put d ∙ ap (λ o. if bytes_eq c.args.name.now d then o else found_in old d) counted)
