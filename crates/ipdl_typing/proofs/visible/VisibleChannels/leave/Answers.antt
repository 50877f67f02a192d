use Rattle.std.proofs.Common.{ap, sym, ◌∙◌, ◌≡◌, Some, None, if◌then◌else◌}
use Rattle.std.specs.Prelude.{bytes_eq, is_some}
use Rattle.ipdl_term.specs.Terms.{Channel}
use Rattle.ipdl_typing.specs.Visible.{found_in}
use Rattle.ipdl_typing.proofs.Index.{IsIndexed-pop, last_is_found, a_name}
use Rattle.ipdl_typing.proofs.visible.VisibleChannels.leave.Goals as goal

pub invariant_of-self-in-Some-get_mut : goal.invariant_of-self-in-Some-get_mut
invariant_of-self-in-Some-get_mut c =
    let old = c.self.inside.innermost in
    let new = c.get_mut.follows.lender c.in-Some.outer in
    let channel = c.in_ok-channel.channel in
    let put : (d : Channel) → found_in new d ≡ (if bytes_eq channel.name.now d then Some c.in-Some.outer else found_in old d) = λ d. ((c.get_mut.follows.holds c.in-Some.outer).3 (ap is_some (sym c.in-Some-get_mut.ensures.value))).0 (a_name d) in
    IsIndexed-pop c.self.inside.stack.items c.pop.new.self.items (found_in old) (found_in new) channel c.self.invariant c.in_ok-channel.ensures.items (λ d. put d ∙ ap (λ o. if bytes_eq channel.name.now d then o else found_in old d) (sym c.in-Some.is))

pub invariant_of-self-in_default : goal.invariant_of-self-in_default
invariant_of-self-in_default c =
    absurd (last_is_found c.self.inside.stack.items c.pop.new.self.items (found_in c.self.inside.innermost) c.in_ok-channel.channel c.self.invariant c.in_ok-channel.ensures.items c.in_default.ensures.value)

pub invariant_of-self-in-None : goal.invariant_of-self-in-None
invariant_of-self-in-None c =
    let old = c.self.inside.innermost in
    let channel = c.in_ok-channel.channel in
    let put : (d : Channel) → found_in c.remove.new.self d ≡ (if bytes_eq channel.name.now d then None else found_in old d) = λ d. c.remove.ensures.updates.0 (a_name d) in
    IsIndexed-pop c.self.inside.stack.items c.pop.new.self.items (found_in old) (found_in c.remove.new.self) channel c.self.invariant c.in_ok-channel.ensures.items (λ d. put d ∙ ap (λ o. if bytes_eq channel.name.now d then o else found_in old d) (sym c.in-None.is))
