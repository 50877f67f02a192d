use Rattle.std.proofs.Common.{ap, sym, ◌∙◌}
use Rattle.ipdl_typing.proofs.VisibleLaws.{passes, has-earlier_in}
use Rattle.ipdl_typing.proofs.visible.VisibleChannels.is_written.Goals as goal

pub returns-in-Some : goal.returns-in-Some
returns-in-Some c = ap (passes (λ e. e.written)) c.in-Some.ensures ∙ sym (has-earlier_in c.args.self.now c.args.name.now)

pub returns-in-None : goal.returns-in-None
returns-in-None c = ap (passes (λ e. e.written)) c.in-None.ensures ∙ sym (has-earlier_in c.args.self.now c.args.name.now)
