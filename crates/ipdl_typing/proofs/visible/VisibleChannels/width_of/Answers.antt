use Rattle.std.proofs.Common.{ap, sym, ◌∙◌}
use Rattle.std.specs.Option.{option_map}
use Rattle.ipdl_typing.specs.Visible.{Entry}
use Rattle.ipdl_typing.proofs.VisibleLaws.{scope_in-innermost}
use Rattle.ipdl_typing.proofs.visible.VisibleChannels.width_of.Goals as goal

pub returns-in-Some : goal.returns-in-Some
returns-in-Some c = ap (option_map (λ (e : Entry). e.width)) c.in-Some.ensures ∙ sym (scope_in-innermost c.args.self.now c.args.name.now)

pub returns-in-None : goal.returns-in-None
returns-in-None c = ap (option_map (λ (e : Entry). e.width)) c.in-None.ensures ∙ sym (scope_in-innermost c.args.self.now c.args.name.now)
