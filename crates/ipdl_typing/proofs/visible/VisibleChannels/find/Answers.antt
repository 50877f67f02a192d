use Rattle.std.proofs.Common.{arith, ap, sym, ◌∙◌}
use Rattle.ipdl_typing.specs.Visible.{found_in, innermost}
use Rattle.ipdl_typing.proofs.Index.{found_within, innermost_is, innermost_none}
use Rattle.ipdl_typing.proofs.visible.VisibleChannels.find.Goals as goal

pub index-requires : goal.index-requires
index-requires c =
    let within = found_within c.self.inside.stack.items (found_in c.self.inside.innermost) c.args.name.now c.in-Some.index.now c.self.invariant (sym c.in-Some.ensures.value) in
    omega (arith, within, c.self.inside.stack.ok.0)

pub returns-in-Some : goal.returns-in-Some
returns-in-Some c =
    innermost_is c.self.inside.stack.items (found_in c.self.inside.innermost) c.args.name.now c.in-Some.index.now c.index.result.now c.self.invariant (sym c.in-Some.ensures.value) (sym c.index.ensures)
    ∙ ap (λ es. innermost es c.args.name.now) c.self.view_is

pub returns-in-None : goal.returns-in-None
returns-in-None c =
    innermost_none c.self.inside.stack.items (found_in c.self.inside.innermost) c.args.name.now c.self.invariant (sym c.in-None.ensures.value)
    ∙ ap (λ es. innermost es c.args.name.now) c.self.view_is
