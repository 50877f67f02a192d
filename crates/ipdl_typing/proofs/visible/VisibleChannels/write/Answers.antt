use Rattle.std.proofs.Common.{arith, ap, sym, ◌∙◌, [], ◌∷◌}
use Rattle.ipdl_term.specs.Channels.{has}
use Rattle.ipdl_typing.specs.Visible.{found_in, innermost, marked}
use Rattle.ipdl_typing.proofs.Index.{found_within, innermost_is, innermost_none, marked_is, marked_none, IsIndexed-written}
use Rattle.ipdl_typing.proofs.visible.VisibleChannels.write.Goals as goal

pub index-before-requires : goal.index-before-requires
index-before-requires c =
    let within = found_within c.self.inside.stack.items (found_in c.self.inside.innermost) c.args.name.now c.in-Some.index.now c.self.invariant (sym c.in-Some.ensures.value) in
    omega (arith, within, c.self.inside.stack.ok.0)

pub index_mut-requires : goal.index_mut-requires
index_mut-requires c =
    let within = found_within c.self.inside.stack.items (found_in c.self.inside.innermost) c.args.name.now c.in-Some.index.now c.self.invariant (sym c.in-Some.ensures.value) in
    omega (arith, within, c.self.inside.stack.ok.0)

pub invariant_of-self : goal.invariant_of-self
invariant_of-self c =
    IsIndexed-written c.self.inside.stack.items (found_in c.self.inside.innermost) c.args.name.now c.in-Some.index.now c.index_mut.result.now c.self.invariant (sym c.in-Some.ensures.value) (sym c.index_mut.ensures.value)

pub returns-in-Some-clause-before : goal.returns-in-Some-clause-before
returns-in-Some-clause-before c =
    innermost_is c.self.inside.stack.items (found_in c.self.inside.innermost) c.args.name.now c.in-Some.index.now c.index-before.result.now c.self.invariant (sym c.in-Some.ensures.value) (sym c.index-before.ensures)
    ∙ ap (λ es. innermost es c.args.name.now) c.self.view_is

pub returns-in-Some-clause-marked : goal.returns-in-Some-clause-marked
returns-in-Some-clause-marked c =
    marked_is c.self.inside.stack.items (found_in c.self.inside.innermost) c.args.name.now c.in-Some.index.now c.index_mut.result.now c.self.invariant (sym c.in-Some.ensures.value) (sym c.index_mut.ensures.value)
    ∙ ap (marked (has (c.args.name.now ∷ []))) c.self.view_is

pub returns-in-None-clause-before : goal.returns-in-None-clause-before
returns-in-None-clause-before c =
    innermost_none c.self.inside.stack.items (found_in c.self.inside.innermost) c.args.name.now c.self.invariant (sym c.in-None.ensures.value)
    ∙ ap (λ es. innermost es c.args.name.now) c.self.view_is

pub returns-in-None-clause-marked : goal.returns-in-None-clause-marked
returns-in-None-clause-marked c =
    marked_none c.args.self.now c.args.name.now (innermost_none c.self.inside.stack.items (found_in c.self.inside.innermost) c.args.name.now c.self.invariant (sym c.in-None.ensures.value) ∙ ap (λ es. innermost es c.args.name.now) c.self.view_is)
