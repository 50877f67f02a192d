use Rattle.std.proofs.Common.{◌≡◌, ◌++◌, ap, ◌∙◌, map, reverse, arith}
use Rattle.std.proofs.lemmas.Grind.{common_steps}
use Rattle.ipdl_term.specs.Terms.{protocol_term}
use Rattle.ipdl_term.specs.Views.{protocol_of}
use Rattle.ipdl_cursor.specs.Boundaries.{boundary_of, boundaries_to, binder_widths, channel_ports, arm_conditions}
use Rattle.ipdl_cursor.proofs.AroundPlaces.{binder_widths-around, arm_conditions-around, channel_ports-boundaries}
use Rattle.ipdl_cursor.proofs.Rooms.{room}
use Rattle.ipdl_cursor.proofs.focusing.focus.Goals as goal

pub with_surroundings-requires : goal.with_surroundings-requires
with_surroundings-requires c =
    let most = room (protocol_term (protocol_of c.args.proto.now)) c.args.path.now in
    grind (arith, common_steps, most)

pub returns-in-Ok-with_surroundings-clause-surroundings : goal.returns-in-Ok-with_surroundings-clause-surroundings
returns-in-Ok-with_surroundings-clause-surroundings c S =
    let p = protocol_of c.args.proto.now in
    let entered : map boundary_of c.as_slice.result.now ≡ boundaries_to (protocol_term p) c.args.path.now =
    ap (map boundary_of) c.as_slice.ensures.value ∙ c.in-Ok.ensures ∙ ap (boundaries_to (protocol_term p)) c.parts-2.ensures in (
      c.in-Ok-with_surroundings.ensures.widths ∙ ap binder_widths entered ∙ binder_widths-around S p c.args.path.now,
      c.in-Ok-with_surroundings.ensures.conditions ∙ ap (λ bs. reverse (arm_conditions bs)) entered ∙ arm_conditions-around S p c.args.path.now,
    )

pub returns-in-Ok-with_surroundings-clause-scope : goal.returns-in-Ok-with_surroundings-clause-scope
returns-in-Ok-with_surroundings-clause-scope c =
    let p = protocol_of c.args.proto.now in
    let entered : map boundary_of c.as_slice.result.now ≡ boundaries_to (protocol_term p) c.args.path.now =
    ap (map boundary_of) c.as_slice.ensures.value ∙ c.in-Ok.ensures ∙ ap (boundaries_to (protocol_term p)) c.parts-2.ensures in
    let ports = ap channel_ports entered ∙ channel_ports-boundaries (protocol_term p) c.args.path.now in
    c.in-Ok-with_surroundings.ensures.scope ∙ ap (λ hidden. c.args.interface.now.inputs ++ c.args.interface.now.outputs ++ hidden) ports
