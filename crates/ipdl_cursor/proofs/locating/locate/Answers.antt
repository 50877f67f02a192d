use Rattle.std.proofs.Common.{ap, ◌∙◌, arith, length}
use Rattle.std.proofs.lemmas.List.{length-reverse}
use Rattle.ipdl_term.specs.Surroundings.{around, outermost}
use Rattle.ipdl_term.specs.Terms.{protocol_term}
use Rattle.ipdl_term.specs.Views.{protocol_of}
use Rattle.ipdl_cursor.specs.Boundaries.{binder_widths, boundaries_to}
use Rattle.ipdl_cursor.proofs.AroundPlaces.{binder_widths-around}
use Rattle.ipdl_cursor.proofs.Rooms.{room}
use Rattle.ipdl_cursor.proofs.locating.locate.Goals as goal

pub returns-clause-depth : goal.returns-clause-depth
returns-clause-depth c S =
    let p = protocol_of c.args.proto.now in
    let s = around (outermost S) (protocol_term p) c.args.path.now in
    c.binders_to.ensures
    ∙ ap (λ place. length (binder_widths (boundaries_to (protocol_term p) place))) c.parts-2.ensures
    ∙ ap length (binder_widths-around S p c.args.path.now)
    ∙ length-reverse s.widths

pub returns-clause-few : goal.returns-clause-few
returns-clause-few c =
    let most = room (protocol_term (protocol_of c.args.proto.now)) c.args.path.now in
    let is = c.binders_to.ensures ∙ ap (λ place. length (binder_widths (boundaries_to (protocol_term (protocol_of c.args.proto.now)) place))) c.parts-2.ensures in
    omega (arith, is, most.1)
