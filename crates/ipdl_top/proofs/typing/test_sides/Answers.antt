use Rattle.std.proofs.Common.{map, ◌∙◌}
use Rattle.ipdl_forms.specs.Documents.{entry_of}
use Rattle.ipdl_forms.specs.Networks.{network_named}
use Rattle.ipdl_top.proofs.ItemTypes.{sides_refusal-no_left, sides_refusal-no_right, sides_refusal-both, no_refusal}
use Rattle.ipdl_forms.proofs.Networks.{network_named-found}
use Rattle.ipdl_top.proofs.Stops.{IsStop-same}
use Rattle.ipdl_top.proofs.typing.test_sides.Goals as goal

pub returns-in_default : goal.returns-in_default
returns-in_default c =
    let entries = map (entry_of c.args.document.now.sig) c.args.document.now.items in
    sides_refusal-no_left c.args.item.now (network_named entries c.args.left.now) (network_named entries c.args.right.now)
    (network_named-found c.args.document.now.sig c.args.document.now.items c.args.left.now _ c.in_default.ensures.value)

pub returns-in_default-protocol : goal.returns-in_default-protocol
returns-in_default-protocol c =
    let entries = map (entry_of c.args.document.now.sig) c.args.document.now.items in
    sides_refusal-no_right c.args.item.now (network_named entries c.args.left.now) (network_named entries c.args.right.now)
    (network_named-found c.args.document.now.sig c.args.document.now.items c.args.right.now _ c.in_default-protocol.ensures.value)

pub returns-in-Ok : goal.returns-in-Ok
returns-in-Ok c =
    let entries = map (entry_of c.args.document.now.sig) c.args.document.now.items in
    let left = network_named-found c.args.document.now.sig c.args.document.now.items c.args.left.now _ c.in-Some.ensures.value in
    let right = network_named-found c.args.document.now.sig c.args.document.now.items c.args.right.now _ c.in-Some-protocol.ensures.value in
    sides_refusal-both c.args.item.now (network_named entries c.args.left.now) (network_named entries c.args.right.now) _ _ left right
    ∙ no_refusal c.args.item.now _ c.in-Ok.ensures.clean

pub returns-in-Err : goal.returns-in-Err
returns-in-Err c =
    let entries = map (entry_of c.args.document.now.sig) c.args.document.now.items in
    let left = network_named-found c.args.document.now.sig c.args.document.now.items c.args.left.now _ c.in-Some.ensures.value in
    let right = network_named-found c.args.document.now.sig c.args.document.now.items c.args.right.now _ c.in-Some-protocol.ensures.value in
    IsStop-same c.ill.result _ _
    (sides_refusal-both c.args.item.now (network_named entries c.args.left.now) (network_named entries c.args.right.now) _ _ left right)
    (c.ill.ensures _ c.in-Err.ensures.first)
