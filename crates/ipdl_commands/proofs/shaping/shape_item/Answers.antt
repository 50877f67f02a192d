use Rattle.std.proofs.Common.{length, sym, subst}
use Rattle.ipdl_commands.proofs.Refusing.{IfRefused-shape, shape_refusal-repeat}
use Rattle.ipdl_commands.proofs.Shapes.{IsProtocolWithin-shaped}
use Rattle.ipdl_forms.specs.Networks.{network_of}
use Rattle.ipdl_norm.specs.Repeated.{TellsRepeat, first_repeated_name}
use Rattle.ipdl_term.specs.Views.{protocol_of}
use Rattle.ipdl_term.specs.Within.{IsProtocolWithin}
use Rattle.ipdl_commands.proofs.shaping.shape_item.Goals as goal

pub proto_line-requires : goal.proto_line-requires
proto_line-requires c =
    subst (IsProtocolWithin (length c.args.sig.now)) (sym c.in-Ok.ensures.shape)
    (IsProtocolWithin-shaped (length c.args.sig.now) (protocol_of c.args.item.now.body) c.requires)

pub returns-in-Err-NamesRepeat-clause-refused : goal.returns-in-Err-NamesRepeat-clause-refused
returns-in-Err-NamesRepeat-clause-refused c =
    let first = subst (TellsRepeat (first_repeated_name (protocol_of c.args.item.now.body))) c.in-Err-NamesRepeat.field-0-is c.in-Err-NamesRepeat.ensures.fault in
    IfRefused-shape _ _ _ _ (shape_refusal-repeat (network_of c.args.item.now) _ _ c.text.ensures.value first) c.refused.ensures
