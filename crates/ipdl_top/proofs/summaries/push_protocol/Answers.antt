use Rattle.std.proofs.Common.{ap}
use Rattle.std.specs.Prelude.{length}
use Rattle.ipdl_term.specs.Views.{protocol_of}
use Rattle.ipdl_top.proofs.Texts.{protocol_summary-pieces}
use Rattle.ipdl_top.proofs.summaries.push_protocol.Goals as goal

pub returns : goal.returns
returns c =
    protocol_summary-pieces c.args.protocol.now.name c.args.protocol.now.interface (protocol_of c.args.protocol.now.body) _ _ _ _ _ _ _ _ _ c.requires
    c.text-name.ensures.value (ap length c.as_slice.ensures) (ap length c.as_slice-2.ensures) c.channels-channels.ensures
    c.proto_nodes-nodes.ensures c.coins-coins.ensures c.in_ok-write.ensures.bytes c.in_ok-writeln.ensures.bytes
