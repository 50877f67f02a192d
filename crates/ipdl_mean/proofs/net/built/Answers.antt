use Rattle.std.proofs.Common.{◌+◌, map, length, arith, ap, ◌∙◌, zero-add}
use Rattle.ipdl_mean.proofs.Networks.{collected_is_network, coins_of_typed, count_within_nodes}
use Rattle.ipdl_term.specs.Networks.{assignment_count, writer_number}
use Rattle.ipdl_term.specs.Protocols.{coins}
use Rattle.ipdl_term.specs.Typing.{port_names}
use Rattle.ipdl_term.specs.Views.{protocol_of}
use Rattle.ipdl_typing.specs.Signatures.{signature_of}
use Rattle.ipdl_mean.proofs.net.built.Goals as goal

pub collect-requires-clause-whole : goal.collect-requires-clause-whole
collect-requires-clause-whole c = omega (arith, count_within_nodes (protocol_of c.args.item.now.body), c.requires.small)

pub collect-requires-clause-few : goal.collect-requires-clause-few
collect-requires-clause-few c = omega (arith, count_within_nodes (protocol_of c.args.item.now.body), c.requires.small, ap length c.new.ensures.items)

pub collect-requires-clause-bits : goal.collect-requires-clause-bits
collect-requires-clause-bits c = omega (arith, coins_of_typed (signature_of c.args.sig.now) (protocol_of c.args.item.now.body) _ c.requires.typed.typed, c.requires.small)

pub output_writers-requires : goal.output_writers-requires
output_writers-requires c = omega (arith, count_within_nodes (protocol_of c.args.item.now.body), c.requires.small)

pub invariant_of-result : goal.invariant_of-result
invariant_of-result c =
    let body = protocol_of c.args.item.now.body in
    record {
      typed = c.requires.typed;
      tables = c.requires.tables;
      count = c.in_ok-collect.ensures.count ∙ ap (λ n. n + assignment_count body) (ap length c.new.ensures.items) ∙ zero-add (assignment_count body);
      few = omega (arith, count_within_nodes body, c.requires.small);
      assignments = collected_is_network (signature_of c.args.sig.now) body _ c.requires.typed.typed c.collect.new.so_far.nodes.items c.new.result.items c.new.ensures.items c.in_ok-collect.ensures.nodes;
      outputs = c.in_ok-outputs.ensures ∙ ap (λ ports. map (writer_number body 0) (port_names ports)) c.as_slice.ensures;
      coins = c.in_ok-collect.ensures.coins ∙ zero-add (coins body);
    }
