use Rattle.std.proofs.lemmas.Result.{err_from_is_err_and}
use Rattle.ipdl_term.specs.Views.{protocol_of}
use Rattle.ipdl_read.specs.Earlier.{earlier_of}
use Rattle.ipdl_read_terms.proofs.Lists.{four_items}
use Rattle.ipdl_read.proofs.ReadItems.{protocol_first_interface, protocol_first_body, protocol_none, protocol_spelled}
use Rattle.ipdl_read.proofs.items.read_protocol.Goals as goal

pub returns-in_err-interface-clause-first : goal.returns-in_err-interface-clause-first
returns-in_err-interface-clause-first c =
    let is = four_items c.args.parts.now c.name-item.result c.inputs-item.result c.outputs-item.result c.body-item.result c.in-len4.len_at_least c.in-len4.len_below c.name-item.is c.inputs-item.is c.outputs-item.is c.body-item.is in
    let p = err_from_is_err_and c.from_residual-in_err-interface.result c.from_residual-in_err-interface.ensures.1 in
    rw (p.1, p.2)
    (protocol_first_interface c.in_err-interface.field-0.0 (earlier_of c.args.earlier.now) c.args.list.0 c.args.parts.now c.name-item.result c.inputs-item.result c.outputs-item.result c.body-item.result is c.in_ok-name.ensures.clean c.in_err-interface.ensures.first)

pub returns-in_err-body-clause-first : goal.returns-in_err-body-clause-first
returns-in_err-body-clause-first c =
    let is = four_items c.args.parts.now c.name-item.result c.inputs-item.result c.outputs-item.result c.body-item.result c.in-len4.len_at_least c.in-len4.len_below c.name-item.is c.inputs-item.is c.outputs-item.is c.body-item.is in
    let p = err_from_is_err_and c.from_residual-in_err-body.result c.from_residual-in_err-body.ensures.1 in
    rw (p.1, p.2)
    (protocol_first_body c.in_err-body.field-0.0 (earlier_of c.args.earlier.now) c.args.list.0 c.args.parts.now c.name-item.result c.inputs-item.result c.outputs-item.result c.body-item.result is c.in_ok-name.ensures.clean c.in_ok-interface.ensures.clean c.in_err-body.ensures.first)

pub returns-clause-spelled : goal.returns-clause-spelled
returns-clause-spelled c head =
    let is = four_items c.args.parts.now c.name-item.result c.inputs-item.result c.outputs-item.result c.body-item.result c.in-len4.len_at_least c.in-len4.len_below c.name-item.is c.inputs-item.is c.outputs-item.is c.body-item.is in
    protocol_spelled (earlier_of c.args.earlier.now) c.args.list.0 head c.args.parts.now c.name-item.result c.inputs-item.result c.outputs-item.result c.body-item.result c.in_ok-name.name c.in_ok-interface.interface (protocol_of c.in_ok-body.body) is c.in_ok-name.ensures.spelled c.in_ok-interface.ensures.spelled c.in_ok-body.ensures.spelled

pub returns-clause-clean : goal.returns-clause-clean
returns-clause-clean c =
    let is = four_items c.args.parts.now c.name-item.result c.inputs-item.result c.outputs-item.result c.body-item.result c.in-len4.len_at_least c.in-len4.len_below c.name-item.is c.inputs-item.is c.outputs-item.is c.body-item.is in
    protocol_none (earlier_of c.args.earlier.now) c.args.list.0 c.args.parts.now c.name-item.result c.inputs-item.result c.outputs-item.result c.body-item.result is c.in_ok-name.ensures.clean c.in_ok-interface.ensures.clean c.in_ok-body.ensures.clean
