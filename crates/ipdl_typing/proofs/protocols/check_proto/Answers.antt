use Rattle.std.proofs.Common.{List, subst}
use Rattle.ipdl_term.specs.Views.{protocol_of}
use Rattle.ipdl_term.specs.declared.interface.Port.{Port}
use Rattle.std.proofs.lemmas.Result.{err_from_is_err_and, on_ok_weaker}
use Rattle.ipdl_typing.specs.Answers.{AnswersChecks}
use Rattle.ipdl_typing.specs.Interfaces.{interface_failures, missing_in}
use Rattle.ipdl_typing.specs.Signatures.{signature_of}
use Rattle.ipdl_typing.proofs.First.{OnOk-checks, IfErr-checks}
use Rattle.ipdl_typing.proofs.ProtocolTyping.{entered_ports, interface_own, interface_checks, HasInterface-clean}
use Rattle.ipdl_typing.proofs.protocols.check_proto.Goals as goal

pub returns-in_err-check_at-clause-first : goal.returns-in_err-check_at-clause-first
returns-in_err-check_at-clause-first c =
    let entered = entered_ports c.new-visible.result c.enter_ports.new.self c.enter_ports-2.new.self c.as_slice.result.now c.as_slice-2.result.now c.args.interface.now.inputs c.args.interface.now.outputs c.new-visible.ensures c.in_ok-enter_ports.ensures c.in_ok-enter_ports-2.ensures c.as_slice.ensures c.as_slice-2.ensures in
    let p = err_from_is_err_and c.from_residual-in_err-check_at.result c.from_residual-in_err-check_at.ensures.1 in
    rw (p.1, p.2) (interface_own c.in_err-check_at.field-0.0 (signature_of c.args.sig.now) c.args.interface.now c.enter_ports-2.new.self (protocol_of c.args.proto.now) entered c.in_err-check_at.ensures.checks)

pub returns-clause-clean : goal.returns-clause-clean
returns-clause-clean c =
    let entered = entered_ports c.new-visible.result c.enter_ports.new.self c.enter_ports-2.new.self c.as_slice.result.now c.as_slice-2.result.now c.args.interface.now.inputs c.args.interface.now.outputs c.new-visible.ensures c.in_ok-enter_ports.ensures c.in_ok-enter_ports-2.ensures c.as_slice.ensures c.as_slice-2.ensures in
    let P : List Port → Type 0 = λ ports. AnswersChecks c.check_written.result (missing_in ports c.check_at.new.visible) in
    OnOk-checks c.check_written.result (interface_failures (signature_of c.args.sig.now) c.args.interface.now (protocol_of c.args.proto.now)) (interface_checks c.check_written.result (signature_of c.args.sig.now) c.args.interface.now c.enter_ports-2.new.self c.check_at.new.visible (protocol_of c.args.proto.now) entered c.in_ok-check_at.ensures.checks c.in_ok-check_at.ensures.written (subst P c.as_slice-3.ensures c.check_written.ensures))

pub returns-clause-first : goal.returns-clause-first
returns-clause-first c =
    let entered = entered_ports c.new-visible.result c.enter_ports.new.self c.enter_ports-2.new.self c.as_slice.result.now c.as_slice-2.result.now c.args.interface.now.inputs c.args.interface.now.outputs c.new-visible.ensures c.in_ok-enter_ports.ensures c.in_ok-enter_ports-2.ensures c.as_slice.ensures c.as_slice-2.ensures in
    let P : List Port → Type 0 = λ ports. AnswersChecks c.check_written.result (missing_in ports c.check_at.new.visible) in
    IfErr-checks c.check_written.result (interface_failures (signature_of c.args.sig.now) c.args.interface.now (protocol_of c.args.proto.now)) (interface_checks c.check_written.result (signature_of c.args.sig.now) c.args.interface.now c.enter_ports-2.new.self c.check_at.new.visible (protocol_of c.args.proto.now) entered c.in_ok-check_at.ensures.checks c.in_ok-check_at.ensures.written (subst P c.as_slice-3.ensures c.check_written.ensures))

pub returns-clause-typed : goal.returns-clause-typed
returns-clause-typed c =
    on_ok_weaker c.check_written.result (HasInterface-clean (signature_of c.args.sig.now) c.args.interface.now (protocol_of c.args.proto.now)) (returns-clause-clean c)
