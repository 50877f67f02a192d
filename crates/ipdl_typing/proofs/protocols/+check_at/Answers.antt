use Rattle.std.proofs.Common.{ap, ap₂, sym, ◌∙◌}
use Rattle.ipdl_term.specs.Channels.{has, outputs}
use Rattle.ipdl_term.specs.Terms.{parallel, hiding}
use Rattle.ipdl_term.specs.Views.{protocol_of}
use Rattle.ipdl_typing.specs.Places.{path_of}
use Rattle.ipdl_typing.specs.Signatures.{signature_of}
use Rattle.ipdl_typing.specs.Visible.{marked}
use Rattle.ipdl_typing.proofs.First.{AnswersChecks-error}
use Rattle.ipdl_typing.proofs.ProtocolLaws.{parallel_first, parallel_written, parallel_checks, hiding_width, hiding_inner, hiding_checks, hiding_written}
use Rattle.ipdl_typing.proofs.VisibleLaws.{marked-none}
use Rattle.ipdl_typing.proofs.protocols.+check_at.Goals as goal

pub returns-in-Nil-clause-written : goal.returns-in-Nil-clause-written
returns-in-Nil-clause-written t c =
    sym (ap (λ p. marked (has (outputs (protocol_of p))) c.args.visible.now) c.in-Nil.is ∙ marked-none c.args.visible.now)

pub returns-in_err-check_at-in-Par-clause-checks : goal.returns-in_err-check_at-in-Par-clause-checks
returns-in_err-check_at-in-Par-clause-checks t c =
    let is = ap protocol_of c.in-Par.is ∙ ap (λ p. parallel (protocol_of p) (protocol_of c.in-Par.q.value)) (sym c.deref.ensures) in
    AnswersChecks-error c.from_residual.result c.in_err-check_at-in-Par.field-0.0 _ c.from_residual.ensures.1 (parallel_first c.in_err-check_at-in-Par.field-0.0 (signature_of c.args.sig.now) c.args.visible.now (path_of c.args.place.now) (protocol_of c.args.proto.now) (protocol_of c.deref.result.now) (protocol_of c.in-Par.q.value) is c.in_err-check_at-in-Par.ensures.checks)

pub returns-in_ok-check_at-in-Par-clause-written :
    goal.returns-in_ok-check_at-in-Par-clause-written
returns-in_ok-check_at-in-Par-clause-written t c =
    let is = ap protocol_of c.in-Par.is ∙ ap₂ (λ p q. parallel (protocol_of p) (protocol_of q)) (sym c.deref.ensures) (sym c.deref-in-Par.ensures) in
    parallel_written c.check_at-in-Par.result c.args.visible.now c.check_at.new.visible c.check_at-in-Par.new.visible (protocol_of c.args.proto.now) (protocol_of c.deref.result.now) (protocol_of c.deref-in-Par.result.now) is c.in_ok-check_at-in-Par.ensures.written c.check_at-in-Par.ensures.written

pub returns-in_ok-check_at-in-Par-clause-checks : goal.returns-in_ok-check_at-in-Par-clause-checks
returns-in_ok-check_at-in-Par-clause-checks t c =
    let is = ap protocol_of c.in-Par.is ∙ ap₂ (λ p q. parallel (protocol_of p) (protocol_of q)) (sym c.deref.ensures) (sym c.deref-in-Par.ensures) in
    parallel_checks c.check_at-in-Par.result (signature_of c.args.sig.now) c.args.visible.now c.check_at.new.visible (path_of c.args.place.now) (protocol_of c.args.proto.now) (protocol_of c.deref.result.now) (protocol_of c.deref-in-Par.result.now) is c.in_ok-check_at-in-Par.ensures.written c.in_ok-check_at-in-Par.ensures.checks c.check_at-in-Par.ensures.checks

pub returns-in_err-expect_allowed-in-Hide-clause-checks :
    goal.returns-in_err-expect_allowed-in-Hide-clause-checks
returns-in_err-expect_allowed-in-Hide-clause-checks t c =
    AnswersChecks-error c.from_residual-in_err-expect_allowed-in-Hide.result c.in_err-expect_allowed-in-Hide.field-0.0 _ c.from_residual-in_err-expect_allowed-in-Hide.ensures.1 (hiding_width c.in_err-expect_allowed-in-Hide.field-0.0 (signature_of c.args.sig.now) c.args.visible.now (path_of c.args.place.now) (protocol_of c.args.proto.now) (protocol_of c.in-Hide.p.value) c.in-Hide.channel c.in-Hide.width (ap protocol_of c.in-Hide.is) c.in_err-expect_allowed-in-Hide.ensures)

pub returns-in_err-check_at-in-Hide-clause-checks :
    goal.returns-in_err-check_at-in-Hide-clause-checks
returns-in_err-check_at-in-Hide-clause-checks t c =
    let is = ap protocol_of c.in-Hide.is ∙ ap (λ p. hiding c.in-Hide.channel c.in-Hide.width (protocol_of p)) (sym c.deref-in-Hide.ensures) in
    AnswersChecks-error c.from_residual-in_err-check_at-in-Hide.result c.in_err-check_at-in-Hide.field-0.0 _ c.from_residual-in_err-check_at-in-Hide.ensures.1 (hiding_inner c.in_err-check_at-in-Hide.field-0.0 (signature_of c.args.sig.now) c.args.visible.now c.enter.new.self (path_of c.args.place.now) (protocol_of c.args.proto.now) (protocol_of c.deref-in-Hide.result.now) c.in-Hide.channel c.in-Hide.width is c.in_ok-enter-in-Hide.ensures c.in_ok-expect_allowed-in-Hide.ensures c.in_err-check_at-in-Hide.ensures.checks)

pub returns-in_ok-check_at-in-Hide-clause-written :
    goal.returns-in_ok-check_at-in-Hide-clause-written
returns-in_ok-check_at-in-Hide-clause-written t c =
    let is = ap protocol_of c.in-Hide.is ∙ ap (λ p. hiding c.in-Hide.channel c.in-Hide.width (protocol_of p)) (sym c.deref-in-Hide.ensures) in
    hiding_written c.leave_hidden.result c.args.visible.now c.enter.new.self c.check_at-in-Hide.new.visible c.leave_hidden.new.visible (protocol_of c.args.proto.now) (protocol_of c.deref-in-Hide.result.now) c.in-Hide.channel c.in-Hide.width is c.in_ok-enter-in-Hide.ensures c.in_ok-check_at-in-Hide.ensures.written c.leave_hidden.ensures.left

pub returns-in_ok-check_at-in-Hide-clause-checks :
    goal.returns-in_ok-check_at-in-Hide-clause-checks
returns-in_ok-check_at-in-Hide-clause-checks t c =
    let is = ap protocol_of c.in-Hide.is ∙ ap (λ p. hiding c.in-Hide.channel c.in-Hide.width (protocol_of p)) (sym c.deref-in-Hide.ensures) in
    hiding_checks c.leave_hidden.result (signature_of c.args.sig.now) c.args.visible.now c.enter.new.self c.check_at-in-Hide.new.visible (path_of c.args.place.now) (protocol_of c.args.proto.now) (protocol_of c.deref-in-Hide.result.now) c.in-Hide.channel c.in-Hide.width is c.in_ok-enter-in-Hide.ensures c.in_ok-expect_allowed-in-Hide.ensures c.in_ok-check_at-in-Hide.ensures.checks c.in_ok-check_at-in-Hide.ensures.written c.leave_hidden.ensures.checks
