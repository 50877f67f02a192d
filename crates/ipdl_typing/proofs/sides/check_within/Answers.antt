use Rattle.std.proofs.Common.{rules, ◌≡◌, ◌+◌, ◌<◌, true, false, [], ◌++◌, drop, get_or, length, sym, ap, ◌∙◌, subst}
use Rattle.ipdl_typing.specs.Answers.{Tells, TellsFirstFailure}
use Rattle.ipdl_typing.specs.Checks.{checked, has_port, interface, lacking}
use Rattle.ipdl_typing.proofs.First.{TellsFirstFailure-in_front, TellsFirstFailure-checked}
use Rattle.ipdl_typing.proofs.Ports.{lacking-alike, lacking-drop}
use Rattle.ipdl_typing.proofs.sides.check_within.Goals as goal

pub returns-then-eq : goal.returns-then-eq
returns-then-eq c =
    lacking-alike c.args.ports.now c.args.others.now c.eq.result c.eq.ensures c.if-eq.true

-- the port is the first that is not there
pub returns-then-not-contains : goal.returns-then-not-contains
returns-then-not-contains c =
    let ps = c.args.ports.now in
    let qs = c.args.others.now in
    let i = c.loop-port.port-index in
    let x = c.port-item.result in
    let fault = c.fault.result in
    let within : i < length ps = search rules in
    let at : get_or ps i x ≡ x = search rules in
    let absent : c.contains.result ≡ false = search rules in
    let fails : has_port qs x ≡ false = sym (c.in_ok-keys.ensures x) ∙ sym c.contains.ensures ∙ absent in
    let tells = subst (λ name. Tells fault (record { path = []; cause = interface name })) c.in_ok-name.ensures c.fault.ensures in
    let first = TellsFirstFailure-checked fault (has_port qs x) [] (interface x.name) fails tells in
    subst (TellsFirstFailure fault) (sym (c.loop-port.invariant ∙ lacking-drop ps qs i x within at)) (TellsFirstFailure-in_front fault (checked (has_port qs x) [] (interface x.name)) (lacking (drop (i + 1) ps) qs) first)

pub loop-port-preserved : goal.loop-port-preserved
loop-port-preserved c =
    let ps = c.args.ports.now in
    let qs = c.args.others.now in
    let i = c.loop-port.port-index in
    let x = c.port-item.result in
    let within : i < length ps = search rules in
    let at : get_or ps i x ≡ x = search rules in
    let there : c.contains.result ≡ true = search rules in
    let holds : has_port qs x ≡ true = sym (c.in_ok-keys.ensures x) ∙ sym c.contains.ensures ∙ there in
    c.loop-port.invariant ∙ lacking-drop ps qs i x within at ∙ ap (λ b. checked b [] (interface x.name) ++ lacking (drop (i + 1) ps) qs) holds
