use Rattle.std.proofs.Common.{◌≡◌, [], ◌++◌, ◌∙◌, ap, reverse, false, map, subst}
use Rattle.std.specs.Prelude.{IfOk, IfErr, OnOk}
use Rattle.std.proofs.lemmas.List.{append-nil}
use Rattle.ipdl_term.specs.Typing.{Scope, GivesWidth}
use Rattle.ipdl_term.specs.Views.{reaction_of}
use Rattle.ipdl_typing.specs.Answers.{TellsFirstFailure}
use Rattle.ipdl_typing.specs.Checks.{reaction_width, reaction_failures}
use Rattle.ipdl_typing.specs.Signatures.{signature_of}
use Rattle.ipdl_typing.specs.Visible.{port_entry, scope_in}
use Rattle.ipdl_typing.proofs.Exactly.{GivesWidth-clean}
use Rattle.ipdl_typing.proofs.First.{OnOk-width, IfErr-width, IfOk-width}
use Rattle.ipdl_typing.proofs.PortScopes.{scope_in-pushed}
use Rattle.ipdl_typing.proofs.reactions.check_react.Goals as goal

pub returns-clause-typed : goal.returns-clause-typed
returns-clause-typed c =
    let entered = c.in_ok-enter_ports.ensures ∙ ap (λ es. reverse (map (port_entry false) c.args.scope.now) ++ es) c.new-visible.ensures ∙ append-nil (reverse (map (port_entry false) c.args.scope.now)) in
    let sig = signature_of c.args.sig.now in
    let widths = reverse c.args.widths.now in
    let r = reaction_of c.args.term.now in
    let scope = scope_in c.enter_ports.new.self in
    let P : Scope → Type 0 = λ scope. IfOk c.react_width.result (GivesWidth sig scope widths r) in
    subst P (scope_in-pushed c.enter_ports.new.self c.args.scope.now entered) (IfOk-width c.react_width.result (reaction_width sig scope widths r) (reaction_failures sig scope widths [] r) (GivesWidth sig scope widths r) c.react_width.ensures (GivesWidth-clean sig scope widths [] r))

pub returns-clause-clean : goal.returns-clause-clean
returns-clause-clean c =
    let entered = c.in_ok-enter_ports.ensures ∙ ap (λ es. reverse (map (port_entry false) c.args.scope.now) ++ es) c.new-visible.ensures ∙ append-nil (reverse (map (port_entry false) c.args.scope.now)) in
    let P : Scope → Type 0 = λ scope. OnOk c.react_width.result (reaction_failures (signature_of c.args.sig.now) scope (reverse c.args.widths.now) [] (reaction_of c.args.term.now) ≡ []) in
    subst P (scope_in-pushed c.enter_ports.new.self c.args.scope.now entered) (OnOk-width c.react_width.result _ _ c.react_width.ensures)

pub returns-clause-first : goal.returns-clause-first
returns-clause-first c =
    let entered = c.in_ok-enter_ports.ensures ∙ ap (λ es. reverse (map (port_entry false) c.args.scope.now) ++ es) c.new-visible.ensures ∙ append-nil (reverse (map (port_entry false) c.args.scope.now)) in
    let P : Scope → Type 0 = λ scope. IfErr c.react_width.result (λ fault. TellsFirstFailure fault (reaction_failures (signature_of c.args.sig.now) scope (reverse c.args.widths.now) [] (reaction_of c.args.term.now))) in
    subst P (scope_in-pushed c.enter_ports.new.self c.args.scope.now entered) (IfErr-width c.react_width.result _ _ c.react_width.ensures)
