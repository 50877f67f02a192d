use Rattle.std.proofs.Common.{◌≡◌, false, ap, sym, ◌∙◌, subst}
use Rattle.std.specs.Option.{option_map}
use Rattle.ipdl_term.specs.Terms.{Channel}
use Rattle.ipdl_typing.specs.Answers.{Tells}
use Rattle.ipdl_typing.specs.Checks.{not_output, twice}
use Rattle.ipdl_typing.specs.Places.{path_of}
use Rattle.ipdl_typing.specs.Visible.{Entry, visible_entry, writable_in}
use Rattle.ipdl_typing.proofs.ProtocolLaws.{channel_twice, channel_clean, channel_refused}
use Rattle.ipdl_typing.proofs.VisibleLaws.{passes, scope_in-innermost, writable_in-innermost}
use Rattle.ipdl_typing.proofs.protocols.write_channel.Goals as goal
use Rattle.ipdl_typing.proofs.protocols.write_channel.Goals.{in_default-via-in-Some+else-before, in_default-via-in_default}

pub returns-then-before-2-clause-checks : goal.returns-then-before-2-clause-checks
returns-then-before-2-clause-checks c =
    let P : Channel → Type 0 = λ name. Tells c.fault.result (record { path = path_of c.args.place.now; cause = twice name }) in
    channel_twice c.fault.result c.args.visible.now (path_of c.args.place.now) c.args.channel.now (visible_entry c.in-Some.before) c.in-Some.ensures.before c.if-before.true c.if-before-2.true (subst P c.in_ok-name-in-Some.ensures c.fault.ensures)

pub returns-else-before-2-clause-width : goal.returns-else-before-2-clause-width
returns-else-before-2-clause-width c =
    scope_in-innermost c.args.visible.now c.args.channel.now ∙ ap (option_map (λ (e : Entry). e.width)) (sym c.in-Some.ensures.before)

pub returns-else-before-2-clause-checks : goal.returns-else-before-2-clause-checks
returns-else-before-2-clause-checks c =
    channel_clean c.args.visible.now (path_of c.args.place.now) c.args.channel.now (visible_entry c.in-Some.before) c.in-Some.ensures.before c.if-before.true c.if-before-2.false

pub returns-in_ok-name-in_default-clause-checks : goal.returns-in_ok-name-in_default-clause-checks
returns-in_ok-name-in_default-clause-checks c =
    let P : Channel → Type 0 = λ name. Tells c.fault-in_default.result (record { path = path_of c.args.place.now; cause = not_output name }) in
    let none : writable_in c.args.visible.now c.args.channel.now ≡ false = elim c.in_default.branch [
      | in_default-via-in-Some+else-before w ↦ writable_in-innermost c.args.visible.now c.args.channel.now ∙ ap (passes (λ e. e.writable)) (sym w.in-Some.ensures.before) ∙ w.if-before.false
      | in_default-via-in_default w ↦ writable_in-innermost c.args.visible.now c.args.channel.now ∙ ap (passes (λ e. e.writable)) (sym w.in_default.ensures.before)
    ] in
    channel_refused c.fault-in_default.result c.args.visible.now (path_of c.args.place.now) c.args.channel.now none (subst P c.in_ok-name-in_default.ensures c.fault-in_default.ensures)
