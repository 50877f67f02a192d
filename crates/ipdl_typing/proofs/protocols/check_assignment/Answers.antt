use Rattle.std.proofs.Common.{◌≡◌, [], ◌∷◌, ap, ◌∙◌, subst}
use Rattle.ipdl_term.specs.Channels.{has}
use Rattle.ipdl_term.specs.Typing.{Scope}
use Rattle.ipdl_term.specs.Views.{reaction_of}
use Rattle.ipdl_typing.specs.Answers.{TellsFirstFailure}
use Rattle.ipdl_typing.specs.Checks.{child, reaction_width, reaction_failures}
use Rattle.ipdl_typing.specs.Places.{path_of}
use Rattle.ipdl_typing.specs.Signatures.{signature_of}
use Rattle.ipdl_typing.specs.Visible.{scope_in}
use Rattle.ipdl_typing.proofs.First.{AnswersChecks-error}
use Rattle.ipdl_typing.proofs.ProtocolLaws.{assignment_channel, assignment_reaction, assignment_checks}
use Rattle.ipdl_typing.proofs.VisibleLaws.{scope_in-marked}
use Rattle.ipdl_typing.proofs.protocols.check_assignment.Goals as goal

pub returns-in_err-want-clause-checks : goal.returns-in_err-want-clause-checks
returns-in_err-want-clause-checks c =
    AnswersChecks-error c.from_residual.result c.in_err-want.field-0.0 _ c.from_residual.ensures.1 (assignment_channel c.in_err-want.field-0.0 (signature_of c.args.sig.now) c.args.visible.now (path_of c.args.place.now) c.args.channel.now (reaction_of c.args.reaction.now) c.in_err-want.ensures.checks)

pub returns-in_err-got-clause-checks : goal.returns-in_err-got-clause-checks
returns-in_err-got-clause-checks c =
    let seen : scope_in c.write_channel.new.visible ≡ scope_in c.args.visible.now = ap scope_in c.in_ok-want.ensures.written ∙ scope_in-marked c.args.visible.now (has (c.args.channel.now ∷ [])) in
    let P : Scope → Type 0 = λ scope. TellsFirstFailure c.in_err-got.field-0.0 (reaction_failures (signature_of c.args.sig.now) scope [] (child (path_of c.args.place.now) 0) (reaction_of c.args.reaction.now)) in
    AnswersChecks-error c.from_residual-in_err-got.result c.in_err-got.field-0.0 _ c.from_residual-in_err-got.ensures.1 (assignment_reaction c.in_err-got.field-0.0 (signature_of c.args.sig.now) c.args.visible.now (path_of c.args.place.now) c.args.channel.now (reaction_of c.args.reaction.now) c.in_ok-want.ensures.checks (subst P seen c.in_err-got.ensures))

pub returns-clause-checks : goal.returns-clause-checks
returns-clause-checks c =
    let seen : scope_in c.write_channel.new.visible ≡ scope_in c.args.visible.now = ap scope_in c.in_ok-want.ensures.written ∙ scope_in-marked c.args.visible.now (has (c.args.channel.now ∷ [])) in
    let P : Scope → Type 0 = λ scope. (c.in_ok-got.got ≡ reaction_width (signature_of c.args.sig.now) scope [] (reaction_of c.args.reaction.now)) × (reaction_failures (signature_of c.args.sig.now) scope [] (child (path_of c.args.place.now) 0) (reaction_of c.args.reaction.now) ≡ []) in
    let both : P (scope_in c.args.visible.now) = subst P seen c.in_ok-got.ensures in
    assignment_checks c.expect_width.result (signature_of c.args.sig.now) c.args.visible.now (path_of c.args.place.now) c.args.channel.now (reaction_of c.args.reaction.now) c.in_ok-want.want c.in_ok-got.got c.in_ok-want.ensures.width c.in_ok-want.ensures.checks both.0 both.1 c.expect_width.ensures
