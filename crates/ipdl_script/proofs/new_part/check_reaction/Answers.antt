use Rattle.std.proofs.Common.{[], Some}
use Rattle.std.proofs.lemmas.Result.{err_from_is_err_and}
use Rattle.ipdl_script.proofs.PartTests.{told_of_answer}
use Rattle.ipdl_script.specs.Instances.{reaction_answer}
use Rattle.ipdl_script.specs.Settling.{settled_rule}
use Rattle.ipdl_term.specs.Steps.{rev, rule_of}
use Rattle.ipdl_term.specs.Terms.{reaction_term}
use Rattle.ipdl_term.specs.Views.{reaction_of}
use Rattle.ipdl_typing.specs.Signatures.{signature_of}
use Rattle.ipdl_script.proofs.new_part.check_reaction.Goals as goal

pub returns-in_err-made-clause-test : goal.returns-in_err-made-clause-test
returns-in_err-made-clause-test c =
    let settled = settled_rule c.args.depth (rule_of c.args.rule.now) in
    let p = err_from_is_err_and c.from_residual.result c.from_residual.ensures.1 in
    rw (p.1, p.2)
    (told_of_answer c.in_err-made.field-0.0 (rev [] settled (reaction_term (reaction_of c.args.written.now))) (Some (reaction_term (reaction_of c.args.part.now)))
    (reaction_answer (signature_of c.args.sig.now) settled (reaction_of c.args.written.now)) c.in_err-made.ensures.test)
