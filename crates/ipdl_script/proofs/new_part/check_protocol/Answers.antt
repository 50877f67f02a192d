use Rattle.std.proofs.Common.{[], Some}
use Rattle.std.proofs.lemmas.Result.{err_from_is_err_and}
use Rattle.ipdl_script.proofs.PartTests.{told_of_answer}
use Rattle.ipdl_script.specs.Instances.{protocol_answer}
use Rattle.ipdl_script.specs.Settling.{settled_rule}
use Rattle.ipdl_term.specs.Steps.{rev, rule_of}
use Rattle.ipdl_term.specs.Terms.{protocol_term}
use Rattle.ipdl_term.specs.Views.{protocol_of}
use Rattle.ipdl_script.proofs.new_part.check_protocol.Goals as goal

pub returns-in_err-right-clause-test : goal.returns-in_err-right-clause-test
returns-in_err-right-clause-test c = λ depth.
    let settled = settled_rule depth (rule_of c.args.rule.now) in
    let p = err_from_is_err_and c.from_residual.result c.from_residual.ensures.1 in
    rw (p.1, p.2)
    (told_of_answer c.in_err-right.field-0.0 (rev [] settled (protocol_term (protocol_of c.args.written.now))) (Some (protocol_term (protocol_of c.args.part.now)))
    (protocol_answer settled (protocol_of c.args.written.now)) (c.in_err-right.ensures.test depth))
