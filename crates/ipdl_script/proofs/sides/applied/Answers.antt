use Rattle.std.proofs.Common.{Err, ap}
use Rattle.ipdl_script.specs.Instances.{answer_of_protocols}
use Rattle.ipdl_script.specs.TestGroups.{answer_refusal}
use Rattle.ipdl_script.proofs.sides.applied.Goals as goal

pub returns-in-Err-Side-clause-test : goal.returns-in-Err-Side-clause-test
returns-in-Err-Side-clause-test c =
    let failing = (c.in-Err-Side.ensures.side c.in-Err-Side.number).0 (ap Err c.in-Err-Side.field-0-is) in
    ap (λ answer. answer_refusal (answer_of_protocols answer)) failing
