use Rattle.std.proofs.lemmas.Result.{on_ok_weaker}
use Rattle.ipdl_typing.specs.Checks.{side_failures}
use Rattle.ipdl_typing.proofs.First.{OnOk-checks, IfErr-checks}
use Rattle.ipdl_typing.proofs.Ports.{sides_checks, SamePorts-sides}
use Rattle.ipdl_typing.proofs.sides.check_sides.Goals as goal

pub returns-clause-clean : goal.returns-clause-clean
returns-clause-clean c =
    let checks = sides_checks c.check_within-4.result c.args.left.now c.args.right.now (rw (c.as_slice.ensures, c.as_slice-2.ensures) at c.in_ok-check_within.ensures) (rw (c.as_slice-3.ensures, c.as_slice-4.ensures) at c.in_ok-check_within-2.ensures) (rw (c.as_slice-5.ensures, c.as_slice-6.ensures) at c.in_ok-check_within-3.ensures) (rw (c.as_slice-7.ensures, c.as_slice-8.ensures) at c.check_within-4.ensures) in
    OnOk-checks c.check_within-4.result (side_failures c.args.left.now c.args.right.now) checks

pub returns-clause-first : goal.returns-clause-first
returns-clause-first c =
    let checks = sides_checks c.check_within-4.result c.args.left.now c.args.right.now (rw (c.as_slice.ensures, c.as_slice-2.ensures) at c.in_ok-check_within.ensures) (rw (c.as_slice-3.ensures, c.as_slice-4.ensures) at c.in_ok-check_within-2.ensures) (rw (c.as_slice-5.ensures, c.as_slice-6.ensures) at c.in_ok-check_within-3.ensures) (rw (c.as_slice-7.ensures, c.as_slice-8.ensures) at c.check_within-4.ensures) in
    IfErr-checks c.check_within-4.result (side_failures c.args.left.now c.args.right.now) checks

pub returns-clause-inputs : goal.returns-clause-inputs
returns-clause-inputs c =
    on_ok_weaker c.check_within-4.result (λ clean. (SamePorts-sides c.args.left.now c.args.right.now clean).0) (returns-clause-clean c)

pub returns-clause-outputs : goal.returns-clause-outputs
returns-clause-outputs c =
    on_ok_weaker c.check_within-4.result (λ clean. (SamePorts-sides c.args.left.now c.args.right.now clean).1) (returns-clause-clean c)
