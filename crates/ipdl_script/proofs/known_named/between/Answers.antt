use Rattle.std.proofs.Common.{Some, None}
use Rattle.ipdl_script.proofs.KnownLemmas.{lemma_between, none_between}
use Rattle.ipdl_script.proofs.known_named.between.Goals as goal

pub returns-in_err-left-clause-value : goal.returns-in_err-left-clause-value
returns-in_err-left-clause-value c =
    rw c.from_residual.ensures (none_between c.args.document.now c.args.name.now c.args.left.now c.args.right.now c.in_err-left.ensures.value)

pub returns-in_err-right-clause-value : goal.returns-in_err-right-clause-value
returns-in_err-right-clause-value c =
    rw c.from_residual-in_err-right.ensures
    (lemma_between c.args.document.now c.args.name.now c.args.left.now c.args.right.now (Some c.in_ok-left.left.now) None c.in_ok-left.ensures.value c.in_err-right.ensures.value)

pub returns-clause-value : goal.returns-clause-value
returns-clause-value c =
    lemma_between c.args.document.now c.args.name.now c.args.left.now c.args.right.now (Some c.in_ok-left.left.now) (Some c.in_ok-right.right.now) c.in_ok-left.ensures.value c.in_ok-right.ensures.value
