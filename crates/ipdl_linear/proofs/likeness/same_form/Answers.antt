use Rattle.std.proofs.Common.{◌∙◌, sym}
use Rattle.ipdl_linear.proofs.Differences.{telling-same}
use Rattle.ipdl_linear.specs.Likeness.{pair_of, left_forms, right_forms}
use Rattle.ipdl_linear.proofs.likeness.same_form.Goals as goal

pub returns-clause-same : goal.returns-clause-same
returns-clause-same c =
    let p = pair_of c.args.sig.now c.args.widths.now c.args.left.now c.args.right.now in
    let exactly = telling-same (left_forms p) (right_forms p) in
    (λ e. exactly.0 (sym c.in_ok-compare.ensures ∙ e), λ h. c.in_ok-compare.ensures ∙ exactly.1 h)
