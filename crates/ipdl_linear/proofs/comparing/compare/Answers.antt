use Rattle.std.proofs.Common.{◌∙◌}
use Rattle.std.proofs.lemmas.Result.{IfOk-weaker}
use Rattle.ipdl_linear.proofs.Differences.{telling-numbers}
use Rattle.ipdl_linear.proofs.comparing.compare.Goals as goal

pub returns : goal.returns
returns c =
    let told = telling-numbers c.in_ok-numbering.numbering c.linear_forms.new.self c.linear_forms-2.new.self c.as_slice.result.now c.as_slice-2.result.now c.in_ok-left.left.items c.in_ok-right.right.items _ _
    c.in_ok-numbering.ensures c.in_ok-left.ensures.growth c.in_ok-right.ensures.growth c.in_ok-left.ensures.forms c.in_ok-right.ensures.forms
    c.as_slice.ensures.value c.as_slice-2.ensures.value c.first_unequal.result c.first_unequal.ensures in
    IfOk-weaker c.telling.result _ _ (λ answer is. is ∙ told) c.telling.ensures
