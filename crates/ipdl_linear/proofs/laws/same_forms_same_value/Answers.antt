use Rattle.ipdl_linear.proofs.FormValues.{same_forms-evaluation}
use Rattle.ipdl_linear.proofs.laws.same_forms_same_value.Goals as goal
use Rattle.std.specs.Prelude.{reverse}

pub returns : goal.returns
returns c = λ p J interprets env fits v w left right same.
    same_forms-evaluation p.sig J interprets (reverse p.widths) env fits p.left p.right v w left right same
