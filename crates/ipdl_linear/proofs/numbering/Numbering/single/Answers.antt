use Rattle.std.proofs.lemmas.Result.{IfOk-weaker}
use Rattle.ipdl_linear.proofs.Growing.{IsSingle-made}
use Rattle.ipdl_linear.proofs.numbering.Numbering.single.Goals as goal

pub returns : goal.returns
returns c =
    IfOk-weaker c.number-2.result _ _
    (λ n second. IsSingle-made c.args.self.now c.number.new.self c.number-2.new.self _ c.in_ok-number.number n c.in_ok-atoms.atoms.items c.in_ok-atoms.ensures.items c.in_ok-number.ensures second)
    c.number-2.ensures
