use Rattle.std.proofs.Common.{map, reverse, ap, arith}
use Rattle.std.proofs.lemmas.List.{drop_all}
use Rattle.ipdl_term.specs.Surroundings.{condition_of}
use Rattle.ipdl_truth.specs.Questions.{tests_of}
use Rattle.ipdl_truth.specs.Weights.{total_weight}
use Rattle.ipdl_typing.specs.Signatures.{signature_of}
use Rattle.ipdl_truth.proofs.weights.weight_of_tests.Goals as goal

pub returns : goal.returns
returns c =
    let sum = c.loop-condition.sum in
    let none = drop_all c.loop-condition.condition-index c.args.conditions.now c.loop-condition-test.false in
    let left = ap (λ cs. total_weight (signature_of c.args.sig.now) (reverse c.args.widths.now) (tests_of (map condition_of cs))) none in
    omega (arith, left, c.loop-condition.invariant.all, c.loop-condition.invariant.fits)
