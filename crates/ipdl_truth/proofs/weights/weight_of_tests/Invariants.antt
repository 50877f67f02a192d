use Rattle.std.proofs.Common.{◌≡◌, ◌+◌, ◌-◌, ◌^◌, ◌≤◌, map, drop, reverse}
use Rattle.ipdl_term.specs.Sizes.{saturated}
use Rattle.ipdl_term.specs.Surroundings.{condition_of}
use Rattle.ipdl_truth.specs.Questions.{tests_of}
use Rattle.ipdl_truth.specs.Weights.{total_weight}
use Rattle.ipdl_typing.specs.Signatures.{signature_of}
use Rattle.ipdl_truth.proofs.weights.weight_of_tests.Given as goal

-- with those that are left it is the whole sum
abbrev pub invariant-loop-condition : goal.invariant-loop-condition
invariant-loop-condition l = record {
  all : saturated (l.sum + total_weight (signature_of l.sig) (reverse l.widths) (tests_of (map condition_of (drop l.condition-index l.conditions)))) ≡ saturated (total_weight (signature_of l.sig) (reverse l.widths) (tests_of (map condition_of l.conditions)));
  fits : l.sum ≤ 2 ^ 64 - 1;
}
