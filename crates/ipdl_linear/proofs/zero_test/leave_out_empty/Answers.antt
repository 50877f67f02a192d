use Rattle.std.proofs.Common.{not, rules}
use Rattle.std.specs.Prelude.{nat_eq}
use Rattle.std.proofs.lemmas.Fn.{filter_same}
use Rattle.ipdl_linear.proofs.zero_test.leave_out_empty.Goals as goal

pub returns : goal.returns
returns c = filter_same _ (λ n. not (nat_eq n 0)) _ (λ x b f' k. search rules) _ _ c.retain.ensures.filtered
