use Rattle.std.proofs.Common.{refl}
use Rattle.ipdl_base.specs.Bits.{bits_of, number_of}
use Rattle.ipdl_truth.proofs.worked.a_wide_question.Goals as goal

pub returns-clause-read : goal.returns-clause-read
unfolding number_of
returns-clause-read c = refl

pub returns-clause-first_values : goal.returns-clause-first_values
unfolding bits_of
returns-clause-first_values c = refl
