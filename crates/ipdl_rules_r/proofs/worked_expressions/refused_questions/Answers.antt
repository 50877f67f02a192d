use Rattle.std.proofs.Common.{refl}
use Rattle.ipdl_base.specs.Bits.{bits_of}
use Rattle.ipdl_rules_r.proofs.worked_expressions.refused_questions.Goals as goal

pub returns-clause-both : goal.returns-clause-both
unfolding bits_of
returns-clause-both c = refl

pub returns-clause-innermost_alone : goal.returns-clause-innermost_alone
unfolding bits_of
returns-clause-innermost_alone c = refl

pub returns-clause-wide : goal.returns-clause-wide
returns-clause-wide c = refl
