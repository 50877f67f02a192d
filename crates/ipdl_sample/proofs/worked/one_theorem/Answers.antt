use Rattle.std.proofs.Common.{refl, arith}
use Rattle.std.proofs.lemmas.Fmt.{decimal_digit}
use Rattle.ipdl_sample.proofs.worked.one_theorem.Goals as goal

pub returns-clause-text : goal.returns-clause-text
returns-clause-text c = rw (decimal_digit 0 (omega arith), decimal_digit 1 (omega arith)) refl

pub returns-clause-bytes : goal.returns-clause-bytes
returns-clause-bytes c = rw (decimal_digit 0 (omega arith), decimal_digit 1 (omega arith)) refl
