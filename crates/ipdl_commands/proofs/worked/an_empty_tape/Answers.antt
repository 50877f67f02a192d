use Rattle.std.proofs.Common.{refl, arith}
use Rattle.std.proofs.lemmas.Fmt.{decimal_digit}
use Rattle.ipdl_commands.proofs.worked.an_empty_tape.Goals as goal

pub returns-clause-line : goal.returns-clause-line
returns-clause-line c = rw (decimal_digit 1 (omega arith), decimal_digit 0 (omega arith)) refl
