use Rattle.std.proofs.Common.{refl, arith}
use Rattle.std.proofs.lemmas.Fmt.{decimal_digit}
use Rattle.ipdl_commands.specs.Running.{run_text}
use Rattle.ipdl_commands.proofs.worked.a_bit_its_opposite_and_a_stuck_output.Goals as goal

pub returns-clause-text : goal.returns-clause-text
unfolding run_text
returns-clause-text c = rw (decimal_digit 1 (omega arith)) refl
