use Rattle.std.proofs.Common.{refl, arith}
use Rattle.std.proofs.lemmas.Fmt.{decimal_digit}
use Rattle.ipdl_commands.proofs.worked.names_in_turned_order.Goals as goal

pub returns-clause-text : goal.returns-clause-text
returns-clause-text c = rw (decimal_digit 1 (omega arith)) refl
