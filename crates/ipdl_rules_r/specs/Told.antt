-- What an answer on the truth of two expressions, or on their linear forms, says of the rule that asked.
use Rattle.std.specs.Prelude.{Result, Ok, Err}
use Rattle.ipdl_rules_r.specs.declared.expressions.ExprFault.{ExprFault}
use Rattle.ipdl_rules_r.specs.declared.expressions.ExprFault.TheVariants as E
use Rattle.ipdl_linear.specs.declared.fault.LinearFault.{LinearFault}
use Rattle.ipdl_linear.specs.declared.fault.LinearFault.TheVariants as F
use Rattle.ipdl_linear.specs.declared.likeness.Likeness.{Likeness}
use Rattle.ipdl_linear.specs.declared.likeness.Likeness.TheVariants as N
use Rattle.ipdl_truth.specs.declared.agreement.Agreement.{Agreement}
use Rattle.ipdl_truth.specs.declared.agreement.Agreement.TheVariants.{Same, Differ}
use Rattle.ipdl_truth.specs.declared.agreement.TruthFault.{TruthFault}
use Rattle.ipdl_truth.specs.declared.agreement.TruthFault.TheVariants.{Abstract, Large, TooWide, Memory}

abbrev pub told_of : Result Agreement TruthFault → Result (Unit {0}) ExprFault
told_of (Ok Same) = Ok tt
told_of (Ok (Differ valuation)) = Err (E.NotSame valuation)
told_of (Err (Abstract symbol)) = Err (E.Abstract symbol)
told_of (Err (Large bits)) = Err (E.Large bits)
told_of (Err (TooWide bits)) = Err (E.TooWide bits)
told_of (Err Memory) = Err E.Memory

abbrev pub told_of_forms : Result Likeness LinearFault → Result (Unit {0}) ExprFault
told_of_forms (Ok N.Same) = Ok tt
told_of_forms (Ok (N.Differ bit)) = Err (E.NotForm bit)
told_of_forms (Err (F.Large bits)) = Err (E.Large bits)
told_of_forms (Err F.Memory) = Err E.Memory
