use Rattle.std.proofs.Common.{map, drop, reverse}
use Rattle.std.specs.Prelude.{◌↔◌}
use Rattle.ipdl_term.specs.Surroundings.{condition_of, Meets}
use Rattle.ipdl_truth.specs.Tables.{tables_of}
use Rattle.ipdl_typing.specs.Signatures.{signature_of}
use Rattle.ipdl_truth.proofs.conditions.are_met.Given as goal

-- all are met exactly where those that are left are
abbrev pub invariant-loop-condition : goal.invariant-loop-condition
invariant-loop-condition l =
    Meets (tables_of (signature_of l.sig)) (reverse l.env) (map condition_of (drop l.condition-index l.conditions))
    ↔ Meets (tables_of (signature_of l.sig)) (reverse l.env) (map condition_of l.conditions)
