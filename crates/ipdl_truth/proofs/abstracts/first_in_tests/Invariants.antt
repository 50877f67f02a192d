use Rattle.std.proofs.Common.{◌≡◌, map, drop}
use Rattle.std.specs.Prelude.{find}
use Rattle.ipdl_term.specs.Surroundings.{condition_of}
use Rattle.ipdl_truth.specs.Abstract.{is_abstract, symbols_in_all}
use Rattle.ipdl_truth.specs.Questions.{tests_of}
use Rattle.ipdl_typing.specs.Signatures.{signature_of}
use Rattle.ipdl_truth.proofs.abstracts.first_in_tests.Given as goal

-- none is found so far
abbrev pub invariant-loop-condition : goal.invariant-loop-condition
invariant-loop-condition l =
    find (is_abstract (signature_of l.sig)) (symbols_in_all (tests_of (map condition_of (drop l.condition-index l.conditions))))
    ≡ find (is_abstract (signature_of l.sig)) (symbols_in_all (tests_of (map condition_of l.conditions)))
