use Rattle.std.specs.Option.{option_copied}
use Rattle.std.specs.Prelude.{option_map}
use Rattle.std.proofs.lemmas.Result.{err_from_is_err_and}
use Rattle.ipdl_term.specs.Steps.{direction_of}
use Rattle.ipdl_term.specs.Typing.{scope_of}
use Rattle.ipdl_term.specs.Views.{protocol_of}
use Rattle.ipdl_uses.proofs.TestsOfUse.{none_hidden}
use Rattle.ipdl_uses.proofs.Told.{told_of_ports, all_pass}
use Rattle.ipdl_uses.specs.Views.{lemma_of}
use Rattle.ipdl_uses.proofs.refusing.renaming_there.Goals as goal

pub check_part-requires-clause-free : goal.check_part-requires-clause-free
check_part-requires-clause-free c =
    (none_hidden (lemma_of c.args.known.now) c.in_ok-renaming.renaming).0 c.in_ok-check_captures.ensures

pub returns-in_err-check_ports-clause-fault : goal.returns-in_err-check_ports-clause-fault
returns-in_err-check_ports-clause-fault c =
    let p = err_from_is_err_and c.from_residual-in_err-check_ports.result c.from_residual-in_err-check_ports.ensures.1 in
    rw (p.1, p.2)
    (told_of_ports (lemma_of c.args.known.now) (direction_of c.args.dir) (option_map protocol_of (option_copied c.args.part)) (scope_of c.args.scope.now) c.args.pairs.now
    c.in_ok-renaming.renaming c.in_ok-renaming.ensures.value _ c.in_ok-renaming.ensures.test c.in_ok-check_captures.ensures c.in_ok-check_part.ensures c.in_err-check_ports.ensures)

pub returns-clause-usable : goal.returns-clause-usable
returns-clause-usable c =
    all_pass (lemma_of c.args.known.now) (direction_of c.args.dir) (option_map protocol_of (option_copied c.args.part)) (scope_of c.args.scope.now) c.args.pairs.now
    c.in_ok-renaming.renaming c.in_ok-renaming.ensures.value c.in_ok-renaming.ensures.test c.in_ok-check_captures.ensures c.in_ok-check_part.ensures c.in_ok-check_ports.ensures
