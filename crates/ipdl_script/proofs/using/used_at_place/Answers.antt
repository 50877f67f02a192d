use Rattle.std.proofs.lemmas.Result.{err_from_is_err_and}
use Rattle.ipdl_cursor.specs.Views.{part_of}
use Rattle.ipdl_script.proofs.Refusals.{told_first}
use Rattle.ipdl_script.proofs.UseTests.{place_of_use, free_in_use, answers_added, links_added}
use Rattle.ipdl_script.specs.Views.{setting_of}
use Rattle.ipdl_term.specs.Steps.{direction_of}
use Rattle.ipdl_term.specs.Typing.{scope_of}
use Rattle.ipdl_term.specs.Views.{protocol_of}
use Rattle.ipdl_uses.specs.Views.{lemma_of}
use Rattle.ipdl_script.proofs.using.used_at_place.Goals as goal

pub returns-in_err-renaming-clause-test : goal.returns-in_err-renaming-clause-test
returns-in_err-renaming-clause-test c =
    let p = err_from_is_err_and c.from_residual.result c.from_residual.ensures.1 in
    rw (p.1, p.2) (told_first _ _ _ c.in_err-renaming.ensures.test)

pub added_at-requires-clause-place : goal.added_at-requires-clause-place
added_at-requires-clause-place c =
    place_of_use (setting_of c.args.setting.now) (protocol_of c.args.before.now) c.args.path.now c.args.known.now.name.now (direction_of c.args.dir) c.args.pairs.now
    (lemma_of c.args.known.now) (part_of c.args.found.now.part) (scope_of c.args.found.now.scope) c.requires.place c.in_ok-renaming.ensures.test

pub added_at-requires-clause-named : goal.added_at-requires-clause-named
added_at-requires-clause-named c = (c.args.pairs.now, c.in_ok-renaming.ensures.value)

pub added_at-requires-clause-free : goal.added_at-requires-clause-free
added_at-requires-clause-free c =
    free_in_use (setting_of c.args.setting.now) (protocol_of c.args.before.now) c.args.path.now c.args.known.now.name.now (direction_of c.args.dir) c.args.pairs.now
    (lemma_of c.args.known.now) (part_of c.args.found.now.part) (scope_of c.args.found.now.scope) c.requires.place c.in_ok-renaming.ensures.test
    c.in_ok-renaming.renaming c.in_ok-renaming.ensures.value

pub returns-clause-test : goal.returns-clause-test
returns-clause-test c =
    let there =
    place_of_use (setting_of c.args.setting.now) (protocol_of c.args.before.now) c.args.path.now c.args.known.now.name.now (direction_of c.args.dir) c.args.pairs.now
    (lemma_of c.args.known.now) (part_of c.args.found.now.part) (scope_of c.args.found.now.scope) c.requires.place c.in_ok-renaming.ensures.test in
    answers_added (setting_of c.args.setting.now) (protocol_of c.args.before.now) c.args.path.now c.args.known.now.name.now (direction_of c.args.dir) c.args.pairs.now
    (lemma_of c.args.known.now) (part_of c.args.found.now.part) (scope_of c.args.found.now.scope) c.requires.place c.in_ok-renaming.ensures.test
    c.in_ok-renaming.renaming c.in_ok-renaming.ensures.value there.0 there.1 c.added_at.result (c.added_at.ensures.test there.0 there.1)

pub returns-clause-added : goal.returns-clause-added
returns-clause-added c =
    let there =
    place_of_use (setting_of c.args.setting.now) (protocol_of c.args.before.now) c.args.path.now c.args.known.now.name.now (direction_of c.args.dir) c.args.pairs.now
    (lemma_of c.args.known.now) (part_of c.args.found.now.part) (scope_of c.args.found.now.scope) c.requires.place c.in_ok-renaming.ensures.test in
    links_added (setting_of c.args.setting.now) (protocol_of c.args.before.now) c.args.path.now c.args.known.now.name.now (direction_of c.args.dir) c.args.pairs.now
    (lemma_of c.args.known.now) (part_of c.args.found.now.part) (scope_of c.args.found.now.scope) c.requires.place c.in_ok-renaming.ensures.test
    c.in_ok-renaming.renaming c.in_ok-renaming.ensures.value there.0 there.1 c.added_at.result (c.added_at.ensures.added there.0 there.1)
