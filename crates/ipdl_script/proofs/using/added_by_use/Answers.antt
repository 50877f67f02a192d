use Rattle.std.proofs.Common.{List, ℕ, Some, subst}
use Rattle.std.proofs.lemmas.Result.{err_from_is_err_and}
use Rattle.std.specs.Option.{option_or}
use Rattle.std.specs.Prelude.{IfOk}
use Rattle.ipdl_cursor.specs.Views.{part_of}
use Rattle.ipdl_script.proofs.UseTests.{told_of_place, answers_use, is_added}
use Rattle.ipdl_script.specs.Adding.{AreLinksOf, added_tests}
use Rattle.ipdl_script.specs.Steps.{first_refusal, use_test, used_at}
use Rattle.ipdl_script.specs.TestGroups.{AnswersTest}
use Rattle.ipdl_script.specs.Views.{setting_of}
use Rattle.ipdl_term.specs.Places.{context_at}
use Rattle.ipdl_term.specs.Steps.{direction_of}
use Rattle.ipdl_term.specs.Typing.{scope_of}
use Rattle.ipdl_term.specs.Views.{protocol_of}
use Rattle.ipdl_uses.specs.Views.{lemma_of}
use Rattle.ipdl_script.proofs.using.added_by_use.Goals as goal

pub returns-in_err-found-clause-test : goal.returns-in_err-found-clause-test
returns-in_err-found-clause-test c =
    let p = err_from_is_err_and c.from_residual.result c.from_residual.ensures.1 in
    rw (p.1, p.2)
    (told_of_place (setting_of c.args.setting.now) (protocol_of c.args.before.now) c.args.path.now c.args.name.now (direction_of c.args.dir) c.args.pairs.now _ c.in_err-found.ensures.test)

pub used_at_place-requires-clause-kept : goal.used_at_place-requires-clause-kept
used_at_place-requires-clause-kept c = c.in-Some.ensures.kept c.requires.kept

pub returns-in-Some-clause-test : goal.returns-in-Some-clause-test
returns-in-Some-clause-test c =
    let x = setting_of c.args.setting.now in
    let before = protocol_of c.args.before.now in
    let direction = direction_of c.args.dir in
    let pairs = c.args.pairs.now in
    let lemma = lemma_of c.in-Some.known in
    let part = part_of c.in_ok-found.found.part in
    let scope = scope_of c.in_ok-found.found.scope in
    answers_use x before c.args.path.now c.args.name.now direction pairs (Some lemma) c.in-Some.ensures.value part c.in_ok-found.ensures.part scope c.in_ok-found.ensures.scope c.used_at_place.result
    (subst
    (λ (name : List ℕ). AnswersTest c.used_at_place.result
    (option_or (use_test (Some lemma) direction (Some part) scope pairs) (first_refusal (added_tests x (used_at before c.args.path.now name direction pairs (Some lemma) (context_at before c.args.path.now))))))
    c.in-Some.ensures.name c.used_at_place.ensures.test)

pub returns-in-Some-clause-added : goal.returns-in-Some-clause-added
returns-in-Some-clause-added c =
    let x = setting_of c.args.setting.now in
    let before = protocol_of c.args.before.now in
    let direction = direction_of c.args.dir in
    let pairs = c.args.pairs.now in
    let lemma = lemma_of c.in-Some.known in
    is_added x before c.args.path.now c.args.name.now direction pairs (Some lemma) c.in-Some.ensures.value c.used_at_place.result
    (subst
    (λ (name : List ℕ). IfOk c.used_at_place.result
    (λ added. AreLinksOf x before (used_at before c.args.path.now name direction pairs (Some lemma) (context_at before c.args.path.now)) added.terms added.marks))
    c.in-Some.ensures.name c.used_at_place.ensures.added)
