use Rattle.std.proofs.Common.{◌≡◌, List, None, length, map, ap, ◌∙◌, subst}
use Rattle.std.proofs.lemmas.Result.{err_from_is_err_and}
use Rattle.std.specs.Borrow.{Bor}
use Rattle.ipdl_chain.specs.declared.chain.Mark.{Mark as HeldMark}
use Rattle.ipdl_script.proofs.AddedTests.{told_of_extents, told_of_last, all_passed, are_links, wholes_within}
use Rattle.ipdl_script.proofs.Fits.{whole_is_within}
use Rattle.ipdl_script.specs.Adding.{AreLinksOf, last_among, use_in, whole_in}
use Rattle.ipdl_script.specs.Answers.{TellsRefusal}
use Rattle.ipdl_script.specs.Steps.{extent_tests, first_refusal, type_test}
use Rattle.ipdl_script.specs.Views.{setting_of}
use Rattle.ipdl_term.specs.Steps.{direction_of}
use Rattle.ipdl_term.specs.Typing.{HasInterface}
use Rattle.ipdl_term.specs.Views.{protocol_of}
use Rattle.ipdl_term.specs.declared.protocol.Proto.{Proto}
use Rattle.ipdl_uses.specs.Uses.{used}
use Rattle.ipdl_uses.specs.Views.{lemma_of}
use Rattle.ipdl_script.proofs.using.added_at.Goals as goal

pub returns-in_err-whole-clause-test : goal.returns-in_err-whole-clause-test
returns-in_err-whole-clause-test c =
    let p = err_from_is_err_and c.from_residual-in_err-whole.result c.from_residual-in_err-whole.ensures.1 in
    let terms = c.in_ok-terms.field-0.terms.items in
    let marks = c.in_ok-terms.field-0.marks.items in
    let lent : c.as_slice.result.now ≡ terms = (let is = c.in_ok-terms.terms-is in let slice = c.as_slice.ensures.value in cc) in
    rw (p.1, p.2) (λ C at.
    told_of_extents (setting_of c.args.setting.now) (protocol_of c.args.before.now) (direction_of c.args.dir) (use_in C c.args.known.now.name.now c.args.path.now c.args.renaming.now) (lemma_of c.args.known.now).chain marks
    (λ (term : Bor Proto). whole_in C c.args.renaming.now term.now) terms c.in_ok-terms.ensures.paired (c.in_ok-terms.ensures.links C at)
    c.in_err-whole.field-0.0
    (subst (λ (ts : List (Bor Proto)). TellsRefusal c.in_err-whole.field-0.0 (first_refusal (extent_tests (map (λ (term : Bor Proto). whole_in C c.args.renaming.now term.now) ts)))) lent (c.in_err-whole.ensures.test C at)))

pub returns-in_err-check_last-clause-test : goal.returns-in_err-check_last-clause-test
returns-in_err-check_last-clause-test c =
    let p = err_from_is_err_and c.from_residual-in_err-check_last.result c.from_residual-in_err-check_last.ensures.1 in
    let terms = c.in_ok-terms.field-0.terms.items in
    let marks = c.in_ok-terms.field-0.marks.items in
    let lent : c.as_slice.result.now ≡ terms = (let is = c.in_ok-terms.terms-is in let slice = c.as_slice.ensures.value in cc) in
    rw (p.1, p.2) (λ C at.
    told_of_last (setting_of c.args.setting.now) (protocol_of c.args.before.now) (direction_of c.args.dir) (use_in C c.args.known.now.name.now c.args.path.now c.args.renaming.now) (lemma_of c.args.known.now).chain marks
    (λ (term : Bor Proto). whole_in C c.args.renaming.now term.now) terms c.in_ok-terms.ensures.paired (c.in_ok-terms.ensures.links C at)
    c.in_ok-whole.whole (c.in_ok-whole.ensures.value C at ∙ ap (map (λ (term : Bor Proto). whole_in C c.args.renaming.now term.now)) lent) c.in_err-check_last.field-0.0
    (subst (λ (ts : List (Bor Proto)). first_refusal (extent_tests (map (λ (term : Bor Proto). whole_in C c.args.renaming.now term.now) ts)) ≡ None) lent (c.in_ok-whole.ensures.test C at))
    (subst (λ (ts : List Proto). TellsRefusal c.in_err-check_last.field-0.0 (type_test (setting_of c.args.setting.now) (last_among (protocol_of c.args.before.now) (map protocol_of ts)))) c.as_slice-2.ensures c.in_err-check_last.ensures.test))

pub returns-clause-test : goal.returns-clause-test
returns-clause-test c =
    let terms = c.in_ok-terms.field-0.terms.items in
    let marks = c.in_ok-terms.field-0.marks.items in
    let lent : c.as_slice.result.now ≡ terms = (let is = c.in_ok-terms.terms-is in let slice = c.as_slice.ensures.value in cc) in
    λ C at.
    all_passed (setting_of c.args.setting.now) (protocol_of c.args.before.now) (direction_of c.args.dir) (use_in C c.args.known.now.name.now c.args.path.now c.args.renaming.now) (lemma_of c.args.known.now).chain marks
    (λ (term : Bor Proto). whole_in C c.args.renaming.now term.now) terms c.in_ok-terms.ensures.paired (c.in_ok-terms.ensures.links C at)
    c.in_ok-whole.whole (c.in_ok-whole.ensures.value C at ∙ ap (map (λ (term : Bor Proto). whole_in C c.args.renaming.now term.now)) lent)
    (subst (λ (ts : List (Bor Proto)). first_refusal (extent_tests (map (λ (term : Bor Proto). whole_in C c.args.renaming.now term.now) ts)) ≡ None) lent (c.in_ok-whole.ensures.test C at))
    (subst (λ (ts : List Proto). type_test (setting_of c.args.setting.now) (last_among (protocol_of c.args.before.now) (map protocol_of ts)) ≡ None) c.as_slice-2.ensures c.in_ok-check_last.ensures.test)

pub returns-clause-added : goal.returns-clause-added
returns-clause-added c =
    let terms = c.in_ok-terms.field-0.terms.items in
    let marks = c.in_ok-terms.field-0.marks.items in
    let lent : c.as_slice.result.now ≡ terms = (let is = c.in_ok-terms.terms-is in let slice = c.as_slice.ensures.value in cc) in
    let kept : marks ≡ c.from_vec.result = (let is = c.in_ok-terms.marks-is in let made = c.from_vec.ensures in cc) in
    λ C at.
    subst (λ (ms : List HeldMark). AreLinksOf (setting_of c.args.setting.now) (protocol_of c.args.before.now) (used (direction_of c.args.dir) (use_in C c.args.known.now.name.now c.args.path.now c.args.renaming.now) (lemma_of c.args.known.now).chain) c.in_ok-whole.whole ms) kept
    (are_links (setting_of c.args.setting.now) (protocol_of c.args.before.now) (direction_of c.args.dir) (use_in C c.args.known.now.name.now c.args.path.now c.args.renaming.now) (lemma_of c.args.known.now).chain marks
    (λ (term : Bor Proto). whole_in C c.args.renaming.now term.now) terms c.in_ok-terms.ensures.paired (c.in_ok-terms.ensures.links C at)
    c.in_ok-whole.whole (c.in_ok-whole.ensures.value C at ∙ ap (map (λ (term : Bor Proto). whole_in C c.args.renaming.now term.now)) lent) c.requires.whole c.in_ok-whole.ensures.limits
    (subst (λ (ts : List Proto). HasInterface (setting_of c.args.setting.now).sig c.args.setting.now.interface.now (last_among (protocol_of c.args.before.now) (map protocol_of ts))) c.as_slice-2.ensures c.in_ok-check_last.ensures.typed)
    (wholes_within (setting_of c.args.setting.now) (protocol_of c.args.before.now) c.args.path.now C c.args.renaming.now c.requires.whole at terms (c.in_ok-terms.ensures.terms (length (setting_of c.args.setting.now).sig) c.requires.kept))
    (c.in_ok-terms.ensures.marks (length (setting_of c.args.setting.now).sig) c.requires.kept (whole_is_within (setting_of c.args.setting.now) (protocol_of c.args.before.now) c.requires.whole)))
