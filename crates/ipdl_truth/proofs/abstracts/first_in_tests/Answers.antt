use Rattle.std.proofs.Common.{◌≡◌, ◌+◌, map, drop, true, sym, ap, ◌∙◌}
use Rattle.std.specs.Prelude.{find, is_some}
use Rattle.ipdl_term.specs.Surroundings.{condition_of}
use Rattle.ipdl_term.specs.Views.{expression_of}
use Rattle.ipdl_truth.specs.Abstract.{is_abstract, symbols_in, symbols_in_all}
use Rattle.ipdl_truth.specs.Questions.{tests_of}
use Rattle.ipdl_truth.proofs.Walks.{first_test, found_later, found_first, none_there}
use Rattle.ipdl_typing.specs.Signatures.{signature_of}
use Rattle.ipdl_truth.proofs.abstracts.first_in_tests.Goals as goal

pub loop-condition-preserved : goal.loop-condition-preserved
loop-condition-preserved c =
    let p = is_abstract (signature_of c.args.sig.now) in
    let cs = c.args.conditions.now in
    let i = c.loop-condition.condition-index in
    let x = c.condition-item.result in
    let rest = symbols_in_all (tests_of (map condition_of (drop (i + 1) cs))) in
    let here = ap (λ es. find p (symbols_in_all es)) (first_test cs i x c.loop-condition-test.true c.condition-item.is) in
    let none = none_there c.first_abstract_in-first.result (sym c.is_some.ensures ∙ c.if-is_some.false) in
    sym (found_later p (symbols_in (expression_of x.test)) rest (sym c.first_abstract_in-first.ensures ∙ none)) ∙ sym here ∙ c.loop-condition.invariant

pub returns-then-is_some : goal.returns-then-is_some
returns-then-is_some c =
    let p = is_abstract (signature_of c.args.sig.now) in
    let cs = c.args.conditions.now in
    let i = c.loop-condition.condition-index in
    let x = c.condition-item.result in
    let rest = symbols_in_all (tests_of (map condition_of (drop (i + 1) cs))) in
    let here = ap (λ es. find p (symbols_in_all es)) (first_test cs i x c.loop-condition-test.true c.condition-item.is) in
    let some : is_some (find p (symbols_in (expression_of x.test))) ≡ true = sym (ap is_some c.first_abstract_in-first.ensures) ∙ sym c.is_some.ensures ∙ c.if-is_some.true in
    c.first_abstract_in-first.ensures ∙ sym (found_first p (symbols_in (expression_of x.test)) rest some) ∙ sym here ∙ c.loop-condition.invariant
