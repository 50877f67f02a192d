use Rattle.std.proofs.Common.{◌≡◌, List, [], true, refl, sym, ap, subst}
use Rattle.std.proofs.lemmas.Result.{err_from_is_err_and}
use Rattle.std.specs.Prelude.{OnOk, is_some, unwrap_or}
use Rattle.ipdl_tree.specs.Trees.{Located}
use Rattle.ipdl_tree.specs.declared.tree.Tree.{Tree}
use Rattle.ipdl_tree.specs.Views.{located, all_located}
use Rattle.ipdl_forms.specs.Expressions.{SpellsExpression}
use Rattle.ipdl_forms.specs.Lists.{tree_count, tree_at, is_word, name_in}
use Rattle.ipdl_forms.specs.Scopes.{under_binder}
use Rattle.ipdl_forms.specs.Widths.{SpellsWidth}
use Rattle.ipdl_forms.specs.Reactions.{SpellsReaction, reaction_count, reaction_faults}
use Rattle.ipdl_forms.specs.Counts.{counted}
use Rattle.ipdl_read_terms.specs.Binders.{scope_of}
use Rattle.ipdl_read_terms.specs.Outcomes.{IsRead}
use Rattle.ipdl_term.specs.Views.{expression_of, reaction_of}
use Rattle.ipdl_read_terms.proofs.Lists.{located_headed, three_items, four_items}
use Rattle.ipdl_read_terms.proofs.ReactionFaults.{branches_test, branches_left, branches_right, branches_counted, branches_clean, binding_first, binding_body, binding_counted, binding_clean}
use Rattle.ipdl_read_terms.proofs.reactions.+reaction.Goals as goal

pub read_react-returns-in-Word-node-clause-read : goal.read_react-returns-in-Word-node-clause-read
read_react-returns-in-Word-node-clause-read t c =
    let is = located_headed c.args.tree.now c.head-item.result c.in-Group.parts c.as_slice.result.now c.in-Word-node.name c.in-Group.is c.as_slice.ensures.value c.in-len1-up.len_at_least c.head-item.is c.in-Word-node.is in
    let P : Located → Type 0 = λ u. IsRead (λ r. SpellsReaction (scope_of c.args.scope.now) (reaction_of r) u) (reaction_faults (scope_of c.args.scope.now) c.args.nodes.now.counted u) c.read_list.result in
    subst P (sym is) c.read_list.ensures.read

pub read_react-returns-in-Word-node-clause-counted : goal.read_react-returns-in-Word-node-clause-counted
read_react-returns-in-Word-node-clause-counted t c =
    let is = located_headed c.args.tree.now c.head-item.result c.in-Group.parts c.as_slice.result.now c.in-Word-node.name c.in-Group.is c.as_slice.ensures.value c.in-len1-up.len_at_least c.head-item.is c.in-Word-node.is in
    let P : Located → Type 0 = λ u. OnOk c.read_list.result (c.read_list.new.nodes.counted ≡ counted (reaction_count u) c.args.nodes.now.counted) in
    subst P (sym is) c.read_list.ensures.counted

pub read_branches-returns-in_err-test-clause-read : goal.read_branches-returns-in_err-test-clause-read
read_branches-returns-in_err-test-clause-read t c =
    let is = three_items c.args.operands.now c.test-item.result c.left-item.result c.right-item.result c.in-len3.len_at_least c.in-len3.len_below c.test-item.is c.left-item.is c.right-item.is in
    let p = err_from_is_err_and c.from_residual-in_err-test.result c.from_residual-in_err-test.ensures.1 in
    rw (p.1, p.2)
    (branches_test c.in_err-test.field-0.0 (scope_of c.args.scope.now) c.args.nodes.now.counted _ c.args.list.0 c.args.operands.now c.test-item.result c.left-item.result c.right-item.result is c.in_ok-add.ensures.value c.in_ok-add.ensures.clean c.in_err-test.ensures.read)

pub read_branches-returns-in_err-left-clause-read : goal.read_branches-returns-in_err-left-clause-read
read_branches-returns-in_err-left-clause-read t c =
    let is = three_items c.args.operands.now c.test-item.result c.left-item.result c.right-item.result c.in-len3.len_at_least c.in-len3.len_below c.test-item.is c.left-item.is c.right-item.is in
    let p = err_from_is_err_and c.from_residual-in_err-left.result c.from_residual-in_err-left.ensures.1 in
    rw (p.1, p.2)
    (branches_left c.in_err-left.field-0.0 (scope_of c.args.scope.now) c.args.nodes.now.counted _ _ c.args.list.0 c.args.operands.now c.test-item.result c.left-item.result c.right-item.result is c.in_ok-add.ensures.value c.in_ok-add.ensures.clean c.in_ok-test.ensures.read.1 c.in_ok-test.ensures.counted c.in_err-left.ensures.read)

pub read_branches-returns-in_err-right-clause-read : goal.read_branches-returns-in_err-right-clause-read
read_branches-returns-in_err-right-clause-read t c =
    let is = three_items c.args.operands.now c.test-item.result c.left-item.result c.right-item.result c.in-len3.len_at_least c.in-len3.len_below c.test-item.is c.left-item.is c.right-item.is in
    let p = err_from_is_err_and c.from_residual-in_err-right.result c.from_residual-in_err-right.ensures.1 in
    rw (p.1, p.2)
    (branches_right c.in_err-right.field-0.0 (scope_of c.args.scope.now) c.args.nodes.now.counted _ _ _ c.args.list.0 c.args.operands.now c.test-item.result c.left-item.result c.right-item.result is c.in_ok-add.ensures.value c.in_ok-add.ensures.clean c.in_ok-test.ensures.read.1 c.in_ok-test.ensures.counted c.in_ok-left.ensures.read.1 c.in_ok-left.ensures.counted c.in_err-right.ensures.read)

pub read_binding-returns-in_err-first-clause-read : goal.read_binding-returns-in_err-first-clause-read
read_binding-returns-in_err-first-clause-read t c =
    let is = four_items c.args.operands.now c.name-item.result c.width-item.result c.first-item.result c.body-item.result c.in-len4.len_at_least c.in-len4.len_below c.name-item.is c.width-item.is c.first-item.is c.body-item.is in
    let p = err_from_is_err_and c.from_residual-in_err-first.result c.from_residual-in_err-first.ensures.1 in
    rw (p.1, p.2)
    (binding_first c.in_err-first.field-0.0 (scope_of c.args.scope.now) c.args.nodes.now.counted _ c.args.list.0 c.args.operands.now c.name-item.result c.width-item.result c.first-item.result c.body-item.result is c.in_ok-add.ensures.value c.in_ok-add.ensures.clean c.in_ok-name.ensures.clean c.in_ok-width.ensures.clean c.in_err-first.ensures.read)

pub read_binding-returns-in_err-body-clause-read : goal.read_binding-returns-in_err-body-clause-read
read_binding-returns-in_err-body-clause-read t c =
    let is = four_items c.args.operands.now c.name-item.result c.width-item.result c.first-item.result c.body-item.result c.in-len4.len_at_least c.in-len4.len_below c.name-item.is c.width-item.is c.first-item.is c.body-item.is in
    let p = err_from_is_err_and c.from_residual-in_err-body.result c.from_residual-in_err-body.ensures.1 in
    rw (p.1, p.2)
    (binding_body c.in_err-body.field-0.0 (scope_of c.args.scope.now) c.args.nodes.now.counted _ _ c.args.list.0 c.args.operands.now c.name-item.result c.width-item.result c.first-item.result c.body-item.result c.in_ok-name.name.now is c.in_ok-add.ensures.value c.in_ok-add.ensures.clean c.in_ok-name.ensures.clean c.in_ok-name.ensures.word c.in_ok-width.ensures.clean c.in_ok-first.ensures.read.1 c.in_ok-first.ensures.counted c.in_err-body.ensures.read)

pub read_branches-returns-clause-counted : goal.read_branches-returns-clause-counted
read_branches-returns-clause-counted t c =
    let is = three_items c.args.operands.now c.test-item.result c.left-item.result c.right-item.result c.in-len3.len_at_least c.in-len3.len_below c.test-item.is c.left-item.is c.right-item.is in
    branches_counted c.args.nodes.now.counted _ _ _ _ c.args.operands.now c.test-item.result c.left-item.result c.right-item.result is c.in_ok-add.ensures.value c.in_ok-test.ensures.counted c.in_ok-left.ensures.counted c.in_ok-right.ensures.counted

pub read_branches-returns-clause-read : goal.read_branches-returns-clause-read
read_branches-returns-clause-read t c =
    let is = three_items c.args.operands.now c.test-item.result c.left-item.result c.right-item.result c.in-len3.len_at_least c.in-len3.len_below c.test-item.is c.left-item.is c.right-item.is in
    let S = scope_of c.args.scope.now in
    let P : List Tree → Type 0 = λ xs. (tree_count (all_located xs) ≡ 3) × SpellsExpression S (expression_of c.in_ok-test.test) (tree_at 0 (all_located xs)) × SpellsReaction S (reaction_of c.in_ok-left.left.value) (tree_at 1 (all_located xs)) × SpellsReaction S (reaction_of c.in_ok-right.right.value) (tree_at 2 (all_located xs)) in (
      subst P (sym is) (refl, c.in_ok-test.ensures.read.0, c.in_ok-left.ensures.read.0, c.in_ok-right.ensures.read.0),
      branches_clean S c.args.nodes.now.counted _ _ _ c.args.list.0 c.args.operands.now c.test-item.result c.left-item.result c.right-item.result is c.in_ok-add.ensures.value c.in_ok-add.ensures.clean c.in_ok-test.ensures.read.1 c.in_ok-test.ensures.counted c.in_ok-left.ensures.read.1 c.in_ok-left.ensures.counted c.in_ok-right.ensures.read.1,
    )

pub read_binding-returns-clause-counted : goal.read_binding-returns-clause-counted
read_binding-returns-clause-counted t c =
    let is = four_items c.args.operands.now c.name-item.result c.width-item.result c.first-item.result c.body-item.result c.in-len4.len_at_least c.in-len4.len_below c.name-item.is c.width-item.is c.first-item.is c.body-item.is in
    binding_counted c.args.nodes.now.counted _ _ _ c.args.operands.now c.name-item.result c.width-item.result c.first-item.result c.body-item.result is c.in_ok-add.ensures.value c.in_ok-first.ensures.counted c.in_ok-body.ensures.counted

pub read_binding-returns-clause-read : goal.read_binding-returns-clause-read
read_binding-returns-clause-read t c =
    let is = four_items c.args.operands.now c.name-item.result c.width-item.result c.first-item.result c.body-item.result c.in-len4.len_at_least c.in-len4.len_below c.name-item.is c.width-item.is c.first-item.is c.body-item.is in
    let S = scope_of c.args.scope.now in
    let named : is_word (located c.name-item.result) ≡ true = ap is_some c.in_ok-name.ensures.word in
    let same : name_in (located c.name-item.result) ≡ c.in_ok-name.name.now = ap (λ o. unwrap_or o []) c.in_ok-name.ensures.word in
    let body = subst (λ x. SpellsReaction (under_binder x S) (reaction_of c.in_ok-body.body.value) (located c.body-item.result)) (sym same) c.in_ok-body.ensures.read.0 in
    let P : List Tree → Type 0 = λ xs. (tree_count (all_located xs) ≡ 4) × (is_word (tree_at 0 (all_located xs)) ≡ true) × SpellsWidth c.in_ok-width.width (tree_at 1 (all_located xs)) × SpellsReaction S (reaction_of c.in_ok-first.first.value) (tree_at 2 (all_located xs)) × SpellsReaction (under_binder (name_in (tree_at 0 (all_located xs))) S) (reaction_of c.in_ok-body.body.value) (tree_at 3 (all_located xs)) in (
      subst P (sym is) (refl, named, c.in_ok-width.ensures.spelled, c.in_ok-first.ensures.read.0, body),
      binding_clean S c.args.nodes.now.counted _ _ c.args.list.0 c.args.operands.now c.name-item.result c.width-item.result c.first-item.result c.body-item.result c.in_ok-name.name.now is c.in_ok-add.ensures.value c.in_ok-add.ensures.clean c.in_ok-name.ensures.clean c.in_ok-name.ensures.word c.in_ok-width.ensures.clean c.in_ok-first.ensures.read.1 c.in_ok-first.ensures.counted c.in_ok-body.ensures.read.1,
    )
