use Rattle.std.proofs.Common.{◌≡◌, List, [], ◌∷◌, refl, sym, ap, ◌∙◌, subst}
use Rattle.std.proofs.lemmas.Result.{err_from_is_err_and}
use Rattle.ipdl_tree.specs.Trees.{Located, tree, no_trees}
use Rattle.ipdl_tree.specs.Views.{located, all_located}
use Rattle.ipdl_forms.specs.Faults.{TellsFirst}
use Rattle.ipdl_forms.specs.Expressions.{SpellsExpression, expression_count, expression_faults}
use Rattle.ipdl_term.specs.Views.{expression_of}
use Rattle.ipdl_read_terms.specs.Binders.{scope_of}
use Rattle.ipdl_read_terms.specs.Outcomes.{IsRead}
use Rattle.ipdl_tree.specs.declared.tree.Tree.{Tree}
use Rattle.ipdl_forms.specs.Counts.{counted}
use Rattle.ipdl_read_terms.specs.Lists.{expression_list_faults}
use Rattle.ipdl_forms.specs.Operators.{Operand, expression_operand}
use Rattle.ipdl_read_terms.proofs.Lists.{located_headed, two_items, three_items}
use Rattle.ipdl_read_terms.proofs.Operands.{list_first, operand_first, operand_later}
use Rattle.ipdl_read_terms.proofs.expressions.+expression.Goals as goal

-- the parts of a list of two and of three expressions
abbrev two : List Operand
two = expression_operand ∷ expression_operand ∷ []

abbrev three : List Operand
three = expression_operand ∷ expression_operand ∷ expression_operand ∷ []

pub read_expr-returns-in-Word-node-clause-read : goal.read_expr-returns-in-Word-node-clause-read
read_expr-returns-in-Word-node-clause-read t c =
    let is = located_headed c.args.tree.now c.head-item.result c.in-Group.parts c.as_slice.result.now c.in-Word-node.name c.in-Group.is c.as_slice.ensures.value c.in-len1-up.len_at_least c.head-item.is c.in-Word-node.is in
    let P : Located → Type 0 = λ u. IsRead (λ e. SpellsExpression (scope_of c.args.scope.now) (expression_of e) u) (expression_faults (scope_of c.args.scope.now) c.args.nodes.now.counted u) c.read_list.result in
    subst P (sym is) c.read_list.ensures.read

pub read_two-returns-in_err-a-clause-read : goal.read_two-returns-in_err-a-clause-read
read_two-returns-in_err-a-clause-read t c =
    let is = two_items c.args.operands.now c.a-item.result c.b-item.result c.in-len2.len_at_least c.in-len2.len_below c.a-item.is c.b-item.is in
    let p = err_from_is_err_and c.from_residual-in_err-a.result c.from_residual-in_err-a.ensures.1 in
    let S = scope_of c.args.scope.now in
    let n = counted 1 c.args.nodes.now.counted in
    let b = located c.b-item.result in
    let P : List Tree → Type 0 = λ ts. TellsFirst c.in_err-a.field-0.0 (expression_list_faults S c.args.nodes.now.counted c.args.list.0 (expression_operand ∷ expression_operand ∷ []) (all_located ts)) in
    let first = subst (λ m. TellsFirst c.in_err-a.field-0.0 (expression_faults S m (located c.a-item.result))) c.in_ok-add.ensures.value c.in_err-a.ensures.read in
    rw (p.1, p.2)
    (subst P (sym is) (list_first c.in_err-a.field-0.0 S c.args.nodes.now.counted c.args.list.0 (expression_operand ∷ expression_operand ∷ []) (tree (located c.a-item.result) (tree b no_trees)) refl c.in_ok-add.ensures.clean (operand_first c.in_err-a.field-0.0 S n (expression_operand ∷ []) (located c.a-item.result) (tree b no_trees) first)))

pub read_three-returns-in_err-c-clause-read : goal.read_three-returns-in_err-c-clause-read
read_three-returns-in_err-c-clause-read t c =
    let is = three_items c.args.operands.now c.c-item.result c.a-item.result c.b-item.result c.in-len3.len_at_least c.in-len3.len_below c.c-item.is c.a-item.is c.b-item.is in
    let p = err_from_is_err_and c.from_residual-in_err-c.result c.from_residual-in_err-c.ensures.1 in
    let S = scope_of c.args.scope.now in
    let n = counted 1 c.args.nodes.now.counted in
    let rest = tree (located c.a-item.result) (tree (located c.b-item.result) no_trees) in
    let P : List Tree → Type 0 = λ ts. TellsFirst c.in_err-c.field-0.0 (expression_list_faults S c.args.nodes.now.counted c.args.list.0 three (all_located ts)) in
    let first = subst (λ m. TellsFirst c.in_err-c.field-0.0 (expression_faults S m (located c.c-item.result))) c.in_ok-add.ensures.value c.in_err-c.ensures.read in
    rw (p.1, p.2)
    (subst P (sym is) (list_first c.in_err-c.field-0.0 S c.args.nodes.now.counted c.args.list.0 three (tree (located c.c-item.result) rest) refl c.in_ok-add.ensures.clean (operand_first c.in_err-c.field-0.0 S n two (located c.c-item.result) rest first)))

pub read_three-returns-in_err-a-clause-read : goal.read_three-returns-in_err-a-clause-read
read_three-returns-in_err-a-clause-read t c =
    let is = three_items c.args.operands.now c.c-item.result c.a-item.result c.b-item.result c.in-len3.len_at_least c.in-len3.len_below c.c-item.is c.a-item.is c.b-item.is in
    let p = err_from_is_err_and c.from_residual-in_err-a.result c.from_residual-in_err-a.ensures.1 in
    let S = scope_of c.args.scope.now in
    let n = counted 1 c.args.nodes.now.counted in
    let rest = tree (located c.b-item.result) no_trees in
    let m = counted (expression_count (located c.c-item.result)) n in
    let P : List Tree → Type 0 = λ ts. TellsFirst c.in_err-a.field-0.0 (expression_list_faults S c.args.nodes.now.counted c.args.list.0 three (all_located ts)) in
    let count = c.in_ok-c.ensures.counted ∙ ap (counted (expression_count (located c.c-item.result))) c.in_ok-add.ensures.value in
    let clean = subst (λ k. expression_faults S k (located c.c-item.result) ≡ []) c.in_ok-add.ensures.value c.in_ok-c.ensures.read.1 in
    let first = subst (λ k. TellsFirst c.in_err-a.field-0.0 (expression_faults S k (located c.a-item.result))) count c.in_err-a.ensures.read in
    rw (p.1, p.2)
    (subst P (sym is) (list_first c.in_err-a.field-0.0 S c.args.nodes.now.counted c.args.list.0 three (tree (located c.c-item.result) (tree (located c.a-item.result) rest)) refl c.in_ok-add.ensures.clean
    (operand_later c.in_err-a.field-0.0 S n two (located c.c-item.result) (tree (located c.a-item.result) rest) clean (operand_first c.in_err-a.field-0.0 S m (expression_operand ∷ []) (located c.a-item.result) rest first))))

pub read_three-returns-in_err-b-clause-read : goal.read_three-returns-in_err-b-clause-read
read_three-returns-in_err-b-clause-read t c =
    let is = three_items c.args.operands.now c.c-item.result c.a-item.result c.b-item.result c.in-len3.len_at_least c.in-len3.len_below c.c-item.is c.a-item.is c.b-item.is in
    let p = err_from_is_err_and c.from_residual-in_err-b.result c.from_residual-in_err-b.ensures.1 in
    let S = scope_of c.args.scope.now in
    let n = counted 1 c.args.nodes.now.counted in
    let rest = tree (located c.b-item.result) no_trees in
    let m = counted (expression_count (located c.c-item.result)) n in
    let P : List Tree → Type 0 = λ ts. TellsFirst c.in_err-b.field-0.0 (expression_list_faults S c.args.nodes.now.counted c.args.list.0 three (all_located ts)) in
    let count = c.in_ok-c.ensures.counted ∙ ap (counted (expression_count (located c.c-item.result))) c.in_ok-add.ensures.value in
    let clean = subst (λ k. expression_faults S k (located c.c-item.result) ≡ []) c.in_ok-add.ensures.value c.in_ok-c.ensures.read.1 in
    let clean_a = subst (λ k. expression_faults S k (located c.a-item.result) ≡ []) count c.in_ok-a.ensures.read.1 in
    let count_a = c.in_ok-a.ensures.counted ∙ ap (counted (expression_count (located c.a-item.result))) count in
    let first = subst (λ k. TellsFirst c.in_err-b.field-0.0 (expression_faults S k (located c.b-item.result))) count_a c.in_err-b.ensures.read in
    rw (p.1, p.2)
    (subst P (sym is) (list_first c.in_err-b.field-0.0 S c.args.nodes.now.counted c.args.list.0 three (tree (located c.c-item.result) (tree (located c.a-item.result) rest)) refl c.in_ok-add.ensures.clean
    (operand_later c.in_err-b.field-0.0 S n two (located c.c-item.result) (tree (located c.a-item.result) rest) clean (operand_later c.in_err-b.field-0.0 S m (expression_operand ∷ []) (located c.a-item.result) rest clean_a
    (operand_first c.in_err-b.field-0.0 S (counted (expression_count (located c.a-item.result)) m) [] (located c.b-item.result) no_trees first)))))
