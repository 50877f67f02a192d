use Rattle.std.proofs.Common.{ℕ, List, [], ◌∷◌, sym, subst}
use Rattle.ipdl_tree.specs.Views.{all_located}
use Rattle.ipdl_tree.specs.declared.tree.Tree.{Tree}
use Rattle.ipdl_forms.specs.Lists.{without_first}
use Rattle.ipdl_forms.specs.Steps.{SpellsArguments}
use Rattle.ipdl_read_terms.specs.Binders.{scope_of}
use Rattle.ipdl_term.specs.Rules.{expression_argument}
use Rattle.ipdl_term.specs.Views.{expression_of}
use Rattle.ipdl_read_terms.proofs.Lists.{two_items}
use Rattle.ipdl_read.proofs.rules.read_with_expr.Goals as goal

pub returns-clause-spelled : goal.returns-clause-spelled
returns-clause-spelled c =
    let is = two_items c.args.operands.now c.path-item.result c.e-item.result c.in-len2.len_at_least c.in-len2.len_below c.path-item.is c.e-item.is in
    let S = scope_of c.args.scope.now in
    let P : List Tree → Type 0 = λ ts. (binders : ℕ) → SpellsArguments S (expression_argument binders (expression_of c.in_ok-e.e) ∷ []) (without_first (all_located ts)) in
    subst P (sym is) (λ (binders : ℕ). (c.in_ok-e.ensures.spelled, tt))
