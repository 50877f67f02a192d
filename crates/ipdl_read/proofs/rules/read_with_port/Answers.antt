use Rattle.std.proofs.Common.{List, [], ◌∷◌, refl, sym, subst}
use Rattle.std.proofs.lemmas.Result.{err_from_is_err_and}
use Rattle.ipdl_tree.specs.Trees.{tree, no_trees}
use Rattle.ipdl_tree.specs.Views.{located, all_located}
use Rattle.ipdl_tree.specs.declared.tree.Tree.{Tree}
use Rattle.ipdl_forms.specs.Faults.{TellsFirst}
use Rattle.ipdl_read.specs.Rules.{part_faults}
use Rattle.ipdl_read_terms.specs.Binders.{scope_of}
use Rattle.ipdl_term.specs.Rules.{ArgumentKind, name_kind, width_kind}
use Rattle.ipdl_read_terms.proofs.Lists.{three_items}
use Rattle.ipdl_read.proofs.RuleForms.{part_faults-path, part_faults-second}
use Rattle.ipdl_read.proofs.rules.read_with_port.Goals as goal

-- what the arguments have to be
abbrev kinds : List ArgumentKind
kinds = name_kind ∷ width_kind ∷ []

pub returns-in_err-path-clause-first : goal.returns-in_err-path-clause-first
returns-in_err-path-clause-first c =
    let is = three_items c.args.operands.now c.path-item.result c.name-item.result c.width-item.result c.in-len3.len_at_least c.in-len3.len_below c.path-item.is c.name-item.is c.width-item.is in
    let p = err_from_is_err_and c.from_residual.result c.from_residual.ensures.1 in
    let S = scope_of c.args.scope.now in
    let P : List Tree → Type 0 = λ ts. TellsFirst c.in_err-path.field-0.0 (part_faults S c.args.list.0 kinds (all_located ts)) in
    rw (p.1, p.2)
    (subst P (sym is) (part_faults-path c.in_err-path.field-0.0 S c.args.list.0 kinds (located c.path-item.result) (tree (located c.name-item.result) (tree (located c.width-item.result) no_trees)) refl c.in_err-path.ensures.first))

pub returns-in_err-width-clause-first : goal.returns-in_err-width-clause-first
returns-in_err-width-clause-first c =
    let is = three_items c.args.operands.now c.path-item.result c.name-item.result c.width-item.result c.in-len3.len_at_least c.in-len3.len_below c.path-item.is c.name-item.is c.width-item.is in
    let p = err_from_is_err_and c.from_residual-in_err-width.result c.from_residual-in_err-width.ensures.1 in
    let S = scope_of c.args.scope.now in
    let P : List Tree → Type 0 = λ ts. TellsFirst c.in_err-width.field-0.0 (part_faults S c.args.list.0 kinds (all_located ts)) in
    rw (p.1, p.2)
    (subst P (sym is) (part_faults-second c.in_err-width.field-0.0 S c.args.list.0 name_kind width_kind (located c.path-item.result) (located c.name-item.result) (located c.width-item.result) c.in_ok-path.ensures.clean c.in_ok-name.ensures.clean c.in_err-width.ensures.first))
