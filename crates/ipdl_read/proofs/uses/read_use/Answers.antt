use Rattle.std.proofs.Common.{List, [], refl, sym, ap, subst, ◌≡◌, ◌∙◌}
use Rattle.std.proofs.lemmas.Result.{err_from_is_err_and}
use Rattle.ipdl_tree.specs.Views.{located, all_located}
use Rattle.ipdl_tree.specs.declared.tree.Tree.{Tree}
use Rattle.ipdl_term.specs.declared.step.Step.TheVariants.{Invoke}
use Rattle.ipdl_term.specs.Steps.{step_of}
use Rattle.ipdl_read.specs.Earlier.{earlier_of}
use Rattle.ipdl_forms.specs.Faults.{TellsFirst}
use Rattle.ipdl_forms.specs.Steps.{ArePairs, all_pair_faults, use_faults}
use Rattle.ipdl_read.specs.Uses.{SpellsUse}
use Rattle.ipdl_read_terms.proofs.Lists.{four_items}
use Rattle.ipdl_read.proofs.UseForms.{use_faults-path, use_faults-dir, use_faults-list, use_faults-pairs, use_faults-clean}
use Rattle.ipdl_read.proofs.uses.read_use.Goals as goal

pub returns-in_err-path-clause-first : goal.returns-in_err-path-clause-first
returns-in_err-path-clause-first c =
    let is = four_items c.args.operands.now c.name-item.result c.path-item.result c.dir-item.result c.pairs-item.result c.in-len4.len_at_least c.in-len4.len_below c.name-item.is c.path-item.is c.dir-item.is c.pairs-item.is in
    let p = err_from_is_err_and c.from_residual-in_err-path.result c.from_residual-in_err-path.ensures.1 in
    let E = earlier_of c.args.earlier.now in
    let P : List Tree → Type 0 = λ ts. TellsFirst c.in_err-path.field-0.0 (use_faults E c.args.list.0 (all_located ts)) in
    rw (p.1, p.2)
    (subst P (sym is) (use_faults-path c.in_err-path.field-0.0 E c.args.list.0 (located c.name-item.result) (located c.path-item.result) (located c.dir-item.result) (located c.pairs-item.result) c.in_ok-name.ensures.clean c.in_err-path.ensures.first))

pub returns-in_err-dir-clause-first : goal.returns-in_err-dir-clause-first
returns-in_err-dir-clause-first c =
    let is = four_items c.args.operands.now c.name-item.result c.path-item.result c.dir-item.result c.pairs-item.result c.in-len4.len_at_least c.in-len4.len_below c.name-item.is c.path-item.is c.dir-item.is c.pairs-item.is in
    let p = err_from_is_err_and c.from_residual-in_err-dir.result c.from_residual-in_err-dir.ensures.1 in
    let E = earlier_of c.args.earlier.now in
    let P : List Tree → Type 0 = λ ts. TellsFirst c.in_err-dir.field-0.0 (use_faults E c.args.list.0 (all_located ts)) in
    rw (p.1, p.2)
    (subst P (sym is) (use_faults-dir c.in_err-dir.field-0.0 E c.args.list.0 (located c.name-item.result) (located c.path-item.result) (located c.dir-item.result) (located c.pairs-item.result) c.in_ok-name.ensures.clean c.in_ok-path.ensures.clean c.in_err-dir.ensures.first))

pub returns-in_err-parts-clause-first : goal.returns-in_err-parts-clause-first
returns-in_err-parts-clause-first c =
    let is = four_items c.args.operands.now c.name-item.result c.path-item.result c.dir-item.result c.pairs-item.result c.in-len4.len_at_least c.in-len4.len_below c.name-item.is c.path-item.is c.dir-item.is c.pairs-item.is in
    let p = err_from_is_err_and c.from_residual-in_err-parts.result c.from_residual-in_err-parts.ensures.1 in
    let E = earlier_of c.args.earlier.now in
    let P : List Tree → Type 0 = λ ts. TellsFirst c.in_err-parts.field-0.0 (use_faults E c.args.list.0 (all_located ts)) in
    rw (p.1, p.2)
    (subst P (sym is) (use_faults-list c.in_err-parts.field-0.0 E c.args.list.0 (located c.name-item.result) (located c.path-item.result) (located c.dir-item.result) (located c.pairs-item.result) c.in_ok-name.ensures.clean c.in_ok-path.ensures.clean c.in_ok-dir.ensures.clean c.in_err-parts.ensures.first))

pub returns-in_err-pairs-clause-first : goal.returns-in_err-pairs-clause-first
returns-in_err-pairs-clause-first c =
    let is = four_items c.args.operands.now c.name-item.result c.path-item.result c.dir-item.result c.pairs-item.result c.in-len4.len_at_least c.in-len4.len_below c.name-item.is c.path-item.is c.dir-item.is c.pairs-item.is in
    let p = err_from_is_err_and c.from_residual-in_err-pairs.result c.from_residual-in_err-pairs.ensures.1 in
    let E = earlier_of c.args.earlier.now in
    let P : List Tree → Type 0 = λ ts. TellsFirst c.in_err-pairs.field-0.0 (use_faults E c.args.list.0 (all_located ts)) in
    rw (p.1, p.2)
    (subst P (sym is) (use_faults-pairs c.in_err-pairs.field-0.0 E c.args.list.0 (located c.name-item.result) (located c.path-item.result) (located c.dir-item.result) (located c.pairs-item.result) c.in_ok-name.ensures.clean c.in_ok-path.ensures.clean c.in_ok-dir.ensures.clean c.in_ok-parts.ensures.clean (subst (λ ts. TellsFirst c.in_err-pairs.field-0.0 (all_pair_faults [] ts)) (sym c.in_ok-parts.ensures.parts) c.in_err-pairs.ensures.first)))

pub returns-clause-clean : goal.returns-clause-clean
returns-clause-clean c =
    let is = four_items c.args.operands.now c.name-item.result c.path-item.result c.dir-item.result c.pairs-item.result c.in-len4.len_at_least c.in-len4.len_below c.name-item.is c.path-item.is c.dir-item.is c.pairs-item.is in
    let E = earlier_of c.args.earlier.now in
    let P : List Tree → Type 0 = λ ts. use_faults E c.args.list.0 (all_located ts) ≡ [] in
    subst P (sym is) (use_faults-clean E c.args.list.0 (located c.name-item.result) (located c.path-item.result) (located c.dir-item.result) (located c.pairs-item.result) c.in_ok-name.ensures.clean c.in_ok-path.ensures.clean c.in_ok-dir.ensures.clean c.in_ok-parts.ensures.clean (ap (all_pair_faults []) c.in_ok-parts.ensures.parts ∙ c.in_ok-pairs.ensures.clean))

pub returns-clause-spelled : goal.returns-clause-spelled
returns-clause-spelled c =
    let is = four_items c.args.operands.now c.name-item.result c.path-item.result c.dir-item.result c.pairs-item.result c.in-len4.len_at_least c.in-len4.len_below c.name-item.is c.path-item.is c.dir-item.is c.pairs-item.is in
    let E = earlier_of c.args.earlier.now in
    let P : List Tree → Type 0 = λ ts. SpellsUse E (step_of (Invoke c.in_ok-path.path c.in_ok-name.name c.in_ok-dir.dir c.in_ok-pairs.pairs)) (all_located ts) in
    subst P (sym is) (refl, c.in_ok-name.ensures.word, c.in_ok-name.ensures.declared, c.in_ok-path.ensures.spelled, c.in_ok-dir.ensures.word, c.in_ok-parts.ensures.list, subst (ArePairs [] c.in_ok-pairs.pairs) (sym c.in_ok-parts.ensures.parts) c.in_ok-pairs.ensures.spelled)
