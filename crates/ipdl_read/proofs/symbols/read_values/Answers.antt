use Rattle.std.proofs.lemmas.Result.{err_from_is_err_and}
use Rattle.ipdl_read_terms.proofs.Lists.{located_group}
use Rattle.ipdl_read.proofs.ReadSymbols.{values_first, values_other, values_none, values_spelled}
use Rattle.ipdl_read.proofs.symbols.read_values.Goals as goal

pub returns-in_err-value-clause-first : goal.returns-in_err-value-clause-first
returns-in_err-value-clause-first c =
    let p = err_from_is_err_and c.from_residual.result c.from_residual.ensures.1 in
    let is = located_group c.args.tree.now c.in-Group.parts c.as_slice-parts.result.now c.in-Group.is c.as_slice-parts.ensures.value in
    rw (p.1, p.2)
    (values_first c.in_err-value.field-0.0 c.args.from c.args.to c.args.tree.now.pos.0 _ c.as_slice-parts.result.now c.loop-part.part-index c.part-item.result is c.loop-part.invariant.clean c.loop-part-test.true c.part-item.is c.in_err-value.ensures.first)

pub returns-then-parts-from-clause-first : goal.returns-then-parts-from-clause-first
returns-then-parts-from-clause-first c =
    let is = located_group c.args.tree.now c.in-Group.parts c.as_slice-parts.result.now c.in-Group.is c.as_slice-parts.ensures.value in
    values_other c.args.from c.args.to c.args.tree.now.pos.0 _ c.as_slice-parts.result.now c.loop-part.part-index is c.loop-part.invariant.clean c.loop-part-test.false c.requires c.if-parts-from.true

pub returns-clause-spelled : goal.returns-clause-spelled
returns-clause-spelled c =
    let is = located_group c.args.tree.now c.in-Group.parts c.as_slice-parts.result.now c.in-Group.is c.as_slice-parts.ensures.value in
    values_spelled c.args.to c.args.tree.now.pos.0 _ c.loop-part.values.items c.as_slice-parts.result.now c.loop-part.part-index is c.loop-part.invariant.spelled c.loop-part-test.false

pub returns-clause-clean : goal.returns-clause-clean
returns-clause-clean c =
    let is = located_group c.args.tree.now c.in-Group.parts c.as_slice-parts.result.now c.in-Group.is c.as_slice-parts.ensures.value in
    values_none c.args.from c.args.to c.args.tree.now.pos.0 _ c.as_slice-parts.result.now c.loop-part.part-index is c.loop-part.invariant.clean c.loop-part-test.false c.requires c.if-parts-from.false
