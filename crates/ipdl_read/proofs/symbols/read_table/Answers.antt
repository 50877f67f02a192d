use Rattle.std.proofs.Common.{◌≡◌, ℕ, Result, subst, rules}
use Rattle.std.specs.Prelude.{IsOkUnless}
use Rattle.std.proofs.lemmas.Result.{err_from_is_err_and}
use Rattle.ipdl_sig.specs.declared.fault.SigFault.{SigFault}
use Rattle.ipdl_sig.specs.declared.fault.SigFault.TheVariants.{Memory}
use Rattle.ipdl_tree.specs.Views.{located}
use Rattle.ipdl_read.specs.Parts.{earlier_at}
use Rattle.ipdl_read_terms.proofs.Lists.{four_items}
use Rattle.ipdl_read.proofs.ReadSymbols.{table_first_from, table_first_to, table_first_values, table_none, table_spelled, table_accepted}
use Rattle.ipdl_read.proofs.symbols.read_table.Goals as goal

pub returns-in_err-from-clause-first : goal.returns-in_err-from-clause-first
returns-in_err-from-clause-first c =
    let is = four_items c.args.parts.now c.name-item.result c.from-item.result c.to-item.result c.values-item.result c.in-len4.len_at_least c.in-len4.len_below c.name-item.is c.from-item.is c.to-item.is c.values-item.is in
    let p = err_from_is_err_and c.from_residual-in_err-from.result c.from_residual-in_err-from.ensures.1 in
    rw (p.1, p.2)
    (table_first_from c.in_err-from.field-0.0 (earlier_at c.args.sig.now c.args.items.now) c.args.list.0 c.args.parts.now c.name-item.result c.from-item.result c.to-item.result c.values-item.result is c.in_ok-name.ensures.clean c.in_err-from.ensures.first)

pub returns-in_err-to-clause-first : goal.returns-in_err-to-clause-first
returns-in_err-to-clause-first c =
    let is = four_items c.args.parts.now c.name-item.result c.from-item.result c.to-item.result c.values-item.result c.in-len4.len_at_least c.in-len4.len_below c.name-item.is c.from-item.is c.to-item.is c.values-item.is in
    let p = err_from_is_err_and c.from_residual-in_err-to.result c.from_residual-in_err-to.ensures.1 in
    rw (p.1, p.2)
    (table_first_to c.in_err-to.field-0.0 (earlier_at c.args.sig.now c.args.items.now) c.args.list.0 c.args.parts.now c.name-item.result c.from-item.result c.to-item.result c.values-item.result is c.in_ok-name.ensures.clean c.in_ok-from.ensures.clean c.in_err-to.ensures.first)

pub returns-in_err-values-clause-first : goal.returns-in_err-values-clause-first
returns-in_err-values-clause-first c =
    let is = four_items c.args.parts.now c.name-item.result c.from-item.result c.to-item.result c.values-item.result c.in-len4.len_at_least c.in-len4.len_below c.name-item.is c.from-item.is c.to-item.is c.values-item.is in
    let p = err_from_is_err_and c.from_residual-in_err-values.result c.from_residual-in_err-values.ensures.1 in
    rw (p.1, p.2)
    (table_first_values c.in_err-values.field-0.0 (earlier_at c.args.sig.now c.args.items.now) c.args.list.0 c.args.parts.now c.name-item.result c.from-item.result c.to-item.result c.values-item.result c.in_ok-from.from c.in_ok-to.to is c.in_ok-name.ensures.clean c.in_ok-from.ensures.clean c.in_ok-to.ensures.clean c.in_ok-from.ensures.value c.in_ok-to.ensures.spelled.0 c.in_err-values.ensures.first)

pub returns-in-Ok-clause-spelled : goal.returns-in-Ok-clause-spelled
returns-in-Ok-clause-spelled c head =
    let is = four_items c.args.parts.now c.name-item.result c.from-item.result c.to-item.result c.values-item.result c.in-len4.len_at_least c.in-len4.len_below c.name-item.is c.from-item.is c.to-item.is c.values-item.is in
    table_spelled c.args.sig.now c.add_table.new.self c.args.items.now c.in-Ok.number c.in_ok-from.from c.in_ok-to.to c.in_ok-name.name c.in_ok-values.values.items c.args.list.0 head c.args.parts.now c.name-item.result c.from-item.result c.to-item.result c.values-item.result is c.in-Ok.ensures.number c.in-Ok.ensures.ok c.in_ok-name.ensures.spelled c.in_ok-from.ensures.value c.in_ok-from.ensures.within c.in_ok-to.ensures.spelled c.in_ok-values.ensures.spelled c.in_ok-values.ensures.count

pub returns-in-Ok-clause-clean : goal.returns-in-Ok-clause-clean
returns-in-Ok-clause-clean c =
    let is = four_items c.args.parts.now c.name-item.result c.from-item.result c.to-item.result c.values-item.result c.in-len4.len_at_least c.in-len4.len_below c.name-item.is c.from-item.is c.to-item.is c.values-item.is in
    table_none (earlier_at c.args.sig.now c.args.items.now) c.args.list.0 c.args.parts.now c.name-item.result c.from-item.result c.to-item.result c.values-item.result c.in_ok-from.from c.in_ok-to.to is c.in_ok-name.ensures.clean c.in_ok-from.ensures.clean c.in_ok-to.ensures.clean c.in_ok-from.ensures.value c.in_ok-to.ensures.spelled.0 c.in_ok-values.ensures.clean

pub unreachable-requires : goal.unreachable-requires
unreachable-requires c =
    let only : IsOkUnless c.add_table.result Memory = table_accepted c.args.sig.now c.args.items.now c.in_ok-name.name (located c.name-item.result) (located c.values-item.result) c.in_ok-from.from c.in_ok-to.to c.in_ok-values.values.items (IsOkUnless c.add_table.result Memory) c.in_ok-name.ensures.spelled c.in_ok-from.ensures.within c.in_ok-to.ensures.spelled.1 c.in_ok-values.ensures.spelled c.in_ok-values.ensures.count c.add_table.ensures.accepts in
    let same : c.in-Err-Repeated.field-0 ≡ Memory = subst (λ (r : Result ℕ SigFault). IsOkUnless r Memory) c.in-Err-Repeated.is only in
    search (rules, same)
