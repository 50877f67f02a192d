use Rattle.std.proofs.Common.{◌≡◌, ℕ, Result, subst, rules}
use Rattle.std.specs.Prelude.{IsOkUnless}
use Rattle.std.proofs.lemmas.Result.{err_from_is_err_and}
use Rattle.ipdl_sig.specs.declared.fault.SigFault.{SigFault}
use Rattle.ipdl_sig.specs.declared.fault.SigFault.TheVariants.{Memory}
use Rattle.ipdl_tree.specs.Views.{located}
use Rattle.ipdl_read.specs.Parts.{earlier_at}
use Rattle.ipdl_read_terms.proofs.Lists.{three_items}
use Rattle.ipdl_read.proofs.ReadSymbols.{fun_first_name, fun_first_from, fun_first_to, fun_none, fun_spelled, fun_accepted}
use Rattle.ipdl_read.proofs.symbols.read_fun.Goals as goal

pub returns-in_err-name-clause-first : goal.returns-in_err-name-clause-first
returns-in_err-name-clause-first c =
    let is = three_items c.args.parts.now c.name-item.result c.from-item.result c.to-item.result c.in-len3.len_at_least c.in-len3.len_below c.name-item.is c.from-item.is c.to-item.is in
    let p = err_from_is_err_and c.from_residual.result c.from_residual.ensures.1 in
    rw (p.1, p.2)
    (fun_first_name c.in_err-name.field-0.0 (earlier_at c.args.sig.now c.args.items.now) c.args.list.0 c.args.parts.now c.name-item.result c.from-item.result c.to-item.result is c.in_err-name.ensures.first)

pub returns-in_err-from-clause-first : goal.returns-in_err-from-clause-first
returns-in_err-from-clause-first c =
    let is = three_items c.args.parts.now c.name-item.result c.from-item.result c.to-item.result c.in-len3.len_at_least c.in-len3.len_below c.name-item.is c.from-item.is c.to-item.is in
    let p = err_from_is_err_and c.from_residual-in_err-from.result c.from_residual-in_err-from.ensures.1 in
    rw (p.1, p.2)
    (fun_first_from c.in_err-from.field-0.0 (earlier_at c.args.sig.now c.args.items.now) c.args.list.0 c.args.parts.now c.name-item.result c.from-item.result c.to-item.result is c.in_ok-name.ensures.clean c.in_err-from.ensures.first)

pub returns-in_err-to-clause-first : goal.returns-in_err-to-clause-first
returns-in_err-to-clause-first c =
    let is = three_items c.args.parts.now c.name-item.result c.from-item.result c.to-item.result c.in-len3.len_at_least c.in-len3.len_below c.name-item.is c.from-item.is c.to-item.is in
    let p = err_from_is_err_and c.from_residual-in_err-to.result c.from_residual-in_err-to.ensures.1 in
    rw (p.1, p.2)
    (fun_first_to c.in_err-to.field-0.0 (earlier_at c.args.sig.now c.args.items.now) c.args.list.0 c.args.parts.now c.name-item.result c.from-item.result c.to-item.result is c.in_ok-name.ensures.clean c.in_ok-from.ensures.clean c.in_err-to.ensures.first)

pub returns-in-Ok-clause-spelled : goal.returns-in-Ok-clause-spelled
returns-in-Ok-clause-spelled c head =
    let is = three_items c.args.parts.now c.name-item.result c.from-item.result c.to-item.result c.in-len3.len_at_least c.in-len3.len_below c.name-item.is c.from-item.is c.to-item.is in
    fun_spelled c.args.sig.now c.add_fun.new.self c.args.items.now c.in-Ok.number c.in_ok-from.from c.in_ok-to.to c.in_ok-name.name c.args.list.0 head c.args.parts.now c.name-item.result c.from-item.result c.to-item.result is c.in-Ok.ensures.number c.in-Ok.ensures.ok c.in_ok-name.ensures.spelled c.in_ok-from.ensures.spelled c.in_ok-to.ensures.spelled

pub returns-in-Ok-clause-clean : goal.returns-in-Ok-clause-clean
returns-in-Ok-clause-clean c =
    let is = three_items c.args.parts.now c.name-item.result c.from-item.result c.to-item.result c.in-len3.len_at_least c.in-len3.len_below c.name-item.is c.from-item.is c.to-item.is in
    fun_none (earlier_at c.args.sig.now c.args.items.now) c.args.list.0 c.args.parts.now c.name-item.result c.from-item.result c.to-item.result is c.in_ok-name.ensures.clean c.in_ok-from.ensures.clean c.in_ok-to.ensures.clean

pub unreachable-requires : goal.unreachable-requires
unreachable-requires c =
    let only : IsOkUnless c.add_fun.result Memory = fun_accepted c.args.sig.now c.args.items.now c.in_ok-name.name (located c.name-item.result) c.in_ok-from.from c.in_ok-to.to (IsOkUnless c.add_fun.result Memory) c.in_ok-name.ensures.spelled c.in_ok-from.ensures.spelled.1 c.in_ok-to.ensures.spelled.1 c.add_fun.ensures.accepts in
    let same : c.in-Err-Repeated.field-0 ≡ Memory = subst (λ (r : Result ℕ SigFault). IsOkUnless r Memory) c.in-Err-Repeated.is only in
    search (rules, same)
