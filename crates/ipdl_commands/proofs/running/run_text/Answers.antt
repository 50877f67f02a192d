use Rattle.std.proofs.Common.{Some, None, IfOk, IfErr, IfSome, refl, sym, subst}
use Rattle.ipdl_forms.proofs.Networks.{network_named-by_copy}
use Rattle.ipdl_commands.proofs.Refusing.{IfRefused-refusal}
use Rattle.ipdl_commands.specs.Lines.{IfRefused, no_item}
use Rattle.ipdl_commands.specs.Lookups.{IsTypedNetwork}
use Rattle.ipdl_commands.specs.Running.{IsRunAnswer, IsRunRefusal}
use Rattle.ipdl_commands.proofs.running.run_text.Goals as goal

pub run_item-requires : goal.run_item-requires
run_item-requires c =
    let found = network_named-by_copy c.args.document.now c.args.name.now _ (Some c.in-Some.item.now) c.in-Ok.ensures c.in-Some.ensures.value in
    subst (λ n. IfSome n (IsTypedNetwork c.args.document.now.sig)) found c.requires.typed

pub returns-in-Some-clause-answered : goal.returns-in-Some-clause-answered
returns-in-Some-clause-answered c =
    let found = network_named-by_copy c.args.document.now c.args.name.now _ (Some c.in-Some.item.now) c.in-Ok.ensures c.in-Some.ensures.value in
    subst (λ n. IfOk c.run_item.result (λ text. IsRunAnswer c.args.document.now.sig c.args.name.now c.args.tape.now n text.items)) (sym found) c.run_item.ensures.answered

pub returns-in-Some-clause-refused : goal.returns-in-Some-clause-refused
returns-in-Some-clause-refused c =
    let found = network_named-by_copy c.args.document.now c.args.name.now _ (Some c.in-Some.item.now) c.in-Ok.ensures c.in-Some.ensures.value in
    subst (λ n. IfErr c.run_item.result (λ fault. IfRefused fault (IsRunRefusal c.args.document.now.sig c.args.name.now c.args.tape.now n))) (sym found) c.run_item.ensures.refused

pub returns-clause-refused : goal.returns-clause-refused
returns-clause-refused c =
    let found = network_named-by_copy c.args.document.now c.args.name.now _ None c.in-Ok.ensures c.in-None.ensures.value in
    subst (λ n. IfRefused c.refused.result (IsRunRefusal c.args.document.now.sig c.args.name.now c.args.tape.now n)) (sym found)
    (IfRefused-refusal _ _ _ _ None no_item refl c.refused.ensures)
