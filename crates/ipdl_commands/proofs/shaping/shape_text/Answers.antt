use Rattle.std.proofs.Common.{Some, None, IfOk, IfErr, IfSome, refl, sym, subst, length}
use Rattle.ipdl_forms.proofs.Networks.{network_named-by_copy}
use Rattle.ipdl_commands.proofs.Refusing.{IfRefused-shape}
use Rattle.ipdl_commands.specs.Lines.{IfRefused, no_item}
use Rattle.ipdl_commands.specs.Shapes.{HasBodyWithin, IsShapeAnswer, IsShapeRefusal}
use Rattle.ipdl_commands.proofs.shaping.shape_text.Goals as goal

pub shape_item-requires : goal.shape_item-requires
shape_item-requires c =
    let found = network_named-by_copy c.args.document.now c.args.name.now _ (Some c.in-Some.item.now) c.in-Ok.ensures c.in-Some.ensures.value in
    subst (λ n. IfSome n (HasBodyWithin (length c.args.document.now.sig))) found c.requires.within

pub returns-in-Some-clause-answered : goal.returns-in-Some-clause-answered
returns-in-Some-clause-answered c =
    let found = network_named-by_copy c.args.document.now c.args.name.now _ (Some c.in-Some.item.now) c.in-Ok.ensures c.in-Some.ensures.value in
    subst (λ n. IfOk c.shape_item.result (λ text. IsShapeAnswer c.args.document.now.sig n text.items)) (sym found) c.shape_item.ensures.answered

pub returns-in-Some-clause-refused : goal.returns-in-Some-clause-refused
returns-in-Some-clause-refused c =
    let found = network_named-by_copy c.args.document.now c.args.name.now _ (Some c.in-Some.item.now) c.in-Ok.ensures c.in-Some.ensures.value in
    subst (λ n. IfErr c.shape_item.result (λ fault. IfRefused fault (IsShapeRefusal c.args.name.now n))) (sym found) c.shape_item.ensures.refused

pub returns-clause-refused : goal.returns-clause-refused
returns-clause-refused c =
    let found = network_named-by_copy c.args.document.now c.args.name.now _ None c.in-Ok.ensures c.in-None.ensures.value in
    subst (λ n. IfRefused c.refused.result (IsShapeRefusal c.args.name.now n)) (sym found)
    (IfRefused-shape _ _ None no_item refl c.refused.ensures)
