use Rattle.std.proofs.Common.{◌≡◌, Err, ap, subst, ◌∙◌}
use Rattle.ipdl_commands.proofs.Answering.{IsRunAnswer-solved}
use Rattle.ipdl_commands.proofs.Refusing.{IfRefused-refusal, run_refusal-input, run_refusal-symbol, run_refusal-tape}
use Rattle.ipdl_forms.specs.Networks.{network_of}
use Rattle.ipdl_mean.specs.Refusals.{IsShort}
use Rattle.ipdl_mean.specs.declared.fault.NetFault.TheVariants as N
use Rattle.ipdl_mean.specs.declared.fault.SolveFault.TheVariants as S
use Rattle.ipdl_commands.proofs.running.run_item.Goals as goal

pub returns-in-Err-OpenInput-clause-refused : goal.returns-in-Err-OpenInput-clause-refused
returns-in-Err-OpenInput-clause-refused c =
    let is : c.build.result ≡ Err (N.OpenInput c.in-Err-OpenInput.input) = c.in-Err-OpenInput.is ∙ ap Err c.in-Err-OpenInput.field-0-is in
    IfRefused-refusal _ _ _ _ _ _
    (run_refusal-input c.args.sig.now c.args.tape.now (network_of c.args.item.now) _ _ c.text.ensures.value
    ((c.build.ensures.open_input _ (λ e. cc)).0 is))
    c.refused.ensures

pub returns-in-Err-AbstractSymbol-clause-refused :
    goal.returns-in-Err-AbstractSymbol-clause-refused
returns-in-Err-AbstractSymbol-clause-refused c =
    let is : c.build.result ≡ Err (N.AbstractSymbol c.in-Err-AbstractSymbol.symbol) = c.in-Err-AbstractSymbol.is ∙ ap Err c.in-Err-AbstractSymbol.field-0-is in
    IfRefused-refusal _ _ _ _ _ _
    (run_refusal-symbol c.args.sig.now c.args.tape.now (network_of c.args.item.now) _ _ c.symbol_name.ensures
    ((c.build.ensures.abstract_symbol _).0 is))
    c.refused-in-Err-AbstractSymbol.ensures

pub returns-in-Err-ShortTape-clause-refused : goal.returns-in-Err-ShortTape-clause-refused
returns-in-Err-ShortTape-clause-refused c =
    let is : c.solve.result ≡ Err (S.ShortTape c.in-Err-ShortTape.want c.in-Err-ShortTape.got) = c.in-Err-ShortTape.is ∙ ap Err c.in-Err-ShortTape.field-0-is in
    IfRefused-refusal _ _ _ _ _ _
    (run_refusal-tape c.args.sig.now c.args.tape.now (network_of c.args.item.now) _ _ _ _ c.in-Ok.ensures.closed c.in-Ok.ensures.tables c.in-Err-ShortTape.want-is c.in-Err-ShortTape.got-is
    (subst (λ p. IsShort p c.args.tape.now c.in-Err-ShortTape.want c.in-Err-ShortTape.got) c.in-Ok.ensures.network ((c.solve.ensures.short _ _).0 is)))
    c.refused-in-Err-ShortTape.ensures

pub returns-in-Ok-written_text-clause-answered : goal.returns-in-Ok-written_text-clause-answered
returns-in-Ok-written_text-clause-answered c =
    IsRunAnswer-solved c.args.sig.now c.args.name.now c.args.tape.now c.args.item.now c.in-Ok.net c.coins.result _ _ _ _
    c.in-Ok.ensures.network c.in-Ok.ensures.closed c.in-Ok.ensures.tables c.tables_interpret.ensures c.in-Ok-solve.ensures.values
    (λ want got short. let told = (c.solve.ensures.short want got).1 short in let is = c.in-Ok-solve.is in cc)
    c.coins.ensures c.as_slice-outputs.ensures c.as_slice.ensures c.in-Ok-written_text.ensures
