use Rattle.std.proofs.Common.{◌≡◌, ◌++◌, refl, sym, ap, ◌∙◌, subst}
use Rattle.std.proofs.lemmas.Result.{err_from_is_err_and, IfErr-weaker, IfOk-weaker}
use Rattle.std.specs.Map.{keys_of}
use Rattle.std.specs.Option.{unwrap_or}
use Rattle.ipdl_term.specs.Renaming.{renaming_of}
use Rattle.ipdl_term.specs.Terms.{Channel}
use Rattle.ipdl_term.specs.Typing.{port_names}
use Rattle.ipdl_embed.specs.Completing.{channels_of, completed, TellsClash, TellsNoRenaming}
use Rattle.ipdl_embed.specs.Pairs.{named}
use Rattle.ipdl_embed.specs.Tables.{renaming_in}
use Rattle.ipdl_embed.proofs.Completions.{keys_of-named, named-keys, completed-parts, renaming_of-given, TellsClash-append, TellsNoRenaming-clash}
use Rattle.ipdl_embed.proofs.completing.complete.Goals as goal

pub with_ports-requires-2 : goal.with_ports-requires-2
with_ports-requires-2 c =
    named-keys (renaming_in c.in_ok-given.given) c.empty.result c.in_ok-renaming.renaming (port_names c.as_slice.result.now) (rw c.empty.ensures refl) c.in_ok-renaming.ensures.value

pub returns-in_err-renaming-clause-fault : goal.returns-in_err-renaming-clause-fault
returns-in_err-renaming-clause-fault c =
    let i = c.args.interface.now in
    let pairs = c.args.pairs.now in
    let f = renaming_in c.in_ok-given.given in
    let given : (d : Channel) → f d ≡ renaming_of pairs d = λ d. ap (λ o. unwrap_or o d) (c.in_ok-given.ensures d) ∙ renaming_of-given pairs d in
    let p = err_from_is_err_and c.from_residual-in_err-renaming.result c.from_residual-in_err-renaming.ensures.1 in
    let fault = c.in_err-renaming.field-0.0 in
    let whole = completed-parts i pairs f c.empty.result (c.empty.result ++ named f (port_names c.as_slice.result.now)) c.as_slice.result.now i.outputs given c.empty.ensures refl c.as_slice.ensures refl in
    rw (p.1, p.2) (TellsNoRenaming-clash i pairs fault c.in_ok-check_known.ensures.known (TellsClash-append (c.empty.result ++ named f (port_names c.as_slice.result.now)) (named f (port_names i.outputs)) (completed i pairs) fault (sym whole) c.in_err-renaming.ensures.clash))

pub returns-clause-value : goal.returns-clause-value
returns-clause-value c =
    let i = c.args.interface.now in
    let pairs = c.args.pairs.now in
    let f = renaming_in c.in_ok-given.given in
    let given : (d : Channel) → f d ≡ renaming_of pairs d = λ d. ap (λ o. unwrap_or o d) (c.in_ok-given.ensures d) ∙ renaming_of-given pairs d in
    let whole = completed-parts i pairs f c.empty.result c.in_ok-renaming.renaming c.as_slice.result.now c.as_slice-2.result.now given c.empty.ensures c.in_ok-renaming.ensures.value c.as_slice.ensures c.as_slice-2.ensures in
    IfOk-weaker c.with_ports-2.result (λ more. more ≡ c.in_ok-renaming.renaming ++ named f (port_names c.as_slice-2.result.now)) (λ more. more ≡ completed i pairs) (λ more is. is ∙ whole) c.with_ports-2.ensures.value

pub returns-clause-channels : goal.returns-clause-channels
returns-clause-channels c =
    let i = c.args.interface.now in
    let pairs = c.args.pairs.now in
    IfOk-weaker c.with_ports-2.result (λ more. more ≡ completed i pairs) (λ more. keys_of more ≡ channels_of i) (λ more is. ap keys_of is ∙ keys_of-named (renaming_of pairs) (channels_of i)) (returns-clause-value c)

pub returns-clause-fault : goal.returns-clause-fault
returns-clause-fault c =
    let i = c.args.interface.now in
    let pairs = c.args.pairs.now in
    let f = renaming_in c.in_ok-given.given in
    let given : (d : Channel) → f d ≡ renaming_of pairs d = λ d. ap (λ o. unwrap_or o d) (c.in_ok-given.ensures d) ∙ renaming_of-given pairs d in
    let whole = completed-parts i pairs f c.empty.result c.in_ok-renaming.renaming c.as_slice.result.now c.as_slice-2.result.now given c.empty.ensures c.in_ok-renaming.ensures.value c.as_slice.ensures c.as_slice-2.ensures in
    IfErr-weaker c.with_ports-2.result (TellsClash (c.in_ok-renaming.renaming ++ named f (port_names c.as_slice-2.result.now))) (TellsNoRenaming i pairs)
    (λ fault tells. TellsNoRenaming-clash i pairs fault c.in_ok-check_known.ensures.known (subst (λ list. TellsClash list fault) whole tells)) c.with_ports-2.ensures.clash
