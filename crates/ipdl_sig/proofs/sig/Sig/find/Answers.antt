use Rattle.std.proofs.Common.{sym, ◌∙◌}
use Rattle.ipdl_sig.proofs.Numbers.{is_some-lookup_symbols, symbol_number-place, names_of-symbol_number}
use Rattle.ipdl_sig.proofs.sig.Sig.find.Goals as goal

pub returns-in-Some-clause-none : goal.returns-in-Some-clause-none
returns-in-Some-clause-none c =
    let has = is_some-lookup_symbols _ _ c.args.name.now c.self.invariant c.self.view_is in
    (λ e. sym has ∙ sym c.in-Some.ensures.found ∙ e, λ e. c.in-Some.ensures.found ∙ has ∙ e)

pub returns-in-Some-clause-found : goal.returns-in-Some-clause-found
returns-in-Some-clause-found c =
    names_of-symbol_number _ _ _ (symbol_number-place _ _ c.args.name.now c.self.invariant c.self.view_is ∙ sym c.in-Some.ensures.index)

pub returns-in-None-clause-none : goal.returns-in-None-clause-none
returns-in-None-clause-none c =
    let has = is_some-lookup_symbols _ _ c.args.name.now c.self.invariant c.self.view_is in
    (λ e. sym has ∙ sym c.in-None.ensures.found ∙ e, λ e. c.in-None.ensures.found ∙ has ∙ e)
