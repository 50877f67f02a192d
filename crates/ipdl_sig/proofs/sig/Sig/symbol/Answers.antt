use Rattle.ipdl_sig.proofs.Numbers.{IsAt-entry, slice_get-symbols_none}
use Rattle.ipdl_sig.proofs.sig.Sig.symbol.Goals as goal

pub returns-in-Some-clause-formed : goal.returns-in-Some-clause-formed
returns-in-Some-clause-formed c =
    (IsAt-entry c.self.inside.symbols.entries _ _ _ _ c.self.invariant c.self.view_is c.in-Some.ensures.entry).formed

pub returns-in-Some-clause-own_number : goal.returns-in-Some-clause-own_number
returns-in-Some-clause-own_number c =
    (IsAt-entry c.self.inside.symbols.entries _ _ _ _ c.self.invariant c.self.view_is c.in-Some.ensures.entry).own_number

pub returns-in-None-clause-value : goal.returns-in-None-clause-value
returns-in-None-clause-value c =
    slice_get-symbols_none c.self.inside.symbols.entries _ _ c.self.view_is c.in-None.ensures.entry
