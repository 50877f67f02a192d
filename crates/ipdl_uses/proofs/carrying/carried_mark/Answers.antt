use Rattle.std.proofs.Common.{subst}
use Rattle.ipdl_chain.specs.Views.{IsMarkWithin}
use Rattle.ipdl_uses.proofs.carrying.carried_mark.Goals as goal

pub returns-in-ByAssumption-clause-within : goal.returns-in-ByAssumption-clause-within
returns-in-ByAssumption-clause-within c = λ symbols within around.
    c.carried_by_assumption.ensures.within symbols (subst (IsMarkWithin symbols) c.in-ByAssumption.is within) around
