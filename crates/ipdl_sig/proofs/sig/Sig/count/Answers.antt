use Rattle.ipdl_sig.proofs.Numbers.{AllPairs-numbered}
use Rattle.ipdl_sig.proofs.sig.Sig.count.Goals as goal

pub returns-clause-distinct : goal.returns-clause-distinct
returns-clause-distinct c =
    AllPairs-numbered _ (rw (← c.self.view_is) c.self.invariant.numbered)
