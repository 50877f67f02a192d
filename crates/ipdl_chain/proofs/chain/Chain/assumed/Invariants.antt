use Rattle.std.proofs.Common.{◌≡◌, ◌≤◌, take}
use Rattle.std.specs.List.{sum_by}
use Rattle.ipdl_chain.specs.Chains.{count_in}
use Rattle.ipdl_chain.specs.Views.{mark_of}
use Rattle.ipdl_chain.proofs.chain.Chain.assumed.Given as goal

-- the marks so far are counted
abbrev pub invariant-loop-mark : goal.invariant-loop-mark
invariant-loop-mark l = record {
  few : l.count ≤ l.mark-index;
  counted : l.count ≡ sum_by (λ mark. count_in l.assumption (mark_of mark)) (take l.mark-index l.self.marks);
}
