use Rattle.std.proofs.Common.{◌≡◌, ◌+◌, drop}
use Rattle.ipdl_script.specs.Ready.{neighbours_in}
use Rattle.ipdl_script.proofs.theorem.neighbours_in.Given as goal

-- with those that are left they are all
abbrev pub invariant-loop-chain : goal.invariant-loop-chain
invariant-loop-chain l = l.count + neighbours_in (drop l.chain-index l.chains) ≡ neighbours_in l.chains
