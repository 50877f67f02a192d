use Rattle.std.proofs.Common.{◌≡◌, drop}
use Rattle.ipdl_script.specs.NamedItems.{chain_named}
use Rattle.ipdl_script.proofs.known_named.chain_among.Given as goal

abbrev pub invariant-loop-chain : goal.invariant-loop-chain
invariant-loop-chain l = chain_named l.chains l.name ≡ chain_named (drop l.chain-index l.chains) l.name
