use Rattle.std.proofs.Common.{◌≡◌, []}
use Rattle.ipdl_mean.specs.Closed.{body_of, signature_in}
use Rattle.ipdl_mean.proofs.Rounds.{IsSoFar}
use Rattle.ipdl_term.specs.Networks.{network}
use Rattle.ipdl_truth.specs.Tables.{tables_of}
use Rattle.ipdl_mean.proofs.net.Net.round.Given as goal

-- the round has come to an assignment, outside of all binders
abbrev pub invariant-loop-number : goal.invariant-loop-number
invariant-loop-number l = record {
  env : l.run.env.items ≡ [];
  so_far : IsSoFar (tables_of (signature_in l.self)) (network (body_of l.self)) l.tape l.initial.values l.values l.more l.number;
}
