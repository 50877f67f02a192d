use Rattle.std.proofs.Common.{◌≡◌, [], length}
use Rattle.ipdl_mean.specs.Closed.{body_of, signature_in}
use Rattle.ipdl_mean.specs.Running.{missing, written_in}
use Rattle.ipdl_term.specs.Networks.{assignment_count, flat_written, network, WrittenWithin}
use Rattle.ipdl_truth.specs.Tables.{tables_of}
use Rattle.ipdl_mean.proofs.net.Net.solution.Given as goal

-- what is written so far is of all that is written in the end
abbrev pub invariant-loop-run : goal.invariant-loop-run
invariant-loop-run l = record {
  count : length l.values.items ≡ assignment_count (body_of l.self);
  env : l.run.env.items ≡ [];
  within : WrittenWithin (written_in l.values.items) (flat_written (tables_of (signature_in l.self)) (network (body_of l.self)) l.tape);
}

-- each round but the last writes a value that is missing
abbrev pub decreases-loop-run : goal.decreases-loop-run
decreases-loop-run l = missing l.values.items
