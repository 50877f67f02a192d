use Rattle.std.proofs.Common.{◌≡◌, map, take}
use Rattle.ipdl_mean.specs.Running.{written_in}
use Rattle.ipdl_term.specs.Networks.{written_by}
use Rattle.ipdl_mean.proofs.net.Net.written.Given as goal

-- what is written at the outputs so far
abbrev pub invariant-loop-writer : goal.invariant-loop-writer
invariant-loop-writer l =
    l.written.items ≡ map (λ writer. written_by writer (written_in l.solution.items)) (take l.writer-index l.writer-items)
