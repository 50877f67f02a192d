use Rattle.std.proofs.Common.{◌≡◌, ◌≤◌, drop}
use Rattle.ipdl_truth.specs.FreeVariables.{total_width}
use Rattle.ipdl_truth.specs.Valuations.{valued, put_in}
use Rattle.ipdl_truth.proofs.enumeration.fill.Given as goal

-- the values that are left, put into what stands there, make the whole
abbrev pub invariant-loop-depth : goal.invariant-loop-depth
invariant-loop-depth l = record {
  rest : l.rest ≡ total_width (drop l.depth-index l.free);
  few : l.rest ≤ 12;
  all : put_in (valued (drop l.depth-index l.free) l.number) l.env ≡ put_in (valued l.free l.number) l.initial.env;
}
