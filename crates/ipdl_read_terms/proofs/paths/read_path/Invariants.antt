use Rattle.std.proofs.Common.{drop}
use Rattle.ipdl_tree.specs.Views.{all_located}
use Rattle.ipdl_read_terms.proofs.PathForms.{IsPathSoFar}
use Rattle.ipdl_read_terms.proofs.paths.read_path.Given as goal

-- the numbers so far are read
abbrev pub invariant-loop-part : goal.invariant-loop-part
invariant-loop-part l = IsPathSoFar l.path (all_located (drop l.part-index l.parts)) (all_located l.parts)
