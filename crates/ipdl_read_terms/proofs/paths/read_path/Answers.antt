use Rattle.std.proofs.Common.{subst, sym}
use Rattle.ipdl_forms.specs.Steps.{AreNumbers}
use Rattle.ipdl_read_terms.proofs.PathForms.{IsPathSoFar-end}
use Rattle.ipdl_read_terms.proofs.paths.read_path.Goals as goal

pub returns-clause-spelled : goal.returns-clause-spelled
returns-clause-spelled c =
    (c.in_ok-parts.ensures.list, subst (AreNumbers c.loop-part.path) (sym c.in_ok-parts.ensures.parts) (IsPathSoFar-end c.loop-part.path _ c.loop-part.part-index _ c.loop-part-test.false c.loop-part.invariant))
