use Rattle.std.proofs.Common.{ap, ◌∙◌, length, ◌==◌}
use Rattle.ipdl_rules_p.proofs.PlacedReads.{length_is_zero, is_empty-same}
use Rattle.ipdl_rules_p.proofs.applying.writes_nothing.Goals as goal

pub returns : goal.returns
returns c = c.is_empty.ensures ∙ ap (λ names. length names == 0) c.list.ensures.value ∙ length_is_zero _ ∙ is_empty-same _ _ c.in_ok-written.ensures
