use Rattle.ipdl_embed.proofs.PairLaws.{IsIndexed-none}
use Rattle.ipdl_embed.proofs.renaming.Renaming.empty.Goals as goal

pub invariant_of-result : goal.invariant_of-result
invariant_of-result c = rw (c.new.ensures.items, c.new-2.ensures.empty, c.new-3.ensures.empty) IsIndexed-none
