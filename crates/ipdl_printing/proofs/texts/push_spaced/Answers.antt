use Rattle.ipdl_printing.proofs.Blanks.{first_written}
use Rattle.ipdl_printing.proofs.texts.push_spaced.Goals as goal

pub loop-number-init : goal.loop-number-init
loop-number-init c = first_written c.args.numbers.now _ _ c.in-len1-up.len_at_least c.in_ok-write.ensures.bytes
