use Rattle.std.proofs.Common.{◌++◌, ap, ◌∙◌}
use Rattle.std.specs.Fmt.{decimal}
use Rattle.ipdl_printing.proofs.Blanks.{first_written}
use Rattle.ipdl_chain.proofs.texts.push_spaced.Goals as goal

pub loop-number-init : goal.loop-number-init
loop-number-init c =
    first_written c.args.numbers.now c.args.text.now.items _ c.in-len1-up.len_at_least
    (c.in_ok-push_number.ensures ∙ ap (λ n. c.args.text.now.items ++ decimal n) c.from.ensures)
