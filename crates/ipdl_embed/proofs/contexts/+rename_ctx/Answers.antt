use Rattle.ipdl_embed.specs.Tables.{holds}
use Rattle.ipdl_embed.proofs.Captures.{left_again}
use Rattle.ipdl_embed.proofs.contexts.+rename_ctx.Goals as goal

pub renamed_ctx-returns-in_ok-copy-in-Hide-clause-hidden : goal.renamed_ctx-returns-in_ok-copy-in-Hide-clause-hidden
renamed_ctx-returns-in_ok-copy-in-Hide-clause-hidden t c =
    left_again c.in-Hide.c c.in_ok-added-in-Hide.added (holds c.args.hidden.now) (holds c.enter.new.names) (holds c.renamed_ctx_box-in-Hide.new.hidden) (holds c.leave.new.names)
    c.in_ok-added-in-Hide.ensures.added c.in_ok-added-in-Hide.ensures.names c.in_ok-inner-in-Hide.ensures.hidden c.leave.ensures
