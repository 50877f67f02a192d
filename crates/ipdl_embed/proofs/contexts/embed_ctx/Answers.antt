use Rattle.ipdl_term.specs.Views.{context_of}
use Rattle.ipdl_embed.specs.Captures.{hidden_in_context}
use Rattle.ipdl_embed.proofs.Captures.{none_captured}
use Rattle.ipdl_embed.proofs.contexts.embed_ctx.Goals as goal

pub returns-clause-free : goal.returns-clause-free
returns-clause-free c = none_captured c.args.renaming.now (hidden_in_context (context_of c.args.ctx.now)) c.in_default.ensures
