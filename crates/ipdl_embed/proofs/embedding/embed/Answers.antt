use Rattle.std.proofs.Common.{refl, ap, ◌∙◌}
use Rattle.ipdl_term.specs.Renaming.{hidden_channels, renamed, renaming_of}
use Rattle.ipdl_term.specs.Views.{protocol_of}
use Rattle.ipdl_embed.proofs.Captures.{none_captured, keeping_all-none}
use Rattle.ipdl_embed.specs.Tables.{holds}
use Rattle.ipdl_embed.proofs.embedding.embed.Goals as goal

pub returns-clause-free : goal.returns-clause-free
returns-clause-free c = none_captured c.args.renaming.now (hidden_channels (protocol_of c.args.proto.now)) c.in_default.ensures

pub returns-clause-instance : goal.returns-clause-instance
returns-clause-instance c = record { is_renamed = c.in_ok-renamed_proto.ensures.value ∙ ap (λ f. renamed f (protocol_of c.args.proto.now)) (keeping_all-none (holds c.new-hidden.result) (renaming_of c.args.renaming.now) (λ d. rw c.new-hidden.ensures.empty refl)); captures_none = returns-clause-free c }
