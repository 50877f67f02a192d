use Rattle.std.proofs.Common.{◌∙◌, sym, ap, ap₂}
use Rattle.ipdl_term.specs.Views.{reaction_of}
use Rattle.ipdl_term.specs.Channels.{union, reads}
use Rattle.ipdl_term.proofs.ChannelSets.{union_answered}
use Rattle.ipdl_term.proofs.sets.+reads.Goals as goal

pub returns-in_ok-reads-in-Cond-2 : goal.returns-in_ok-reads-in-Cond-2
returns-in_ok-reads-in-Cond-2 t c =
    let all = ap (λ term. reads (reaction_of term)) c.in-Cond.is ∙ ap₂ (λ r s. union (reads (reaction_of r)) (reads (reaction_of s))) (sym c.deref.ensures) (sym c.deref-in-Cond.ensures) in
    union_answered c.join.result c.in_ok-reads-in-Cond.field-0 _ c.in_ok-reads-in-Cond-2.field-0 _ _ all c.in_ok-reads-in-Cond.ensures c.in_ok-reads-in-Cond-2.ensures c.join.ensures

pub returns-in_ok-reads-in-Bind-2 : goal.returns-in_ok-reads-in-Bind-2
returns-in_ok-reads-in-Bind-2 t c =
    let all = ap (λ term. reads (reaction_of term)) c.in-Bind.is ∙ ap₂ (λ r s. union (reads (reaction_of r)) (reads (reaction_of s))) (sym c.deref-in-Bind.ensures) (sym c.deref-in-Bind-2.ensures) in
    union_answered c.join-in-Bind.result c.in_ok-reads-in-Bind.field-0 _ c.in_ok-reads-in-Bind-2.field-0 _ _ all c.in_ok-reads-in-Bind.ensures c.in_ok-reads-in-Bind-2.ensures c.join-in-Bind.ensures
