use Rattle.std.proofs.Common.{◌∙◌, [], ◌∷◌, sym, ap, ap₂}
use Rattle.ipdl_term.specs.Views.{protocol_of, reaction_of}
use Rattle.ipdl_term.specs.Channels.{union, without, reads, free_channels}
use Rattle.ipdl_term.proofs.ChannelSets.{union_answered, without_answered}
use Rattle.ipdl_term.proofs.sets.+free.Goals as goal

pub returns-in_ok-reads-in-Out : goal.returns-in_ok-reads-in-Out
returns-in_ok-reads-in-Out t c =
    let all = ap (λ proto. free_channels (protocol_of proto)) c.in-Out.is in
    union_answered c.join.result c.in_ok-single-in-Out.field-0 (c.in-Out.c ∷ []) c.in_ok-reads-in-Out.field-0 (reads (reaction_of c.in-Out.r)) _ all c.in_ok-single-in-Out.ensures c.in_ok-reads-in-Out.ensures c.join.ensures

pub returns-in_ok-free-in-Par-2 : goal.returns-in_ok-free-in-Par-2
returns-in_ok-free-in-Par-2 t c =
    let all = ap (λ proto. free_channels (protocol_of proto)) c.in-Par.is ∙ ap₂ (λ p q. union (free_channels (protocol_of p)) (free_channels (protocol_of q))) (sym c.deref.ensures) (sym c.deref-in-Par.ensures) in
    union_answered c.join-in-Par.result c.in_ok-free-in-Par.field-0 _ c.in_ok-free-in-Par-2.field-0 _ _ all c.in_ok-free-in-Par.ensures c.in_ok-free-in-Par-2.ensures c.join-in-Par.ensures

pub returns-in_ok-names-in-Hide : goal.returns-in_ok-names-in-Hide
returns-in_ok-names-in-Hide t c =
    let all = ap (λ proto. free_channels (protocol_of proto)) c.in-Hide.is ∙ ap (λ p. without c.in-Hide.c (free_channels (protocol_of p))) (sym c.deref-in-Hide.ensures) in
    without_answered _ c.in_ok-names-in-Hide.names _ _ c.in-Hide.c all c.in_ok-names-in-Hide.ensures c.remove.ensures
