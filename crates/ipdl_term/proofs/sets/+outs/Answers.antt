use Rattle.std.proofs.Common.{◌∙◌, sym, ap, ap₂}
use Rattle.ipdl_term.specs.Views.{protocol_of}
use Rattle.ipdl_term.specs.Channels.{union, without, outputs}
use Rattle.ipdl_term.proofs.ChannelSets.{union_answered, without_answered}
use Rattle.ipdl_term.proofs.sets.+outs.Goals as goal

pub returns-in_ok-outs-in-Par-2 : goal.returns-in_ok-outs-in-Par-2
returns-in_ok-outs-in-Par-2 t c =
    let all = ap (λ proto. outputs (protocol_of proto)) c.in-Par.is ∙ ap₂ (λ p q. union (outputs (protocol_of p)) (outputs (protocol_of q))) (sym c.deref.ensures) (sym c.deref-in-Par.ensures) in
    union_answered c.join.result c.in_ok-outs-in-Par.field-0 _ c.in_ok-outs-in-Par-2.field-0 _ _ all c.in_ok-outs-in-Par.ensures c.in_ok-outs-in-Par-2.ensures c.join.ensures

pub returns-in_ok-written-in-Hide : goal.returns-in_ok-written-in-Hide
returns-in_ok-written-in-Hide t c =
    let all = ap (λ proto. outputs (protocol_of proto)) c.in-Hide.is ∙ ap (λ p. without c.in-Hide.c (outputs (protocol_of p))) (sym c.deref-in-Hide.ensures) in
    without_answered _ c.in_ok-written-in-Hide.written _ _ c.in-Hide.c all c.in_ok-written-in-Hide.ensures c.remove.ensures
