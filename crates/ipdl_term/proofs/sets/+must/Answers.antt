use Rattle.std.proofs.Common.{◌∙◌, sym, ap, ap₂}
use Rattle.ipdl_term.specs.Views.{reaction_of}
use Rattle.ipdl_term.specs.Channels.{union, intersection, must_reads}
use Rattle.ipdl_term.proofs.ChannelSets.{union_answered, intersection_answered}
use Rattle.ipdl_term.proofs.sets.+must.Goals as goal

pub returns-in_ok-must-in-Cond : goal.returns-in_ok-must-in-Cond
returns-in_ok-must-in-Cond t c =
    let all = ap (λ term. must_reads (reaction_of term)) c.in-Cond.is ∙ ap₂ (λ r s. intersection (must_reads (reaction_of r)) (must_reads (reaction_of s))) (sym c.deref.ensures) (sym c.deref-in-Cond.ensures) in
    intersection_answered _ c.in_ok-names-in-Cond.names _ c.in_ok-must-in-Cond.field-0 _ _ all c.in_ok-names-in-Cond.ensures c.in_ok-must-in-Cond.ensures c.keep_common.ensures

pub returns-in_ok-must-in-Bind-2 : goal.returns-in_ok-must-in-Bind-2
returns-in_ok-must-in-Bind-2 t c =
    let all = ap (λ term. must_reads (reaction_of term)) c.in-Bind.is ∙ ap₂ (λ r s. union (must_reads (reaction_of r)) (must_reads (reaction_of s))) (sym c.deref-in-Bind.ensures) (sym c.deref-in-Bind-2.ensures) in
    union_answered c.join.result c.in_ok-must-in-Bind.field-0 _ c.in_ok-must-in-Bind-2.field-0 _ _ all c.in_ok-must-in-Bind.ensures c.in_ok-must-in-Bind-2.ensures c.join.ensures
