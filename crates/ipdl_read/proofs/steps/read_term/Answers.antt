use Rattle.std.proofs.Common.{Some, sym, ◌∙◌, subst}
use Rattle.ipdl_term.specs.Rules.{at_reactions, at_protocols, row_of, heading_of}
use Rattle.ipdl_term.specs.Steps.{rule_of}
use Rattle.ipdl_term.specs.Views.{term_of}
use Rattle.ipdl_tree.specs.Views.{located}
use Rattle.ipdl_forms.specs.Protocols.{protocol_faults}
use Rattle.ipdl_forms.specs.Reactions.{reaction_faults}
use Rattle.ipdl_forms.specs.Steps.{SpellsTerm, term_faults}
use Rattle.ipdl_read_terms.specs.Binders.{scope_of}
use Rattle.ipdl_read_terms.proofs.Outcomes.{IsRead-as}
use Rattle.ipdl_read.proofs.StepReading.{kind_at_reactions, kind_at_protocols, term_faults-reactions, term_faults-protocols}
use Rattle.ipdl_read.proofs.steps.read_term.Goals as goal

pub returns-then-is_at_reactions : goal.returns-then-is_at_reactions
returns-then-is_at_reactions c =
    let S = scope_of c.args.scope.now in
    let rule = rule_of c.args.rule.now in
    let t = located c.args.tree.now in
    let is = sym c.is_at_reactions.ensures ∙ c.if-is_at_reactions.true in
    let same = kind_at_reactions (row_of rule).kind is in
    IsRead-as c.read_reaction.result (λ part. SpellsTerm S at_reactions (term_of part) t) (λ part. SpellsTerm S (row_of rule).kind (term_of part) t) (reaction_faults S (Some 0) t) (term_faults S (Some (heading_of rule)) t) (λ part. subst (λ k. SpellsTerm S k (term_of part) t) (sym same)) (term_faults-reactions S rule t is) c.read_reaction.ensures

pub returns : goal.returns
returns c =
    let S = scope_of c.args.scope.now in
    let rule = rule_of c.args.rule.now in
    let t = located c.args.tree.now in
    let is = sym c.is_at_reactions.ensures ∙ c.if-is_at_reactions.false in
    let same = kind_at_protocols rule c.requires.other is in
    IsRead-as c.read_protocol.result (λ part. SpellsTerm S at_protocols (term_of part) t) (λ part. SpellsTerm S (row_of rule).kind (term_of part) t) (protocol_faults S (Some 0) t) (term_faults S (Some (heading_of rule)) t) (λ part. subst (λ k. SpellsTerm S k (term_of part) t) (sym same)) (term_faults-protocols S rule t c.requires.other is) c.read_protocol.ensures
