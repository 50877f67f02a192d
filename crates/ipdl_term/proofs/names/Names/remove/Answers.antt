use Rattle.std.proofs.Common.{◌≡◌, ◌∙◌, sym, ap, subst, not, rules}
use Rattle.std.specs.Prelude.{bytes_eq}
use Rattle.std.specs.List.{filter}
use Rattle.std.specs.List.Sorted.{IsStrictlySortedBy}
use Rattle.std.proofs.lemmas.Fn.{filter_same}
use Rattle.std.proofs.lemmas.List.Kept.{IsStrictlySortedBy-filter}
use Rattle.ipdl_term.specs.Channels.{without}
use Rattle.ipdl_term.proofs.ChannelSets.{filter-other}
use Rattle.ipdl_term.proofs.NameOrder.{order}
use Rattle.ipdl_term.proofs.names.Names.remove.Goals as goal

-- what is left is what is not the name
kept : (c : goal.After-retain) → c.retain.new.self.items ≡ filter (λ held. not (bytes_eq c.args.name.now held)) c.self.inside.names.items
kept c = filter_same _ (λ held. not (bytes_eq c.args.name.now held)) _ (λ x b f' k. search rules) _ _ c.retain.ensures.filtered

pub returns : goal.returns
returns c =
    kept c
    ∙ filter-other c.args.name.now c.self.inside.names.items
    ∙ ap (λ names. without c.args.name.now names) c.self.view_is

pub invariant_of-self : goal.invariant_of-self
invariant_of-self c =
    subst (IsStrictlySortedBy order) (sym (kept c)) (IsStrictlySortedBy-filter order _ _ c.self.invariant)
