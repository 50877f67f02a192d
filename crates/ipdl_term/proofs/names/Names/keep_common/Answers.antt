use Rattle.std.proofs.Common.{◌≡◌, ◌∙◌, sym, ap, subst, rules}
use Rattle.std.specs.List.{filter}
use Rattle.std.specs.List.Sorted.{IsStrictlySortedBy}
use Rattle.std.proofs.lemmas.Fn.{filter_same}
use Rattle.std.proofs.lemmas.List.Kept.{IsStrictlySortedBy-filter}
use Rattle.ipdl_term.specs.Channels.{has, intersection}
use Rattle.ipdl_term.proofs.ChannelSets.{filter-has}
use Rattle.ipdl_term.proofs.NameOrder.{order}
use Rattle.ipdl_term.proofs.names.Names.keep_common.Goals as goal

-- what is left is what the other set has
kept : (c : goal.After-retain) → c.retain.new.self.items ≡ filter (has c.args.other.now) c.self.inside.names.items
kept c = filter_same _ (has c.args.other.now) _ (λ x b f' k. search rules) _ _ c.retain.ensures.filtered

pub returns : goal.returns
returns c =
    kept c
    ∙ filter-has c.self.inside.names.items c.args.other.now
    ∙ ap (λ names. intersection names c.args.other.now) c.self.view_is

pub invariant_of-self : goal.invariant_of-self
invariant_of-self c =
    subst (IsStrictlySortedBy order) (sym (kept c)) (IsStrictlySortedBy-filter order _ _ c.self.invariant)
