use Rattle.std.proofs.Common.{◌∙◌, sym, ap, subst}
use Rattle.std.specs.List.Sorted.{IsStrictlySortedBy}
use Rattle.ipdl_term.specs.Channels.{has}
use Rattle.ipdl_term.proofs.NameOrder.{order, has_from_search}
use Rattle.ipdl_term.proofs.names.Names.has.Goals as goal

pub returns : goal.returns
returns c =
    let searched = c.binary_search.ensures in
    let sorted = subst (IsStrictlySortedBy order) (sym c.deref.ensures.value) c.self.invariant in
    c.is_ok.ensures.value
    ∙ has_from_search _ _ _ sorted searched.bound searched.position
    ∙ ap (λ names. has names c.args.name.now) (c.deref.ensures.value ∙ c.self.view_is)
