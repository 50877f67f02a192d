use Rattle.std.proofs.Common.{◌≡◌, ◌∙◌, sym, ap, subst, true, is_ok}
use Rattle.std.specs.List.Sorted.{IsStrictlySortedBy}
use Rattle.ipdl_term.specs.Channels.{has}
use Rattle.ipdl_term.proofs.NameOrder.{order, has_from_search, sorted_from_search, SameSet-insert, SameSet-again}
use Rattle.ipdl_term.proofs.names.Names.add.Goals as goal

pub invariant_of-self : goal.invariant_of-self
invariant_of-self c =
    let searched = c.binary_search.ensures in
    let names = c.deref.ensures.value in
    let sorted = subst (IsStrictlySortedBy order) (sym names) c.self.invariant in
    rw (c.in_ok-insert.ensures.items, ← names) (sorted_from_search _ c.args.name c.binary_search.result c.in-Err.place c.in-Err.is sorted searched.bound searched.position)

pub returns-in_ok-insert-clause-ok : goal.returns-in_ok-insert-clause-ok
returns-in_ok-insert-clause-ok c =
    rw (c.in_ok-insert.ensures.items, c.self.view_is) (SameSet-insert c.args.self.now c.in-Err.place c.args.name)

pub returns-in_default-clause-ok : goal.returns-in_default-clause-ok
returns-in_default-clause-ok c =
    let searched = c.binary_search.ensures in
    let sorted = subst (IsStrictlySortedBy order) (sym c.deref.ensures.value) c.self.invariant in
    let held : has c.deref.result.now c.args.name ≡ true = sym (has_from_search c.deref.result.now c.args.name c.binary_search.result sorted searched.bound searched.position) ∙ ap is_ok c.in_default.is in
    SameSet-again c.args.self.now c.args.name (subst (λ names. has names c.args.name ≡ true) (c.deref.ensures.value ∙ c.self.view_is) held)
