-- What is gathered is the protocol's own, and sorted by name it gives the shape.
use Rattle.std.proofs.Common.{rules, ◌≡◌, ◌∙◌, sym, ap, ap₂}
use Rattle.std.proofs.lemmas.List.Sorted.{answers_always}
use Rattle.std.proofs.lemmas.Result.{err_from_is_err_and}
use Rattle.std.specs.List.Sorted.{IsSortedBy, IsStableBy}
use Rattle.ipdl_norm.proofs.Gathering.{first_repeated-gathered}
use Rattle.ipdl_norm.proofs.Sorting.{before, before_is_order, sorted_is_by_name}
use Rattle.ipdl_norm.specs.Gathered.{lent_channel, lent_assignment, assignments_of, hidden_of}
use Rattle.ipdl_norm.specs.Shaped.{all_hidden, assignments, by_name, hidden, side_by_side}
use Rattle.ipdl_term.specs.Views.{protocol_of}
use Rattle.ipdl_norm.proofs.shaping.shape.Goals as goal

pub returns-in_err-refuse_repeat-clause-fault : goal.returns-in_err-refuse_repeat-clause-fault
returns-in_err-refuse_repeat-clause-fault c =
    let p = err_from_is_err_and c.from_residual-in_err-refuse_repeat.result c.from_residual-in_err-refuse_repeat.ensures.1 in
    let gathered : hidden_of c.gather.new.channels.items ≡ hidden (protocol_of c.args.proto.now) = rw c.new-channels.ensures.items at c.in_ok-gather.ensures.channels in
    let same = first_repeated-gathered (protocol_of c.args.proto.now) c.in_ok-free.field-0 c.gather.new.channels.items c.in_ok-free.ensures gathered in
    rw (p.1, p.2, ← same, ← c.as_slice.ensures.value) c.in_err-refuse_repeat.ensures.err

pub returns-clause-shape : goal.returns-clause-shape
returns-clause-shape c =
    let p = protocol_of c.args.proto.now in
    let channels : hidden_of c.gather.new.channels.items ≡ hidden p = rw c.new-channels.ensures.items at c.in_ok-gather.ensures.channels in
    let outs : assignments_of c.gather.new.outs.items ≡ assignments p = rw c.new-outs.ensures.items at c.in_ok-gather.ensures.outs in
    let channels_sorted : IsSortedBy (before lent_channel) c.sort_by.new.self.items = c.in_ok-sort_by.ensures.sorted (before lent_channel) (before_is_order lent_channel) (answers_always _ _ _ (λ f a r g h. search rules)) in
    let channels_stable : IsStableBy (before lent_channel) c.gather.new.channels.items c.sort_by.new.self.items = c.sort_by.ensures.stable (before lent_channel) (before_is_order lent_channel) (answers_always _ _ _ (λ f a r g h. search rules)) in
    let outs_sorted : IsSortedBy (before lent_assignment) c.sort_by-2.new.self.items = c.in_ok-sort_by-2.ensures.sorted (before lent_assignment) (before_is_order lent_assignment) (answers_always _ _ _ (λ f a r g h. search rules)) in
    let outs_stable : IsStableBy (before lent_assignment) c.gather.new.outs.items c.sort_by-2.new.self.items = c.sort_by-2.ensures.stable (before lent_assignment) (before_is_order lent_assignment) (answers_always _ _ _ (λ f a r g h. search rules)) in
    c.in_ok-under_all.ensures ∙
    ap₂ all_hidden (sorted_is_by_name lent_channel c.gather.new.channels.items c.sort_by.new.self.items channels_sorted channels_stable ∙ ap by_name channels)
    (c.in_ok-all_beside.ensures ∙ ap side_by_side (sorted_is_by_name lent_assignment c.gather.new.outs.items c.sort_by-2.new.self.items outs_sorted outs_stable ∙ ap by_name outs))

pub returns-clause-different : goal.returns-clause-different
returns-clause-different c =
    let gathered : hidden_of c.gather.new.channels.items ≡ hidden (protocol_of c.args.proto.now) = rw c.new-channels.ensures.items at c.in_ok-gather.ensures.channels in
    let same = first_repeated-gathered (protocol_of c.args.proto.now) c.in_ok-free.field-0 c.gather.new.channels.items c.in_ok-free.ensures gathered in
    let none = rw c.as_slice.ensures.value at c.in_ok-refuse_repeat.ensures.ok in
    sym same ∙ none
