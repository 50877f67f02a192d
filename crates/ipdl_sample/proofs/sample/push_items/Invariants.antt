use Rattle.std.proofs.Common.{◌≡◌, ◌++◌, ◌-◌}
use Rattle.ipdl_sample.specs.Samples.{items_text}
use Rattle.ipdl_sample.proofs.sample.push_items.Given as goal

-- what is written, and the items to come, are the text
abbrev pub invariant-loop-number : goal.invariant-loop-number
invariant-loop-number l =
    l.text.items ++ items_text l.number (l.fn.count - l.number) ≡ l.initial.text.items ++ items_text 0 l.fn.count
