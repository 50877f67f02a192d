use Rattle.std.proofs.Common.{◌≡◌, ◌||◌, vec_len}
use Rattle.ipdl_term.specs.Terms.{Channel}
use Rattle.ipdl_term.specs.Channels.{has}
use Rattle.ipdl_term.proofs.names.Names.join_each.Given as goal

abbrev pub invariant-loop-name : goal.invariant-loop-name
invariant-loop-name l =
    (c : Channel) → (has l.all c || has l.rest.items c) ≡ (has l.initial.all c || has l.initial.rest.items c)

abbrev pub decreases-loop-name : goal.decreases-loop-name
decreases-loop-name l = vec_len l.rest
