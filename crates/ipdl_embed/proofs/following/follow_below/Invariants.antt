use Rattle.std.proofs.Common.{◌≡◌, take}
use Rattle.ipdl_embed.specs.Following.{followed, names_of}
use Rattle.ipdl_embed.proofs.following.follow_below.Given as goal

-- the pairs so far are followed
abbrev pub invariant-loop-pair : goal.invariant-loop-pair
invariant-loop-pair l = l.made.items ≡ followed (names_of l.fn.hidden) l.fn.renaming (take l.pair-index l.fn.inner)
