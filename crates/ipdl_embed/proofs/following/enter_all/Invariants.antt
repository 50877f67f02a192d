use Rattle.std.proofs.Common.{◌≡◌, ◌||◌, take}
use Rattle.ipdl_term.specs.Channels.{has}
use Rattle.ipdl_term.specs.Terms.{Channel}
use Rattle.ipdl_embed.specs.Following.{names_of}
use Rattle.ipdl_embed.specs.Tables.{holds}
use Rattle.ipdl_embed.proofs.following.enter_all.Given as goal

-- the names so far are there
abbrev pub invariant-loop-name : goal.invariant-loop-name
invariant-loop-name l =
    (c : Channel) → holds l.set c ≡ (has (names_of (take l.name-index l.names)) c || holds l.initial.set c)
