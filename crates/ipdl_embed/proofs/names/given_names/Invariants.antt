use Rattle.std.proofs.Common.{◌≡◌, take}
use Rattle.ipdl_term.specs.Terms.{Channel}
use Rattle.ipdl_embed.specs.Pairs.{new_name}
use Rattle.ipdl_embed.specs.Tables.{found_in}
use Rattle.ipdl_embed.proofs.names.given_names.Given as goal

-- the pairs so far are found
abbrev pub invariant-loop-pair : goal.invariant-loop-pair
invariant-loop-pair l = (c : Channel) → found_in l.given c ≡ new_name (take l.pair-index l.pairs) c
