use Rattle.std.proofs.Common.{◌≡◌, drop}
use Rattle.ipdl_embed.specs.Completing.{unknown_channels}
use Rattle.ipdl_embed.proofs.completing.check_known.Given as goal

-- the first names so far are known
abbrev pub invariant-loop-pair : goal.invariant-loop-pair
invariant-loop-pair l = unknown_channels l.fn.interface l.pairs ≡ unknown_channels l.fn.interface (drop l.pair-index l.pairs)
