use Rattle.std.proofs.Common.{◌≡◌, drop}
use Rattle.ipdl_embed.specs.Captures.{first_captured_target}
use Rattle.ipdl_embed.proofs.capturing.first_captured_target.Given as goal

-- no new name so far is hidden
abbrev pub invariant-loop-pair : goal.invariant-loop-pair
invariant-loop-pair l = first_captured_target l.pairs l.fn.hidden ≡ first_captured_target (drop l.pair-index l.pairs) l.fn.hidden
