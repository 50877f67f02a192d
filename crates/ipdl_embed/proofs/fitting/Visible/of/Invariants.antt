use Rattle.std.proofs.Common.{◌≡◌, take}
use Rattle.ipdl_term.specs.Terms.{Channel}
use Rattle.ipdl_term.specs.Typing.{scope_of}
use Rattle.ipdl_embed.specs.Tables.{seen_in}
use Rattle.ipdl_embed.proofs.fitting.Visible.of.Given as goal

-- the ports so far are seen
abbrev pub invariant-loop-port : goal.invariant-loop-port
invariant-loop-port l = (c : Channel) → seen_in l.widths c ≡ scope_of (take l.port-index l.scope) c
