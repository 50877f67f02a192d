use Rattle.std.proofs.Common.{◌≡◌, ◌+◌, drop}
use Rattle.std.specs.Option.{option_map}
use Rattle.ipdl_term.specs.Renaming.{renaming_of}
use Rattle.ipdl_term.specs.Typing.{scope_of}
use Rattle.ipdl_embed.specs.Fitting.{first_unfit}
use Rattle.ipdl_embed.proofs.fitting.first_unfit.Given as goal

-- the ports so far fit
abbrev pub invariant-loop-place : goal.invariant-loop-place
invariant-loop-place l =
    first_unfit (scope_of l.fn.visible) (renaming_of l.fn.renaming) l.fn.ports
    ≡ option_map (λ n. l.place + n) (first_unfit (scope_of l.fn.visible) (renaming_of l.fn.renaming) (drop l.place l.fn.ports))
