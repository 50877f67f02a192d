use Rattle.std.proofs.Common.{[], ap, subst, ◌≤◌, ◌<◌}
use Rattle.std.specs.Option.{SomeIff}
use Rattle.ipdl_base.specs.Bits.{bits_of}
use Rattle.ipdl_term.specs.Terms.{literal}
use Rattle.ipdl_rules_p.proofs.new_react.no_bits.Goals as goal

pub returns : goal.returns
unfolding bits_of
returns c = ap literal (subst (λ found. SomeIff found ((0 ≤ 128) × (0 < 1)) []) c.unwrap.ensures c.new.ensures).1
