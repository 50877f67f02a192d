use Rattle.std.proofs.Common.{sym, ◌∙◌}
use Rattle.ipdl_uses.proofs.HiddenSets.{has_it}
use Rattle.ipdl_uses.proofs.hidden.add_name.Goals as goal

pub returns-then-has : goal.returns-then-has
returns-then-has c = has_it c.args.names.now c.args.name.now (sym c.has.ensures ∙ c.if-has.true)
