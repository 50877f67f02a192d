use Rattle.std.proofs.Common.{◌≡◌, drop}
use Rattle.ipdl_forms.specs.Earlier.{statement_names}
use Rattle.ipdl_forms.specs.Lists.{is_among}
use Rattle.ipdl_read.proofs.earlier.has_statement.Given as goal

-- none so far has the name
abbrev pub invariant-loop-item : goal.invariant-loop-item
invariant-loop-item l =
    is_among (statement_names l.items) l.name ≡ is_among (statement_names (drop l.item-index l.items)) l.name
