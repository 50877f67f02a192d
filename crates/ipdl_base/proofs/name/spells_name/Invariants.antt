use Rattle.std.proofs.Common.{◌≡◌, length, drop}
use Rattle.std.specs.Str.{chars}
use Rattle.ipdl_base.specs.Names.{spells_name}
use Rattle.ipdl_base.proofs.NameLemmas.{spells_from}
use Rattle.ipdl_base.proofs.name.spells_name.Given as goal

-- what is left is to be read as the whole is
abbrev pub invariant-loop-c : goal.invariant-loop-c
invariant-loop-c l =
    spells_from l.started (drop (length l.yielded) (chars l.text)) ≡ spells_name (chars l.text)
