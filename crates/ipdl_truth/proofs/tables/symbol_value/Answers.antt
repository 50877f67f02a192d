use Rattle.std.proofs.Common.{sym, ◌∙◌}
use Rattle.ipdl_truth.proofs.Interpretations.{tables-symbol_value, tables-symbol_value_none}
use Rattle.ipdl_truth.proofs.tables.symbol_value.Goals as goal

pub returns-in-Some : goal.returns-in-Some
returns-in-Some c =
    c.function_value.ensures ∙ sym (tables-symbol_value c.args.sig.now c.args.number c.in-Some.symbol.now c.args.argument (sym c.in-Some.ensures.value))

pub returns-in-None : goal.returns-in-None
returns-in-None c =
    c.nothing.ensures ∙ sym (tables-symbol_value_none c.args.sig.now c.args.number c.args.argument (sym c.in-None.ensures.value))
