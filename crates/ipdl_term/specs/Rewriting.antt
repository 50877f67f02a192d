-- Terms with their variables changed: one lowered, two exchanged, one replaced, two joined. Each is put together from
-- lifting and from putting an expression for variable 0.
use Rattle.std.specs.Prelude.{ℕ, []}
use Rattle.ipdl_term.specs.Terms.{Expression, literal, variable, segment, Reaction}
use Rattle.ipdl_term.specs.Variables.{lifted_reaction, put_expression, put_reaction}

-- without variable 0, where that does not occur: the variables behind it go down by one
abbrev pub lowered_expression : Expression → Expression
lowered_expression e = put_expression 0 e (literal [])

abbrev pub lowered_reaction : Reaction → Reaction
lowered_reaction r = put_reaction 0 r (literal [])

-- the two innermost variables exchanged
abbrev pub exchanged_reaction : Reaction → Reaction
exchanged_reaction r = put_reaction 0 (lifted_reaction r 2 1) (variable 1)

-- an expression in the place of variable 0, which the expression itself may have
abbrev pub replaced_reaction : Reaction → Expression → Reaction
replaced_reaction r e = put_reaction 0 (lifted_reaction r 1 1) e

-- One variable in the place of the two innermost ones: its first v bits for variable 1, and the w bits behind them for
-- variable 0.
abbrev pub joined_reaction : (v w : ℕ) → Reaction → Reaction
joined_reaction v w r =
    put_reaction 0 (put_reaction 0 (lifted_reaction r 2 1) (segment v w (variable 1))) (segment 0 v (variable 0))
