-- The tidy form of a reaction: no `bind` of a `bind`, of a `ret`, or of what its own second part returns at once.
use Rattle.std.specs.Prelude.{ℕ, zero}
use Rattle.ipdl_term.specs.Terms.{variable, Reaction, returning, flipping, reading, branching, binding}
use Rattle.ipdl_term.specs.Variables.{lifted_reaction, put_reaction}

-- Two tidy reactions one after the other, the second with the value of the first, of this width, as its variable 0. The
-- first line that fits counts: a value that is returned at once keeps no name of its own; an expression stands for the
-- variable; what follows a `bind` goes into its second part, under one binder more.
abbrev pub grafted : ℕ → Reaction → Reaction → Reaction
grafted w r (returning (variable zero)) = r
grafted w (returning e) t = put_reaction 0 t e
grafted w (binding v q s) t = binding v q (grafted w s (lifted_reaction t 1 1))
grafted w r t = binding w r t

-- the tidy form
abbrev pub tidied : Reaction → Reaction
tidied (returning e) = returning e
tidied (flipping w) = flipping w
tidied (reading c) = reading c
tidied (branching e r s) = branching e (tidied r) (tidied s)
tidied (binding w r s) = grafted w (tidied r) (tidied s)
