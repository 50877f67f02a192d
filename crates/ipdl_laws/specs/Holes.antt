-- Which channels are visible at the hole of a context.
use Rattle.ipdl_term.specs.Terms.{Context, hole, in_left, in_right, in_hiding}
use Rattle.ipdl_term.specs.Typing.{Scope, scope_with}

-- the scope at the hole, given that around the context
abbrev pub hole_scope : Context → Scope → Scope
hole_scope hole scope = scope
hole_scope (in_left C q) scope = hole_scope C scope
hole_scope (in_right q C) scope = hole_scope C scope
hole_scope (in_hiding c w C) scope = hole_scope C (scope_with c w scope)
