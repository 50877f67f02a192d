-- What the binders and the scope that a reader keeps stand for.
use Rattle.std.specs.Prelude.{ℕ, List, [], ◌∷◌}
use Rattle.ipdl_sig.specs.Symbols.{names_of}
use Rattle.ipdl_forms.specs.Scopes.{NameScope}
use Rattle.ipdl_read_terms.specs.declared.scope.NameScope.{NameScope as Held}
use Rattle.ipdl_read_terms.specs.declared.binders.Binders.{Binders, Inner'}
use Rattle.ipdl_read_terms.specs.declared.binders.Binders.TheVariants.{Outermost}

-- the names of the binders around a place, the innermost first
abbrev pub binder_names : Binders → List (List ℕ)
binder_names Outermost = []
binder_names (Inner' _ outside name) = name.now ∷ binder_names outside

-- the scope that a reader keeps
abbrev pub scope_of : Held → NameScope
scope_of held =
    record { symbols = names_of held.sig.now; binders = binder_names held.binders; in_step = held.in_step }
