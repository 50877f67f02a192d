-- Where a protocol of an interface is used: in a context, in the names that pairs give its channels.
use Rattle.std.specs.List.{IsDistinct}
use Rattle.std.specs.Map.{keys_of, values_of}
use Rattle.std.specs.Prelude.{◌≡◌, ℕ, List, ◌++◌, map, Some}
use Rattle.ipdl_term.specs.Channels.{same_channel, IsWithin, SameSet}
use Rattle.ipdl_term.specs.Contexts.{context_outputs, IsTypedContext}
use Rattle.ipdl_term.specs.Interpretations.{Signature}
use Rattle.ipdl_term.specs.Renaming.{renaming_of}
use Rattle.ipdl_term.specs.Terms.{Channel, Context}
use Rattle.ipdl_term.specs.Typing.{Scope, scope_of, port_names}
use Rattle.ipdl_term.specs.declared.interface.Interface.{Interface}
use Rattle.ipdl_laws.specs.Holes.{hole_scope}
use Rattle.ipdl_embed.specs.Pairs.{Pairs}

-- each channel of the interface is visible in the scope, under the name that the pairs give it, with its width
abbrev pub AreVisible : Interface → Pairs → Scope → Type 0
AreVisible i pairs scope = (c : Channel) (w : ℕ) → scope_of (i.inputs ++ i.outputs) c ≡ Some w → scope (renaming_of pairs c) ≡ Some w

-- an interface's channels have these names at the hole of a context, which is typed around what is written there
pub record IsSite (sig : Signature) (i : Interface) (pairs : Pairs) (C : Context) (scope : Scope) (written : List Channel) : Type 0 where
  pub named : IsWithin (port_names (i.inputs ++ i.outputs)) (keys_of pairs)
  pub distinct : IsDistinct same_channel (values_of pairs)
  pub visible : AreVisible i pairs (hole_scope C scope)
  pub typed : IsTypedContext sig (hole_scope C scope) (map (renaming_of pairs) (port_names i.outputs)) scope C
  pub writes : SameSet (context_outputs C (map (renaming_of pairs) (port_names i.outputs))) written
