-- Sites: what is used at one is typed, and equal protocols are equal there.
use Rattle.std.proofs.Common.{◌≡◌, ℕ, List, ◌++◌, map, Some, sym, ap, ◌∙◌, subst}
use Rattle.std.specs.List.{IsDistinct}
use Rattle.std.specs.Map.{keys_of, values_of}
use Rattle.ipdl_term.specs.Channels.{same_channel, IsWithin, AreDisjoint}
use Rattle.ipdl_term.specs.Contexts.{plugged}
use Rattle.ipdl_term.specs.Equality.{Equal}
use Rattle.ipdl_term.specs.Interpretations.{Signature}
use Rattle.ipdl_term.specs.Places.{term_at, term_with, context_at}
use Rattle.ipdl_term.specs.Renaming.{renamed, renaming_of, hidden_channels}
use Rattle.ipdl_term.specs.Surroundings.{around, outermost}
use Rattle.ipdl_term.specs.Terms.{Channel, Protocol, Context, protocol_term}
use Rattle.ipdl_term.specs.Typing.{Scope, Typed, scope_of, port_names, HasInterface}
use Rattle.ipdl_term.specs.declared.interface.Interface.{Interface}
use Rattle.ipdl_laws.specs.Holes.{hole_scope}
use Rattle.ipdl_laws.proofs.ClosingContexts.{scope_of_names}
use Rattle.ipdl_laws.proofs.Contexts.{outputs-plugged}
use Rattle.ipdl_laws.proofs.ContextTyping.{IsTypedContext_of_plugged, equal_in_context}
use Rattle.ipdl_laws.proofs.EqualLaws.{equal_refl}
use Rattle.ipdl_laws.proofs.PlaceLaws.{context_at_place}
use Rattle.ipdl_laws.proofs.RenamedEqual.{equal_renamed}
use Rattle.ipdl_laws.proofs.RenamingPairs.{pairs_are_injective, pairs_capture_none}
use Rattle.ipdl_embed.specs.Pairs.{Pairs}
use Rattle.ipdl_instances.specs.Sites.{AreVisible, IsSite}

-- ---- in other names

module _ (sig : Signature) (i : Interface) (pairs : Pairs) (named : IsWithin (port_names (i.inputs ++ i.outputs)) (keys_of pairs)) (distinct : IsDistinct same_channel (values_of pairs)) where
  -- equal protocols of an interface are equal in the names that the pairs give, where those are visible
  pub equal_in_names : (outer : Scope) → AreVisible i pairs outer → (u v : Protocol) → AreDisjoint (values_of pairs) (hidden_channels u) → AreDisjoint (values_of pairs) (hidden_channels v) →
      Equal sig (scope_of (i.inputs ++ i.outputs)) (port_names i.outputs) u v → Equal sig outer (map (renaming_of pairs) (port_names i.outputs)) (renamed (renaming_of pairs) u) (renamed (renaming_of pairs) v)
  equal_in_names outer visible u v apart_u apart_v equal =
      let ports = i.inputs ++ i.outputs in
      equal_renamed (renaming_of pairs) (keys_of pairs) (pairs_are_injective pairs distinct) sig (scope_of ports) outer (port_names i.outputs)
      (λ c h. named c (sym (scope_of_names ports c) ∙ h)) visible u v (pairs_capture_none pairs u apart_u) (pairs_capture_none pairs v apart_v) equal

  -- and a protocol of the interface is typed in them
  pub typed_in_names : (outer : Scope) → AreVisible i pairs outer → (p : Protocol) → HasInterface sig i p → AreDisjoint (values_of pairs) (hidden_channels p) → Typed sig outer (renamed (renaming_of pairs) p) (map (renaming_of pairs) (port_names i.outputs))
  typed_in_names outer visible p has_interface apart =
      let itself = equal_refl sig (scope_of (i.inputs ++ i.outputs)) (port_names i.outputs) p has_interface in
      let equal = equal_in_names outer visible p p apart apart itself in equal.left

  -- ---- sites

  -- the context around a protocol of the interface
  pub site_of_instance : (C : Context) (scope : Scope) (written : List Channel) → AreVisible i pairs (hole_scope C scope) → (p : Protocol) → HasInterface sig i p → AreDisjoint (values_of pairs) (hidden_channels p) →
      Typed sig scope (plugged C (renamed (renaming_of pairs) p)) written → IsSite sig i pairs C scope written
  site_of_instance C scope written visible p has_interface apart whole =
      let f = renaming_of pairs in
      let new = map f (port_names i.outputs) in
      let part = typed_in_names (hole_scope C scope) visible p has_interface apart in
      record {
        named = named;
        distinct = distinct;
        visible = visible;
        typed = IsTypedContext_of_plugged sig C (renamed f p) (hole_scope C scope) new scope part.writes (λ c w e. e) whole.typed;
        writes = λ c. sym (outputs-plugged C (renamed f p) new part.writes c) ∙ whole.writes c;
      }

module _ (sig : Signature) (i : Interface) (pairs : Pairs) (C : Context) (scope : Scope) (written : List Channel) (site : IsSite sig i pairs C scope written) where
  -- equal protocols of the interface are equal at the site
  pub instances_are_equal : (u v : Protocol) → AreDisjoint (values_of pairs) (hidden_channels u) → AreDisjoint (values_of pairs) (hidden_channels v) →
      Equal sig (scope_of (i.inputs ++ i.outputs)) (port_names i.outputs) u v → Equal sig scope written (plugged C (renamed (renaming_of pairs) u)) (plugged C (renamed (renaming_of pairs) v))
  instances_are_equal u v apart_u apart_v equal =
      equal_in_context sig C (hole_scope C scope) (map (renaming_of pairs) (port_names i.outputs)) scope written site.typed site.writes _ _
      (equal_in_names sig i pairs site.named site.distinct (hole_scope C scope) site.visible u v apart_u apart_v equal)

  -- and each is typed there
  pub instance_is_typed : (u : Protocol) → HasInterface sig i u → AreDisjoint (values_of pairs) (hidden_channels u) → Typed sig scope (plugged C (renamed (renaming_of pairs) u)) written
  instance_is_typed u has_interface apart =
      let itself = equal_refl sig (scope_of (i.inputs ++ i.outputs)) (port_names i.outputs) u has_interface in
      let equal = instances_are_equal u u apart apart itself in equal.left

-- ---- places

-- the context at a place, and what stands there
pub place_of_context : (p : Protocol) (place : List ℕ) (C : Context) (q : Protocol) → context_at p place ≡ Some C → term_at (protocol_term p) place ≡ Some (protocol_term q) →
    (p ≡ plugged C q) × ((new : Protocol) → term_with (protocol_term p) place (protocol_term new) ≡ protocol_term (plugged C new)) × ((scope : Scope) → (around (outermost scope) (protocol_term p) place).scope ≡ hole_scope C scope)
place_of_context p place C q around_it there =
    let found = context_at_place p place q there in
    let same : found.0 ≡ C = let e : Some found.0 ≡ Some C = sym found.1 ∙ around_it in cc in (
      found.2 ∙ ap (λ D. plugged D q) same,
      λ new. found.3 new ∙ ap (λ D. protocol_term (plugged D new)) same,
      λ scope. ap (λ s. s.scope) (found.4 scope) ∙ ap (λ D. hole_scope D scope) same,
    )

-- the context at the place of a protocol of the interface
pub site_at_place : (sig : Signature) (i : Interface) (pairs : Pairs) → IsWithin (port_names (i.inputs ++ i.outputs)) (keys_of pairs) → IsDistinct same_channel (values_of pairs) →
    (scope : Scope) (written : List Channel) (p : Protocol) (place : List ℕ) (C : Context) → Typed sig scope p written → context_at p place ≡ Some C →
    (q : Protocol) → term_at (protocol_term p) place ≡ Some (protocol_term (renamed (renaming_of pairs) q)) → HasInterface sig i q → AreDisjoint (values_of pairs) (hidden_channels q) →
    AreVisible i pairs (around (outermost scope) (protocol_term p) place).scope → IsSite sig i pairs C scope written
site_at_place sig i pairs named distinct scope written p place C typed around_it q there has_interface apart visible =
    let found = place_of_context p place C (renamed (renaming_of pairs) q) around_it there in
    site_of_instance sig i pairs named distinct C scope written (subst (AreVisible i pairs) (found.2 scope) visible) q has_interface apart
    (subst (λ x. Typed sig scope x written) found.0 typed)
