-- Renamed, nested and plugged terms have no further symbols, and each of their variables has its binder.
use Rattle.std.proofs.Common.{◌≡◌, ℕ, zero, suc, ◌+◌, List, [], ◌∷◌, Option, Some, None, refl, subst}
use Rattle.std.specs.Prelude.{option_map}
use Rattle.ipdl_term.specs.Contexts.{plugged, nested}
use Rattle.ipdl_term.specs.Places.{context_at}
use Rattle.ipdl_term.specs.Renaming.{Renaming, keeping, renamed_reaction, renamed, renamed_context}
use Rattle.ipdl_term.specs.Terms.{Reaction, returning, flipping, reading, branching, binding, Protocol, nil, assignment, parallel, hiding, Context, hole, in_left, in_right, in_hiding}
use Rattle.ipdl_term.specs.Within.{IsReactionWithin, IsProtocolWithin, IsContextWithin}

-- ---- renamed terms

IsReactionWithin-renamed : (n depth : ℕ) (f : Renaming) (r : Reaction) → IsReactionWithin n depth r → IsReactionWithin n depth (renamed_reaction f r)
IsReactionWithin-renamed n depth f (returning e) h = h
IsReactionWithin-renamed n depth f (flipping w) h = h
IsReactionWithin-renamed n depth f (reading c) h = h
IsReactionWithin-renamed n depth f (branching e r s) h = (h.0, IsReactionWithin-renamed n depth f r h.1, IsReactionWithin-renamed n depth f s h.2)
IsReactionWithin-renamed n depth f (binding w r s) h = (IsReactionWithin-renamed n depth f r h.0, IsReactionWithin-renamed n (depth + 1) f s h.1)

module _ (n : ℕ) where
  pub IsProtocolWithin-renamed : (f : Renaming) (p : Protocol) → IsProtocolWithin n p → IsProtocolWithin n (renamed f p)
  IsProtocolWithin-renamed f nil h = h
  IsProtocolWithin-renamed f (assignment c r) h = IsReactionWithin-renamed n 0 f r h
  IsProtocolWithin-renamed f (parallel p q) h = (IsProtocolWithin-renamed f p h.0, IsProtocolWithin-renamed f q h.1)
  IsProtocolWithin-renamed f (hiding c w p) h = IsProtocolWithin-renamed (keeping c f) p h

  pub IsContextWithin-renamed : (f : Renaming) (C : Context) → IsContextWithin n C → IsContextWithin n (renamed_context f C)
  IsContextWithin-renamed f hole h = h
  IsContextWithin-renamed f (in_left C q) h = (IsContextWithin-renamed f C h.0, IsProtocolWithin-renamed f q h.1)
  IsContextWithin-renamed f (in_right q C) h = (IsProtocolWithin-renamed f q h.0, IsContextWithin-renamed f C h.1)
  IsContextWithin-renamed f (in_hiding c w C) h = IsContextWithin-renamed (keeping c f) C h

  -- ---- contexts

  pub IsContextWithin-nested : (C E : Context) → IsContextWithin n C → IsContextWithin n E → IsContextWithin n (nested C E)
  IsContextWithin-nested hole E h k = k
  IsContextWithin-nested (in_left C q) E h k = (IsContextWithin-nested C E h.0 k, h.1)
  IsContextWithin-nested (in_right q C) E h k = (h.0, IsContextWithin-nested C E h.1 k)
  IsContextWithin-nested (in_hiding c w C) E h k = IsContextWithin-nested C E h k

  pub IsProtocolWithin-plugged : (C : Context) (p : Protocol) → IsContextWithin n C → IsProtocolWithin n p → IsProtocolWithin n (plugged C p)
  IsProtocolWithin-plugged hole p h k = k
  IsProtocolWithin-plugged (in_left C q) p h k = (IsProtocolWithin-plugged C p h.0 k, h.1)
  IsProtocolWithin-plugged (in_right q C) p h k = (h.0, IsProtocolWithin-plugged C p h.1 k)
  IsProtocolWithin-plugged (in_hiding c w C) p h k = IsProtocolWithin-plugged C p h k

  -- the context and what is in its hole
  pub parts_within : (C : Context) (p : Protocol) → IsProtocolWithin n (plugged C p) → IsContextWithin n C × IsProtocolWithin n p
  parts_within hole p h = (tt, h)
  parts_within (in_left C q) p h = let parts = parts_within C p h.0 in ((parts.0, h.1), parts.1)
  parts_within (in_right q C) p h = let parts = parts_within C p h.1 in ((h.0, parts.0), parts.1)
  parts_within (in_hiding c w C) p h = parts_within C p h

  -- what holds of a context that is made of an optional one
  at_made : (f : Context → Context) (o : Option Context) (C : Context) → option_map f o ≡ Some C → ((D : Context) → o ≡ Some D → IsContextWithin n (f D)) → IsContextWithin n C
  at_made f None C is within = cc
  at_made f (Some D) C is within = let same : f D ≡ C = cc in subst (IsContextWithin n) same (within D refl)

  -- the context around a place
  pub IsContextWithin-context_at : (p : Protocol) (place : List ℕ) (C : Context) → context_at p place ≡ Some C → IsProtocolWithin n p → IsContextWithin n C
  IsContextWithin-context_at p [] C at h = let e : hole ≡ C = cc in subst (IsContextWithin n) e tt
  IsContextWithin-context_at (parallel p q) (zero ∷ place) C at h =
      at_made (λ D. in_left D q) (context_at p place) C at (λ D e. (IsContextWithin-context_at p place D e h.0, h.1))
  IsContextWithin-context_at (parallel p q) (suc zero ∷ place) C at h =
      at_made (λ D. in_right p D) (context_at q place) C at (λ D e. (h.0, IsContextWithin-context_at q place D e h.1))
  IsContextWithin-context_at (hiding c w p) (zero ∷ place) C at h =
      at_made (λ D. in_hiding c w D) (context_at p place) C at (λ D e. IsContextWithin-context_at p place D e h)
  IsContextWithin-context_at _ _ C at h = cc
