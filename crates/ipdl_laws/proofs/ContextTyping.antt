-- Typed contexts: what is typed in their holes is typed within them, they nest, and equal protocols are equal in them.
use Rattle.std.proofs.Common.{◌≡◌, ℕ, ◌≤◌, true, List, Option, Some, None, is_some, refl, sym, ap, ◌∙◌, subst}
use Rattle.ipdl_term.specs.Channels.{same_channel, has, without, union, SameSet, outputs}
use Rattle.ipdl_term.specs.Contexts.{plugged, nested, context_outputs, IsVisibleIn, IsTypedContext, Closes}
use Rattle.ipdl_term.specs.Counts.{history_count}
use Rattle.ipdl_term.specs.Equality.{Equal}
use Rattle.ipdl_term.specs.Interpretations.{Signature}
use Rattle.ipdl_term.specs.Protocols.{coins, written}
use Rattle.ipdl_term.specs.Terms.{Channel, Protocol, Context, hole, in_left, in_right, in_hiding}
use Rattle.ipdl_term.specs.Typing.{Scope, scope_with, IsTyped}
use Rattle.ipdl_laws.specs.Holes.{hole_scope}
use Rattle.ipdl_laws.proofs.Contexts.{plugged-nested, outputs-plugged}
use Rattle.ipdl_laws.proofs.ScopesAgree.{IsTyped_agree}
use Rattle.ipdl_laws.proofs.Sets.{by_test, if-true, if-false, union_same_left, union_same_right, without_same, AreDisjoint_same, AreDisjoint_swap}
use Rattle.ipdl_laws.proofs.Visible.{free_channels_visible}

-- ---- larger scopes

-- what is visible stays so below a hidden channel
IsVisibleIn-scope_with : (inner scope : Scope) (c : Channel) (w : ℕ) → IsVisibleIn inner scope → IsVisibleIn (scope_with c w inner) (scope_with c w scope)
IsVisibleIn-scope_with inner scope c w visible d v h = by_test (same_channel c d)
    (λ e. if-true (same_channel c d) _ _ e ∙ sym (if-true (same_channel c d) (Some w) (inner d) e) ∙ h)
    (λ e. if-false (same_channel c d) _ _ e ∙ visible d v (sym (if-false (same_channel c d) (Some w) (inner d) e) ∙ h))

module _ (sig : Signature) where
  -- a typed protocol is typed where more is visible
  IsTyped_visible : (p : Protocol) (inner scope : Scope) → IsVisibleIn inner scope → IsTyped sig inner p → IsTyped sig scope p
  IsTyped_visible p inner scope visible typed =
      IsTyped_agree sig p inner scope (λ c free. same c (inner c) refl (free_channels_visible sig p inner typed c free)) typed
    where
      same : (c : Channel) (o : Option ℕ) → inner c ≡ o → is_some o ≡ true → inner c ≡ scope c
      same c None e there = cc
      same c (Some w) e there = e ∙ sym (visible c w e)

  -- a typed context is typed where more is visible
  IsTypedContext_visible : (E : Context) (hole_needs : Scope) (written : List Channel) (inner scope : Scope) → IsVisibleIn inner scope → IsTypedContext sig hole_needs written inner E → IsTypedContext sig hole_needs written scope E
  IsTypedContext_visible hole hole_needs written inner scope visible h = λ c w e. visible c w (h c w e)
  IsTypedContext_visible (in_left E q) hole_needs written inner scope visible h =
      (IsTypedContext_visible E hole_needs written inner scope visible h.0, IsTyped_visible q inner scope visible h.1, h.2)
  IsTypedContext_visible (in_right q E) hole_needs written inner scope visible h =
      (IsTyped_visible q inner scope visible h.0, IsTypedContext_visible E hole_needs written inner scope visible h.1, h.2)
  IsTypedContext_visible (in_hiding c w E) hole_needs written inner scope visible h =
      (h.0, IsTypedContext_visible E hole_needs written (scope_with c w inner) (scope_with c w scope) (IsVisibleIn-scope_with inner scope c w visible) h.1, h.2)

  -- ---- what is typed in the hole

  -- a protocol that is typed as the hole needs it is typed in the context
  IsTyped-plugged : (E : Context) (p : Protocol) (inner : Scope) (written : List Channel) (scope : Scope) → IsTyped sig inner p → SameSet (outputs p) written → IsTypedContext sig inner written scope E → IsTyped sig scope (plugged E p)
  IsTyped-plugged hole p inner written scope typed same h = IsTyped_visible p inner scope h typed
  IsTyped-plugged (in_left E q) p inner written scope typed same h =
      (IsTyped-plugged E p inner written scope typed same h.0, h.1, AreDisjoint_same (context_outputs E written) (outputs (plugged E p)) (outputs q) (λ c. sym (outputs-plugged E p written same c)) h.2)
  IsTyped-plugged (in_right q E) p inner written scope typed same h = (
    h.0,
    IsTyped-plugged E p inner written scope typed same h.1,
    AreDisjoint_swap (outputs (plugged E p)) (outputs q) (AreDisjoint_same (context_outputs E written) (outputs (plugged E p)) (outputs q) (λ c. sym (outputs-plugged E p written same c)) (AreDisjoint_swap (outputs q) (context_outputs E written) h.2)),
  )
  IsTyped-plugged (in_hiding c w E) p inner written scope typed same h =
      (h.0, IsTyped-plugged E p inner written (scope_with c w scope) typed same h.1, outputs-plugged E p written same c ∙ h.2)

  -- a context in which a protocol is typed is typed, with a hole for what is visible there
  pub IsTypedContext_of_plugged : (C : Context) (p : Protocol) (inner : Scope) (written : List Channel) (scope : Scope) → SameSet (outputs p) written → IsVisibleIn inner (hole_scope C scope) → IsTyped sig scope (plugged C p) → IsTypedContext sig inner written scope C
  IsTypedContext_of_plugged hole p inner written scope same visible typed = visible
  IsTypedContext_of_plugged (in_left C q) p inner written scope same visible typed =
      (IsTypedContext_of_plugged C p inner written scope same visible typed.0, typed.1, AreDisjoint_same (outputs (plugged C p)) (context_outputs C written) (outputs q) (outputs-plugged C p written same) typed.2)
  IsTypedContext_of_plugged (in_right q C) p inner written scope same visible typed = (
    typed.0,
    IsTypedContext_of_plugged C p inner written scope same visible typed.1,
    AreDisjoint_swap (context_outputs C written) (outputs q) (AreDisjoint_same (outputs (plugged C p)) (context_outputs C written) (outputs q) (outputs-plugged C p written same) (AreDisjoint_swap (outputs q) (outputs (plugged C p)) typed.2)),
  )
  IsTypedContext_of_plugged (in_hiding c w C) p inner written scope same visible typed =
      (typed.0, IsTypedContext_of_plugged C p inner written (scope_with c w scope) same visible typed.1, sym (outputs-plugged C p written same c) ∙ typed.2)

-- ---- nested contexts

-- a context writes what it would write of another list of the same channels
context_outputs_same : (C : Context) (written written' : List Channel) → SameSet written written' → SameSet (context_outputs C written) (context_outputs C written')
context_outputs_same hole written written' same = same
context_outputs_same (in_left C q) written written' same = union_same_left _ _ (outputs q) (context_outputs_same C written written' same)
context_outputs_same (in_right q C) written written' same = union_same_right (outputs q) _ _ (context_outputs_same C written written' same)
context_outputs_same (in_hiding c w C) written written' same = without_same c _ _ (context_outputs_same C written written' same)

-- nested contexts write what the outer one writes of what the inner one writes
context_outputs-nested : (C E : Context) (written : List Channel) → context_outputs (nested C E) written ≡ context_outputs C (context_outputs E written)
context_outputs-nested hole E written = refl
context_outputs-nested (in_left C q) E written = ap (λ cs. union cs (outputs q)) (context_outputs-nested C E written)
context_outputs-nested (in_right q C) E written = ap (union (outputs q)) (context_outputs-nested C E written)
context_outputs-nested (in_hiding c w C) E written = ap (without c) (context_outputs-nested C E written)

module _ (sig : Signature) (E : Context) (inner : Scope) (inner_written : List Channel) (scope : Scope) (written : List Channel) (typed_E : IsTypedContext sig inner inner_written scope E) (same : SameSet (context_outputs E inner_written) written) where
  -- nested contexts write what the outer one writes
  nested_writes : (C : Context) → SameSet (context_outputs C written) (context_outputs (nested C E) inner_written)
  nested_writes C c = sym (context_outputs_same C (context_outputs E inner_written) written same c) ∙ ap (λ cs. has cs c) (sym (context_outputs-nested C E inner_written))

  -- nested typed contexts are typed
  IsTypedContext-nested : (C : Context) (outer_scope : Scope) → IsTypedContext sig scope written outer_scope C → IsTypedContext sig inner inner_written outer_scope (nested C E)
  IsTypedContext-nested hole outer_scope h = IsTypedContext_visible sig E inner inner_written scope outer_scope h typed_E
  IsTypedContext-nested (in_left C q) outer_scope h =
      (IsTypedContext-nested C outer_scope h.0, h.1, AreDisjoint_same (context_outputs C written) (context_outputs (nested C E) inner_written) (outputs q) (nested_writes C) h.2)
  IsTypedContext-nested (in_right q C) outer_scope h = (
    h.0,
    IsTypedContext-nested C outer_scope h.1,
    AreDisjoint_swap (context_outputs (nested C E) inner_written) (outputs q) (AreDisjoint_same (context_outputs C written) (context_outputs (nested C E) inner_written) (outputs q) (nested_writes C) (AreDisjoint_swap (outputs q) (context_outputs C written) h.2)),
  )
  IsTypedContext-nested (in_hiding c w C) outer_scope h =
      (h.0, IsTypedContext-nested C (scope_with c w outer_scope) h.1, sym (nested_writes C c) ∙ h.2)

  -- what closes the outer interface closes, around the inner context, the inner one
  Closes-nested : (C : Context) → Closes sig scope written C → Closes sig inner inner_written (nested C E)
  Closes-nested C closes = (closes.0, IsTypedContext-nested C closes.0 closes.1, λ c. closes.2 c ∙ nested_writes C c)

  -- equal protocols are equal in a typed context
  pub equal_in_context : (p q : Protocol) → Equal sig inner inner_written p q → Equal sig scope written (plugged E p) (plugged E q)
  equal_in_context p q equal = record {
    left = record { typed = IsTyped-plugged sig E p inner inner_written scope equal.left.typed equal.left.writes typed_E; writes = λ c. outputs-plugged E p inner_written equal.left.writes c ∙ same c };
    right = record { typed = IsTyped-plugged sig E q inner inner_written scope equal.right.typed equal.right.writes typed_E; writes = λ c. outputs-plugged E q inner_written equal.right.writes c ∙ same c };
    counts = λ J interprets C closes n hp hq h.
        let at_p = plugged-nested C E p in
        let at_q = plugged-nested C E q in
        let enough_p : coins (plugged (nested C E) p) ≤ n = subst (λ x. coins x ≤ n) (sym at_p) hp in
        let enough_q : coins (plugged (nested C E) q) ≤ n = subst (λ x. coins x ≤ n) (sym at_q) hq in
        ap (λ x. history_count J x n h) (sym at_p) ∙
        equal.counts J interprets (nested C E) (Closes-nested C closes) n enough_p enough_q h ∙
        ap (λ x. history_count J x n h) at_q;
  }
