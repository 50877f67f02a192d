-- Places of protocols in protocols: the context around a place, and a part replaced by an alike or an equal one.
use Rattle.std.proofs.Common.{◌≡◌, ℕ, zero, suc, List, [], ◌∷◌, Some, refl, sym, ap, ◌∙◌, subst}
use Rattle.std.specs.Prelude.{option_map}
use Rattle.ipdl_term.specs.Channels.{has, outputs, SameSet}
use Rattle.ipdl_term.specs.Contexts.{plugged, context_outputs, IsVisibleIn}
use Rattle.ipdl_term.specs.Equality.{Equal}
use Rattle.ipdl_term.specs.Interpretations.{Signature, Interpretation, Interprets}
use Rattle.ipdl_term.specs.Places.{protocol_or, term_at, term_with, context_at}
use Rattle.ipdl_term.specs.Surroundings.{outermost, around}
use Rattle.ipdl_term.specs.Terms.{Channel, Expression, application, exclusive, conjunction, negation, concatenation, segment, equality, selection, Reaction, returning, branching, binding, Protocol, assignment, parallel, hiding, Context, hole, in_left, in_right, in_hiding, Term, protocol_term, reaction_term, expression_term}
use Rattle.ipdl_term.specs.Typing.{Scope, scope_with, IsTyped, Typed}
use Rattle.ipdl_laws.specs.Alike.{Alike}
use Rattle.ipdl_laws.specs.Holes.{hole_scope}
use Rattle.ipdl_laws.specs.MeanSame.{MeanSame}
use Rattle.ipdl_laws.proofs.Congruence.{alike_beside_left, alike_beside_right, alike_under_hiding}
use Rattle.ipdl_laws.proofs.Contexts.{outputs-plugged}
use Rattle.ipdl_laws.proofs.ContextTyping.{IsTypedContext_of_plugged, equal_in_context}
use Rattle.ipdl_laws.proofs.PartLaws.{same_in_protocol}
use Rattle.ipdl_laws.proofs.Widths.{KeepsScope-protocol_valuation}

module _ (sig : Signature) (J : Interpretation) (interprets : Interprets sig J) where
  -- in a context in which the first is typed
  pub alike_at_hole : (p q : Protocol) (C : Context) (scope : Scope) → IsTyped sig scope (plugged C p) → Alike J (hole_scope C scope) p q → Alike J scope (plugged C p) (plugged C q)
  alike_at_hole p q hole scope typed alike = alike
  alike_at_hole p q (in_left C r) scope typed alike =
      alike_beside_left J scope (plugged C p) (plugged C q) r (alike_at_hole p q C scope typed.0 alike) typed.2 (KeepsScope-protocol_valuation sig J interprets r scope typed.1)
  alike_at_hole p q (in_right r C) scope typed alike =
      alike_beside_right J scope (plugged C p) (plugged C q) r (alike_at_hole p q C scope typed.1 alike) typed.2 (KeepsScope-protocol_valuation sig J interprets r scope typed.0)
  alike_at_hole p q (in_hiding c w C) scope typed alike =
      alike_under_hiding J scope c w (plugged C p) (plugged C q) (alike_at_hole p q C (scope_with c w scope) typed.1 alike)

  -- at a place of a typed protocol
  pub alike_at_place : (p q : Protocol) (place : List ℕ) (old new : Protocol) (scope : Scope) → IsTyped sig scope p →
      term_at (protocol_term p) place ≡ Some (protocol_term old) → term_with (protocol_term p) place (protocol_term new) ≡ protocol_term q →
      Alike J (around (outermost scope) (protocol_term p) place).scope old new → Alike J scope p q
  alike_at_place p q place old new scope typed at with alike =
      let h = same_in_protocol sig J interprets scope p typed place (protocol_term old) (protocol_term new) at alike in
      of_term (term_with (protocol_term p) place (protocol_term new)) with h
    where
      of_term : (t : Term) → t ≡ protocol_term q → MeanSame J (outermost scope) (protocol_term p) t → Alike J scope p q
      of_term t e h = subst (MeanSame J (outermost scope) (protocol_term p)) e h

-- ---- the context around a place

-- no protocol stands in an expression
none_in_expression : (e : Expression) (place : List ℕ) (p : Protocol) → term_at (expression_term e) place ≡ Some (protocol_term p) → ⊥
none_in_expression e [] p at = cc
none_in_expression (application f a) (zero ∷ place) p at = none_in_expression a place p at
none_in_expression (exclusive a b) (zero ∷ place) p at = none_in_expression a place p at
none_in_expression (exclusive a b) (suc zero ∷ place) p at = none_in_expression b place p at
none_in_expression (conjunction a b) (zero ∷ place) p at = none_in_expression a place p at
none_in_expression (conjunction a b) (suc zero ∷ place) p at = none_in_expression b place p at
none_in_expression (negation a) (zero ∷ place) p at = none_in_expression a place p at
none_in_expression (concatenation a b) (zero ∷ place) p at = none_in_expression a place p at
none_in_expression (concatenation a b) (suc zero ∷ place) p at = none_in_expression b place p at
none_in_expression (segment i n a) (zero ∷ place) p at = none_in_expression a place p at
none_in_expression (equality a b) (zero ∷ place) p at = none_in_expression a place p at
none_in_expression (equality a b) (suc zero ∷ place) p at = none_in_expression b place p at
none_in_expression (selection c a b) (zero ∷ place) p at = none_in_expression c place p at
none_in_expression (selection c a b) (suc zero ∷ place) p at = none_in_expression a place p at
none_in_expression (selection c a b) (suc (suc zero) ∷ place) p at = none_in_expression b place p at
none_in_expression _ _ p at = cc

-- nor in a reaction
none_in_reaction : (r : Reaction) (place : List ℕ) (p : Protocol) → term_at (reaction_term r) place ≡ Some (protocol_term p) → ⊥
none_in_reaction r [] p at = cc
none_in_reaction (returning e) (zero ∷ place) p at = none_in_expression e place p at
none_in_reaction (branching e r s) (zero ∷ place) p at = none_in_expression e place p at
none_in_reaction (branching e r s) (suc zero ∷ place) p at = none_in_reaction r place p at
none_in_reaction (branching e r s) (suc (suc zero) ∷ place) p at = none_in_reaction s place p at
none_in_reaction (binding w r s) (zero ∷ place) p at = none_in_reaction r place p at
none_in_reaction (binding w r s) (suc zero ∷ place) p at = none_in_reaction s place p at
none_in_reaction _ _ p at = cc

-- a context, and what it has to do with a place
record IsAround (p : Protocol) (place : List ℕ) (old : Protocol) (C : Context) : Type 0 where
  pub context : context_at p place ≡ Some C
  pub whole : p ≡ plugged C old
  pub replaced : (new : Protocol) → term_with (protocol_term p) place (protocol_term new) ≡ protocol_term (plugged C new)
  pub surroundings : (scope : Scope) → around (outermost scope) (protocol_term p) place ≡ outermost (hole_scope C scope)

-- where a protocol stands at a place, there is a context around it
context_there : (p : Protocol) (place : List ℕ) (old : Protocol) → term_at (protocol_term p) place ≡ Some (protocol_term old) → (C : Context) × IsAround p place old C
context_there p [] old at = (hole, record { context = refl; whole = let e : p ≡ old = cc in e; replaced = λ new. refl; surroundings = λ scope. refl })
context_there (assignment c r) (zero ∷ place) old at = absurd (none_in_reaction r place old at)
context_there (parallel a b) (zero ∷ place) old at =
    let C = context_there a place old at in (
      in_left C.0 b,
      record {
        context = ap (option_map (λ D. in_left D b)) C.1.context;
        whole = ap (λ x. parallel x b) C.1.whole;
        replaced = λ new. ap (λ x. protocol_term (parallel (protocol_or a x) b)) (C.1.replaced new);
        surroundings = C.1.surroundings;
      },
    )
context_there (parallel a b) (suc zero ∷ place) old at =
    let C = context_there b place old at in (
      in_right a C.0,
      record {
        context = ap (option_map (λ D. in_right a D)) C.1.context;
        whole = ap (λ x. parallel a x) C.1.whole;
        replaced = λ new. ap (λ x. protocol_term (parallel a (protocol_or b x))) (C.1.replaced new);
        surroundings = C.1.surroundings;
      },
    )
context_there (hiding c w a) (zero ∷ place) old at =
    let C = context_there a place old at in (
      in_hiding c w C.0,
      record {
        context = ap (option_map (λ D. in_hiding c w D)) C.1.context;
        whole = ap (λ x. hiding c w x) C.1.whole;
        replaced = λ new. ap (λ x. protocol_term (hiding c w (protocol_or a x))) (C.1.replaced new);
        surroundings = λ scope. C.1.surroundings (scope_with c w scope);
      },
    )
context_there _ _ old at = cc

-- the same as facts
pub context_at_place : (p : Protocol) (place : List ℕ) (old : Protocol) → term_at (protocol_term p) place ≡ Some (protocol_term old) →
    (C : Context) × (context_at p place ≡ Some C) × (p ≡ plugged C old) ×
    ((new : Protocol) → term_with (protocol_term p) place (protocol_term new) ≡ protocol_term (plugged C new)) ×
    ((scope : Scope) → around (outermost scope) (protocol_term p) place ≡ outermost (hole_scope C scope))
context_at_place p place old at =
    let C = context_there p place old at in (C.0, C.1.context, C.1.whole, C.1.replaced, C.1.surroundings)

-- a part replaced by an equal one, in an interface that is visible at the hole, leaves the whole equal
pub equal_at_place : (sig : Signature) (scope : Scope) (written : List Channel) (inner : Scope) (inner_written : List Channel) (p q : Protocol) (place : List ℕ) (old new : Protocol) →
    Typed sig scope p written → term_at (protocol_term p) place ≡ Some (protocol_term old) → term_with (protocol_term p) place (protocol_term new) ≡ protocol_term q →
    IsVisibleIn inner (around (outermost scope) (protocol_term p) place).scope → Equal sig inner inner_written old new → Equal sig scope written p q
equal_at_place sig scope written inner inner_written p q place old new typed at with visible equal =
    let found = context_there p place old at in
    let C = found.0 in
    let is_plugged = found.1.whole in
    let visible_there : IsVisibleIn inner (hole_scope C scope) = subst (λ s. IsVisibleIn inner s.scope) (found.1.surroundings scope) visible in
    let typed_C = IsTypedContext_of_plugged sig C old inner inner_written scope equal.left.writes visible_there (subst (IsTyped sig scope) is_plugged typed.typed) in
    let same : SameSet (context_outputs C inner_written) written = λ c. sym (outputs-plugged C old inner_written equal.left.writes c) ∙ ap (λ x. has (outputs x) c) (sym is_plugged) ∙ typed.writes c in
    let new_whole : plugged C new ≡ q = let e : protocol_term (plugged C new) ≡ protocol_term q = sym (found.1.replaced new) ∙ with in cc in
    let wholes = equal_in_context sig C inner inner_written scope written typed_C same old new equal in
    subst (λ x. Equal sig scope written p x) new_whole (subst (λ x. Equal sig scope written x (plugged C new)) (sym is_plugged) wholes)
