-- A reaction in a typed protocol, replaced at its place by one that has its width there, leaves the whole typed.
use Rattle.std.proofs.Common.{◌≡◌, ℕ, zero, suc, true, false, List, [], ◌∷◌, Some, refl, sym, ap, ◌∙◌, subst}
use Rattle.ipdl_term.specs.Channels.{has, union, without, AreDisjoint, outputs}
use Rattle.ipdl_term.specs.Interpretations.{Signature}
use Rattle.ipdl_term.specs.Places.{reaction_or, protocol_or, term_at, term_with}
use Rattle.ipdl_term.specs.Surroundings.{Surroundings, outermost, in_arm, under_binder, around}
use Rattle.ipdl_term.specs.Terms.{Channel, Expression, application, exclusive, conjunction, negation, concatenation, segment, equality, selection, Reaction, returning, branching, binding, Protocol, assignment, parallel, hiding, Term, protocol_term, reaction_term, expression_term}
use Rattle.ipdl_term.specs.Typing.{Scope, scope_with, GivesWidth, IsTyped, Typed}

-- no reaction stands in an expression
pub none_in_expression : (e : Expression) (place : List ℕ) (r : Reaction) → term_at (expression_term e) place ≡ Some (reaction_term r) → ⊥
none_in_expression e [] r at = cc
none_in_expression (application f a) (zero ∷ place) r at = none_in_expression a place r at
none_in_expression (exclusive a b) (zero ∷ place) r at = none_in_expression a place r at
none_in_expression (exclusive a b) (suc zero ∷ place) r at = none_in_expression b place r at
none_in_expression (conjunction a b) (zero ∷ place) r at = none_in_expression a place r at
none_in_expression (conjunction a b) (suc zero ∷ place) r at = none_in_expression b place r at
none_in_expression (negation a) (zero ∷ place) r at = none_in_expression a place r at
none_in_expression (concatenation a b) (zero ∷ place) r at = none_in_expression a place r at
none_in_expression (concatenation a b) (suc zero ∷ place) r at = none_in_expression b place r at
none_in_expression (segment i n a) (zero ∷ place) r at = none_in_expression a place r at
none_in_expression (equality a b) (zero ∷ place) r at = none_in_expression a place r at
none_in_expression (equality a b) (suc zero ∷ place) r at = none_in_expression b place r at
none_in_expression (selection c a b) (zero ∷ place) r at = none_in_expression c place r at
none_in_expression (selection c a b) (suc zero ∷ place) r at = none_in_expression a place r at
none_in_expression (selection c a b) (suc (suc zero) ∷ place) r at = none_in_expression b place r at
none_in_expression _ _ r at = cc

module _ (sig : Signature) (old new : Reaction) where
  -- the new one has each width there that the old one has
  abbrev pub KeepsWidth : Surroundings → Type 0
  KeepsWidth s = (w : ℕ) → GivesWidth sig s.scope s.widths old w → GivesWidth sig s.scope s.widths new w

  -- ---- in a reaction

  -- a reaction of the width
  abbrev GivesWidthThere : Surroundings → ℕ → Term → Type 0
  GivesWidthThere s w (reaction_term r) = GivesWidth sig s.scope s.widths r w
  GivesWidthThere s w _ = ⊥

  in_first_arm : (s : Surroundings) (e : Expression) (r q : Reaction) (w : ℕ) (x : Term) → GivesWidth sig s.scope s.widths (branching e r q) w → GivesWidthThere s w x → GivesWidthThere s w (reaction_term (branching e (reaction_or r x) q))
  in_first_arm s e r q w (reaction_term y) typed h = (typed.0, h, typed.2)
  in_first_arm s e r q w _ typed h = absurd h

  in_second_arm : (s : Surroundings) (e : Expression) (r q : Reaction) (w : ℕ) (x : Term) → GivesWidth sig s.scope s.widths (branching e r q) w → GivesWidthThere s w x → GivesWidthThere s w (reaction_term (branching e r (reaction_or q x)))
  in_second_arm s e r q w (reaction_term y) typed h = (typed.0, typed.1, h)
  in_second_arm s e r q w _ typed h = absurd h

  in_first_part : (s : Surroundings) (v : ℕ) (r q : Reaction) (w : ℕ) (x : Term) → GivesWidth sig s.scope s.widths (binding v r q) w → GivesWidthThere s v x → GivesWidthThere s w (reaction_term (binding v (reaction_or r x) q))
  in_first_part s v r q w (reaction_term y) typed h = (h, typed.1)
  in_first_part s v r q w _ typed h = absurd h

  in_second_part : (s : Surroundings) (v : ℕ) (r q : Reaction) (w : ℕ) (x : Term) → GivesWidth sig s.scope s.widths (binding v r q) w → GivesWidthThere (under_binder s v) w x → GivesWidthThere s w (reaction_term (binding v r (reaction_or q x)))
  in_second_part s v r q w (reaction_term y) typed h = (typed.0, h)
  in_second_part s v r q w _ typed h = absurd h

  typed_in_reaction : (s : Surroundings) (r : Reaction) (w : ℕ) (place : List ℕ) → GivesWidth sig s.scope s.widths r w → term_at (reaction_term r) place ≡ Some (reaction_term old) → KeepsWidth (around s (reaction_term r) place) → GivesWidthThere s w (term_with (reaction_term r) place (reaction_term new))
  typed_in_reaction s r w [] typed at keeps = let e : r ≡ old = cc in keeps w (subst (λ x. GivesWidth sig s.scope s.widths x w) e typed)
  typed_in_reaction s (returning e) w (zero ∷ place) typed at keeps = absurd (none_in_expression e place old at)
  typed_in_reaction s (branching e r q) w (zero ∷ place) typed at keeps = absurd (none_in_expression e place old at)
  typed_in_reaction s (branching e r q) w (suc zero ∷ place) typed at keeps = in_first_arm s e r q w (term_with (reaction_term r) place (reaction_term new)) typed (typed_in_reaction (in_arm s e true) r w place typed.1 at keeps)
  typed_in_reaction s (branching e r q) w (suc (suc zero) ∷ place) typed at keeps = in_second_arm s e r q w (term_with (reaction_term q) place (reaction_term new)) typed (typed_in_reaction (in_arm s e false) q w place typed.2 at keeps)
  typed_in_reaction s (binding v r q) w (zero ∷ place) typed at keeps = in_first_part s v r q w (term_with (reaction_term r) place (reaction_term new)) typed (typed_in_reaction s r v place typed.0 at keeps)
  typed_in_reaction s (binding v r q) w (suc zero ∷ place) typed at keeps = in_second_part s v r q w (term_with (reaction_term q) place (reaction_term new)) typed (typed_in_reaction (under_binder s v) q w place typed.1 at keeps)
  typed_in_reaction s _ w _ typed at keeps = cc

  -- ---- in a protocol

  -- a typed protocol that writes what p writes
  abbrev IsTypedLike : Scope → Protocol → Term → Type 0
  IsTypedLike scope p (protocol_term q) = IsTyped sig scope q × (outputs q ≡ outputs p)
  IsTypedLike scope p _ = ⊥

  in_assignment : (scope : Scope) (c : Channel) (r : Reaction) (x : Term) → (typed : IsTyped sig scope (assignment c r)) → GivesWidthThere (outermost scope) typed.0 x → IsTypedLike scope (assignment c r) (protocol_term (assignment c (reaction_or r x)))
  in_assignment scope c r (reaction_term y) typed h = ((typed.0, typed.1, h), refl)
  in_assignment scope c r _ typed h = absurd h

  in_left_part : (scope : Scope) (p q : Protocol) (x : Term) → IsTyped sig scope (parallel p q) → IsTypedLike scope p x → IsTypedLike scope (parallel p q) (protocol_term (parallel (protocol_or p x) q))
  in_left_part scope p q (protocol_term y) typed h = ((h.0, typed.1, subst (λ cs. AreDisjoint cs (outputs q)) (sym h.1) typed.2), ap (λ cs. union cs (outputs q)) h.1)
  in_left_part scope p q _ typed h = absurd h

  in_right_part : (scope : Scope) (p q : Protocol) (x : Term) → IsTyped sig scope (parallel p q) → IsTypedLike scope q x → IsTypedLike scope (parallel p q) (protocol_term (parallel p (protocol_or q x)))
  in_right_part scope p q (protocol_term y) typed h = ((typed.0, h.0, subst (AreDisjoint (outputs p)) (sym h.1) typed.2), ap (union (outputs p)) h.1)
  in_right_part scope p q _ typed h = absurd h

  below_hidden : (scope : Scope) (c : Channel) (w : ℕ) (p : Protocol) (x : Term) → IsTyped sig scope (hiding c w p) → IsTypedLike (scope_with c w scope) p x → IsTypedLike scope (hiding c w p) (protocol_term (hiding c w (protocol_or p x)))
  below_hidden scope c w p (protocol_term y) typed h = ((typed.0, h.0, ap (λ cs. has cs c) h.1 ∙ typed.2), ap (without c) h.1)
  below_hidden scope c w p _ typed h = absurd h

  typed_in_protocol : (scope : Scope) (p : Protocol) (place : List ℕ) → IsTyped sig scope p → term_at (protocol_term p) place ≡ Some (reaction_term old) → KeepsWidth (around (outermost scope) (protocol_term p) place) → IsTypedLike scope p (term_with (protocol_term p) place (reaction_term new))
  typed_in_protocol scope p [] typed at keeps = cc
  typed_in_protocol scope (assignment c r) (zero ∷ place) typed at keeps = in_assignment scope c r (term_with (reaction_term r) place (reaction_term new)) typed (typed_in_reaction (outermost scope) r typed.0 place typed.2 at keeps)
  typed_in_protocol scope (parallel p q) (zero ∷ place) typed at keeps = in_left_part scope p q (term_with (protocol_term p) place (reaction_term new)) typed (typed_in_protocol scope p place typed.0 at keeps)
  typed_in_protocol scope (parallel p q) (suc zero ∷ place) typed at keeps = in_right_part scope p q (term_with (protocol_term q) place (reaction_term new)) typed (typed_in_protocol scope q place typed.1 at keeps)
  typed_in_protocol scope (hiding c w p) (zero ∷ place) typed at keeps = below_hidden scope c w p (term_with (protocol_term p) place (reaction_term new)) typed (typed_in_protocol (scope_with c w scope) p place typed.1 at keeps)
  typed_in_protocol scope _ _ typed at keeps = cc

-- the whole with the new reaction is typed, and writes the same channels
pub typed_with_reaction : (sig : Signature) (scope : Scope) (written : List Channel) (p q : Protocol) (place : List ℕ) (old new : Reaction) → Typed sig scope p written →
    term_at (protocol_term p) place ≡ Some (reaction_term old) → term_with (protocol_term p) place (reaction_term new) ≡ protocol_term q →
    (let s = around (outermost scope) (protocol_term p) place in (w : ℕ) → GivesWidth sig s.scope s.widths old w → GivesWidth sig s.scope s.widths new w) →
    Typed sig scope q written
typed_with_reaction sig scope written p q place old new typed at with keeps =
    let h = subst (IsTypedLike sig old new scope p) with (typed_in_protocol sig old new scope p place typed.typed at keeps) in
    record { typed = h.0; writes = λ c. ap (λ cs. has cs c) h.1 ∙ typed.writes c }
