-- What a replaced part leaves as it was.
use Rattle.std.proofs.Common.{◌≡◌, ℕ, zero, suc, true, false, List, [], ◌∷◌, Some, refl, ap, subst}
use Rattle.ipdl_term.specs.Equality.{Equal}
use Rattle.ipdl_term.specs.Interpretations.{Signature, Interpretation, Interprets}
use Rattle.ipdl_term.specs.Terms.{Channel, Expression, application, exclusive, conjunction, negation, concatenation, segment, equality, selection, Reaction, returning, branching, binding, Protocol, assignment, parallel, hiding, Term, protocol_term, reaction_term, expression_term}
use Rattle.ipdl_term.specs.Typing.{Scope, scope_with, Typed}
use Rattle.ipdl_term.specs.Places.{expression_or, reaction_or, protocol_or, AreOfOneKind, term_at, term_with}
use Rattle.ipdl_term.specs.Surroundings.{Surroundings, outermost, in_arm, under_binder, around, IsTypedAt, AreTests}
use Rattle.ipdl_laws.specs.MeanSame.{MeanSame}
use Rattle.ipdl_laws.proofs.PartLaws.{equal_with_part}
use Rattle.ipdl_laws.proofs.TypedParts.{typed_part}

-- a part replaced by itself
pub term_with_itself : (whole : Term) (place : List ℕ) (part : Term) → term_at whole place ≡ Some part → term_with whole place part ≡ whole
term_with_itself whole [] part at = cc
term_with_itself (expression_term (application f a)) (zero ∷ place) part at = ap (λ x. expression_term (application f (expression_or a x))) (term_with_itself (expression_term a) place part at)
term_with_itself (expression_term (exclusive a b)) (zero ∷ place) part at = ap (λ x. expression_term (exclusive (expression_or a x) b)) (term_with_itself (expression_term a) place part at)
term_with_itself (expression_term (exclusive a b)) (suc zero ∷ place) part at = ap (λ x. expression_term (exclusive a (expression_or b x))) (term_with_itself (expression_term b) place part at)
term_with_itself (expression_term (conjunction a b)) (zero ∷ place) part at = ap (λ x. expression_term (conjunction (expression_or a x) b)) (term_with_itself (expression_term a) place part at)
term_with_itself (expression_term (conjunction a b)) (suc zero ∷ place) part at = ap (λ x. expression_term (conjunction a (expression_or b x))) (term_with_itself (expression_term b) place part at)
term_with_itself (expression_term (negation a)) (zero ∷ place) part at = ap (λ x. expression_term (negation (expression_or a x))) (term_with_itself (expression_term a) place part at)
term_with_itself (expression_term (concatenation a b)) (zero ∷ place) part at = ap (λ x. expression_term (concatenation (expression_or a x) b)) (term_with_itself (expression_term a) place part at)
term_with_itself (expression_term (concatenation a b)) (suc zero ∷ place) part at = ap (λ x. expression_term (concatenation a (expression_or b x))) (term_with_itself (expression_term b) place part at)
term_with_itself (expression_term (segment i n a)) (zero ∷ place) part at = ap (λ x. expression_term (segment i n (expression_or a x))) (term_with_itself (expression_term a) place part at)
term_with_itself (expression_term (equality a b)) (zero ∷ place) part at = ap (λ x. expression_term (equality (expression_or a x) b)) (term_with_itself (expression_term a) place part at)
term_with_itself (expression_term (equality a b)) (suc zero ∷ place) part at = ap (λ x. expression_term (equality a (expression_or b x))) (term_with_itself (expression_term b) place part at)
term_with_itself (expression_term (selection c a b)) (zero ∷ place) part at = ap (λ x. expression_term (selection (expression_or c x) a b)) (term_with_itself (expression_term c) place part at)
term_with_itself (expression_term (selection c a b)) (suc zero ∷ place) part at = ap (λ x. expression_term (selection c (expression_or a x) b)) (term_with_itself (expression_term a) place part at)
term_with_itself (expression_term (selection c a b)) (suc (suc zero) ∷ place) part at = ap (λ x. expression_term (selection c a (expression_or b x))) (term_with_itself (expression_term b) place part at)
term_with_itself (reaction_term (returning e)) (zero ∷ place) part at = ap (λ x. reaction_term (returning (expression_or e x))) (term_with_itself (expression_term e) place part at)
term_with_itself (reaction_term (branching e r q)) (zero ∷ place) part at = ap (λ x. reaction_term (branching (expression_or e x) r q)) (term_with_itself (expression_term e) place part at)
term_with_itself (reaction_term (branching e r q)) (suc zero ∷ place) part at = ap (λ x. reaction_term (branching e (reaction_or r x) q)) (term_with_itself (reaction_term r) place part at)
term_with_itself (reaction_term (branching e r q)) (suc (suc zero) ∷ place) part at = ap (λ x. reaction_term (branching e r (reaction_or q x))) (term_with_itself (reaction_term q) place part at)
term_with_itself (reaction_term (binding w r q)) (zero ∷ place) part at = ap (λ x. reaction_term (binding w (reaction_or r x) q)) (term_with_itself (reaction_term r) place part at)
term_with_itself (reaction_term (binding w r q)) (suc zero ∷ place) part at = ap (λ x. reaction_term (binding w r (reaction_or q x))) (term_with_itself (reaction_term q) place part at)
term_with_itself (protocol_term (assignment c r)) (zero ∷ place) part at = ap (λ x. protocol_term (assignment c (reaction_or r x))) (term_with_itself (reaction_term r) place part at)
term_with_itself (protocol_term (parallel p q)) (zero ∷ place) part at = ap (λ x. protocol_term (parallel (protocol_or p x) q)) (term_with_itself (protocol_term p) place part at)
term_with_itself (protocol_term (parallel p q)) (suc zero ∷ place) part at = ap (λ x. protocol_term (parallel p (protocol_or q x))) (term_with_itself (protocol_term q) place part at)
term_with_itself (protocol_term (hiding c w p)) (zero ∷ place) part at = ap (λ x. protocol_term (hiding c w (protocol_or p x))) (term_with_itself (protocol_term p) place part at)
term_with_itself _ _ part at = cc

-- a new part is found at its place, and around it all is as it was
abbrev Kept : Surroundings → Term → List ℕ → Term → Term → Type 0
Kept s whole place new result = AreOfOneKind whole result × (term_at result place ≡ Some new) × (around s result place ≡ around s whole place)

-- a child that is an expression
kept_expression : (s : Surroundings) (a : Expression) (place : List ℕ) (new x : Term) → Kept s (expression_term a) place new x → Kept s (expression_term a) place new (expression_term (expression_or a x))
kept_expression s a place new (expression_term b) h = h
kept_expression s a place new _ h = absurd h.0

-- a reaction
kept_reaction : (s : Surroundings) (r : Reaction) (place : List ℕ) (new x : Term) → Kept s (reaction_term r) place new x → Kept s (reaction_term r) place new (reaction_term (reaction_or r x))
kept_reaction s r place new (reaction_term q) h = h
kept_reaction s r place new _ h = absurd h.0

-- a protocol
kept_protocol : (s : Surroundings) (p : Protocol) (place : List ℕ) (new x : Term) → Kept s (protocol_term p) place new x → Kept s (protocol_term p) place new (protocol_term (protocol_or p x))
kept_protocol s p place new (protocol_term q) h = h
kept_protocol s p place new _ h = absurd h.0

pub kept : (s : Surroundings) (whole : Term) (place : List ℕ) (part new : Term) → term_at whole place ≡ Some part → AreOfOneKind part new → Kept s whole place new (term_with whole place new)
kept s whole [] part new at kind = let e : part ≡ whole = cc in (subst (λ x. AreOfOneKind x new) e kind, refl, refl)
kept s (expression_term (application f a)) (zero ∷ place) part new at kind = kept_expression s a place new _ (kept s (expression_term a) place part new at kind)
kept s (expression_term (exclusive a b)) (zero ∷ place) part new at kind = kept_expression s a place new _ (kept s (expression_term a) place part new at kind)
kept s (expression_term (exclusive a b)) (suc zero ∷ place) part new at kind = kept_expression s b place new _ (kept s (expression_term b) place part new at kind)
kept s (expression_term (conjunction a b)) (zero ∷ place) part new at kind = kept_expression s a place new _ (kept s (expression_term a) place part new at kind)
kept s (expression_term (conjunction a b)) (suc zero ∷ place) part new at kind = kept_expression s b place new _ (kept s (expression_term b) place part new at kind)
kept s (expression_term (negation a)) (zero ∷ place) part new at kind = kept_expression s a place new _ (kept s (expression_term a) place part new at kind)
kept s (expression_term (concatenation a b)) (zero ∷ place) part new at kind = kept_expression s a place new _ (kept s (expression_term a) place part new at kind)
kept s (expression_term (concatenation a b)) (suc zero ∷ place) part new at kind = kept_expression s b place new _ (kept s (expression_term b) place part new at kind)
kept s (expression_term (segment i n a)) (zero ∷ place) part new at kind = kept_expression s a place new _ (kept s (expression_term a) place part new at kind)
kept s (expression_term (equality a b)) (zero ∷ place) part new at kind = kept_expression s a place new _ (kept s (expression_term a) place part new at kind)
kept s (expression_term (equality a b)) (suc zero ∷ place) part new at kind = kept_expression s b place new _ (kept s (expression_term b) place part new at kind)
kept s (expression_term (selection c a b)) (zero ∷ place) part new at kind = kept_expression s c place new _ (kept s (expression_term c) place part new at kind)
kept s (expression_term (selection c a b)) (suc zero ∷ place) part new at kind = kept_expression s a place new _ (kept s (expression_term a) place part new at kind)
kept s (expression_term (selection c a b)) (suc (suc zero) ∷ place) part new at kind = kept_expression s b place new _ (kept s (expression_term b) place part new at kind)
kept s (reaction_term (returning e)) (zero ∷ place) part new at kind = kept_expression s e place new _ (kept s (expression_term e) place part new at kind)
kept s (reaction_term (branching e r q)) (zero ∷ place) part new at kind = kept_expression s e place new _ (kept s (expression_term e) place part new at kind)
kept s (reaction_term (branching e r q)) (suc zero ∷ place) part new at kind = kept_reaction (in_arm s e true) r place new _ (kept (in_arm s e true) (reaction_term r) place part new at kind)
kept s (reaction_term (branching e r q)) (suc (suc zero) ∷ place) part new at kind = kept_reaction (in_arm s e false) q place new _ (kept (in_arm s e false) (reaction_term q) place part new at kind)
kept s (reaction_term (binding w r q)) (zero ∷ place) part new at kind = kept_reaction s r place new _ (kept s (reaction_term r) place part new at kind)
kept s (reaction_term (binding w r q)) (suc zero ∷ place) part new at kind = kept_reaction (under_binder s w) q place new _ (kept (under_binder s w) (reaction_term q) place part new at kind)
kept s (protocol_term (assignment c r)) (zero ∷ place) part new at kind = kept_reaction (outermost s.scope) r place new _ (kept (outermost s.scope) (reaction_term r) place part new at kind)
kept s (protocol_term (parallel p q)) (zero ∷ place) part new at kind = kept_protocol s p place new _ (kept s (protocol_term p) place part new at kind)
kept s (protocol_term (parallel p q)) (suc zero ∷ place) part new at kind = kept_protocol s q place new _ (kept s (protocol_term q) place part new at kind)
kept s (protocol_term (hiding c w p)) (zero ∷ place) part new at kind = kept_protocol (record s { scope = scope_with c w s.scope }) p place new _ (kept (record s { scope = scope_with c w s.scope }) (protocol_term p) place part new at kind)
kept s _ _ part new at kind = cc

-- of two typed protocols, of which the one comes from the other by a part that is replaced at its place, both parts are
-- typed there
pub equal_with_typed_part : (sig : Signature) (scope : Scope) (written : List Channel) (p q : Protocol) (place : List ℕ) (old new : Term) → Typed sig scope p written → Typed sig scope q written →
    term_at (protocol_term p) place ≡ Some old → AreOfOneKind old new → term_with (protocol_term p) place new ≡ protocol_term q →
    (let s = around (outermost scope) (protocol_term p) place in
    IsTypedAt sig s old → IsTypedAt sig s new → AreTests sig s.widths s.conditions → (J : Interpretation) → Interprets sig J → MeanSame J s old new) →
    Equal sig scope written p q
equal_with_typed_part sig scope written p q place old new typed typed' at kind with same =
    let left = typed_part sig (outermost scope) (protocol_term p) typed.typed tt place old at in
    let there = kept (outermost scope) (protocol_term p) place old new at kind in
    let at' : term_at (protocol_term q) place ≡ Some new = subst (λ x. term_at x place ≡ Some new) with there.1 in
    let right = typed_part sig (outermost scope) (protocol_term q) typed'.typed tt place new at' in
    let here : around (outermost scope) (protocol_term q) place ≡ around (outermost scope) (protocol_term p) place = subst (λ x. around (outermost scope) x place ≡ around (outermost scope) (protocol_term p) place) with there.2 in
    equal_with_part sig scope written p q place old new typed typed' at with
    (same left.0 (subst (λ s. IsTypedAt sig s new) here right.0) left.1)
