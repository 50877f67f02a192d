-- A part of a term that is replaced by one of its kind and then put back.
use Rattle.std.proofs.Common.{◌≡◌, ℕ, zero, suc, List, [], ◌∷◌, Some, ap}
use Rattle.ipdl_laws.proofs.Replacing.{kept}
use Rattle.ipdl_term.specs.Places.{expression_or, reaction_or, protocol_or, AreOfOneKind, term_at, term_with}
use Rattle.ipdl_term.specs.Surroundings.{Surroundings}
use Rattle.ipdl_term.specs.Terms.{Expression, application, exclusive, conjunction, negation, concatenation, segment, equality, selection, Reaction, returning, branching, binding, Protocol, assignment, parallel, hiding, Term, protocol_term, reaction_term, expression_term}

-- In a child of each kind: it is replaced, and then the whole has it again.

back_expression : (a : Expression) (place : List ℕ) (part x : Term) → AreOfOneKind (expression_term a) x → term_with x place part ≡ expression_term a → expression_or (expression_or a x) (term_with (expression_term (expression_or a x)) place part) ≡ a
back_expression a place part (expression_term b) kind h = ap (expression_or b) h
back_expression a place part _ kind h = absurd kind

back_reaction : (a : Reaction) (place : List ℕ) (part x : Term) → AreOfOneKind (reaction_term a) x → term_with x place part ≡ reaction_term a → reaction_or (reaction_or a x) (term_with (reaction_term (reaction_or a x)) place part) ≡ a
back_reaction a place part (reaction_term b) kind h = ap (reaction_or b) h
back_reaction a place part _ kind h = absurd kind

back_protocol : (a : Protocol) (place : List ℕ) (part x : Term) → AreOfOneKind (protocol_term a) x → term_with x place part ≡ protocol_term a → protocol_or (protocol_or a x) (term_with (protocol_term (protocol_or a x)) place part) ≡ a
back_protocol a place part (protocol_term b) kind h = ap (protocol_or b) h
back_protocol a place part _ kind h = absurd kind

-- a part that is replaced and put back
pub term_with_back : (s : Surroundings) (whole : Term) (place : List ℕ) (part new : Term) → term_at whole place ≡ Some part → AreOfOneKind part new → term_with (term_with whole place new) place part ≡ whole
term_with_back s whole [] part new at kind = cc
term_with_back s (expression_term (application f a)) (zero ∷ place) part new at kind = ap (λ x. expression_term (application f x)) (back_expression a place part (term_with (expression_term a) place new) (kept s (expression_term a) place part new at kind).0 (term_with_back s (expression_term a) place part new at kind))
term_with_back s (expression_term (exclusive a b)) (zero ∷ place) part new at kind = ap (λ x. expression_term (exclusive x b)) (back_expression a place part (term_with (expression_term a) place new) (kept s (expression_term a) place part new at kind).0 (term_with_back s (expression_term a) place part new at kind))
term_with_back s (expression_term (exclusive a b)) (suc zero ∷ place) part new at kind = ap (λ x. expression_term (exclusive a x)) (back_expression b place part (term_with (expression_term b) place new) (kept s (expression_term b) place part new at kind).0 (term_with_back s (expression_term b) place part new at kind))
term_with_back s (expression_term (conjunction a b)) (zero ∷ place) part new at kind = ap (λ x. expression_term (conjunction x b)) (back_expression a place part (term_with (expression_term a) place new) (kept s (expression_term a) place part new at kind).0 (term_with_back s (expression_term a) place part new at kind))
term_with_back s (expression_term (conjunction a b)) (suc zero ∷ place) part new at kind = ap (λ x. expression_term (conjunction a x)) (back_expression b place part (term_with (expression_term b) place new) (kept s (expression_term b) place part new at kind).0 (term_with_back s (expression_term b) place part new at kind))
term_with_back s (expression_term (negation a)) (zero ∷ place) part new at kind = ap (λ x. expression_term (negation x)) (back_expression a place part (term_with (expression_term a) place new) (kept s (expression_term a) place part new at kind).0 (term_with_back s (expression_term a) place part new at kind))
term_with_back s (expression_term (concatenation a b)) (zero ∷ place) part new at kind = ap (λ x. expression_term (concatenation x b)) (back_expression a place part (term_with (expression_term a) place new) (kept s (expression_term a) place part new at kind).0 (term_with_back s (expression_term a) place part new at kind))
term_with_back s (expression_term (concatenation a b)) (suc zero ∷ place) part new at kind = ap (λ x. expression_term (concatenation a x)) (back_expression b place part (term_with (expression_term b) place new) (kept s (expression_term b) place part new at kind).0 (term_with_back s (expression_term b) place part new at kind))
term_with_back s (expression_term (segment i n a)) (zero ∷ place) part new at kind = ap (λ x. expression_term (segment i n x)) (back_expression a place part (term_with (expression_term a) place new) (kept s (expression_term a) place part new at kind).0 (term_with_back s (expression_term a) place part new at kind))
term_with_back s (expression_term (equality a b)) (zero ∷ place) part new at kind = ap (λ x. expression_term (equality x b)) (back_expression a place part (term_with (expression_term a) place new) (kept s (expression_term a) place part new at kind).0 (term_with_back s (expression_term a) place part new at kind))
term_with_back s (expression_term (equality a b)) (suc zero ∷ place) part new at kind = ap (λ x. expression_term (equality a x)) (back_expression b place part (term_with (expression_term b) place new) (kept s (expression_term b) place part new at kind).0 (term_with_back s (expression_term b) place part new at kind))
term_with_back s (expression_term (selection c a b)) (zero ∷ place) part new at kind = ap (λ x. expression_term (selection x a b)) (back_expression c place part (term_with (expression_term c) place new) (kept s (expression_term c) place part new at kind).0 (term_with_back s (expression_term c) place part new at kind))
term_with_back s (expression_term (selection c a b)) (suc zero ∷ place) part new at kind = ap (λ x. expression_term (selection c x b)) (back_expression a place part (term_with (expression_term a) place new) (kept s (expression_term a) place part new at kind).0 (term_with_back s (expression_term a) place part new at kind))
term_with_back s (expression_term (selection c a b)) (suc (suc zero) ∷ place) part new at kind = ap (λ x. expression_term (selection c a x)) (back_expression b place part (term_with (expression_term b) place new) (kept s (expression_term b) place part new at kind).0 (term_with_back s (expression_term b) place part new at kind))
term_with_back s (reaction_term (returning e)) (zero ∷ place) part new at kind = ap (λ x. reaction_term (returning x)) (back_expression e place part (term_with (expression_term e) place new) (kept s (expression_term e) place part new at kind).0 (term_with_back s (expression_term e) place part new at kind))
term_with_back s (reaction_term (branching e r q)) (zero ∷ place) part new at kind = ap (λ x. reaction_term (branching x r q)) (back_expression e place part (term_with (expression_term e) place new) (kept s (expression_term e) place part new at kind).0 (term_with_back s (expression_term e) place part new at kind))
term_with_back s (reaction_term (branching e r q)) (suc zero ∷ place) part new at kind = ap (λ x. reaction_term (branching e x q)) (back_reaction r place part (term_with (reaction_term r) place new) (kept s (reaction_term r) place part new at kind).0 (term_with_back s (reaction_term r) place part new at kind))
term_with_back s (reaction_term (branching e r q)) (suc (suc zero) ∷ place) part new at kind = ap (λ x. reaction_term (branching e r x)) (back_reaction q place part (term_with (reaction_term q) place new) (kept s (reaction_term q) place part new at kind).0 (term_with_back s (reaction_term q) place part new at kind))
term_with_back s (reaction_term (binding w r q)) (zero ∷ place) part new at kind = ap (λ x. reaction_term (binding w x q)) (back_reaction r place part (term_with (reaction_term r) place new) (kept s (reaction_term r) place part new at kind).0 (term_with_back s (reaction_term r) place part new at kind))
term_with_back s (reaction_term (binding w r q)) (suc zero ∷ place) part new at kind = ap (λ x. reaction_term (binding w r x)) (back_reaction q place part (term_with (reaction_term q) place new) (kept s (reaction_term q) place part new at kind).0 (term_with_back s (reaction_term q) place part new at kind))
term_with_back s (protocol_term (assignment c r)) (zero ∷ place) part new at kind = ap (λ x. protocol_term (assignment c x)) (back_reaction r place part (term_with (reaction_term r) place new) (kept s (reaction_term r) place part new at kind).0 (term_with_back s (reaction_term r) place part new at kind))
term_with_back s (protocol_term (parallel p q)) (zero ∷ place) part new at kind = ap (λ x. protocol_term (parallel x q)) (back_protocol p place part (term_with (protocol_term p) place new) (kept s (protocol_term p) place part new at kind).0 (term_with_back s (protocol_term p) place part new at kind))
term_with_back s (protocol_term (parallel p q)) (suc zero ∷ place) part new at kind = ap (λ x. protocol_term (parallel p x)) (back_protocol q place part (term_with (protocol_term q) place new) (kept s (protocol_term q) place part new at kind).0 (term_with_back s (protocol_term q) place part new at kind))
term_with_back s (protocol_term (hiding c w p)) (zero ∷ place) part new at kind = ap (λ x. protocol_term (hiding c w x)) (back_protocol p place part (term_with (protocol_term p) place new) (kept s (protocol_term p) place part new at kind).0 (term_with_back s (protocol_term p) place part new at kind))
term_with_back s _ _ part new at kind = cc
