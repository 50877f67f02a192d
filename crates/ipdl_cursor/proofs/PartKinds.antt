-- A protocol with another part of the same kind is a protocol.
use Rattle.std.proofs.Common.{◌≡◌, ℕ, zero, suc, List, [], ◌∷◌, refl, ap}
use Rattle.std.specs.Prelude.{IsSomeAnd}
use Rattle.ipdl_term.specs.Places.{AreOfOneKind, protocol_or, term_at, term_with}
use Rattle.ipdl_term.specs.Sizes.{protocol_nodes, term_nodes}
use Rattle.ipdl_term.specs.Terms.{Protocol, assignment, parallel, hiding, Term, protocol_term, reaction_term, expression_term}

pub protocol_or-term_with : (p : Protocol) (place : List ℕ) (new : Term) → IsSomeAnd (term_at (protocol_term p) place) (λ old. AreOfOneKind old new) →
    protocol_term (protocol_or p (term_with (protocol_term p) place new)) ≡ term_with (protocol_term p) place new
protocol_or-term_with p [] (protocol_term q) kind = refl
protocol_or-term_with p [] (reaction_term r) kind = absurd kind
protocol_or-term_with p [] (expression_term e) kind = absurd kind
protocol_or-term_with (assignment c r) (zero ∷ place) new kind = refl
protocol_or-term_with (parallel p q) (zero ∷ place) new kind = refl
protocol_or-term_with (parallel p q) (suc zero ∷ place) new kind = refl
protocol_or-term_with (hiding c w p) (zero ∷ place) new kind = refl
protocol_or-term_with _ _ new kind = refl

pub protocol_nodes-term_with : (p : Protocol) (place : List ℕ) (new : Term) → IsSomeAnd (term_at (protocol_term p) place) (λ old. AreOfOneKind old new) →
    protocol_nodes (protocol_or p (term_with (protocol_term p) place new)) ≡ term_nodes (term_with (protocol_term p) place new)
protocol_nodes-term_with p place new kind = ap term_nodes (protocol_or-term_with p place new kind)

pub ruleset part_kinds = (protocol_or-term_with, protocol_nodes-term_with)
