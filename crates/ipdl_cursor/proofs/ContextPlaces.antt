-- The context around a place at which a protocol stands.
use Rattle.std.proofs.Common.{◌≡◌, ℕ, zero, suc, List, [], ◌∷◌, Option, Some, None, refl, ap, ◌∙◌}
use Rattle.std.specs.Prelude.{IsSome, is_some, option_map}
use Rattle.ipdl_term.specs.Contexts.{plugged}
use Rattle.ipdl_term.specs.Places.{context_at, term_at}
use Rattle.ipdl_term.specs.Terms.{Channel, Expression, application, exclusive, conjunction, negation, concatenation, segment, equality, selection, Reaction, returning, branching, binding, Protocol, assignment, parallel, hiding, Context, hole, in_left, in_right, in_hiding, Term, protocol_term, reaction_term, expression_term}

-- ---- where a protocol stands

-- no protocol stands in an expression
none_in_expression : (e : Expression) (place : List ℕ) (q : Protocol) → term_at (expression_term e) place ≡ Some (protocol_term q) → ⊥
none_in_expression e [] q at = cc
none_in_expression (application f a) (zero ∷ place) q at = none_in_expression a place q at
none_in_expression (exclusive a b) (zero ∷ place) q at = none_in_expression a place q at
none_in_expression (exclusive a b) (suc zero ∷ place) q at = none_in_expression b place q at
none_in_expression (conjunction a b) (zero ∷ place) q at = none_in_expression a place q at
none_in_expression (conjunction a b) (suc zero ∷ place) q at = none_in_expression b place q at
none_in_expression (negation a) (zero ∷ place) q at = none_in_expression a place q at
none_in_expression (concatenation a b) (zero ∷ place) q at = none_in_expression a place q at
none_in_expression (concatenation a b) (suc zero ∷ place) q at = none_in_expression b place q at
none_in_expression (segment i n a) (zero ∷ place) q at = none_in_expression a place q at
none_in_expression (equality a b) (zero ∷ place) q at = none_in_expression a place q at
none_in_expression (equality a b) (suc zero ∷ place) q at = none_in_expression b place q at
none_in_expression (selection c a b) (zero ∷ place) q at = none_in_expression c place q at
none_in_expression (selection c a b) (suc zero ∷ place) q at = none_in_expression a place q at
none_in_expression (selection c a b) (suc (suc zero) ∷ place) q at = none_in_expression b place q at
none_in_expression _ _ q at = cc

-- nor in a reaction
none_in_reaction : (r : Reaction) (place : List ℕ) (q : Protocol) → term_at (reaction_term r) place ≡ Some (protocol_term q) → ⊥
none_in_reaction r [] q at = cc
none_in_reaction (returning e) (zero ∷ place) q at = none_in_expression e place q at
none_in_reaction (branching e r s) (zero ∷ place) q at = none_in_expression e place q at
none_in_reaction (branching e r s) (suc zero ∷ place) q at = none_in_reaction r place q at
none_in_reaction (branching e r s) (suc (suc zero) ∷ place) q at = none_in_reaction s place q at
none_in_reaction (binding w r s) (zero ∷ place) q at = none_in_reaction r place q at
none_in_reaction (binding w r s) (suc zero ∷ place) q at = none_in_reaction s place q at
none_in_reaction _ _ q at = cc

-- ---- the context there

-- a context around the place, and the whole with the protocol in its hole
pub record HasContext (p : Protocol) (place : List ℕ) (q : Protocol) : Type 0 where
  pub context : Context
  pub around : context_at p place ≡ Some context
  pub whole : plugged context q ≡ p

-- where a protocol stands there is one
pub context_there : (p : Protocol) (place : List ℕ) (q : Protocol) → term_at (protocol_term p) place ≡ Some (protocol_term q) → HasContext p place q
context_there p [] q at = record { context = hole; around = refl; whole = let e : q ≡ p = cc in e }
context_there (assignment c r) (zero ∷ place) q at = absurd (none_in_reaction r place q at)
context_there (parallel a b) (zero ∷ place) q at =
    let inner = context_there a place q at in
    record { context = in_left inner.context b; around = ap (option_map (λ C. in_left C b)) inner.around; whole = ap (λ x. parallel x b) inner.whole }
context_there (parallel a b) (suc zero ∷ place) q at =
    let inner = context_there b place q at in
    record { context = in_right a inner.context; around = ap (option_map (λ C. in_right a C)) inner.around; whole = ap (λ x. parallel a x) inner.whole }
context_there (hiding c w a) (zero ∷ place) q at =
    let inner = context_there a place q at in
    record { context = in_hiding c w inner.context; around = ap (option_map (λ C. in_hiding c w C)) inner.around; whole = ap (λ x. hiding c w x) inner.whole }
context_there _ _ q at = cc

-- and else there is none
no_context : (p : Protocol) (place : List ℕ) (t : Term) → ((q : Protocol) → t ≡ protocol_term q → ⊥) → term_at (protocol_term p) place ≡ Some t → context_at p place ≡ None
no_context p [] t other at = let e : t ≡ protocol_term p = cc in absurd (other p e)
no_context (parallel a b) (zero ∷ place) t other at = ap (option_map (λ C. in_left C b)) (no_context a place t other at)
no_context (parallel a b) (suc zero ∷ place) t other at = ap (option_map (λ C. in_right a C)) (no_context b place t other at)
no_context (hiding c w a) (zero ∷ place) t other at = ap (option_map (λ C. in_hiding c w C)) (no_context a place t other at)
no_context _ _ t other at = refl

pub context_at-protocol : (p : Protocol) (place : List ℕ) (q : Protocol) → term_at (protocol_term p) place ≡ Some (protocol_term q) → IsSome (context_at p place)
context_at-protocol p place q at = ap is_some (context_there p place q at).around

pub context_at-reaction : (p : Protocol) (place : List ℕ) (r : Reaction) → term_at (protocol_term p) place ≡ Some (reaction_term r) → context_at p place ≡ None
context_at-reaction p place r at = no_context p place (reaction_term r) (λ q is. cc) at

pub context_at-expression : (p : Protocol) (place : List ℕ) (e : Expression) → term_at (protocol_term p) place ≡ Some (expression_term e) → context_at p place ≡ None
context_at-expression p place e at = no_context p place (expression_term e) (λ q is. cc) at

-- with the protocol that stands there in its hole it is the whole
pub plugged-context_at : (p : Protocol) (place : List ℕ) (q : Protocol) (C : Context) → term_at (protocol_term p) place ≡ Some (protocol_term q) → context_at p place ≡ Some C → plugged C q ≡ p
plugged-context_at p place q C at is =
    let there = context_there p place q at in
    let same : C ≡ there.context = cc (there.around) in
    ap (λ D. plugged D q) same ∙ there.whole

pub ruleset contexts_at = (context_at-protocol, context_at-reaction, context_at-expression, plugged-context_at)

-- ---- one step inwards

option_map-IsSome : (f : Context → Context) (o : Option Context) → IsSome (option_map f o) → IsSome o
option_map-IsSome f None some = some
option_map-IsSome f (Some C) some = some

pub left_has_context : (p q : Protocol) (place : List ℕ) → IsSome (context_at (parallel p q) (zero ∷ place)) → IsSome (context_at p place)
left_has_context p q place some = option_map-IsSome (λ C. in_left C q) (context_at p place) some

pub right_has_context : (p q : Protocol) (place : List ℕ) → IsSome (context_at (parallel p q) (suc zero ∷ place)) → IsSome (context_at q place)
right_has_context p q place some = option_map-IsSome (λ C. in_right p C) (context_at q place) some

pub inner_has_context : (c : Channel) (w : ℕ) (p : Protocol) (place : List ℕ) → IsSome (context_at (hiding c w p) (zero ∷ place)) → IsSome (context_at p place)
inner_has_context c w p place some = option_map-IsSome (λ C. in_hiding c w C) (context_at p place) some

pub ruleset context_steps = (left_has_context, right_has_context, inner_has_context)
