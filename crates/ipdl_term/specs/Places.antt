-- Places in a term of any kind: lists of child numbers. Child 0 of an assignment is its reaction, that of a `new` the
-- protocol in it, that of a `ret` its expression, that of an `if` its test; operands are counted from 0 on the left.
use Rattle.std.specs.Prelude.{ℕ, zero, suc, List, [], ◌∷◌, Option, Some, None, option_map, option_and_then}
use Rattle.std.specs.Option.{option_map_or}
use Rattle.ipdl_term.specs.Terms.{Expression, application, exclusive, conjunction, negation, concatenation, segment, equality, selection, Reaction, returning, branching, binding, Protocol, assignment, parallel, hiding, Context, hole, in_left, in_right, in_hiding, Term, protocol_term, reaction_term, expression_term}

-- ---- children

-- a child of a term, and what the term becomes with another one in its place. One of another kind changes nothing
pub record Child : Type 0 where
  pub part : Term
  pub whole : Term → Term

abbrev pub expression_or : Expression → Term → Expression
expression_or e (expression_term f) = f
expression_or e _ = e

abbrev pub reaction_or : Reaction → Term → Reaction
reaction_or r (reaction_term s) = s
reaction_or r _ = r

abbrev pub protocol_or : Protocol → Term → Protocol
protocol_or p (protocol_term q) = q
protocol_or p _ = p

abbrev pub expression_child : Expression → (Expression → Term) → Option Child
expression_child e around = Some (record { part = expression_term e; whole = λ new. around (expression_or e new) })

abbrev pub reaction_child : Reaction → (Reaction → Term) → Option Child
reaction_child r around = Some (record { part = reaction_term r; whole = λ new. around (reaction_or r new) })

abbrev pub protocol_child : Protocol → (Protocol → Term) → Option Child
protocol_child p around = Some (record { part = protocol_term p; whole = λ new. around (protocol_or p new) })

-- the child of this number
abbrev pub child : Term → ℕ → Option Child
child (expression_term (application f a)) zero = expression_child a (λ x. expression_term (application f x))
child (expression_term (exclusive a b)) zero = expression_child a (λ x. expression_term (exclusive x b))
child (expression_term (exclusive a b)) (suc zero) = expression_child b (λ x. expression_term (exclusive a x))
child (expression_term (conjunction a b)) zero = expression_child a (λ x. expression_term (conjunction x b))
child (expression_term (conjunction a b)) (suc zero) = expression_child b (λ x. expression_term (conjunction a x))
child (expression_term (negation a)) zero = expression_child a (λ x. expression_term (negation x))
child (expression_term (concatenation a b)) zero = expression_child a (λ x. expression_term (concatenation x b))
child (expression_term (concatenation a b)) (suc zero) = expression_child b (λ x. expression_term (concatenation a x))
child (expression_term (segment i n a)) zero = expression_child a (λ x. expression_term (segment i n x))
child (expression_term (equality a b)) zero = expression_child a (λ x. expression_term (equality x b))
child (expression_term (equality a b)) (suc zero) = expression_child b (λ x. expression_term (equality a x))
child (expression_term (selection c a b)) zero = expression_child c (λ x. expression_term (selection x a b))
child (expression_term (selection c a b)) (suc zero) = expression_child a (λ x. expression_term (selection c x b))
child (expression_term (selection c a b)) (suc (suc zero)) = expression_child b (λ x. expression_term (selection c a x))
child (reaction_term (returning e)) zero = expression_child e (λ x. reaction_term (returning x))
child (reaction_term (branching e r s)) zero = expression_child e (λ x. reaction_term (branching x r s))
child (reaction_term (branching e r s)) (suc zero) = reaction_child r (λ x. reaction_term (branching e x s))
child (reaction_term (branching e r s)) (suc (suc zero)) = reaction_child s (λ x. reaction_term (branching e r x))
child (reaction_term (binding w r s)) zero = reaction_child r (λ x. reaction_term (binding w x s))
child (reaction_term (binding w r s)) (suc zero) = reaction_child s (λ x. reaction_term (binding w r x))
child (protocol_term (assignment c r)) zero = reaction_child r (λ x. protocol_term (assignment c x))
child (protocol_term (parallel p q)) zero = protocol_child p (λ x. protocol_term (parallel x q))
child (protocol_term (parallel p q)) (suc zero) = protocol_child q (λ x. protocol_term (parallel p x))
child (protocol_term (hiding c w p)) zero = protocol_child p (λ x. protocol_term (hiding c w x))
child _ _ = None

-- ---- places

-- the part at a place, none where the place leaves the term
abbrev pub term_at : Term → List ℕ → Option Term
term_at t [] = Some t
term_at t (n ∷ place) = option_and_then (λ c. term_at c.part place) (child t n)

-- the term with another part at a place that it has, and else the term itself
abbrev pub term_with : Term → List ℕ → Term → Term
term_with t [] new = new
term_with t (n ∷ place) new = option_map_or (λ c. c.whole (term_with c.part place new)) (child t n) t

-- two terms are both expressions, both reactions or both protocols
abbrev pub AreOfOneKind : Term → Term → Type 0
AreOfOneKind (expression_term a) (expression_term b) = Unit {0}
AreOfOneKind (reaction_term r) (reaction_term s) = Unit {0}
AreOfOneKind (protocol_term p) (protocol_term q) = Unit {0}
AreOfOneKind _ _ = ⊥

-- the context around a place in a protocol, none where no protocol stands at the place
abbrev pub context_at : Protocol → List ℕ → Option Context
context_at p [] = Some hole
context_at (parallel p q) (zero ∷ place) = option_map (λ C. in_left C q) (context_at p place)
context_at (parallel p q) (suc zero ∷ place) = option_map (λ C. in_right p C) (context_at q place)
context_at (hiding c w p) (zero ∷ place) = option_map (λ C. in_hiding c w C) (context_at p place)
context_at _ _ = None
