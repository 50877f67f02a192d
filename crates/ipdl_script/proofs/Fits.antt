-- Room for the variables: a term has no more binders than nodes, and no variable without one.
use Rattle.std.proofs.Common.{◌≡◌, ℕ, suc, ◌+◌, ◌*◌, ◌^◌, ◌<◌, ◌≤◌, List, length, reverse, refl, sym, ap, ap₂, ◌∙◌, arith}
use Rattle.std.specs.Prelude.{max}
use Rattle.std.proofs.lemmas.List.{length-reverse}
use Rattle.ipdl_term.proofs.WithinLemmas.{IsProtocolWithin-typed}
use Rattle.ipdl_cursor.proofs.AroundPlaces.{binder_widths-around}
use Rattle.ipdl_cursor.proofs.Rooms.{room}
use Rattle.ipdl_rules_r.specs.Room.{greatest_in_rule}
use Rattle.ipdl_script.specs.Fitting.{WholeFits, AreArgumentsWithin, IsTermWithin}
use Rattle.ipdl_script.specs.Settling.{settled_rule}
use Rattle.ipdl_script.specs.Steps.{Setting, scope_in, around_place}
use Rattle.ipdl_term.specs.Rules.{Rule, rule_arguments}
use Rattle.ipdl_term.specs.Rules as R
use Rattle.ipdl_term.specs.Variables.{settled_expression, settled_reaction, settled_protocol}
use Rattle.ipdl_term.specs.Sizes.{most_nodes, reaction_nodes, protocol_nodes, term_nodes, reaction_binders, protocol_binders, term_binders, greatest_in_expression, greatest_in_reaction, greatest_in_protocol, greatest_in_term}
use Rattle.ipdl_term.specs.Terms.{Expression, literal, variable, outer, application, exclusive, conjunction, negation, concatenation, segment, equality, selection, Reaction, returning, flipping, reading, branching, binding, Protocol, nil, assignment, parallel, hiding, Term, protocol_term, reaction_term, expression_term}
use Rattle.ipdl_term.specs.Within.{IsExpressionWithin, IsReactionWithin, IsProtocolWithin}

-- ---- binders

pub reaction_binders-few : (r : Reaction) → reaction_binders r < reaction_nodes r
reaction_binders-few (returning e) = omega arith
reaction_binders-few (flipping w) = omega arith
reaction_binders-few (reading c) = omega arith
reaction_binders-few (branching e r s) = omega (arith, reaction_binders-few r, reaction_binders-few s)
reaction_binders-few (binding w r s) = omega (arith, reaction_binders-few r, reaction_binders-few s)

pub protocol_binders-few : (p : Protocol) → protocol_binders p < protocol_nodes p
protocol_binders-few nil = omega arith
protocol_binders-few (assignment c r) = omega (arith, reaction_binders-few r)
protocol_binders-few (parallel p q) = omega (arith, protocol_binders-few p, protocol_binders-few q)
protocol_binders-few (hiding c w p) = omega (arith, protocol_binders-few p)

-- ---- variables

greatest_in_expression-bound : (n d : ℕ) (e : Expression) → IsExpressionWithin n d e → greatest_in_expression e ≤ d
greatest_in_expression-bound n d (literal bits) h = omega arith
greatest_in_expression-bound n d (variable m) h = omega arith
greatest_in_expression-bound n d (outer m) h = omega arith
greatest_in_expression-bound n d (application f e) h = greatest_in_expression-bound n d e h.1
greatest_in_expression-bound n d (exclusive a b) h = omega (arith, greatest_in_expression-bound n d a h.0, greatest_in_expression-bound n d b h.1)
greatest_in_expression-bound n d (conjunction a b) h = omega (arith, greatest_in_expression-bound n d a h.0, greatest_in_expression-bound n d b h.1)
greatest_in_expression-bound n d (negation a) h = greatest_in_expression-bound n d a h
greatest_in_expression-bound n d (concatenation a b) h = omega (arith, greatest_in_expression-bound n d a h.0, greatest_in_expression-bound n d b h.1)
greatest_in_expression-bound n d (segment i m a) h = greatest_in_expression-bound n d a h
greatest_in_expression-bound n d (equality a b) h = omega (arith, greatest_in_expression-bound n d a h.0, greatest_in_expression-bound n d b h.1)
greatest_in_expression-bound n d (selection c a b) h = omega (arith, greatest_in_expression-bound n d c h.0, greatest_in_expression-bound n d a h.1, greatest_in_expression-bound n d b h.2)

pub greatest_in_reaction-bound : (n d : ℕ) (r : Reaction) → IsReactionWithin n d r → greatest_in_reaction r ≤ d + reaction_binders r
greatest_in_reaction-bound n d (returning e) h = omega (arith, greatest_in_expression-bound n d e h)
greatest_in_reaction-bound n d (flipping w) h = omega arith
greatest_in_reaction-bound n d (reading c) h = omega arith
greatest_in_reaction-bound n d (branching e r s) h = omega (arith, greatest_in_expression-bound n d e h.0, greatest_in_reaction-bound n d r h.1, greatest_in_reaction-bound n d s h.2)
greatest_in_reaction-bound n d (binding w r s) h = omega (arith, greatest_in_reaction-bound n d r h.0, greatest_in_reaction-bound n (d + 1) s h.1)

pub greatest_in_protocol-bound : (n : ℕ) (p : Protocol) → IsProtocolWithin n p → greatest_in_protocol p ≤ protocol_binders p
greatest_in_protocol-bound n nil h = omega arith
greatest_in_protocol-bound n (assignment c r) h = omega (arith, greatest_in_reaction-bound n 0 r h)
greatest_in_protocol-bound n (parallel p q) h = omega (arith, greatest_in_protocol-bound n p h.0, greatest_in_protocol-bound n q h.1)
greatest_in_protocol-bound n (hiding c w p) h = greatest_in_protocol-bound n p h

-- ---- a whole term that fits

-- its symbols are those of the setting, and each of its variables has a binder
pub whole_is_within : (x : Setting) (p : Protocol) → WholeFits x p → IsProtocolWithin (length x.sig) p
whole_is_within x p h = IsProtocolWithin-typed x.sig (scope_in x) p h.typed.typed

-- so its variables have room
pub whole_has_room : (x : Setting) (p : Protocol) → WholeFits x p → greatest_in_protocol p + protocol_binders p < 2 ^ 32
whole_has_room x p h =
    let within = IsProtocolWithin-typed x.sig (scope_in x) p h.typed.typed in
    omega (arith, greatest_in_protocol-bound (length x.sig) p within, protocol_binders-few p, h.limits.nodes)

-- and few binders are around a place in it
pub few_around : (x : Setting) (p : Protocol) (place : List ℕ) → WholeFits x p → length (around_place x p place).widths ≤ most_nodes
few_around x p place h =
    let is = ap length (binder_widths-around (scope_in x) p place) ∙ length-reverse (around_place x p place).widths in
    omega (arith, is, (room (protocol_term p) place).1, protocol_binders-few p, h.limits.nodes)

-- ---- a step that fits

-- no variable stands in the argument of its rule
argument-none : (n : ℕ) (rule : Rule) → AreArgumentsWithin n (rule_arguments rule) → greatest_in_rule rule ≤ 0
argument-none n (R.mask e) h = greatest_in_expression-bound n 0 e h.0
argument-none n _ h = omega arith

pub argument_has_room : (n : ℕ) (rule : Rule) → AreArgumentsWithin n (rule_arguments rule) → greatest_in_rule rule + most_nodes < 2 ^ 32
argument_has_room n rule h = omega (arith, argument-none n rule h)

-- the variables and the binders of a small term
term-bound : (n : ℕ) (t : Term) → term_nodes t ≤ most_nodes → IsTermWithin n t → (greatest_in_term t ≤ most_nodes) × (term_binders t ≤ most_nodes)
term-bound n (protocol_term p) small within =
    let few = protocol_binders-few p in let bound = greatest_in_protocol-bound n p within in (omega (arith, small, few, bound), omega (arith, small, few))
term-bound n (reaction_term r) small within =
    let few = reaction_binders-few r in let bound = greatest_in_reaction-bound n 0 r within in (omega (arith, small, few, bound), omega (arith, small, few))
term-bound n (expression_term e) small within = let bound = greatest_in_expression-bound n 0 e within in (omega (arith, bound), omega arith)

pub term_has_room : (n : ℕ) (rule : Rule) (t : Term) → AreArgumentsWithin n (rule_arguments rule) → term_nodes t ≤ most_nodes → IsTermWithin n t →
    max (greatest_in_rule rule) (greatest_in_term t) + 2 * term_binders t + most_nodes < 2 ^ 32
term_has_room n rule t arguments small within =
    let bound = term-bound n t small within in
    let none = argument-none n rule arguments in
    omega (arith, bound.0, bound.1, none)

-- ---- a settled step

greatest_in_expression-settled : (d : ℕ) (e : Expression) → greatest_in_expression (settled_expression d e) ≤ max (greatest_in_expression e) d
greatest_in_expression-settled d (literal bits) = omega arith
greatest_in_expression-settled d (variable m) = omega arith
greatest_in_expression-settled d (outer m) = omega arith
greatest_in_expression-settled d (application f e) = greatest_in_expression-settled d e
greatest_in_expression-settled d (exclusive a b) = omega (arith, greatest_in_expression-settled d a, greatest_in_expression-settled d b)
greatest_in_expression-settled d (conjunction a b) = omega (arith, greatest_in_expression-settled d a, greatest_in_expression-settled d b)
greatest_in_expression-settled d (negation a) = greatest_in_expression-settled d a
greatest_in_expression-settled d (concatenation a b) = omega (arith, greatest_in_expression-settled d a, greatest_in_expression-settled d b)
greatest_in_expression-settled d (segment i m a) = greatest_in_expression-settled d a
greatest_in_expression-settled d (equality a b) = omega (arith, greatest_in_expression-settled d a, greatest_in_expression-settled d b)
greatest_in_expression-settled d (selection c a b) = omega (arith, greatest_in_expression-settled d c, greatest_in_expression-settled d a, greatest_in_expression-settled d b)

pub greatest_in_reaction-settled : (d : ℕ) (r : Reaction) → greatest_in_reaction (settled_reaction d r) ≤ max (greatest_in_reaction r) (d + reaction_binders r)
greatest_in_reaction-settled d (returning e) = omega (arith, greatest_in_expression-settled d e)
greatest_in_reaction-settled d (flipping w) = omega arith
greatest_in_reaction-settled d (reading c) = omega arith
greatest_in_reaction-settled d (branching e r s) = omega (arith, greatest_in_expression-settled d e, greatest_in_reaction-settled d r, greatest_in_reaction-settled d s)
greatest_in_reaction-settled d (binding w r s) = omega (arith, greatest_in_reaction-settled d r, greatest_in_reaction-settled (suc d) s)

pub reaction_binders-settled : (d : ℕ) (r : Reaction) → reaction_binders (settled_reaction d r) ≡ reaction_binders r
reaction_binders-settled d (returning e) = refl
reaction_binders-settled d (flipping w) = refl
reaction_binders-settled d (reading c) = refl
reaction_binders-settled d (branching e r s) = ap₂ (λ m n. m + n) (reaction_binders-settled d r) (reaction_binders-settled d s)
reaction_binders-settled d (binding w r s) = ap₂ (λ m n. m + n + 1) (reaction_binders-settled d r) (reaction_binders-settled (suc d) s)

pub greatest_in_protocol-settled : (d : ℕ) (p : Protocol) → greatest_in_protocol (settled_protocol d p) ≤ max (greatest_in_protocol p) (d + protocol_binders p)
greatest_in_protocol-settled d nil = omega arith
greatest_in_protocol-settled d (assignment c r) = greatest_in_reaction-settled d r
greatest_in_protocol-settled d (parallel p q) = omega (arith, greatest_in_protocol-settled d p, greatest_in_protocol-settled d q)
greatest_in_protocol-settled d (hiding c w p) = greatest_in_protocol-settled d p

pub protocol_binders-settled : (d : ℕ) (p : Protocol) → protocol_binders (settled_protocol d p) ≡ protocol_binders p
protocol_binders-settled d nil = refl
protocol_binders-settled d (assignment c r) = reaction_binders-settled d r
protocol_binders-settled d (parallel p q) = ap₂ (λ m n. m + n) (protocol_binders-settled d p) (protocol_binders-settled d q)
protocol_binders-settled d (hiding c w p) = protocol_binders-settled d p

pub greatest_in_rule-settled : (d : ℕ) (rule : Rule) → greatest_in_rule (settled_rule d rule) ≤ max (greatest_in_rule rule) (d + 1)
greatest_in_rule-settled d (R.mask e) = greatest_in_expression-settled (d + 1) e
greatest_in_rule-settled d (R.table k e) = omega arith
greatest_in_rule-settled d (R.lin e) = omega arith
greatest_in_rule-settled d _ = omega arith

-- the number of widths that are held is that of the widths around
pub depth_is : (held widths : List ℕ) → reverse held ≡ widths → length held ≡ length widths
depth_is held widths h = sym (length-reverse held) ∙ ap length h
