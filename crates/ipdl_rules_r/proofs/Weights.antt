-- How many nodes there are, and how great the variables, where variables are changed.
use Rattle.std.proofs.Common.{◌≡◌, ℕ, suc, ◌+◌, ◌-◌, ◌≤◌, refl, sym, ap, ◌∙◌, arith}
use Rattle.std.proofs.lemmas.Bool.Decides.{nat_tests}
use Rattle.std.specs.Prelude.{if◌then◌else◌, nat_eq, nat_lt}
use Rattle.ipdl_laws.proofs.Sets.{by_test, if-true, if-false}
use Rattle.ipdl_laws.proofs.ChangedSizes.{lifted_reaction-nodes, lowered_reaction-nodes, put_reaction-same_nodes, LiftFitsInReaction-greatest}
use Rattle.ipdl_laws.proofs.Numbering.{by_order, stays, grows, put-near, put-here, put-behind, at_first, at_second, at_neither, variables_replaced, variables_joined}
use Rattle.ipdl_rules_r.specs.Weights.{weighed_variable, weighed_expression, weighed_reaction}
use Rattle.ipdl_term.proofs.SizeLemmas.{expression_nodes-lifted}
use Rattle.ipdl_term.specs.Sizes.{saturated, expression_nodes, reaction_nodes, reaction_binders, greatest_in_expression, greatest_in_reaction}
use Rattle.ipdl_term.specs.Terms.{Expression, literal, variable, outer, application, exclusive, conjunction, negation, concatenation, segment, equality, selection, Reaction, returning, flipping, reading, branching, binding}
use Rattle.ipdl_term.specs.Variables.{lifted_number, lifted_expression, lifted_reaction, put_number, put_expression, put_reaction}

-- ---- nodes

weighed_here : (d p q n : ℕ) → n ≡ d → weighed_variable d p q n ≡ p
weighed_here d p q n h = at_first d n p q 1 h

weighed_other : (d p n : ℕ) → (n ≡ d → ⊥) → weighed_variable d p 1 n ≡ 1
weighed_other d p n other = by_order n (suc d)
    (λ l. at_neither d n p 1 1 other (λ e. absurd (omega arith)))
    (λ e. at_second d n p 1 1 e)
    (λ l. at_neither d n p 1 1 other (λ e. absurd (omega arith)))

put_at : (d n : ℕ) (v : Expression) → expression_nodes (put_number d v n) ≡ weighed_variable d (expression_nodes v) 1 n
put_at d n v = by_order n d
    (λ l. ap expression_nodes (put-near d v n l) ∙ sym (weighed_other d (expression_nodes v) n (λ e. absurd (omega arith))))
    (λ e. ap expression_nodes (put-here d v n e) ∙ expression_nodes-lifted v 0 d ∙ sym (weighed_here d (expression_nodes v) 1 n e))
    (λ l. ap expression_nodes (put-behind d v n l) ∙ sym (weighed_other d (expression_nodes v) n (λ e. absurd (omega arith))))

replaced_at : (d n : ℕ) (v : Expression) → expression_nodes (put_expression d (lifted_expression (variable n) (suc d) 1) v) ≡ weighed_variable d (expression_nodes v) 1 n
replaced_at d n v = by_order n d
    (λ l. ap expression_nodes (variables_replaced d n v ∙ if-false (nat_eq n d) (lifted_expression v 0 d) (variable n) (grind (arith, nat_tests))) ∙ sym (weighed_other d (expression_nodes v) n (λ e. absurd (omega arith))))
    (λ e. ap expression_nodes (variables_replaced d n v ∙ if-true (nat_eq n d) (lifted_expression v 0 d) (variable n) (grind (arith, nat_tests))) ∙ expression_nodes-lifted v 0 d ∙ sym (weighed_here d (expression_nodes v) 1 n e))
    (λ l. ap expression_nodes (variables_replaced d n v ∙ if-false (nat_eq n d) (lifted_expression v 0 d) (variable n) (grind (arith, nat_tests))) ∙ sym (weighed_other d (expression_nodes v) n (λ e. absurd (omega arith))))

abbrev joined_expression : (v w d : ℕ) → Expression → Expression
joined_expression v w d e =
    put_expression d (put_expression d (lifted_expression e (suc (suc d)) 1) (segment v w (variable 1))) (segment 0 v (variable 0))

joined_at : (v w d n : ℕ) → expression_nodes (joined_expression v w d (variable n)) ≡ weighed_variable d 2 2 n
joined_at v w d n = ap expression_nodes (variables_joined v w d n) ∙ by_order n d
    (λ l. ap expression_nodes (at_neither d n a b c (λ e. absurd (omega arith)) (λ e. absurd (omega arith))) ∙ left ∙ sym (at_neither d n 2 2 1 (λ e. absurd (omega arith)) (λ e. absurd (omega arith))))
    (λ e. ap expression_nodes (at_first d n a b c e) ∙ sym (at_first d n 2 2 1 e))
    (λ l. by_order n (suc d)
    (λ k. absurd (omega arith))
    (λ e. ap expression_nodes (at_second d n a b c e) ∙ sym (at_second d n 2 2 1 e))
    (λ k. ap expression_nodes (at_neither d n a b c (λ e. absurd (omega arith)) (λ e. absurd (omega arith))) ∙ left ∙ sym (at_neither d n 2 2 1 (λ e. absurd (omega arith)) (λ e. absurd (omega arith)))))
  where
    a : Expression
    a = segment v w (variable d)

    b : Expression
    b = segment 0 v (variable d)

    c : Expression
    c = if nat_lt n d then variable n else variable (n - 1)

    left : expression_nodes c ≡ 1
    left = by_test (nat_lt n d)
        (λ e. ap expression_nodes (if-true (nat_lt n d) (variable n) (variable (n - 1)) e))
        (λ e. ap expression_nodes (if-false (nat_lt n d) (variable n) (variable (n - 1)) e))

pub put_expression-nodes : (d : ℕ) (e v : Expression) → expression_nodes (put_expression d e v) ≡ weighed_expression d (expression_nodes v) 1 e
put_expression-nodes d (literal bits) v = refl
put_expression-nodes d (variable n) v = put_at d n v
put_expression-nodes d (outer n) v = refl
put_expression-nodes d (application f e) v = rw (put_expression-nodes d e v)
put_expression-nodes d (exclusive a b) v = rw (put_expression-nodes d a v, put_expression-nodes d b v)
put_expression-nodes d (conjunction a b) v = rw (put_expression-nodes d a v, put_expression-nodes d b v)
put_expression-nodes d (negation a) v = rw (put_expression-nodes d a v)
put_expression-nodes d (concatenation a b) v = rw (put_expression-nodes d a v, put_expression-nodes d b v)
put_expression-nodes d (segment i m a) v = rw (put_expression-nodes d a v)
put_expression-nodes d (equality a b) v = rw (put_expression-nodes d a v, put_expression-nodes d b v)
put_expression-nodes d (selection c a b) v = rw (put_expression-nodes d c v, put_expression-nodes d a v, put_expression-nodes d b v)

pub put_reaction-nodes : (d : ℕ) (r : Reaction) (v : Expression) → reaction_nodes (put_reaction d r v) ≡ weighed_reaction d (expression_nodes v) 1 r
put_reaction-nodes d (returning e) v = rw (put_expression-nodes d e v)
put_reaction-nodes d (flipping w) v = refl
put_reaction-nodes d (reading c) v = refl
put_reaction-nodes d (branching e r s) v = rw (put_expression-nodes d e v, put_reaction-nodes d r v, put_reaction-nodes d s v)
put_reaction-nodes d (binding w r s) v = rw (put_reaction-nodes d r v, put_reaction-nodes (suc d) s v)

pub replaced_expression-nodes : (d : ℕ) (e v : Expression) → expression_nodes (put_expression d (lifted_expression e (suc d) 1) v) ≡ weighed_expression d (expression_nodes v) 1 e
replaced_expression-nodes d (literal bits) v = refl
replaced_expression-nodes d (variable n) v = replaced_at d n v
replaced_expression-nodes d (outer n) v = refl
replaced_expression-nodes d (application f e) v = rw (replaced_expression-nodes d e v)
replaced_expression-nodes d (exclusive a b) v = rw (replaced_expression-nodes d a v, replaced_expression-nodes d b v)
replaced_expression-nodes d (conjunction a b) v = rw (replaced_expression-nodes d a v, replaced_expression-nodes d b v)
replaced_expression-nodes d (negation a) v = rw (replaced_expression-nodes d a v)
replaced_expression-nodes d (concatenation a b) v = rw (replaced_expression-nodes d a v, replaced_expression-nodes d b v)
replaced_expression-nodes d (segment i m a) v = rw (replaced_expression-nodes d a v)
replaced_expression-nodes d (equality a b) v = rw (replaced_expression-nodes d a v, replaced_expression-nodes d b v)
replaced_expression-nodes d (selection c a b) v = rw (replaced_expression-nodes d c v, replaced_expression-nodes d a v, replaced_expression-nodes d b v)

pub replaced_reaction-nodes : (d : ℕ) (r : Reaction) (v : Expression) → reaction_nodes (put_reaction d (lifted_reaction r (suc d) 1) v) ≡ weighed_reaction d (expression_nodes v) 1 r
replaced_reaction-nodes d (returning e) v = rw (replaced_expression-nodes d e v)
replaced_reaction-nodes d (flipping w) v = refl
replaced_reaction-nodes d (reading c) v = refl
replaced_reaction-nodes d (branching e r s) v = rw (replaced_expression-nodes d e v, replaced_reaction-nodes d r v, replaced_reaction-nodes d s v)
replaced_reaction-nodes d (binding w r s) v = rw (replaced_reaction-nodes d r v, replaced_reaction-nodes (suc d) s v)

pub joined_expression-nodes : (v w d : ℕ) (e : Expression) → expression_nodes (joined_expression v w d e) ≡ weighed_expression d 2 2 e
joined_expression-nodes v w d (literal bits) = refl
joined_expression-nodes v w d (variable n) = joined_at v w d n
joined_expression-nodes v w d (outer n) = refl
joined_expression-nodes v w d (application f e) = rw (joined_expression-nodes v w d e)
joined_expression-nodes v w d (exclusive a b) = rw (joined_expression-nodes v w d a, joined_expression-nodes v w d b)
joined_expression-nodes v w d (conjunction a b) = rw (joined_expression-nodes v w d a, joined_expression-nodes v w d b)
joined_expression-nodes v w d (negation a) = rw (joined_expression-nodes v w d a)
joined_expression-nodes v w d (concatenation a b) = rw (joined_expression-nodes v w d a, joined_expression-nodes v w d b)
joined_expression-nodes v w d (segment i m a) = rw (joined_expression-nodes v w d a)
joined_expression-nodes v w d (equality a b) = rw (joined_expression-nodes v w d a, joined_expression-nodes v w d b)
joined_expression-nodes v w d (selection c a b) = rw (joined_expression-nodes v w d c, joined_expression-nodes v w d a, joined_expression-nodes v w d b)

pub joined_reaction-nodes : (x y d : ℕ) (r : Reaction) → reaction_nodes (put_reaction d (put_reaction d (lifted_reaction r (suc (suc d)) 1) (segment x y (variable 1))) (segment 0 x (variable 0))) ≡ weighed_reaction d 2 2 r
joined_reaction-nodes x y d (returning e) = rw (joined_expression-nodes x y d e)
joined_reaction-nodes x y d (flipping w) = refl
joined_reaction-nodes x y d (reading c) = refl
joined_reaction-nodes x y d (branching e r s) = rw (joined_expression-nodes x y d e, joined_reaction-nodes x y d r, joined_reaction-nodes x y d s)
joined_reaction-nodes x y d (binding w r s) = rw (joined_reaction-nodes x y d r, joined_reaction-nodes x y (suc d) s)

pub exchanged_reaction-nodes : (r : Reaction) → reaction_nodes (put_reaction 0 (lifted_reaction r 2 1) (variable 1)) ≡ reaction_nodes r
exchanged_reaction-nodes r = put_reaction-same_nodes (variable 1) refl 0 (lifted_reaction r 2 1) ∙ lifted_reaction-nodes 2 1 r

-- ---- nodes, counted in 64 bits

both : (a b c d : ℕ) → saturated a ≡ saturated b → saturated c ≡ saturated d → saturated (a + c) ≡ saturated (b + d)
both a b c d h k = omega (arith, h, k)

saturated_at : (d p q n : ℕ) → saturated (weighed_variable d (saturated p) q n) ≡ saturated (weighed_variable d p q n)
saturated_at d p q n = by_test (nat_eq n d)
    (λ e. ap saturated (if-true (nat_eq n d) (saturated p) other e) ∙ twice ∙ sym (ap saturated (if-true (nat_eq n d) p other e)))
    (λ e. ap saturated (if-false (nat_eq n d) (saturated p) other e ∙ sym (if-false (nat_eq n d) p other e)))
  where
    other : ℕ
    other = if nat_eq n (suc d) then q else 1

    twice : saturated (saturated p) ≡ saturated p
    twice = omega arith

pub saturated_expression : (d p q : ℕ) (e : Expression) → saturated (weighed_expression d (saturated p) q e) ≡ saturated (weighed_expression d p q e)
saturated_expression d p q (literal bits) = refl
saturated_expression d p q (variable n) = saturated_at d p q n
saturated_expression d p q (outer n) = refl
saturated_expression d p q (application f e) = both _ _ _ _ (saturated_expression d p q e) refl
saturated_expression d p q (exclusive a b) = both _ _ _ _ (both _ _ _ _ (saturated_expression d p q a) (saturated_expression d p q b)) refl
saturated_expression d p q (conjunction a b) = both _ _ _ _ (both _ _ _ _ (saturated_expression d p q a) (saturated_expression d p q b)) refl
saturated_expression d p q (negation a) = both _ _ _ _ (saturated_expression d p q a) refl
saturated_expression d p q (concatenation a b) = both _ _ _ _ (both _ _ _ _ (saturated_expression d p q a) (saturated_expression d p q b)) refl
saturated_expression d p q (segment i m a) = both _ _ _ _ (saturated_expression d p q a) refl
saturated_expression d p q (equality a b) = both _ _ _ _ (both _ _ _ _ (saturated_expression d p q a) (saturated_expression d p q b)) refl
saturated_expression d p q (selection c a b) = both _ _ _ _ (both _ _ _ _ (both _ _ _ _ (saturated_expression d p q c) (saturated_expression d p q a)) (saturated_expression d p q b)) refl

pub saturated_reaction : (d p q : ℕ) (r : Reaction) → saturated (weighed_reaction d (saturated p) q r) ≡ saturated (weighed_reaction d p q r)
saturated_reaction d p q (returning e) = both _ _ _ _ (saturated_expression d p q e) refl
saturated_reaction d p q (flipping w) = refl
saturated_reaction d p q (reading c) = refl
saturated_reaction d p q (branching e r s) = both _ _ _ _ (both _ _ _ _ (both _ _ _ _ (saturated_expression d p q e) (saturated_reaction d p q r)) (saturated_reaction d p q s)) refl
saturated_reaction d p q (binding w r s) = both _ _ _ _ (both _ _ _ _ (saturated_reaction d p q r) (saturated_reaction (suc d) p q s)) refl

-- ---- how great the variables are

lifted_at : (from by n : ℕ) → lifted_number from by n ≤ n + by
lifted_at from by n = by_order n from
    (λ l. omega (arith, stays from by n l))
    (λ e. omega (arith, grows from by n (omega arith)))
    (λ l. omega (arith, grows from by n (omega arith)))

pub lifted_expression-greatest : (from by : ℕ) (e : Expression) → greatest_in_expression (lifted_expression e from by) ≤ greatest_in_expression e + by
lifted_expression-greatest from by (literal bits) = omega arith
lifted_expression-greatest from by (variable n) = lifted_at from by n
lifted_expression-greatest from by (outer n) = omega arith
lifted_expression-greatest from by (application f e) = omega (arith, lifted_expression-greatest from by e)
lifted_expression-greatest from by (exclusive a b) = omega (arith, lifted_expression-greatest from by a, lifted_expression-greatest from by b)
lifted_expression-greatest from by (conjunction a b) = omega (arith, lifted_expression-greatest from by a, lifted_expression-greatest from by b)
lifted_expression-greatest from by (negation a) = omega (arith, lifted_expression-greatest from by a)
lifted_expression-greatest from by (concatenation a b) = omega (arith, lifted_expression-greatest from by a, lifted_expression-greatest from by b)
lifted_expression-greatest from by (segment i m a) = omega (arith, lifted_expression-greatest from by a)
lifted_expression-greatest from by (equality a b) = omega (arith, lifted_expression-greatest from by a, lifted_expression-greatest from by b)
lifted_expression-greatest from by (selection c a b) = omega (arith, lifted_expression-greatest from by c, lifted_expression-greatest from by a, lifted_expression-greatest from by b)

pub lifted_reaction-greatest : (from by : ℕ) (r : Reaction) → greatest_in_reaction (lifted_reaction r from by) ≤ greatest_in_reaction r + by
lifted_reaction-greatest from by (returning e) = omega (arith, lifted_expression-greatest from by e)
lifted_reaction-greatest from by (flipping w) = omega arith
lifted_reaction-greatest from by (reading c) = omega arith
lifted_reaction-greatest from by (branching e r s) = omega (arith, lifted_expression-greatest from by e, lifted_reaction-greatest from by r, lifted_reaction-greatest from by s)
lifted_reaction-greatest from by (binding w r s) = omega (arith, lifted_reaction-greatest from by r, lifted_reaction-greatest (suc from) by s)

greatest_at : (d n : ℕ) (v : Expression) → greatest_in_expression (put_number d v n) ≤ n + greatest_in_expression v
greatest_at d n v = by_order n d
    (λ l. omega (arith, ap greatest_in_expression (put-near d v n l)))
    (λ e. omega (arith, ap greatest_in_expression (put-here d v n e), lifted_expression-greatest 0 d v))
    (λ l. omega (arith, ap greatest_in_expression (put-behind d v n l)))

pub put_expression-greatest : (d : ℕ) (e v : Expression) → greatest_in_expression (put_expression d e v) ≤ greatest_in_expression e + greatest_in_expression v
put_expression-greatest d (literal bits) v = omega arith
put_expression-greatest d (variable n) v = greatest_at d n v
put_expression-greatest d (outer n) v = omega arith
put_expression-greatest d (application f e) v = omega (arith, put_expression-greatest d e v)
put_expression-greatest d (exclusive a b) v = omega (arith, put_expression-greatest d a v, put_expression-greatest d b v)
put_expression-greatest d (conjunction a b) v = omega (arith, put_expression-greatest d a v, put_expression-greatest d b v)
put_expression-greatest d (negation a) v = omega (arith, put_expression-greatest d a v)
put_expression-greatest d (concatenation a b) v = omega (arith, put_expression-greatest d a v, put_expression-greatest d b v)
put_expression-greatest d (segment i m a) v = omega (arith, put_expression-greatest d a v)
put_expression-greatest d (equality a b) v = omega (arith, put_expression-greatest d a v, put_expression-greatest d b v)
put_expression-greatest d (selection c a b) v = omega (arith, put_expression-greatest d c v, put_expression-greatest d a v, put_expression-greatest d b v)

pub put_reaction-greatest : (d : ℕ) (r : Reaction) (v : Expression) → greatest_in_reaction (put_reaction d r v) ≤ greatest_in_reaction r + greatest_in_expression v
put_reaction-greatest d (returning e) v = omega (arith, put_expression-greatest d e v)
put_reaction-greatest d (flipping w) v = omega arith
put_reaction-greatest d (reading c) v = omega arith
put_reaction-greatest d (branching e r s) v = omega (arith, put_expression-greatest d e v, put_reaction-greatest d r v, put_reaction-greatest d s v)
put_reaction-greatest d (binding w r s) v = omega (arith, put_reaction-greatest d r v, put_reaction-greatest (suc d) s v)

pub lifted_reaction-binders : (from by : ℕ) (r : Reaction) → reaction_binders (lifted_reaction r from by) ≡ reaction_binders r
lifted_reaction-binders from by (returning e) = refl
lifted_reaction-binders from by (flipping w) = refl
lifted_reaction-binders from by (reading c) = refl
lifted_reaction-binders from by (branching e r s) = rw (lifted_reaction-binders from by r, lifted_reaction-binders from by s)
lifted_reaction-binders from by (binding w r s) = rw (lifted_reaction-binders from by r, lifted_reaction-binders (suc from) by s)

pub put_reaction-binders : (d : ℕ) (r : Reaction) (v : Expression) → reaction_binders (put_reaction d r v) ≡ reaction_binders r
put_reaction-binders d (returning e) v = refl
put_reaction-binders d (flipping w) v = refl
put_reaction-binders d (reading c) v = refl
put_reaction-binders d (branching e r s) v = rw (put_reaction-binders d r v, put_reaction-binders d s v)
put_reaction-binders d (binding w r s) v = rw (put_reaction-binders d r v, put_reaction-binders (suc d) s v)

pub ruleset weights = (put_reaction-nodes, replaced_reaction-nodes, joined_reaction-nodes, lifted_reaction-nodes, lowered_reaction-nodes, exchanged_reaction-nodes, saturated_reaction)

pub ruleset fitting = (LiftFitsInReaction-greatest, lifted_reaction-greatest, put_reaction-greatest, lifted_reaction-binders, put_reaction-binders)
