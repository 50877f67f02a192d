-- Reactions one after the other, as tidy forms have them: what they are by the form of each, with their variables changed,
-- and three in a row.
use Rattle.std.proofs.Common.{◌≡◌, ℕ, zero, suc, ◌+◌, ◌-◌, ◌<◌, true, false, Option, Some, None, refl, sym, ap, ◌∙◌, arith}
use Rattle.std.proofs.lemmas.Bool.Decides.{nat_tests}
use Rattle.std.specs.Prelude.{nat_eq, nat_lt}
use Rattle.ipdl_laws.proofs.Numbering.{by_order, stays, grows, put-near, put-here, put-behind}
use Rattle.ipdl_laws.proofs.Sets.{by_test}
use Rattle.ipdl_norm.specs.AtOnce.{returns_first, is_action, at_once, variable_then, at_once_then}
use Rattle.ipdl_norm.specs.Tidied.{grafted, tidied}
use Rattle.ipdl_norm.proofs.Changing.{lifted_by_none, put_past, lifted_in_turn, put_behind_lifted, put_in_turn, lifted_behind_put}
use Rattle.ipdl_term.specs.Terms.{Expression, variable, Reaction, returning, flipping, reading, branching, binding}
use Rattle.ipdl_term.specs.Variables.{lifted_number, lifted_expression, lifted_reaction, put_number, put_expression, put_reaction}

-- ---- variable 0 returned at once

-- the value put for variable 0 itself
put_first : (e : Expression) → put_number 0 e 0 ≡ e
put_first e = put-here 0 e 0 refl ∙ lifted_by_none e 0

returns_first-lifted : (from : ℕ) (t : Reaction) → returns_first (lifted_reaction t (suc from) 1) ≡ returns_first t
returns_first-lifted from (returning (variable zero)) = ap (λ x. returns_first (returning (variable x))) (stays (suc from) 1 zero (omega arith))
returns_first-lifted from (returning (variable (suc n))) = by_test (nat_lt (suc n) (suc from))
    (λ k. ap (λ x. returns_first (returning (variable x))) (stays (suc from) 1 (suc n) (grind (arith, nat_tests))))
    (λ k. let more : lifted_number (suc from) 1 (suc n) ≡ suc (suc n) = grows (suc from) 1 (suc n) (grind (arith, nat_tests)) ∙ omega arith in ap (λ x. returns_first (returning (variable x))) more)
returns_first-lifted from _ = refl

returns_first-put : (depth : ℕ) (t : Reaction) (e : Expression) → returns_first (put_reaction (suc depth) t e) ≡ returns_first t
returns_first-put depth (returning (variable zero)) e = ap (λ x. returns_first (returning x)) (put-near (suc depth) e zero (omega arith))
returns_first-put depth (returning (variable (suc n))) e = by_order (suc n) (suc depth)
    (λ l. ap (λ x. returns_first (returning x)) (put-near (suc depth) e (suc n) l))
    (λ l. ap (λ x. returns_first (returning x)) (put-here (suc depth) e (suc n) l) ∙ far e)
    (λ l. ap (λ x. returns_first (returning x)) (put-behind (suc depth) e (suc n) l) ∙ less n (omega (arith, l)))
  where
    far : (x : Expression) → returns_first (returning (lifted_expression x 0 (suc depth))) ≡ false
    far (variable m) = let more : lifted_number 0 (suc depth) m ≡ suc (m + depth) = grows 0 (suc depth) m (omega arith) ∙ omega arith in ap (λ x. returns_first (returning (variable x))) more
    far _ = refl

    less : (m : ℕ) → 0 < m → returns_first (returning (variable (suc m - 1))) ≡ false
    less zero h = absurd (omega (arith, h))
    less (suc m) h = let one : suc (suc m) - 1 ≡ suc m = omega arith in ap (λ x. returns_first (returning (variable x))) one
returns_first-put depth _ e = refl

-- ---- by the form of each

pub grafted-first : (w : ℕ) (r t : Reaction) → returns_first t ≡ true → grafted w r t ≡ r
grafted-first w r (returning (variable zero)) h = refl
grafted-first w r _ h = cc

-- a value, also where the second part returns it at once
pub grafted-value : (w : ℕ) (e : Expression) (t : Reaction) → grafted w (returning e) t ≡ put_reaction 0 t e
grafted-value w e (returning (variable zero)) = ap returning (sym (put_first e))
grafted-value w e t = refl

-- a `bind`, likewise
pub grafted-binding : (w v : ℕ) (q s t : Reaction) → grafted w (binding v q s) t ≡ binding v q (grafted w s (lifted_reaction t 1 1))
grafted-binding w v q s (returning (variable zero)) = ap (binding v q) (sym (ap (λ x. grafted w s (returning (variable x))) (stays 1 1 0 (omega arith))))
grafted-binding w v q s t = refl

pub grafted-action : (w : ℕ) (r t : Reaction) → is_action r ≡ true → returns_first t ≡ false → grafted w r t ≡ binding w r t
grafted-action w (returning e) t a h = cc
grafted-action w (binding v q s) t a h = cc
grafted-action w r (returning (variable zero)) a h = cc
grafted-action w r t a h = refl

-- ---- with their variables changed

-- what a change does to both, be it a lift or a put, where the first part is and stays an action
changed_action : (change under : Reaction → Reaction) → ((w : ℕ) (r t : Reaction) → change (binding w r t) ≡ binding w (change r) (under t)) → ((t : Reaction) → returns_first (under t) ≡ returns_first t) →
    (w : ℕ) (r t : Reaction) → is_action r ≡ true → is_action (change r) ≡ true → change (grafted w r t) ≡ grafted w (change r) (under t)
changed_action change under bound first w r t a a' = by_test (returns_first t)
    (λ h. ap change (grafted-first w r t h) ∙ sym (grafted-first w (change r) (under t) (first t ∙ h)))
    (λ h. ap change (grafted-action w r t a h) ∙ bound w r t ∙ sym (grafted-action w (change r) (under t) a' (first t ∙ h)))

put_grafted : (s : Reaction) (depth w : ℕ) (t : Reaction) (e : Expression) → put_reaction depth (grafted w s t) e ≡ grafted w (put_reaction depth s e) (put_reaction (suc depth) t e)
put_grafted (returning u) depth w t e =
    ap (λ x. put_reaction depth x e) (grafted-value w u t) ∙ put_in_turn t 0 depth depth u e (omega arith) ∙ sym (grafted-value w (put_expression depth u e) (put_reaction (suc depth) t e))
put_grafted (flipping n) depth w t e = changed_action (λ x. put_reaction depth x e) (λ x. put_reaction (suc depth) x e) (λ v q s. refl) (λ x. returns_first-put depth x e) w (flipping n) t refl refl
put_grafted (reading c) depth w t e = changed_action (λ x. put_reaction depth x e) (λ x. put_reaction (suc depth) x e) (λ v q s. refl) (λ x. returns_first-put depth x e) w (reading c) t refl refl
put_grafted (branching u r s) depth w t e = changed_action (λ x. put_reaction depth x e) (λ x. put_reaction (suc depth) x e) (λ v q s. refl) (λ x. returns_first-put depth x e) w (branching u r s) t refl refl
put_grafted (binding v q s) depth w t e =
    ap (λ x. put_reaction depth x e) (grafted-binding w v q s t) ∙
    ap (binding v (put_reaction depth q e)) (put_grafted s (suc depth) w (lifted_reaction t 1 1) e ∙ ap (grafted w (put_reaction (suc depth) s e)) (put_behind_lifted t 1 (suc depth) e (omega arith))) ∙
    sym (grafted-binding w v (put_reaction depth q e) (put_reaction (suc depth) s e) (put_reaction (suc depth) t e))

lifted_grafted : (s : Reaction) (from w : ℕ) (t : Reaction) → lifted_reaction (grafted w s t) from 1 ≡ grafted w (lifted_reaction s from 1) (lifted_reaction t (suc from) 1)
lifted_grafted (returning u) from w t =
    ap (λ x. lifted_reaction x from 1) (grafted-value w u t) ∙ lifted_behind_put t 0 from from u (omega arith) ∙ sym (grafted-value w (lifted_expression u from 1) (lifted_reaction t (suc from) 1))
lifted_grafted (flipping n) from w t = changed_action (λ x. lifted_reaction x from 1) (λ x. lifted_reaction x (suc from) 1) (λ v q s. refl) (returns_first-lifted from) w (flipping n) t refl refl
lifted_grafted (reading c) from w t = changed_action (λ x. lifted_reaction x from 1) (λ x. lifted_reaction x (suc from) 1) (λ v q s. refl) (returns_first-lifted from) w (reading c) t refl refl
lifted_grafted (branching u r s) from w t = changed_action (λ x. lifted_reaction x from 1) (λ x. lifted_reaction x (suc from) 1) (λ v q s. refl) (returns_first-lifted from) w (branching u r s) t refl refl
lifted_grafted (binding v q s) from w t =
    ap (λ x. lifted_reaction x from 1) (grafted-binding w v q s t) ∙
    ap (binding v (lifted_reaction q from 1)) (lifted_grafted s (suc from) w (lifted_reaction t 1 1) ∙ ap (grafted w (lifted_reaction s (suc from) 1)) (lifted_in_turn t 1 (suc from) (omega arith))) ∙
    sym (grafted-binding w v (lifted_reaction q from 1) (lifted_reaction s (suc from) 1) (lifted_reaction t (suc from) 1))

-- ---- three in a row

still_action : (w : ℕ) (r t : Reaction) → is_action r ≡ true → returns_first r ≡ false → returns_first (grafted w r t) ≡ false
still_action w r t a h = by_test (returns_first t) (λ k. ap returns_first (grafted-first w r t k) ∙ h) (λ k. ap returns_first (grafted-action w r t a k))

-- what does not return its own variable at once does not come to do so
still_not_first : (w : ℕ) (s t : Reaction) → returns_first s ≡ false → returns_first (grafted w s (lifted_reaction t 1 1)) ≡ false
still_not_first w (returning e) t h = ap returns_first (grafted-value w e (lifted_reaction t 1 1)) ∙ behind t
  where
    behind : (t : Reaction) → returns_first (put_reaction 0 (lifted_reaction t 1 1) e) ≡ false
    behind (returning (variable zero)) = ap (λ n. returns_first (returning (put_number 0 e n))) (stays 1 1 0 (omega arith)) ∙ ap (λ x. returns_first (returning x)) (put_first e) ∙ h
    behind (returning (variable (suc n))) =
        let more : lifted_number 1 1 (suc n) ≡ suc (suc n) = grows 1 1 (suc n) (omega arith) ∙ omega arith in
        let less : suc (suc n) - 1 ≡ suc n = omega arith in
        ap (λ n. returns_first (returning (put_number 0 e n))) more ∙ ap (λ x. returns_first (returning x)) (put-behind 0 e (suc (suc n)) (omega arith)) ∙ ap (λ n. returns_first (returning (variable n))) less
    behind _ = refl
still_not_first w (binding v q s) t h = ap returns_first (grafted-binding w v q s (lifted_reaction t 1 1))
still_not_first w (flipping n) t h = still_action w (flipping n) (lifted_reaction t 1 1) refl h
still_not_first w (reading c) t h = still_action w (reading c) (lifted_reaction t 1 1) refl h
still_not_first w (branching e r s) t h = still_action w (branching e r s) (lifted_reaction t 1 1) refl h

grouped_action : (q : Reaction) (w v : ℕ) (s t : Reaction) → is_action q ≡ true → returns_first s ≡ false → grafted w (grafted v q s) t ≡ grafted v q (grafted w s (lifted_reaction t 1 1))
grouped_action q w v s t a h =
    ap (λ x. grafted w x t) (grafted-action v q s a h) ∙ grafted-binding w v q s t ∙ sym (grafted-action v q (grafted w s (lifted_reaction t 1 1)) a (still_not_first w s t h))

-- Three in a row are grouped the other way, unless the one in the middle returns at once what it is given.
pub grouped : (q : Reaction) (w v : ℕ) (s t : Reaction) → returns_first s ≡ false → grafted w (grafted v q s) t ≡ grafted v q (grafted w s (lifted_reaction t 1 1))
grouped (returning e) w v s t h =
    ap (λ x. grafted w x t) (grafted-value v e s) ∙
    sym (grafted-value v e (grafted w s (lifted_reaction t 1 1)) ∙ put_grafted s 0 w (lifted_reaction t 1 1) e ∙ ap (grafted w (put_reaction 0 s e)) (put_past t 1 e))
grouped (binding y p r) w v s t h =
    ap (λ x. grafted w x t) (grafted-binding v y p r s) ∙ grafted-binding w y p (grafted v r (lifted_reaction s 1 1)) t ∙
    ap (binding y p) (grouped r w v (lifted_reaction s 1 1) (lifted_reaction t 1 1) (returns_first-lifted 0 s ∙ h) ∙
    ap (grafted v r) (ap (grafted w (lifted_reaction s 1 1)) (sym (lifted_in_turn t 1 1 (omega arith))) ∙ sym (lifted_grafted s 1 w (lifted_reaction t 1 1)))) ∙
    sym (grafted-binding v y p r (grafted w s (lifted_reaction t 1 1)))
grouped (flipping n) w v s t h = grouped_action (flipping n) w v s t refl h
grouped (reading c) w v s t h = grouped_action (reading c) w v s t refl h
grouped (branching u p r) w v s t h = grouped_action (branching u p r) w v s t refl h

-- ---- what is returned at once

-- an expression is returned at once
at_once-value : (e : Expression) → (first : Option ℕ) × (at_once (returning e) ≡ Some first)
at_once-value (variable n) = (Some n, refl)
at_once-value _ = (None, refl)

variable_then-behind : (first : Option ℕ) (n : ℕ) → variable_then first (suc n) ≡ Some (suc n - 1)
variable_then-behind first n = let no : nat_eq (suc n) 0 ≡ false = grind (arith, nat_tests) in rw no

at_once-put : (e : Expression) (t : Reaction) → at_once (put_reaction 0 t e) ≡ at_once_then (at_once (returning e)) (at_once t)
at_once-put e (returning (variable zero)) =
    let first = at_once-value e in
    ap (λ x. at_once (returning x)) (put_first e) ∙ first.1 ∙ sym (ap (λ o. at_once_then o (Some (Some 0))) first.1)
at_once-put e (returning (variable (suc n))) =
    let first = at_once-value e in
    ap (λ x. at_once (returning x)) (put-behind 0 e (suc n) (omega arith)) ∙ sym (ap (λ o. at_once_then o (Some (Some (suc n)))) first.1 ∙ ap Some (variable_then-behind first.0 n))
at_once-put e t = sym (ap (λ o. at_once_then o (at_once t)) (at_once-value e).1)

at_once-grafted : (w : ℕ) (r t : Reaction) → at_once (grafted w r t) ≡ at_once_then (at_once r) (at_once t)
at_once-grafted w (returning e) t = ap at_once (grafted-value w e t) ∙ at_once-put e t
at_once-grafted w (binding v q s) t = ap at_once (grafted-binding w v q s t)
at_once-grafted w r (returning (variable zero)) = refl
at_once-grafted w r t = refl

pub at_once-tidied : (w : ℕ) (r s : Reaction) → at_once (tidied (binding w r s)) ≡ at_once_then (at_once (tidied r)) (at_once (tidied s))
at_once-tidied w r s = at_once-grafted w (tidied r) (tidied s)

-- returned at once is variable 0
pub returns_first-at_once : (t : Reaction) → at_once t ≡ Some (Some 0) → returns_first t ≡ true
returns_first-at_once (returning (variable zero)) h = refl
returns_first-at_once _ h = cc

pub returns_other-at_once : (t : Reaction) → (at_once t ≡ Some (Some 0) → ⊥) → returns_first t ≡ false
returns_other-at_once (returning (variable zero)) h = absurd (h refl)
returns_other-at_once (returning (variable (suc n))) h = refl
returns_other-at_once _ h = refl
