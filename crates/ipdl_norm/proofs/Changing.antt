-- Two changes one after the other that do to each variable what two others do, do the same to each term.
use Rattle.std.proofs.Common.{◌≡◌, ℕ, suc, ◌+◌, ◌-◌, ◌<◌, ◌≤◌, refl, sym, ap, ap₂, ◌∙◌, arith}
use Rattle.std.proofs.lemmas.Bool.Decides.{nat_tests}
use Rattle.std.specs.Prelude.{nat_lt}
use Rattle.ipdl_laws.proofs.Numbering.{by_order, stays, grows, put-near, put-here, put-behind}
use Rattle.ipdl_laws.proofs.Sets.{by_test}
use Rattle.ipdl_term.proofs.ChangeLemmas.{kept, lifted, with_value, changed_expression-lift, changed_expression-put}
use Rattle.ipdl_term.specs.Changes.{Change, keep, lift, put, changed_variable, changed_outer_variable, changed_expression, changed_reaction}
use Rattle.ipdl_term.specs.Terms.{Expression, literal, variable, outer, application, exclusive, conjunction, negation, concatenation, segment, equality, selection, Reaction, returning, flipping, reading, branching, binding}
use Rattle.ipdl_term.specs.Variables.{lifted_number, lifted_expression, lifted_reaction, put_number, put_expression, put_reaction}

equal_selection : {c c' a a' b b' : Expression} → c ≡ c' → a ≡ a' → b ≡ b' → selection c a b ≡ selection c' a' b'
equal_selection h k l = rw (h, k, l)

equal_branching : {e e' : Expression} {r r' s s' : Reaction} → e ≡ e' → r ≡ r' → s ≡ s' → branching e r s ≡ branching e' r' s'
equal_branching h k l = rw (h, k, l)

module _ (A B C D : Change) where
  -- the same of each variable and of each outer one, at these depths
  abbrev Agree : (a b c d : ℕ) → Type 0
  Agree a b c d =
      ((n : ℕ) → changed_expression B b (changed_variable A a n) ≡ changed_expression D d (changed_variable C c n)) ×
      ((n : ℕ) → changed_expression B b (changed_outer_variable A a n) ≡ changed_expression D d (changed_outer_variable C c n))

  twice_in_expression : (a b c d : ℕ) → Agree a b c d → (e : Expression) → changed_expression B b (changed_expression A a e) ≡ changed_expression D d (changed_expression C c e)
  twice_in_expression a b c d h (literal bits) = refl
  twice_in_expression a b c d h (variable n) = h.0 n
  twice_in_expression a b c d h (outer n) = h.1 n
  twice_in_expression a b c d h (application f x) = ap (application f) (twice_in_expression a b c d h x)
  twice_in_expression a b c d h (exclusive x y) = ap₂ exclusive (twice_in_expression a b c d h x) (twice_in_expression a b c d h y)
  twice_in_expression a b c d h (conjunction x y) = ap₂ conjunction (twice_in_expression a b c d h x) (twice_in_expression a b c d h y)
  twice_in_expression a b c d h (negation x) = ap negation (twice_in_expression a b c d h x)
  twice_in_expression a b c d h (concatenation x y) = ap₂ concatenation (twice_in_expression a b c d h x) (twice_in_expression a b c d h y)
  twice_in_expression a b c d h (segment i m x) = ap (segment i m) (twice_in_expression a b c d h x)
  twice_in_expression a b c d h (equality x y) = ap₂ equality (twice_in_expression a b c d h x) (twice_in_expression a b c d h y)
  twice_in_expression a b c d h (selection x y z) =
      equal_selection (twice_in_expression a b c d h x) (twice_in_expression a b c d h y) (twice_in_expression a b c d h z)

  -- in a reaction, where they agree at depths of a relation that binders keep
  module _ (Are : (a b c d : ℕ) → Type 0) (next : (a b c d : ℕ) → Are a b c d → Are (suc a) (suc b) (suc c) (suc d)) (agree : (a b c d : ℕ) → Are a b c d → Agree a b c d) where
    twice_in_reaction : (a b c d : ℕ) → Are a b c d → (r : Reaction) → changed_reaction B b (changed_reaction A a r) ≡ changed_reaction D d (changed_reaction C c r)
    twice_in_reaction a b c d h (returning e) = ap returning (twice_in_expression a b c d (agree a b c d h) e)
    twice_in_reaction a b c d h (flipping w) = refl
    twice_in_reaction a b c d h (reading x) = refl
    twice_in_reaction a b c d h (branching e r s) =
        equal_branching (twice_in_expression a b c d (agree a b c d h) e) (twice_in_reaction a b c d h r) (twice_in_reaction a b c d h s)
    twice_in_reaction a b c d h (binding w r s) =
        ap₂ (binding w) (twice_in_reaction a b c d h r) (twice_in_reaction (suc a) (suc b) (suc c) (suc d) (next a b c d h) s)

-- ---- expressions

-- lifted by nothing
pub lifted_by_none : (e : Expression) (from : ℕ) → lifted_expression e from 0 ≡ e
lifted_by_none e from =
    let law = twice_in_expression (lift 0) keep keep keep from 0 0 0 (none, (λ n. refl)) e in
    simp (lifted, kept) at law
  where
    none : (n : ℕ) → variable (lifted_number from 0 n) ≡ variable n
    none n = ap variable (by_order n from (λ l. stays from 0 n l) (λ l. grows from 0 n (omega arith) ∙ omega arith) (λ l. grows from 0 n (omega arith) ∙ omega arith))

-- a lift from so far on of what was lifted from the start on
lifted_again : (e : Expression) (by more from : ℕ) → from ≤ by → lifted_expression (lifted_expression e 0 by) from more ≡ lifted_expression e 0 (by + more)
lifted_again e by more from h =
    let law = twice_in_expression (lift by) (lift more) (lift (by + more)) keep 0 from 0 0
    ((λ n. ap variable (ap (lifted_number from more) (grows 0 by n (omega arith)) ∙ grows from more (n + by) (omega arith) ∙ omega arith ∙ sym (grows 0 (by + more) n (omega arith)))), (λ n. refl)) e in
    simp (lifted, kept) at law

-- a lift behind what was lifted from the start on
lifted_behind : (e : Expression) (from by behind : ℕ) → behind ≡ from + by → lifted_expression (lifted_expression e 0 by) behind 1 ≡ lifted_expression (lifted_expression e from 1) 0 by
lifted_behind e from by behind h =
    let law = twice_in_expression (lift by) (lift 1) (lift 1) (lift by) 0 behind from 0 (at, (λ n. refl)) e in
    simp lifted at law
  where
    at : (n : ℕ) → variable (lifted_number behind 1 (lifted_number 0 by n)) ≡ variable (lifted_number 0 by (lifted_number from 1 n))
    at n = ap variable (by_order n from
        (λ l. ap (lifted_number behind 1) (grows 0 by n (omega arith)) ∙ stays behind 1 (n + by) (omega arith) ∙ sym (ap (lifted_number 0 by) (stays from 1 n l) ∙ grows 0 by n (omega arith)))
        (λ l. far (omega arith)) (λ l. far (omega arith)))
      where
        far : from ≤ n → lifted_number behind 1 (lifted_number 0 by n) ≡ lifted_number 0 by (lifted_number from 1 n)
        far l = ap (lifted_number behind 1) (grows 0 by n (omega arith)) ∙ grows behind 1 (n + by) (omega arith) ∙ (omega arith) ∙ sym (ap (lifted_number 0 by) (grows from 1 n l) ∙ grows 0 by (n + 1) (omega arith))

-- a value put behind what was lifted from the start on
put_behind : (x e : Expression) (depth by behind : ℕ) → behind ≡ depth + by → put_expression behind (lifted_expression x 0 by) e ≡ lifted_expression (put_expression depth x e) 0 by
put_behind x e depth by behind h =
    let law = twice_in_expression (lift by) (put e) (put e) (lift by) 0 behind depth 0 (at, (λ n. refl)) x in
    simp (lifted, with_value) at law
  where
    at : (n : ℕ) → put_number behind e (lifted_number 0 by n) ≡ changed_expression (lift by) 0 (put_number depth e n)
    at n = ap (put_number behind e) (grows 0 by n (omega arith)) ∙ by_order n depth
        (λ l. put-near behind e (n + by) (omega arith) ∙ sym (ap (changed_expression (lift by) 0) (put-near depth e n l) ∙ ap variable (grows 0 by n (omega arith))))
        (λ l. put-here behind e (n + by) (omega arith) ∙ ap (lifted_expression e 0) h ∙ sym (ap (changed_expression (lift by) 0) (put-here depth e n l) ∙ changed_expression-lift by 0 _ ∙ lifted_again e depth by 0 (omega arith)))
        (λ l. put-behind behind e (n + by) (omega arith) ∙ sym (ap (changed_expression (lift by) 0) (put-behind depth e n l) ∙ ap variable (grows 0 by (n - 1) (omega arith) ∙ omega arith)))

-- a value put for a variable that a lift has left out
put_in_lifted : (e x : Expression) (depth by : ℕ) → depth ≤ by → put_expression depth (lifted_expression e 0 (suc by)) x ≡ lifted_expression e 0 by
put_in_lifted e x depth by h =
    let law = twice_in_expression (lift (suc by)) (put x) (lift by) keep 0 depth 0 0
    ((λ n. ap (put_number depth x) (grows 0 (suc by) n (omega arith)) ∙ put-behind depth x (n + suc by) (omega arith) ∙ ap variable (omega arith ∙ sym (grows 0 by n (omega arith)))), (λ n. refl)) e in
    simp (lifted, with_value, kept) at law

-- ---- reactions

-- a value put for a variable that a lift has left out
pub put_past : (t : Reaction) (depth : ℕ) (e : Expression) → put_reaction depth (lifted_reaction t depth 1) e ≡ t
put_past t depth e =
    let law = twice_in_reaction (lift 1) (put e) keep keep (λ a b c d. a ≡ b) (λ a b c d same. omega arith) (λ a b c d same. (at a b same, λ n. refl)) depth depth 0 0 refl t in
    simp (lifted, with_value, kept) at law
  where
    at : (a b : ℕ) → a ≡ b → (n : ℕ) → put_number b e (lifted_number a 1 n) ≡ variable n
    at a b same n = by_order n a
        (λ l. ap (put_number b e) (stays a 1 n l) ∙ put-near b e n (omega arith))
        (λ l. ap (put_number b e) (grows a 1 n (omega arith)) ∙ put-behind b e (n + 1) (omega arith) ∙ ap variable (omega arith))
        (λ l. ap (put_number b e) (grows a 1 n (omega arith)) ∙ put-behind b e (n + 1) (omega arith) ∙ ap variable (omega arith))

-- two lifts in the other order
pub lifted_in_turn : (t : Reaction) (near far : ℕ) → near ≤ far → lifted_reaction (lifted_reaction t near 1) (suc far) 1 ≡ lifted_reaction (lifted_reaction t far 1) near 1
lifted_in_turn t near far h =
    let law = twice_in_reaction (lift 1) (lift 1) (lift 1) (lift 1) (λ a b c d. (b ≡ suc c) × (d ≡ a) × (a ≤ c)) (λ a b c d are. (omega (arith, are.0), omega (arith, are.1), omega (arith, are.2)))
    (λ a b c d are. (at a b c d are.0 are.1 are.2, λ n. refl)) near (suc far) far near (refl, refl, h) t in
    simp lifted at law
  where
    at : (a b c d : ℕ) → b ≡ suc c → d ≡ a → a ≤ c → (n : ℕ) → variable (lifted_number b 1 (lifted_number a 1 n)) ≡ variable (lifted_number d 1 (lifted_number c 1 n))
    at a b c d hb hd le n = ap variable (by_test (nat_lt n a)
        (λ k. let l : n < a = grind (arith, nat_tests) in ap (lifted_number b 1) (stays a 1 n l) ∙ stays b 1 n (omega arith) ∙ sym (ap (lifted_number d 1) (stays c 1 n (omega arith)) ∙ stays d 1 n (omega arith)))
        (λ k. let l : a ≤ n = grind (arith, nat_tests) in ap (lifted_number b 1) (grows a 1 n l) ∙ by_test (nat_lt n c)
        (λ k. let m : n < c = grind (arith, nat_tests) in stays b 1 (n + 1) (omega arith) ∙ sym (ap (lifted_number d 1) (stays c 1 n m) ∙ grows d 1 n (omega arith)))
        (λ k. let m : c ≤ n = grind (arith, nat_tests) in grows b 1 (n + 1) (omega arith) ∙ sym (ap (lifted_number d 1) (grows c 1 n m) ∙ grows d 1 (n + 1) (omega arith)))))

-- a value put behind what was lifted
pub put_behind_lifted : (t : Reaction) (from depth : ℕ) (e : Expression) → from ≤ depth → put_reaction (suc depth) (lifted_reaction t from 1) e ≡ lifted_reaction (put_reaction depth t e) from 1
put_behind_lifted t from depth e h =
    let law = twice_in_reaction (lift 1) (put e) (put e) (lift 1) (λ a b c d. (b ≡ suc c) × (d ≡ a) × (a ≤ c)) (λ a b c d are. (omega (arith, are.0), omega (arith, are.1), omega (arith, are.2)))
    (λ a b c d are. (at a b c d are.0 are.1 are.2, λ n. refl)) from (suc depth) depth from (refl, refl, h) t in
    simp (lifted, with_value) at law
  where
    at : (a b c d : ℕ) → b ≡ suc c → d ≡ a → a ≤ c → (n : ℕ) → put_number b e (lifted_number a 1 n) ≡ changed_expression (lift 1) d (put_number c e n)
    at a b c d hb hd le n = by_order n c
        (λ l. by_test (nat_lt n a)
        (λ k. let m : n < a = grind (arith, nat_tests) in ap (put_number b e) (stays a 1 n m) ∙ put-near b e n (omega arith) ∙ sym (ap (changed_expression (lift 1) d) (put-near c e n l) ∙ ap variable (stays d 1 n (omega arith))))
        (λ k. let m : a ≤ n = grind (arith, nat_tests) in ap (put_number b e) (grows a 1 n m) ∙ put-near b e (n + 1) (omega arith) ∙ sym (ap (changed_expression (lift 1) d) (put-near c e n l) ∙ ap variable (grows d 1 n (omega arith)))))
        (λ l. ap (put_number b e) (grows a 1 n (omega arith)) ∙ put-here b e (n + 1) (omega arith) ∙ ap (lifted_expression e 0) (omega arith) ∙
        sym (ap (changed_expression (lift 1) d) (put-here c e n l) ∙ changed_expression-lift 1 d _ ∙ lifted_again e c 1 d (omega arith)))
        (λ l. ap (put_number b e) (grows a 1 n (omega arith)) ∙ put-behind b e (n + 1) (omega arith) ∙ sym (ap (changed_expression (lift 1) d) (put-behind c e n l) ∙ ap variable (grows d 1 (n - 1) (omega arith) ∙ omega arith)))

-- two values put, the second one into the first one too
pub put_in_turn : (t : Reaction) (near depth far : ℕ) (x e : Expression) → far ≡ depth + near → put_reaction far (put_reaction near t x) e ≡ put_reaction near (put_reaction (suc far) t e) (put_expression depth x e)
put_in_turn t near depth far x e h =
    let law = twice_in_reaction (put x) (put e) (put e) (put (put_expression depth x e)) (λ a b c d. (b ≡ depth + a) × (c ≡ suc b) × (d ≡ a)) (λ a b c d are. (omega (arith, are.0), omega (arith, are.1), omega (arith, are.2)))
    (λ a b c d are. (at a b c d are.0 are.1 are.2, λ n. refl)) near far (suc far) near (h, refl, refl) t in
    simp with_value at law
  where
    y : Expression
    y = put_expression depth x e

    at : (a b c d : ℕ) → b ≡ depth + a → c ≡ suc b → d ≡ a → (n : ℕ) → changed_expression (put e) b (put_number a x n) ≡ changed_expression (put y) d (put_number c e n)
    at a b c d hb hc hd n = by_order n a
        (λ l. ap (changed_expression (put e) b) (put-near a x n l) ∙ put-near b e n (omega arith) ∙ sym (ap (changed_expression (put y) d) (put-near c e n (omega arith)) ∙ put-near d y n (omega arith)))
        (λ l. ap (changed_expression (put e) b) (put-here a x n l) ∙ changed_expression-put e b _ ∙ put_behind x e depth a b hb ∙
        sym (ap (changed_expression (put y) d) (put-near c e n (omega arith)) ∙ put-here d y n (omega arith) ∙ ap (lifted_expression y 0) hd))
        (λ l. ap (changed_expression (put e) b) (put-behind a x n l) ∙ by_order n c
        (λ m. put-near b e (n - 1) (omega arith) ∙ sym (ap (changed_expression (put y) d) (put-near c e n m) ∙ put-behind d y n (omega arith)))
        (λ m. put-here b e (n - 1) (omega arith) ∙ sym (ap (changed_expression (put y) d) (put-here c e n m ∙ ap (lifted_expression e 0) hc) ∙ changed_expression-put y d _ ∙ put_in_lifted e y d b (omega arith)))
        (λ m. put-behind b e (n - 1) (omega arith) ∙ sym (ap (changed_expression (put y) d) (put-behind c e n m) ∙ put-behind d y (n - 1) (omega arith))))

-- a lift behind what was put
pub lifted_behind_put : (t : Reaction) (near from far : ℕ) (x : Expression) → far ≡ from + near → lifted_reaction (put_reaction near t x) far 1 ≡ put_reaction near (lifted_reaction t (suc far) 1) (lifted_expression x from 1)
lifted_behind_put t near from far x h =
    let law = twice_in_reaction (put x) (lift 1) (lift 1) (put (lifted_expression x from 1)) (λ a b c d. (b ≡ from + a) × (c ≡ suc b) × (d ≡ a)) (λ a b c d are. (omega (arith, are.0), omega (arith, are.1), omega (arith, are.2)))
    (λ a b c d are. (at a b c d are.0 are.1 are.2, λ n. refl)) near far (suc far) near (h, refl, refl) t in
    simp (lifted, with_value) at law
  where
    y : Expression
    y = lifted_expression x from 1

    at : (a b c d : ℕ) → b ≡ from + a → c ≡ suc b → d ≡ a → (n : ℕ) → changed_expression (lift 1) b (put_number a x n) ≡ put_number d y (lifted_number c 1 n)
    at a b c d hb hc hd n = by_order n a
        (λ l. ap (changed_expression (lift 1) b) (put-near a x n l) ∙ ap variable (stays b 1 n (omega arith)) ∙ sym (ap (put_number d y) (stays c 1 n (omega arith)) ∙ put-near d y n (omega arith)))
        (λ l. ap (changed_expression (lift 1) b) (put-here a x n l) ∙ changed_expression-lift 1 b _ ∙ lifted_behind x from a b hb ∙
        sym (ap (put_number d y) (stays c 1 n (omega arith)) ∙ put-here d y n (omega arith) ∙ ap (lifted_expression y 0) hd))
        (λ l. ap (changed_expression (lift 1) b) (put-behind a x n l) ∙ by_test (nat_lt n c)
        (λ k. let m : n < c = grind (arith, nat_tests) in ap variable (stays b 1 (n - 1) (omega arith)) ∙ sym (ap (put_number d y) (stays c 1 n m) ∙ put-behind d y n (omega arith)))
        (λ k. let m : c ≤ n = grind (arith, nat_tests) in ap variable (grows b 1 (n - 1) (omega arith) ∙ omega arith) ∙ sym (ap (put_number d y) (grows c 1 n m) ∙ put-behind d y (n + 1) (omega arith))))
