-- What becomes of the numbers of variables, of binders and of nodes in a tidy form: the numbers keep their room, and what is
-- handed on from the right is never too large alone.
use Rattle.std.proofs.Common.{◌≡◌, ℕ, zero, suc, ◌+◌, ◌^◌, ◌<◌, ◌≤◌, true, false, Err, refl, sym, ap, ap₂, ◌∙◌, subst, arith}
use Rattle.std.proofs.lemmas.Bool.Decides.{nat_tests}
use Rattle.std.specs.Prelude.{nat_lt}
use Rattle.ipdl_laws.proofs.ChangedSizes.{lifted_reaction-nodes}
use Rattle.ipdl_laws.proofs.Numbering.{by_order, stays, grows, put-near, put-here, put-behind}
use Rattle.ipdl_laws.proofs.Sets.{by_test}
use Rattle.ipdl_norm.proofs.Grafting.{grafted-first, grafted-value, grafted-binding, grafted-action}
use Rattle.ipdl_norm.specs.AtOnce.{returns_first, is_action}
use Rattle.ipdl_norm.specs.Counted.{Makes}
use Rattle.ipdl_norm.specs.Room.{IsExpressionBelow, IsReactionBelow, HasRoom}
use Rattle.ipdl_norm.specs.Tidied.{grafted, tidied}
use Rattle.ipdl_term.specs.Fitting.{LiftFitsInExpression, LiftFitsInReaction}
use Rattle.ipdl_term.specs.Sizes.{expression_nodes, reaction_nodes, most_nodes, reaction_binders, greatest_in_expression, greatest_in_reaction}
use Rattle.ipdl_term.specs.declared.put.TermFault.{TermFault}
use Rattle.ipdl_term.specs.declared.put.TermFault.TheVariants.{Nodes, Memory}
use Rattle.ipdl_term.specs.Terms.{Expression, literal, variable, outer, application, exclusive, conjunction, negation, concatenation, segment, equality, selection, Reaction, returning, flipping, reading, branching, binding}
use Rattle.ipdl_term.specs.Variables.{lifted_number, lifted_expression, lifted_reaction, put_number, put_expression, put_reaction}

-- ---- numbers below one

below_greatest_in_expression : (most : ℕ) (e : Expression) → greatest_in_expression e < most → IsExpressionBelow most e
below_greatest_in_expression most (literal bits) h = tt
below_greatest_in_expression most (variable n) h = h
below_greatest_in_expression most (outer n) h = tt
below_greatest_in_expression most (application f e) h = below_greatest_in_expression most e h
below_greatest_in_expression most (exclusive a b) h = (below_greatest_in_expression most a (omega arith), below_greatest_in_expression most b (omega arith))
below_greatest_in_expression most (conjunction a b) h = (below_greatest_in_expression most a (omega arith), below_greatest_in_expression most b (omega arith))
below_greatest_in_expression most (negation a) h = below_greatest_in_expression most a h
below_greatest_in_expression most (concatenation a b) h = (below_greatest_in_expression most a (omega arith), below_greatest_in_expression most b (omega arith))
below_greatest_in_expression most (segment i n a) h = below_greatest_in_expression most a h
below_greatest_in_expression most (equality a b) h = (below_greatest_in_expression most a (omega arith), below_greatest_in_expression most b (omega arith))
below_greatest_in_expression most (selection c a b) h = (below_greatest_in_expression most c (omega arith), below_greatest_in_expression most a (omega arith), below_greatest_in_expression most b (omega arith))

below_greatest : (most : ℕ) (r : Reaction) → greatest_in_reaction r < most → IsReactionBelow most r
below_greatest most (returning e) h = below_greatest_in_expression most e h
below_greatest most (flipping w) h = tt
below_greatest most (reading c) h = tt
below_greatest most (branching e r s) h = (below_greatest_in_expression most e (omega arith), below_greatest most r (omega arith), below_greatest most s (omega arith))
below_greatest most (binding w r s) h = (below_greatest most r (omega arith), below_greatest (suc most) s (omega arith))

greatest_below : (most : ℕ) (e : Expression) → IsExpressionBelow most e → greatest_in_expression e ≤ most
greatest_below most (literal bits) h = omega arith
greatest_below most (variable n) h = omega arith
greatest_below most (outer n) h = omega arith
greatest_below most (application f e) h = greatest_below most e h
greatest_below most (exclusive a b) h = omega (arith, greatest_below most a h.0, greatest_below most b h.1)
greatest_below most (conjunction a b) h = omega (arith, greatest_below most a h.0, greatest_below most b h.1)
greatest_below most (negation a) h = greatest_below most a h
greatest_below most (concatenation a b) h = omega (arith, greatest_below most a h.0, greatest_below most b h.1)
greatest_below most (segment i n a) h = greatest_below most a h
greatest_below most (equality a b) h = omega (arith, greatest_below most a h.0, greatest_below most b h.1)
greatest_below most (selection c a b) h = omega (arith, greatest_below most c h.0, greatest_below most a h.1, greatest_below most b h.2)

-- ---- lifts

lifted_number-below : (most from n : ℕ) → n < most → lifted_number from 1 n < suc most
lifted_number-below most from n h = by_test (nat_lt n from)
    (λ k. let same = stays from 1 n (grind (arith, nat_tests)) in omega (arith, same, h))
    (λ k. let more = grows from 1 n (grind (arith, nat_tests)) in omega (arith, more, h))

lifted_expression-below : (most from : ℕ) (e : Expression) → IsExpressionBelow most e → IsExpressionBelow (suc most) (lifted_expression e from 1)
lifted_expression-below most from (literal bits) h = tt
lifted_expression-below most from (variable n) h = lifted_number-below most from n h
lifted_expression-below most from (outer n) h = tt
lifted_expression-below most from (application f e) h = lifted_expression-below most from e h
lifted_expression-below most from (exclusive a b) h = (lifted_expression-below most from a h.0, lifted_expression-below most from b h.1)
lifted_expression-below most from (conjunction a b) h = (lifted_expression-below most from a h.0, lifted_expression-below most from b h.1)
lifted_expression-below most from (negation a) h = lifted_expression-below most from a h
lifted_expression-below most from (concatenation a b) h = (lifted_expression-below most from a h.0, lifted_expression-below most from b h.1)
lifted_expression-below most from (segment i n a) h = lifted_expression-below most from a h
lifted_expression-below most from (equality a b) h = (lifted_expression-below most from a h.0, lifted_expression-below most from b h.1)
lifted_expression-below most from (selection c a b) h = (lifted_expression-below most from c h.0, lifted_expression-below most from a h.1, lifted_expression-below most from b h.2)

lifted-below : (most from : ℕ) (r : Reaction) → IsReactionBelow most r → IsReactionBelow (suc most) (lifted_reaction r from 1)
lifted-below most from (returning e) h = lifted_expression-below most from e h
lifted-below most from (flipping w) h = tt
lifted-below most from (reading c) h = tt
lifted-below most from (branching e r s) h = (lifted_expression-below most from e h.0, lifted-below most from r h.1, lifted-below most from s h.2)
lifted-below most from (binding w r s) h = (lifted-below most from r h.0, lifted-below (suc most) (suc from) s h.1)

lift_fits_in_expression-below : (most from : ℕ) (e : Expression) → IsExpressionBelow most e → most < 2 ^ 32 → LiftFitsInExpression e from 1
lift_fits_in_expression-below most from (literal bits) h room = tt
lift_fits_in_expression-below most from (variable n) h room = λ least small. omega (arith, h, room)
lift_fits_in_expression-below most from (outer n) h room = tt
lift_fits_in_expression-below most from (application f e) h room = lift_fits_in_expression-below most from e h room
lift_fits_in_expression-below most from (exclusive a b) h room = (lift_fits_in_expression-below most from a h.0 room, lift_fits_in_expression-below most from b h.1 room)
lift_fits_in_expression-below most from (conjunction a b) h room = (lift_fits_in_expression-below most from a h.0 room, lift_fits_in_expression-below most from b h.1 room)
lift_fits_in_expression-below most from (negation a) h room = lift_fits_in_expression-below most from a h room
lift_fits_in_expression-below most from (concatenation a b) h room = (lift_fits_in_expression-below most from a h.0 room, lift_fits_in_expression-below most from b h.1 room)
lift_fits_in_expression-below most from (segment i n a) h room = lift_fits_in_expression-below most from a h room
lift_fits_in_expression-below most from (equality a b) h room = (lift_fits_in_expression-below most from a h.0 room, lift_fits_in_expression-below most from b h.1 room)
lift_fits_in_expression-below most from (selection c a b) h room = (lift_fits_in_expression-below most from c h.0 room, lift_fits_in_expression-below most from a h.1 room, lift_fits_in_expression-below most from b h.2 room)

lift_fits-below : (most from : ℕ) (r : Reaction) → IsReactionBelow most r → most + reaction_binders r < 2 ^ 32 → LiftFitsInReaction r from 1
lift_fits-below most from (returning e) h room = lift_fits_in_expression-below most from e h (omega arith)
lift_fits-below most from (flipping w) h room = tt
lift_fits-below most from (reading c) h room = tt
lift_fits-below most from (branching e r s) h room = (lift_fits_in_expression-below most from e h.0 (omega arith), lift_fits-below most from r h.1 (omega arith), lift_fits-below most from s h.2 (omega arith))
lift_fits-below most from (binding w r s) h room = (lift_fits-below most from r h.0 (omega arith), lift_fits-below (suc most) (suc from) s h.1 (omega arith))

lifted-binders : (from : ℕ) (r : Reaction) → reaction_binders (lifted_reaction r from 1) ≡ reaction_binders r
lifted-binders from (returning e) = refl
lifted-binders from (flipping w) = refl
lifted-binders from (reading c) = refl
lifted-binders from (branching e r s) = ap₂ ◌+◌ (lifted-binders from r) (lifted-binders from s)
lifted-binders from (binding w r s) = ap₂ (λ m n. m + n + 1) (lifted-binders from r) (lifted-binders (suc from) s)

-- ---- values in the place of variables

lifted_by-below : (most by : ℕ) (e : Expression) → IsExpressionBelow most e → IsExpressionBelow (most + by) (lifted_expression e 0 by)
lifted_by-below most by (literal bits) h = tt
lifted_by-below most by (variable n) h = let more = grows 0 by n (omega arith) in omega (arith, more, h)
lifted_by-below most by (outer n) h = tt
lifted_by-below most by (application f e) h = lifted_by-below most by e h
lifted_by-below most by (exclusive a b) h = (lifted_by-below most by a h.0, lifted_by-below most by b h.1)
lifted_by-below most by (conjunction a b) h = (lifted_by-below most by a h.0, lifted_by-below most by b h.1)
lifted_by-below most by (negation a) h = lifted_by-below most by a h
lifted_by-below most by (concatenation a b) h = (lifted_by-below most by a h.0, lifted_by-below most by b h.1)
lifted_by-below most by (segment i n a) h = lifted_by-below most by a h
lifted_by-below most by (equality a b) h = (lifted_by-below most by a h.0, lifted_by-below most by b h.1)
lifted_by-below most by (selection c a b) h = (lifted_by-below most by c h.0, lifted_by-below most by a h.1, lifted_by-below most by b h.2)

put_number-below : (most depth all : ℕ) (v : Expression) → IsExpressionBelow most v → all ≡ most + depth → (n : ℕ) → n < suc all → IsExpressionBelow all (put_number depth v n)
put_number-below most depth all v below is n h = by_order n depth
    (λ l. subst (IsExpressionBelow all) (sym (put-near depth v n l)) (omega arith))
    (λ l. subst (IsExpressionBelow all) (sym (put-here depth v n l)) (subst (λ m. IsExpressionBelow m (lifted_expression v 0 depth)) (sym is) (lifted_by-below most depth v below)))
    (λ l. subst (IsExpressionBelow all) (sym (put-behind depth v n l)) (omega arith))

put_expression-below : (most depth all : ℕ) (v : Expression) → IsExpressionBelow most v → all ≡ most + depth → (e : Expression) → IsExpressionBelow (suc all) e → IsExpressionBelow all (put_expression depth e v)
put_expression-below most depth all v below is (literal bits) h = tt
put_expression-below most depth all v below is (variable n) h = put_number-below most depth all v below is n h
put_expression-below most depth all v below is (outer n) h = tt
put_expression-below most depth all v below is (application f e) h = put_expression-below most depth all v below is e h
put_expression-below most depth all v below is (exclusive a b) h = (put_expression-below most depth all v below is a h.0, put_expression-below most depth all v below is b h.1)
put_expression-below most depth all v below is (conjunction a b) h = (put_expression-below most depth all v below is a h.0, put_expression-below most depth all v below is b h.1)
put_expression-below most depth all v below is (negation a) h = put_expression-below most depth all v below is a h
put_expression-below most depth all v below is (concatenation a b) h = (put_expression-below most depth all v below is a h.0, put_expression-below most depth all v below is b h.1)
put_expression-below most depth all v below is (segment i n a) h = put_expression-below most depth all v below is a h
put_expression-below most depth all v below is (equality a b) h = (put_expression-below most depth all v below is a h.0, put_expression-below most depth all v below is b h.1)
put_expression-below most depth all v below is (selection c a b) h = (put_expression-below most depth all v below is c h.0, put_expression-below most depth all v below is a h.1, put_expression-below most depth all v below is b h.2)

put-below : (most depth all : ℕ) (v : Expression) → IsExpressionBelow most v → all ≡ most + depth → (r : Reaction) → IsReactionBelow (suc all) r → IsReactionBelow all (put_reaction depth r v)
put-below most depth all v below is (returning e) h = put_expression-below most depth all v below is e h
put-below most depth all v below is (flipping w) h = tt
put-below most depth all v below is (reading c) h = tt
put-below most depth all v below is (branching e r s) h = (put_expression-below most depth all v below is e h.0, put-below most depth all v below is r h.1, put-below most depth all v below is s h.2)
put-below most depth all v below is (binding w r s) h = (put-below most depth all v below is r h.0, put-below most (suc depth) (suc all) v below (omega arith) s h.1)

put-binders : (depth : ℕ) (r : Reaction) (v : Expression) → reaction_binders (put_reaction depth r v) ≡ reaction_binders r
put-binders depth (returning e) v = refl
put-binders depth (flipping w) v = refl
put-binders depth (reading c) v = refl
put-binders depth (branching e r s) v = ap₂ ◌+◌ (put-binders depth r v) (put-binders depth s v)
put-binders depth (binding w r s) v = ap₂ (λ m n. m + n + 1) (put-binders depth r v) (put-binders (suc depth) s v)

-- ---- tidy forms

grafted_action-below : (most w : ℕ) (r t : Reaction) → is_action r ≡ true → IsReactionBelow most r → IsReactionBelow (suc most) t → IsReactionBelow most (grafted w r t)
grafted_action-below most w r t a h k = by_test (returns_first t)
    (λ f. subst (IsReactionBelow most) (sym (grafted-first w r t f)) h)
    (λ f. subst (IsReactionBelow most) (sym (grafted-action w r t a f)) (h, k))

grafted-below : (most w : ℕ) (r t : Reaction) → IsReactionBelow most r → IsReactionBelow (suc most) t → IsReactionBelow most (grafted w r t)
grafted-below most w (returning e) t h k = subst (IsReactionBelow most) (sym (grafted-value w e t)) (put-below most 0 most e h (omega arith) t k)
grafted-below most w (flipping n) t h k = grafted_action-below most w (flipping n) t refl h k
grafted-below most w (reading c) t h k = grafted_action-below most w (reading c) t refl h k
grafted-below most w (branching e r s) t h k = grafted_action-below most w (branching e r s) t refl h k
grafted-below most w (binding v q s) t h k =
    subst (IsReactionBelow most) (sym (grafted-binding w v q s t)) (h.0, grafted-below (suc most) w s (lifted_reaction t 1 1) h.1 (lifted-below (suc most) 1 t k))

tidied-below : (most : ℕ) (r : Reaction) → IsReactionBelow most r → IsReactionBelow most (tidied r)
tidied-below most (returning e) h = h
tidied-below most (flipping w) h = h
tidied-below most (reading c) h = h
tidied-below most (branching e r s) h = (h.0, tidied-below most r h.1, tidied-below most s h.2)
tidied-below most (binding w r s) h = grafted-below most w (tidied r) (tidied s) (tidied-below most r h.0) (tidied-below (suc most) s h.1)

grafted_action-binders : (w : ℕ) (r t : Reaction) → is_action r ≡ true → reaction_binders (grafted w r t) ≤ reaction_binders r + reaction_binders t + 1
grafted_action-binders w r t a = by_test (returns_first t)
    (λ f. let is = ap reaction_binders (grafted-first w r t f) in omega (arith, is))
    (λ f. let is = ap reaction_binders (grafted-action w r t a f) in omega (arith, is))

grafted-binders : (w : ℕ) (r t : Reaction) → reaction_binders (grafted w r t) ≤ reaction_binders r + reaction_binders t + 1
grafted-binders w (returning e) t = let is = ap reaction_binders (grafted-value w e t) ∙ put-binders 0 t e in omega (arith, is)
grafted-binders w (flipping n) t = grafted_action-binders w (flipping n) t refl
grafted-binders w (reading c) t = grafted_action-binders w (reading c) t refl
grafted-binders w (branching e r s) t = grafted_action-binders w (branching e r s) t refl
grafted-binders w (binding v q s) t =
    let is = ap reaction_binders (grafted-binding w v q s t) in
    omega (arith, is, grafted-binders w s (lifted_reaction t 1 1), lifted-binders 1 t)

tidied-binders : (r : Reaction) → reaction_binders (tidied r) ≤ reaction_binders r
tidied-binders (returning e) = omega arith
tidied-binders (flipping w) = omega arith
tidied-binders (reading c) = omega arith
tidied-binders (branching e r s) = omega (arith, tidied-binders r, tidied-binders s)
tidied-binders (binding w r s) = omega (arith, grafted-binders w (tidied r) (tidied s), tidied-binders r, tidied-binders s)

-- ---- room on the way

pub room_in_whole : (r : Reaction) → greatest_in_reaction r + reaction_binders r < 2 ^ 32 → HasRoom r
room_in_whole r h = (suc (greatest_in_reaction r), below_greatest (suc (greatest_in_reaction r)) r (omega arith), omega arith)

pub room_in_arms : (e : Expression) (r s : Reaction) → HasRoom (branching e r s) → HasRoom r × HasRoom s
room_in_arms e r s (most, below, room) = ((most, below.1, omega arith), (most, below.2, omega arith))

-- in both parts of a `bind`
pub room_in_parts : (w : ℕ) (r s : Reaction) → HasRoom (binding w r s) → HasRoom r × HasRoom s
room_in_parts w r s (most, below, room) = ((most, below.0, omega arith), (suc most, below.1, omega arith))

-- where the second part of a `bind` is tidy
pub room_with_tidied : (w : ℕ) (r s : Reaction) → HasRoom (binding w r s) → HasRoom (binding w r (tidied s))
room_with_tidied w r s (most, below, room) =
    (most, (below.0, tidied-below (suc most) s below.1), omega (arith, room, tidied-binders s))

-- for a value in the place of a variable
pub room_to_put : (w : ℕ) (e : Expression) (t : Reaction) → HasRoom (binding w (returning e) t) → greatest_in_expression e + 0 + reaction_binders t < 2 ^ 32
room_to_put w e t (most, below, room) = omega (arith, room, greatest_below most e below.0)

module _ (w v : ℕ) (q s t : Reaction) where
  -- for what follows the second part of a `bind`
  pub room_to_lift : HasRoom (binding w (binding v q s) t) → LiftFitsInReaction t 1 1 × (1 + reaction_binders t < 2 ^ 32)
  room_to_lift (most, below, room) = (lift_fits-below (suc most) 1 t below.1 (omega arith), omega arith)

  -- behind that part
  pub room_behind : HasRoom (binding w (binding v q s) t) → HasRoom (binding w s (lifted_reaction t 1 1))
  room_behind (most, below, room) =
      (suc most, (below.0.1, lifted-below (suc most) 1 t below.1), omega (arith, room, lifted-binders 1 t))

  -- behind the first part, with that made
  pub room_before : HasRoom (binding w (binding v q s) t) → HasRoom (binding v q (grafted w (tidied s) (lifted_reaction t 1 1)))
  room_before (most, below, room) =
      let made = grafted-below (suc most) w (tidied s) (lifted_reaction t 1 1) (tidied-below (suc most) s below.0.1) (lifted-below (suc most) 1 t below.1) in
      (most, (below.0.0, made), omega (arith, room, grafted-binders w (tidied s) (lifted_reaction t 1 1), lifted-binders 1 t, tidied-binders s))

  -- where that part is passed over
  pub room_past : HasRoom (binding w (binding v q s) t) → HasRoom (binding w q t)
  room_past (most, below, room) = (most, (below.0.0, below.1), omega arith)

-- ---- growth

some_nodes : (e : Expression) → 1 ≤ expression_nodes e
some_nodes (literal bits) = omega arith
some_nodes (variable n) = omega arith
some_nodes (outer n) = omega arith
some_nodes (application f e) = omega arith
some_nodes (exclusive a b) = omega arith
some_nodes (conjunction a b) = omega arith
some_nodes (negation a) = omega arith
some_nodes (concatenation a b) = omega arith
some_nodes (segment i n a) = omega arith
some_nodes (equality a b) = omega arith
some_nodes (selection c a b) = omega arith

put_expression-grows : (depth : ℕ) (v e : Expression) → expression_nodes e ≤ expression_nodes (put_expression depth e v)
put_expression-grows depth v (literal bits) = omega arith
put_expression-grows depth v (variable n) = some_nodes (put_number depth v n)
put_expression-grows depth v (outer n) = omega arith
put_expression-grows depth v (application f e) = omega (arith, put_expression-grows depth v e)
put_expression-grows depth v (exclusive a b) = omega (arith, put_expression-grows depth v a, put_expression-grows depth v b)
put_expression-grows depth v (conjunction a b) = omega (arith, put_expression-grows depth v a, put_expression-grows depth v b)
put_expression-grows depth v (negation a) = omega (arith, put_expression-grows depth v a)
put_expression-grows depth v (concatenation a b) = omega (arith, put_expression-grows depth v a, put_expression-grows depth v b)
put_expression-grows depth v (segment i n a) = omega (arith, put_expression-grows depth v a)
put_expression-grows depth v (equality a b) = omega (arith, put_expression-grows depth v a, put_expression-grows depth v b)
put_expression-grows depth v (selection c a b) = omega (arith, put_expression-grows depth v c, put_expression-grows depth v a, put_expression-grows depth v b)

put-grows : (depth : ℕ) (v : Expression) (r : Reaction) → reaction_nodes r ≤ reaction_nodes (put_reaction depth r v)
put-grows depth v (returning e) = omega (arith, put_expression-grows depth v e)
put-grows depth v (flipping w) = omega arith
put-grows depth v (reading c) = omega arith
put-grows depth v (branching e r s) = omega (arith, put_expression-grows depth v e, put-grows depth v r, put-grows depth v s)
put-grows depth v (binding w r s) = omega (arith, put-grows depth v r, put-grows (suc depth) v s)

-- what is large does not return at once
large_returns_other : (t : Reaction) → most_nodes < reaction_nodes t → returns_first t ≡ false
large_returns_other (returning (variable zero)) h = absurd (omega (arith, h))
large_returns_other (returning (variable (suc n))) h = refl
large_returns_other _ h = refl

grafted_action-grows : (w : ℕ) (r t : Reaction) → is_action r ≡ true → most_nodes < reaction_nodes t → most_nodes < reaction_nodes (grafted w r t)
grafted_action-grows w r t a h = let is = ap reaction_nodes (grafted-action w r t a (large_returns_other t h)) in omega (arith, is, h)

-- what follows a reaction is too large only where both are
pub grafted-grows : (w : ℕ) (r t : Reaction) → most_nodes < reaction_nodes t → most_nodes < reaction_nodes (grafted w r t)
grafted-grows w (returning e) t h = let is = ap reaction_nodes (grafted-value w e t) in omega (arith, is, h, put-grows 0 e t)
grafted-grows w (flipping n) t h = grafted_action-grows w (flipping n) t refl h
grafted-grows w (reading c) t h = grafted_action-grows w (reading c) t refl h
grafted-grows w (branching e r s) t h = grafted_action-grows w (branching e r s) t refl h
grafted-grows w (binding v q s) t h =
    let is = ap reaction_nodes (grafted-binding w v q s t) in
    let lifted : most_nodes < reaction_nodes (lifted_reaction t 1 1) = omega (arith, h, lifted_reaction-nodes 1 1 t) in
    omega (arith, is, grafted-grows w s (lifted_reaction t 1 1) lifted)

-- and so is an action
pub grafted-keeps_action : (w : ℕ) (r t : Reaction) → is_action r ≡ true → most_nodes < reaction_nodes r → most_nodes < reaction_nodes (grafted w r t)
grafted-keeps_action w r t a h = by_test (returns_first t)
    (λ f. let is = ap reaction_nodes (grafted-first w r t f) in omega (arith, is, h))
    (λ f. let is = ap reaction_nodes (grafted-action w r t a f) in omega (arith, is, h))

-- what is too large for a part is too large for the whole
pub makes_larger : (fault : TermFault) (r s : Reaction) → (most_nodes < reaction_nodes r → most_nodes < reaction_nodes s) → Makes (Err fault) r → Makes (Err fault) s
makes_larger Nodes r s larger h = larger h
makes_larger Memory r s larger h = tt
