-- Where no name repeats, a protocol becomes its shape: its hidden channels come to stand around all of its assignments, and
-- both are put in order.
use Rattle.std.proofs.Common.{◌≡◌, ℕ, true, false, ◌||◌, List, [], ◌∷◌, ◌++◌, Some, None, refl, sym, ap, ◌∙◌, subst}
use Rattle.std.proofs.lemmas.Bool.{or_parts, or_from}
use Rattle.std.proofs.lemmas.List.{map-append}
use Rattle.ipdl_laws.proofs.Sets.{by_test, if-true, if-false, has-without, in_neither, same_channel-false_swap}
use Rattle.ipdl_norm.proofs.Becoming.{Becomes, stays, in_turn, becomes_at_place, under_hiding, beside_left, beside_right, comm, assocl, assocr, unit, widened, newswap}
use Rattle.ipdl_norm.proofs.Gathering.{names_of-hidden}
use Rattle.ipdl_norm.proofs.NewNames.{AreNew, new_unless_repeated, new_for_fewer, new_in_front, new_behind, new_apart, free_assignments, free_all_hidden}
use Rattle.ipdl_norm.specs.Repeated.{first_repeated, first_repeated_name}
use Rattle.ipdl_norm.specs.Shaped.{hidden, assignments, names_of, comes_before, placed, by_name, side_by_side, all_hidden, shaped}
use Rattle.ipdl_term.proofs.ChannelSets.{same_channel-itself}
use Rattle.ipdl_term.specs.Channels.{same_channel, has, without, union, free_channels}
use Rattle.ipdl_term.specs.Equality.{Equal}
use Rattle.ipdl_term.specs.Interpretations.{Signature}
use Rattle.ipdl_term.specs.Places.{term_at, term_with}
use Rattle.ipdl_term.specs.Terms.{Channel, Reaction, Protocol, nil, assignment, parallel, hiding, protocol_term}
use Rattle.ipdl_term.specs.Typing.{Scope, Typed}

all_hidden-append : (hs gs : List (Channel × ℕ)) (p : Protocol) → all_hidden (hs ++ gs) p ≡ all_hidden hs (all_hidden gs p)
all_hidden-append [] gs p = refl
all_hidden-append (x ∷ hs) gs p = ap (hiding x.0 x.1) (all_hidden-append hs gs p)

-- names keep apart where one more is placed among them
names-placed : {X : Type 0} (x : Channel × X) (xs : List (Channel × X)) (c : Channel) → same_channel x.0 c ≡ false → has (names_of xs) c ≡ false → has (names_of (placed x xs)) c ≡ false
names-placed x [] c h k = or_from _ _ h k
names-placed x (y ∷ ys) c h k =
    let l = or_parts (same_channel y.0 c) (has (names_of ys) c) k in
    by_test (comes_before y.0 x.0)
    (λ b. ap (λ zs. has (names_of zs) c) (if-true (comes_before y.0 x.0) (y ∷ placed x ys) (x ∷ y ∷ ys) b) ∙ or_from _ _ l.0 (names-placed x ys c h l.1))
    (λ b. ap (λ zs. has (names_of zs) c) (if-false (comes_before y.0 x.0) (y ∷ placed x ys) (x ∷ y ∷ ys) b) ∙ or_from _ _ h k)

names-by_name : {X : Type 0} (xs : List (Channel × X)) (c : Channel) → has (names_of xs) c ≡ false → has (names_of (by_name xs)) c ≡ false
names-by_name [] c h = refl
names-by_name (x ∷ xs) c h = let k = or_parts (same_channel x.0 c) (has (names_of xs) c) h in names-placed x (by_name xs) c k.0 (names-by_name xs c k.1)

-- at least one
abbrev IsSome : {X : Type 0} → List X → Type 0
IsSome [] = ⊥
IsSome (x ∷ xs) = Unit {0}

some_placed : {X : Type 0} (x : Channel × X) (xs : List (Channel × X)) → IsSome (placed x xs)
some_placed x [] = tt
some_placed x (y ∷ ys) = by_test (comes_before y.0 x.0)
    (λ b. subst IsSome (sym (if-true (comes_before y.0 x.0) (y ∷ placed x ys) (x ∷ y ∷ ys) b)) tt)
    (λ b. subst IsSome (sym (if-false (comes_before y.0 x.0) (y ∷ placed x ys) (x ∷ y ∷ ys) b)) tt)

module _ (sig : Signature) where
  -- ---- hidden channels around all

  under_all : (hs : List (Channel × ℕ)) (p q : Protocol) → Becomes sig p q → Becomes sig (all_hidden hs p) (all_hidden hs q)
  under_all [] p q h = h
  under_all (x ∷ hs) p q h = under_hiding sig x.0 x.1 (all_hidden hs p) (all_hidden hs q) (under_all hs p q h)

  widened_right : (p : Protocol) (hs : List (Channel × ℕ)) (q : Protocol) → ((c : Channel) → has (names_of hs) c ≡ true → has (free_channels p) c ≡ false) → Becomes sig (parallel p (all_hidden hs q)) (all_hidden hs (parallel p q))
  widened_right p [] q h = stays sig (parallel p q)
  widened_right p (x ∷ hs) q h =
      in_turn sig _ (hiding x.0 x.1 (parallel p (all_hidden hs q))) _
      (widened sig p (all_hidden hs q) x.0 x.1 (h x.0 (ap (λ b. b || has (names_of hs) x.0) (same_channel-itself x.0))))
      (under_hiding sig x.0 x.1 _ _ (widened_right p hs q (λ c k. h c (by_test (same_channel x.0 c)
      (λ e. ap (λ b. b || has (names_of hs) c) e)
      (λ e. ap (λ b. b || has (names_of hs) c) e ∙ k)))))

  widened_left : (p : Protocol) (hs : List (Channel × ℕ)) (q : Protocol) → ((c : Channel) → has (names_of hs) c ≡ true → has (free_channels q) c ≡ false) → Becomes sig (parallel (all_hidden hs p) q) (all_hidden hs (parallel p q))
  widened_left p hs q h =
      in_turn sig _ (parallel q (all_hidden hs p)) _ (comm sig (all_hidden hs p) q)
      (in_turn sig _ (all_hidden hs (parallel q p)) _ (widened_right q hs p h) (under_all hs _ _ (comm sig q p)))

  -- ---- assignments side by side

  joined : (xs ys : List (Channel × Reaction)) → Becomes sig (parallel (side_by_side xs) (side_by_side ys)) (side_by_side (xs ++ ys))
  joined [] ys = in_turn sig _ (parallel (side_by_side ys) nil) _ (comm sig nil (side_by_side ys)) (unit sig (side_by_side ys))
  joined (x ∷ []) [] = unit sig (assignment x.0 x.1)
  joined (x ∷ []) (y ∷ ys) = stays sig _
  joined (x ∷ z ∷ xs) ys =
      in_turn sig _ (parallel (assignment x.0 x.1) (parallel (side_by_side (z ∷ xs)) (side_by_side ys))) _
      (assocr sig (assignment x.0 x.1) (side_by_side (z ∷ xs)) (side_by_side ys))
      (beside_right sig _ _ (assignment x.0 x.1) (joined (z ∷ xs) ys))

  collected : (p : Protocol) → AreNew (free_channels p) (names_of (hidden p)) → Becomes sig p (all_hidden (hidden p) (side_by_side (assignments p)))
  collected nil new = stays sig nil
  collected (assignment c r) new = stays sig (assignment c r)
  collected (hiding c w p) new =
      under_hiding sig c w p _ (collected p (new_for_fewer (c ∷ without c (free_channels p)) (free_channels p) (names_of (hidden p))
      (λ d k. let l = or_parts (same_channel c d) (has (without c (free_channels p)) d) k in sym (has-without c (free_channels p) d l.0) ∙ l.1) new.1))
  collected (parallel p q) new =
      let hp = hidden p in let hq = hidden q in
      let xp = side_by_side (assignments p) in let xq = side_by_side (assignments q) in
      let fp = free_channels p in let fq = free_channels q in
      let both : AreNew (union fp fq) (names_of hp ++ names_of hq) = subst (AreNew (union fp fq)) (map-append (λ x. x.0) hp hq) new in
      let new_p = new_in_front (union fp fq) (names_of hp) (names_of hq) both in
      let new_q = new_behind (union fp fq) (names_of hp) (names_of hq) both in
      let of_p = collected p (new_for_fewer (union fp fq) fp (names_of hp) (λ d k. (in_neither fp fq d k).0) new_p) in
      let of_q = collected q (new_for_fewer (union fp fq) fq (names_of hq) (λ d k. (in_neither fp fq d k).1) new_q.0) in
      in_turn sig _ (parallel (all_hidden hp xp) q) _ (beside_left sig p (all_hidden hp xp) q of_p)
      (in_turn sig _ (parallel (all_hidden hp xp) (all_hidden hq xq)) _ (beside_right sig q (all_hidden hq xq) (all_hidden hp xp) of_q)
      (in_turn sig _ (all_hidden hp (parallel xp (all_hidden hq xq))) _
      (widened_left xp hp (all_hidden hq xq) (λ c k. free_all_hidden hq xq c (free_assignments q c (in_neither fp fq c (new_apart (union fp fq) (names_of hp) new_p c k)).1)))
      (subst (Becomes sig (all_hidden hp (parallel xp (all_hidden hq xq)))) (sym (all_hidden-append hp hq (side_by_side (assignments p ++ assignments q))))
      (under_all hp _ _ (in_turn sig _ (all_hidden hq (parallel xp xq)) _
      (widened_right xp hq xq (λ c k. free_assignments p c (in_neither fp fq c (new_apart (union fp fq) (names_of hq) new_q.0 c k)).0 (new_q.1 c k)))
      (under_all hq _ _ (joined (assignments p) (assignments q))))))))

  -- ---- in order

  exchanged : (x y : Channel × Reaction) (xs : List (Channel × Reaction)) → Becomes sig (side_by_side (x ∷ y ∷ xs)) (side_by_side (y ∷ x ∷ xs))
  exchanged x y [] = comm sig (assignment x.0 x.1) (assignment y.0 y.1)
  exchanged x y (z ∷ xs) =
      let one = assignment x.0 x.1 in let other = assignment y.0 y.1 in let rest = side_by_side (z ∷ xs) in
      in_turn sig _ (parallel (parallel one other) rest) _ (assocl sig one other rest)
      (in_turn sig _ (parallel (parallel other one) rest) _ (beside_left sig (parallel one other) (parallel other one) rest (comm sig one other)) (assocr sig other one rest))

  behind_one : (x y : Channel × Reaction) (ys zs : List (Channel × Reaction)) → Becomes sig (side_by_side (y ∷ ys)) (side_by_side zs) → IsSome zs → Becomes sig (side_by_side (x ∷ y ∷ ys)) (side_by_side (x ∷ zs))
  behind_one x y ys [] h some = absurd some
  behind_one x y ys (z ∷ zs) h some = beside_right sig _ _ (assignment x.0 x.1) h

  assignment_placed : (x : Channel × Reaction) (xs : List (Channel × Reaction)) → Becomes sig (side_by_side (x ∷ xs)) (side_by_side (placed x xs))
  assignment_placed x [] = stays sig _
  assignment_placed x (y ∷ ys) = by_test (comes_before y.0 x.0)
      (λ b. subst (λ zs. Becomes sig (side_by_side (x ∷ y ∷ ys)) (side_by_side zs)) (sym (if-true (comes_before y.0 x.0) (y ∷ placed x ys) (x ∷ y ∷ ys) b))
      (in_turn sig _ (side_by_side (y ∷ x ∷ ys)) _ (exchanged x y ys) (behind_one y x ys (placed x ys) (assignment_placed x ys) (some_placed x ys))))
      (λ b. subst (λ zs. Becomes sig (side_by_side (x ∷ y ∷ ys)) (side_by_side zs)) (sym (if-false (comes_before y.0 x.0) (y ∷ placed x ys) (x ∷ y ∷ ys) b)) (stays sig _))

  assignments_by_name : (xs : List (Channel × Reaction)) → Becomes sig (side_by_side xs) (side_by_side (by_name xs))
  assignments_by_name [] = stays sig nil
  assignments_by_name (x ∷ []) = stays sig _
  assignments_by_name (x ∷ y ∷ xs) =
      in_turn sig _ (side_by_side (x ∷ by_name (y ∷ xs))) _ (behind_one x y xs (by_name (y ∷ xs)) (assignments_by_name (y ∷ xs)) (some_placed y (by_name xs)))
      (assignment_placed x (by_name (y ∷ xs)))

  channel_placed : (h : Channel × ℕ) (hs : List (Channel × ℕ)) (p : Protocol) → has (names_of hs) h.0 ≡ false → Becomes sig (all_hidden (h ∷ hs) p) (all_hidden (placed h hs) p)
  channel_placed h [] p apart = stays sig _
  channel_placed h (g ∷ hs) p apart =
      let parts = or_parts (same_channel g.0 h.0) (has (names_of hs) h.0) apart in
      by_test (comes_before g.0 h.0)
      (λ b. subst (λ zs. Becomes sig (all_hidden (h ∷ g ∷ hs) p) (all_hidden zs p)) (sym (if-true (comes_before g.0 h.0) (g ∷ placed h hs) (h ∷ g ∷ hs) b))
      (in_turn sig _ (all_hidden (g ∷ h ∷ hs) p) _ (newswap sig h.0 g.0 h.1 g.1 (all_hidden hs p) (same_channel-false_swap g.0 h.0 parts.0)) (under_hiding sig g.0 g.1 _ _ (channel_placed h hs p parts.1))))
      (λ b. subst (λ zs. Becomes sig (all_hidden (h ∷ g ∷ hs) p) (all_hidden zs p)) (sym (if-false (comes_before g.0 h.0) (g ∷ placed h hs) (h ∷ g ∷ hs) b)) (stays sig _))

  -- a new name is none of those behind it
  first_apart : (seen : List Channel) (c : Channel) (cs : List Channel) → AreNew (c ∷ seen) cs → has cs c ≡ false
  first_apart seen c cs new = by_test (has cs c)
      (λ k. let not_itself = or_parts (same_channel c c) (has seen c) (new_apart (c ∷ seen) cs new c k) in
      let itself = same_channel-itself c in
      let no : true ≡ false = sym itself ∙ not_itself.0 in cc)
      (λ k. k)

  hidden_by_name : (hs : List (Channel × ℕ)) (p : Protocol) (seen : List Channel) → AreNew seen (names_of hs) → Becomes sig (all_hidden hs p) (all_hidden (by_name hs) p)
  hidden_by_name [] p seen new = stays sig p
  hidden_by_name (h ∷ hs) p seen new =
      in_turn sig _ (all_hidden (h ∷ by_name hs) p) _ (under_hiding sig h.0 h.1 _ _ (hidden_by_name hs p (h.0 ∷ seen) new.1))
      (channel_placed h (by_name hs) p (names-by_name hs h.0 (first_apart seen h.0 (names_of hs) new.1)))

  -- ---- the shape

  becomes_shaped : (p : Protocol) → first_repeated_name p ≡ None → Becomes sig p (shaped p)
  becomes_shaped p none =
      let new = new_unless_repeated (free_channels p) (names_of (hidden p)) (ap (first_repeated (free_channels p)) (names_of-hidden p) ∙ none) in
      in_turn sig _ (all_hidden (hidden p) (side_by_side (assignments p))) _ (collected p new)
      (in_turn sig _ (all_hidden (hidden p) (side_by_side (by_name (assignments p)))) _ (under_all (hidden p) _ _ (assignments_by_name (assignments p)))
      (hidden_by_name (hidden p) (side_by_side (by_name (assignments p))) (free_channels p) new))

  pub shaped_is_equal : (scope : Scope) (written : List Channel) (p : Protocol) → first_repeated_name p ≡ None → Typed sig scope p written → Equal sig scope written p (shaped p)
  shaped_is_equal scope written p none typed = becomes_shaped p none scope written typed

  pub shaped_is_typed : (scope : Scope) (written : List Channel) (p : Protocol) → first_repeated_name p ≡ None → Typed sig scope p written → Typed sig scope (shaped p) written
  shaped_is_typed scope written p none typed = (shaped_is_equal scope written p none typed).right

  pub shaped_at_place : (scope : Scope) (written : List Channel) (p q : Protocol) (place : List ℕ) (part : Protocol) → Typed sig scope p written →
      term_at (protocol_term p) place ≡ Some (protocol_term part) → term_with (protocol_term p) place (protocol_term (shaped part)) ≡ protocol_term q → first_repeated_name part ≡ None → Equal sig scope written p q
  shaped_at_place scope written p q place part typed at with none = becomes_at_place sig part (shaped part) (becomes_shaped part none) scope written p q place typed at with
