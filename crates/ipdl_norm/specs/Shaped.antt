-- The shape of a protocol: its hidden channels in the order of their names, around its assignments in the order of theirs.
use Rattle.std.specs.Cmp.Lexicographic.{slice_cmp}
use Rattle.std.specs.Ordering.{nat_cmp, is_lt}
use Rattle.std.specs.Prelude.{ℕ, Bool, List, [], ◌∷◌, ◌++◌, map, if◌then◌else◌}
use Rattle.ipdl_term.specs.Terms.{Channel, Reaction, Protocol, nil, assignment, parallel, hiding}

-- ---- what a protocol is made of

-- the hidden channels with their widths, in preorder
abbrev pub hidden : Protocol → List (Channel × ℕ)
hidden nil = []
hidden (assignment c r) = []
hidden (parallel p q) = hidden p ++ hidden q
hidden (hiding c w p) = (c, w) ∷ hidden p

-- the assignments, from the left
abbrev pub assignments : Protocol → List (Channel × Reaction)
assignments nil = []
assignments (assignment c r) = (c, r) ∷ []
assignments (parallel p q) = assignments p ++ assignments q
assignments (hiding c w p) = assignments p

-- their names
abbrev pub names_of : {X : Type 0} → List (Channel × X) → List Channel
names_of xs = map (λ x. x.0) xs

-- ---- the order of names

-- whether the first name comes before the second, by their bytes
abbrev pub comes_before : Channel → Channel → Bool
comes_before c d = is_lt (slice_cmp nat_cmp c d)

-- one more, behind all whose names come before its own
abbrev pub placed : {X : Type 0} → Channel × X → List (Channel × X) → List (Channel × X)
placed x [] = x ∷ []
placed x (y ∷ ys) = if comes_before y.0 x.0 then y ∷ placed x ys else x ∷ y ∷ ys

-- all in the order of their names, those of one name as they stood
abbrev pub by_name : {X : Type 0} → List (Channel × X) → List (Channel × X)
by_name [] = []
by_name (x ∷ xs) = placed x (by_name xs)

-- ---- the shape

-- assignments side by side, nested to the right
abbrev pub side_by_side : List (Channel × Reaction) → Protocol
side_by_side [] = nil
side_by_side (x ∷ []) = assignment x.0 x.1
side_by_side (x ∷ y ∷ xs) = parallel (assignment x.0 x.1) (side_by_side (y ∷ xs))

-- a protocol with all these channels hidden, the first one outermost
abbrev pub all_hidden : List (Channel × ℕ) → Protocol → Protocol
all_hidden [] p = p
all_hidden (h ∷ hs) p = hiding h.0 h.1 (all_hidden hs p)

abbrev pub shaped : Protocol → Protocol
shaped p = all_hidden (by_name (hidden p)) (side_by_side (by_name (assignments p)))
