-- The spelling that is written spells the tree, but for the offsets.
use Rattle.std.proofs.Common.{◌≡◌, ℕ, suc, ◌+◌, max, List, [], ◌∷◌, length, codes, refl, sym, ap, ap₂, inl, ◌∙◌, arith}
use Rattle.std.proofs.lemmas.List.{append-nil}
use Rattle.ipdl_tree.specs.Trees.{Located, word, number, literal, group, Forest, no_trees, tree, offset_of, without_offsets, all_without_offsets, depth_of, greatest_depth}
use Rattle.ipdl_tree.specs.Spelling.{blank, IsGap, EndsToken, IsApart, Spells, SpellsAll, SpellsSource, tree_text, forest_text, more_text}
use Rattle.ipdl_tree.specs.WellFormed.{IsWellFormed, AreWellFormed}
use Rattle.ipdl_tree.proofs.Rest.{IsGap-nil}

-- the tree with the offsets of its spelling, which begins at an offset
abbrev mutual
  pub located_at : ℕ → Located → Located
  located_at o (word pos name) = word o name
  located_at o (number pos n) = number o n
  located_at o (literal pos bits) = literal o bits
  located_at o (group pos ts) = group o (forest_at (suc o) ts)

  pub forest_at : ℕ → Forest → Forest
  forest_at o no_trees = no_trees
  forest_at o (tree t ts) = tree (located_at o t) (more_at (o + 0 + length (tree_text t)) ts)

  pub more_at : ℕ → Forest → Forest
  more_at o no_trees = no_trees
  more_at o (tree t ts) = tree (located_at (o + 1) t) (more_at (o + 1 + length (tree_text t)) ts)

offset_of-located_at : (o : ℕ) (t : Located) → offset_of (located_at o t) ≡ o
offset_of-located_at o (word pos name) = refl
offset_of-located_at o (number pos n) = refl
offset_of-located_at o (literal pos bits) = refl
offset_of-located_at o (group pos ts) = refl

EndsToken-more : (ts : Forest) → EndsToken (more_text ts)
EndsToken-more no_trees = tt
EndsToken-more (tree t ts) = refl

IsApart-from_ends : (t : Located) (rest : List ℕ) → EndsToken rest → IsApart t rest
IsApart-from_ends (word pos name) rest h = h
IsApart-from_ends (number pos n) rest h = h
IsApart-from_ends (literal pos bits) rest h = h
IsApart-from_ends (group pos ts) rest h = tt

one_blank : IsGap (codes " ")
one_blank = (blank 32 ∷ [], (refl, tt), refl)

mutual
  pub Spells-tree_text : (t : Located) (o : ℕ) → IsWellFormed t → Spells (located_at o t) (tree_text t)
  Spells-tree_text (word pos name) o h = (h, refl)
  Spells-tree_text (number pos n) o h = (h, refl)
  Spells-tree_text (literal pos bits) o h = (h, refl)
  Spells-tree_text (group pos ts) o h = (forest_text ts, SpellsAll-forest_text ts (suc o) h, refl)

  SpellsAll-forest_text : (ts : Forest) (o : ℕ) → AreWellFormed ts → SpellsAll (forest_at o ts) o (forest_text ts)
  SpellsAll-forest_text no_trees o h = IsGap-nil
  SpellsAll-forest_text (tree t ts) o h = (
    [],
    tree_text t,
    more_text ts,
    IsGap-nil,
    Spells-tree_text t o h.0,
    offset_of-located_at o t ∙ omega arith,
    IsApart-from_ends (located_at o t) (more_text ts) (EndsToken-more ts),
    SpellsAll-more_text ts (o + 0 + length (tree_text t)) h.1,
    refl,
  )

  SpellsAll-more_text : (ts : Forest) (o : ℕ) → AreWellFormed ts → SpellsAll (more_at o ts) o (more_text ts)
  SpellsAll-more_text no_trees o h = IsGap-nil
  SpellsAll-more_text (tree t ts) o h = (
    codes " ",
    tree_text t,
    more_text ts,
    one_blank,
    Spells-tree_text t (o + 1) h.0,
    offset_of-located_at (o + 1) t,
    IsApart-from_ends (located_at (o + 1) t) (more_text ts) (EndsToken-more ts),
    SpellsAll-more_text ts (o + 1 + length (tree_text t)) h.1,
    refl,
  )

mutual
  pub without_offsets-located_at : (t : Located) (o : ℕ) → without_offsets (located_at o t) ≡ without_offsets t
  without_offsets-located_at (word pos name) o = refl
  without_offsets-located_at (number pos n) o = refl
  without_offsets-located_at (literal pos bits) o = refl
  without_offsets-located_at (group pos ts) o = ap (group 0) (all_without_offsets-forest_at ts (suc o))

  all_without_offsets-forest_at : (ts : Forest) (o : ℕ) → all_without_offsets (forest_at o ts) ≡ all_without_offsets ts
  all_without_offsets-forest_at no_trees o = refl
  all_without_offsets-forest_at (tree t ts) o = ap₂ tree (without_offsets-located_at t o) (all_without_offsets-more_at ts (o + 0 + length (tree_text t)))

  all_without_offsets-more_at : (ts : Forest) (o : ℕ) → all_without_offsets (more_at o ts) ≡ all_without_offsets ts
  all_without_offsets-more_at no_trees o = refl
  all_without_offsets-more_at (tree t ts) o = ap₂ tree (without_offsets-located_at t (o + 1)) (all_without_offsets-more_at ts (o + 1 + length (tree_text t)))

mutual
  depth_of-without_offsets : (t : Located) → depth_of (without_offsets t) ≡ depth_of t
  depth_of-without_offsets (word pos name) = refl
  depth_of-without_offsets (number pos n) = refl
  depth_of-without_offsets (literal pos bits) = refl
  depth_of-without_offsets (group pos ts) = ap suc (greatest_depth-without_offsets ts)

  greatest_depth-without_offsets : (ts : Forest) → greatest_depth (all_without_offsets ts) ≡ greatest_depth ts
  greatest_depth-without_offsets no_trees = refl
  greatest_depth-without_offsets (tree t ts) = ap₂ max (depth_of-without_offsets t) (greatest_depth-without_offsets ts)

-- trees that are equal without offsets are as deep
pub depth_of-same : (t u : Located) → without_offsets t ≡ without_offsets u → depth_of t ≡ depth_of u
depth_of-same t u e = sym (depth_of-without_offsets t) ∙ ap depth_of e ∙ depth_of-without_offsets u

-- the spelling that is written
pub SpellsSource-tree_text : (t : Located) → IsWellFormed t → (u : Located) × SpellsSource u (tree_text t) × (without_offsets u ≡ without_offsets t)
SpellsSource-tree_text t h = (
  located_at 0 t,
  ([], tree_text t, [], IsGap-nil, Spells-tree_text t 0 h, offset_of-located_at 0 t, IsApart-from_ends (located_at 0 t) [] tt, inl IsGap-nil, sym (append-nil (tree_text t))),
  without_offsets-located_at t 0,
)
