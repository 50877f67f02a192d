-- Trees by their heads, and names by the test that compares them.
use Rattle.std.proofs.Common.{◌≡◌, ℕ, suc, true, false, List, Option, Some, refl, sym, subst, ◌∙◌}
use Rattle.std.specs.Prelude.{bytes_eq}
use Rattle.std.proofs.lemmas.Bool.{false_from_ne_true, false≢true}
use Rattle.std.proofs.lemmas.Slice.Eq.{bytes_eq-Decides}
use Rattle.ipdl_tree.specs.Trees.{Located, word, group, Forest, no_trees, tree}
use Rattle.ipdl_forms.specs.Lists.{tree_count, tree_at, without_first, head_of, is_list}
use Rattle.ipdl_forms.specs.Steps.{first_name}
use Rattle.ipdl_forms.proofs.Forms.{headed}

-- what holds of each list with a word in front holds of a tree that has it
pub with_head : (P : Located → Type 0) (t : Located) (name : List ℕ) → head_of t ≡ Some name → ((pos at : ℕ) (ts : Forest) → P (group pos (tree (word at name) ts))) → P t
with_head P t name is all = headed name P all t is

-- the head is the first name
pub first_name_head : (t : Located) (name : List ℕ) → head_of t ≡ Some name → first_name t ≡ name
first_name_head t name is = with_head (λ u. first_name u ≡ name) t name is (λ pos at ts. refl)

-- trees of which the first is a list
pub count_after_list : (ts : Forest) → is_list (tree_at 0 ts) ≡ true → tree_count ts ≡ suc (tree_count (without_first ts))
count_after_list no_trees is = cc
count_after_list (tree t ts) is = refl

-- a name is itself
pub bytes_eq-itself : (name : List ℕ) → bytes_eq name name ≡ true
bytes_eq-itself name = (bytes_eq-Decides name name).1 refl

-- a name is another one where what holds of the first does not hold of the second
pub bytes_eq-other : (P : List ℕ → Type 0) (name other : List ℕ) → P name → (P other → ⊥) → bytes_eq name other ≡ false
bytes_eq-other P name other holds fails =
    false_from_ne_true (bytes_eq name other) (λ is. fails (subst P ((bytes_eq-Decides name other).0 is) holds))

-- two names that the test tells apart are not one head
pub heads_apart : (name other : List ℕ) (head : Option (List ℕ)) → head ≡ Some name → head ≡ Some other → bytes_eq name other ≡ false → ⊥
heads_apart name other head is too apart =
    let same : name ≡ other = cc in false≢true (sym apart ∙ (bytes_eq-Decides name other).1 same)
