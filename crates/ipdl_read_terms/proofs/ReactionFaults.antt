-- The first fault among the parts of a list that spells a reaction.
use Rattle.std.proofs.Common.{◌≡◌, ℕ, ◌+◌, List, [], ◌∷◌, ◌++◌, refl, sym, ap, ◌∙◌, subst, arith}
use Rattle.std.specs.Prelude.{Option, Some, unwrap_or}
use Rattle.ipdl_tree.specs.declared.tree.Tree.{Tree}
use Rattle.ipdl_tree.specs.Trees.{Located, Forest, no_trees, tree}
use Rattle.ipdl_tree.specs.Views.{located, all_located}
use Rattle.ipdl_forms.specs.declared.fault.DocFault.{DocFault}
use Rattle.ipdl_forms.specs.Counts.{counted, node_faults}
use Rattle.ipdl_forms.specs.Expressions.{expression_count, expression_faults}
use Rattle.ipdl_forms.specs.Faults.{TellsFirst, word_faults}
use Rattle.ipdl_forms.specs.Lists.{name_in, word_in}
use Rattle.ipdl_forms.specs.Reactions.{ReactionPart, name_part, width_part, expression_part, reaction_part, body_part, reaction_count, reaction_part_count, reaction_faults, reaction_part_faults}
use Rattle.ipdl_read_terms.specs.Lists.{reaction_list_faults}
use Rattle.ipdl_forms.specs.Scopes.{NameScope, under_binder}
use Rattle.ipdl_forms.specs.Widths.{greatest_width, width_faults}
use Rattle.ipdl_forms.proofs.Faults.{TellsFirst-in_front, TellsFirst-after}
use Rattle.ipdl_read_terms.proofs.Counts.{counted_twice, counted_none}

-- ---- one part

expression_first : (fault : DocFault) (scope : NameScope) (binder : List ℕ) (count : Option ℕ) (wanted : List ReactionPart) (t : Located) (ts : Forest) → TellsFirst fault (expression_faults scope count t) → TellsFirst fault (reaction_part_faults scope binder count (expression_part ∷ wanted) (tree t ts))
expression_first fault scope binder count wanted t ts first =
    TellsFirst-in_front fault (expression_faults scope count t) (reaction_part_faults scope binder (counted (expression_count t) count) wanted ts) first

expression_later : (fault : DocFault) (scope : NameScope) (binder : List ℕ) (count : Option ℕ) (wanted : List ReactionPart) (t : Located) (ts : Forest) → expression_faults scope count t ≡ [] → TellsFirst fault (reaction_part_faults scope binder (counted (expression_count t) count) wanted ts) → TellsFirst fault (reaction_part_faults scope binder count (expression_part ∷ wanted) (tree t ts))
expression_later fault scope binder count wanted t ts clean first =
    TellsFirst-after fault (expression_faults scope count t) (reaction_part_faults scope binder (counted (expression_count t) count) wanted ts) clean first

reaction_first : (fault : DocFault) (scope : NameScope) (binder : List ℕ) (count : Option ℕ) (wanted : List ReactionPart) (t : Located) (ts : Forest) → TellsFirst fault (reaction_faults scope count t) → TellsFirst fault (reaction_part_faults scope binder count (reaction_part ∷ wanted) (tree t ts))
reaction_first fault scope binder count wanted t ts first =
    TellsFirst-in_front fault (reaction_faults scope count t) (reaction_part_faults scope binder (counted (reaction_count t) count) wanted ts) first

reaction_later : (fault : DocFault) (scope : NameScope) (binder : List ℕ) (count : Option ℕ) (wanted : List ReactionPart) (t : Located) (ts : Forest) → reaction_faults scope count t ≡ [] → TellsFirst fault (reaction_part_faults scope binder (counted (reaction_count t) count) wanted ts) → TellsFirst fault (reaction_part_faults scope binder count (reaction_part ∷ wanted) (tree t ts))
reaction_later fault scope binder count wanted t ts clean first =
    TellsFirst-after fault (reaction_faults scope count t) (reaction_part_faults scope binder (counted (reaction_count t) count) wanted ts) clean first

body_first : (fault : DocFault) (scope : NameScope) (binder : List ℕ) (count : Option ℕ) (wanted : List ReactionPart) (t : Located) (ts : Forest) → TellsFirst fault (reaction_faults (under_binder binder scope) count t) → TellsFirst fault (reaction_part_faults scope binder count (body_part ∷ wanted) (tree t ts))
body_first fault scope binder count wanted t ts first =
    TellsFirst-in_front fault (reaction_faults (under_binder binder scope) count t) (reaction_part_faults scope binder (counted (reaction_count t) count) wanted ts) first

-- a name and a width without faults
name_and_width : (fault : DocFault) (scope : NameScope) (binder : List ℕ) (count : Option ℕ) (wanted : List ReactionPart) (a b : Located) (ts : Forest) → word_faults a ≡ [] → width_faults greatest_width b ≡ [] → TellsFirst fault (reaction_part_faults scope binder count wanted ts) → TellsFirst fault (reaction_part_faults scope binder count (name_part ∷ width_part ∷ wanted) (tree a (tree b ts)))
name_and_width fault scope binder count wanted a b ts named wide first =
    TellsFirst-after fault (word_faults a) (width_faults greatest_width b ++ reaction_part_faults scope binder count wanted ts) named
    (TellsFirst-after fault (width_faults greatest_width b) (reaction_part_faults scope binder count wanted ts) wide first)

-- ---- the parts of `if`

abbrev branches : List ReactionPart
branches = expression_part ∷ reaction_part ∷ reaction_part ∷ []

branches_first : (fault : DocFault) (scope : NameScope) (count : Option ℕ) (pos : ℕ) (xs : List Tree) (a b c : Tree) → xs ≡ a ∷ b ∷ c ∷ [] → node_faults (counted 1 count) pos ≡ [] → TellsFirst fault (reaction_part_faults scope (name_in (located a)) (counted 1 count) branches (tree (located a) (tree (located b) (tree (located c) no_trees)))) → TellsFirst fault (reaction_list_faults scope count pos branches (all_located xs))
branches_first fault scope count pos xs a b c is clean first =
    let P : List Tree → Type 0 = λ ts. TellsFirst fault (reaction_list_faults scope count pos branches (all_located ts)) in
    subst P (sym is) (TellsFirst-after fault (node_faults (counted 1 count) pos) (reaction_part_faults scope (name_in (located a)) (counted 1 count) branches (tree (located a) (tree (located b) (tree (located c) no_trees)))) clean first)

pub branches_test : (fault : DocFault) (scope : NameScope) (count m : Option ℕ) (pos : ℕ) (xs : List Tree) (a b c : Tree) → xs ≡ a ∷ b ∷ c ∷ [] → m ≡ counted 1 count → node_faults (counted 1 count) pos ≡ [] → TellsFirst fault (expression_faults scope m (located a)) → TellsFirst fault (reaction_list_faults scope count pos branches (all_located xs))
branches_test fault scope count m pos xs a b c is one clean first =
    let told = subst (λ n. TellsFirst fault (expression_faults scope n (located a))) one first in
    branches_first fault scope count pos xs a b c is clean
    (expression_first fault scope (name_in (located a)) (counted 1 count) (reaction_part ∷ reaction_part ∷ []) (located a) (tree (located b) (tree (located c) no_trees)) told)

pub branches_left : (fault : DocFault) (scope : NameScope) (count m k : Option ℕ) (pos : ℕ) (xs : List Tree) (a b c : Tree) → xs ≡ a ∷ b ∷ c ∷ [] → m ≡ counted 1 count → node_faults (counted 1 count) pos ≡ [] → expression_faults scope m (located a) ≡ [] → k ≡ counted (expression_count (located a)) m → TellsFirst fault (reaction_faults scope k (located b)) → TellsFirst fault (reaction_list_faults scope count pos branches (all_located xs))
branches_left fault scope count m k pos xs a b c is one clean tested two first =
    let n = counted 1 count in
    let rest = tree (located b) (tree (located c) no_trees) in
    let test = subst (λ i. expression_faults scope i (located a) ≡ []) one tested in
    let second = two ∙ ap (counted (expression_count (located a))) one in
    let told = subst (λ i. TellsFirst fault (reaction_faults scope i (located b))) second first in
    branches_first fault scope count pos xs a b c is clean
    (expression_later fault scope (name_in (located a)) n (reaction_part ∷ reaction_part ∷ []) (located a) rest test
    (reaction_first fault scope (name_in (located a)) (counted (expression_count (located a)) n) (reaction_part ∷ []) (located b) (tree (located c) no_trees) told))

pub branches_right : (fault : DocFault) (scope : NameScope) (count m k l : Option ℕ) (pos : ℕ) (xs : List Tree) (a b c : Tree) → xs ≡ a ∷ b ∷ c ∷ [] → m ≡ counted 1 count → node_faults (counted 1 count) pos ≡ [] → expression_faults scope m (located a) ≡ [] → k ≡ counted (expression_count (located a)) m → reaction_faults scope k (located b) ≡ [] → l ≡ counted (reaction_count (located b)) k → TellsFirst fault (reaction_faults scope l (located c)) → TellsFirst fault (reaction_list_faults scope count pos branches (all_located xs))
branches_right fault scope count m k l pos xs a b c is one clean tested two lefts three first =
    let n = counted 1 count in
    let rest = tree (located b) (tree (located c) no_trees) in
    let test = subst (λ i. expression_faults scope i (located a) ≡ []) one tested in
    let second = two ∙ ap (counted (expression_count (located a))) one in
    let left = subst (λ i. reaction_faults scope i (located b) ≡ []) second lefts in
    let third = three ∙ ap (counted (reaction_count (located b))) second in
    let told = subst (λ i. TellsFirst fault (reaction_faults scope i (located c))) third first in
    let after = counted (expression_count (located a)) n in
    branches_first fault scope count pos xs a b c is clean
    (expression_later fault scope (name_in (located a)) n (reaction_part ∷ reaction_part ∷ []) (located a) rest test
    (reaction_later fault scope (name_in (located a)) after (reaction_part ∷ []) (located b) (tree (located c) no_trees) left
    (reaction_first fault scope (name_in (located a)) (counted (reaction_count (located b)) after) [] (located c) no_trees told)))

-- ---- the parts of `bind`

abbrev binding_parts : List ReactionPart
binding_parts = name_part ∷ width_part ∷ reaction_part ∷ body_part ∷ []

binding_later : (fault : DocFault) (scope : NameScope) (count : Option ℕ) (pos : ℕ) (xs : List Tree) (a b c d : Tree) → xs ≡ a ∷ b ∷ c ∷ d ∷ [] → node_faults (counted 1 count) pos ≡ [] → word_faults (located a) ≡ [] → width_faults greatest_width (located b) ≡ [] → TellsFirst fault (reaction_part_faults scope (name_in (located a)) (counted 1 count) (reaction_part ∷ body_part ∷ []) (tree (located c) (tree (located d) no_trees))) → TellsFirst fault (reaction_list_faults scope count pos binding_parts (all_located xs))
binding_later fault scope count pos xs a b c d is clean named wide first =
    let P : List Tree → Type 0 = λ ts. TellsFirst fault (reaction_list_faults scope count pos binding_parts (all_located ts)) in
    let rest = tree (located c) (tree (located d) no_trees) in
    subst P (sym is) (TellsFirst-after fault (node_faults (counted 1 count) pos) (reaction_part_faults scope (name_in (located a)) (counted 1 count) binding_parts (tree (located a) (tree (located b) rest))) clean
    (name_and_width fault scope (name_in (located a)) (counted 1 count) (reaction_part ∷ body_part ∷ []) (located a) (located b) rest named wide first))

pub binding_first : (fault : DocFault) (scope : NameScope) (count m : Option ℕ) (pos : ℕ) (xs : List Tree) (a b c d : Tree) → xs ≡ a ∷ b ∷ c ∷ d ∷ [] → m ≡ counted 1 count → node_faults (counted 1 count) pos ≡ [] → word_faults (located a) ≡ [] → width_faults greatest_width (located b) ≡ [] → TellsFirst fault (reaction_faults scope m (located c)) → TellsFirst fault (reaction_list_faults scope count pos binding_parts (all_located xs))
binding_first fault scope count m pos xs a b c d is one clean named wide first =
    let told = subst (λ n. TellsFirst fault (reaction_faults scope n (located c))) one first in
    binding_later fault scope count pos xs a b c d is clean named wide
    (reaction_first fault scope (name_in (located a)) (counted 1 count) (body_part ∷ []) (located c) (tree (located d) no_trees) told)

pub binding_body : (fault : DocFault) (scope : NameScope) (count m k : Option ℕ) (pos : ℕ) (xs : List Tree) (a b c d : Tree) (name : List ℕ) → xs ≡ a ∷ b ∷ c ∷ d ∷ [] → m ≡ counted 1 count → node_faults (counted 1 count) pos ≡ [] → word_faults (located a) ≡ [] → word_in (located a) ≡ Some name → width_faults greatest_width (located b) ≡ [] → reaction_faults scope m (located c) ≡ [] → k ≡ counted (reaction_count (located c)) m → TellsFirst fault (reaction_faults (under_binder name scope) k (located d)) → TellsFirst fault (reaction_list_faults scope count pos binding_parts (all_located xs))
binding_body fault scope count m k pos xs a b c d name is one clean named known wide bound two first =
    let n = counted 1 count in
    let before = subst (λ i. reaction_faults scope i (located c) ≡ []) one bound in
    let second = two ∙ ap (counted (reaction_count (located c))) one in
    let told = subst (λ i. TellsFirst fault (reaction_faults (under_binder name scope) i (located d))) second first in
    let same : name_in (located a) ≡ name = ap (λ o. unwrap_or o []) known in
    let body = subst (λ x. TellsFirst fault (reaction_faults (under_binder x scope) (counted (reaction_count (located c)) n) (located d))) (sym same) told in
    binding_later fault scope count pos xs a b c d is clean named wide
    (reaction_later fault scope (name_in (located a)) n (body_part ∷ []) (located c) (tree (located d) no_trees) before
    (body_first fault scope (name_in (located a)) (counted (reaction_count (located c)) n) [] (located d) no_trees body))

-- ---- all parts of a list

-- three parts that are counted one after the other
counted_parts : (first second third : ℕ) (m k l new : Option ℕ) → k ≡ counted first m → l ≡ counted second k → new ≡ counted third l → new ≡ counted (first + (second + (third + 0))) m
counted_parts first second third m k l new two three four =
    four ∙ ap (counted third) (three ∙ ap (counted second) two ∙ counted_twice first second m) ∙ counted_twice (first + second) third m
    ∙ ap (λ n. counted n m) (let same : first + second + third ≡ first + (second + (third + 0)) = omega arith in same)

pub branches_counted : (count m k l new : Option ℕ) (xs : List Tree) (a b c : Tree) → xs ≡ a ∷ b ∷ c ∷ [] → m ≡ counted 1 count → k ≡ counted (expression_count (located a)) m → l ≡ counted (reaction_count (located b)) k → new ≡ counted (reaction_count (located c)) l → new ≡ counted (reaction_part_count branches (all_located xs)) (counted 1 count)
branches_counted count m k l new xs a b c is one two three four =
    counted_parts (expression_count (located a)) (reaction_count (located b)) (reaction_count (located c)) m k l new two three four
    ∙ ap (counted (expression_count (located a) + (reaction_count (located b) + (reaction_count (located c) + 0)))) one
    ∙ ap (λ ts. counted (reaction_part_count branches (all_located ts)) (counted 1 count)) (sym is)

pub branches_clean : (scope : NameScope) (count m k l : Option ℕ) (pos : ℕ) (xs : List Tree) (a b c : Tree) → xs ≡ a ∷ b ∷ c ∷ [] → m ≡ counted 1 count → node_faults (counted 1 count) pos ≡ [] → expression_faults scope m (located a) ≡ [] → k ≡ counted (expression_count (located a)) m → reaction_faults scope k (located b) ≡ [] → l ≡ counted (reaction_count (located b)) k → reaction_faults scope l (located c) ≡ [] → reaction_list_faults scope count pos branches (all_located xs) ≡ []
branches_clean scope count m k l pos xs a b c is one clean tested two lefts three rights =
    let n = counted 1 count in
    let test = subst (λ i. expression_faults scope i (located a) ≡ []) one tested in
    let second = two ∙ ap (counted (expression_count (located a))) one in
    let left = subst (λ i. reaction_faults scope i (located b) ≡ []) second lefts in
    let third = three ∙ ap (counted (reaction_count (located b))) second in
    let right = subst (λ i. reaction_faults scope i (located c) ≡ []) third rights in
    subst (λ ts. reaction_list_faults scope count pos branches (all_located ts) ≡ []) (sym is) (rw (clean, test, left, right) refl)

pub binding_counted : (count m k new : Option ℕ) (xs : List Tree) (a b c d : Tree) → xs ≡ a ∷ b ∷ c ∷ d ∷ [] → m ≡ counted 1 count → k ≡ counted (reaction_count (located c)) m → new ≡ counted (reaction_count (located d)) k → new ≡ counted (reaction_part_count binding_parts (all_located xs)) (counted 1 count)
binding_counted count m k new xs a b c d is one two three =
    counted_parts 0 (reaction_count (located c)) (reaction_count (located d)) m m k new (sym (counted_none m)) two three
    ∙ ap (counted (0 + (reaction_count (located c) + (reaction_count (located d) + 0)))) one
    ∙ ap (λ n. counted n (counted 1 count)) (let same : 0 + (reaction_count (located c) + (reaction_count (located d) + 0)) ≡ reaction_count (located c) + (reaction_count (located d) + 0) = omega arith in same)
    ∙ ap (λ ts. counted (reaction_part_count binding_parts (all_located ts)) (counted 1 count)) (sym is)

pub binding_clean : (scope : NameScope) (count m k : Option ℕ) (pos : ℕ) (xs : List Tree) (a b c d : Tree) (name : List ℕ) → xs ≡ a ∷ b ∷ c ∷ d ∷ [] → m ≡ counted 1 count → node_faults (counted 1 count) pos ≡ [] → word_faults (located a) ≡ [] → word_in (located a) ≡ Some name → width_faults greatest_width (located b) ≡ [] → reaction_faults scope m (located c) ≡ [] → k ≡ counted (reaction_count (located c)) m → reaction_faults (under_binder name scope) k (located d) ≡ [] → reaction_list_faults scope count pos binding_parts (all_located xs) ≡ []
binding_clean scope count m k pos xs a b c d name is one clean named known wide bound two bodies =
    let n = counted 1 count in
    let before = subst (λ i. reaction_faults scope i (located c) ≡ []) one bound in
    let second = two ∙ ap (counted (reaction_count (located c))) one in
    let under = subst (λ i. reaction_faults (under_binder name scope) i (located d) ≡ []) second bodies in
    let same : name_in (located a) ≡ name = ap (λ o. unwrap_or o []) known in
    let body = subst (λ x. reaction_faults (under_binder x scope) (counted (reaction_count (located c)) n) (located d) ≡ []) (sym same) under in
    subst (λ ts. reaction_list_faults scope count pos binding_parts (all_located ts) ≡ []) (sym is) (rw (clean, named, wide, before, body) refl)
