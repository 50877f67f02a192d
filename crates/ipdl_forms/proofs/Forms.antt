-- A list of a head with so many parts, taken apart.
use Rattle.std.proofs.Common.{◌≡◌, ℕ, Bool, true, List, refl, subst, arith}
use Rattle.std.specs.Prelude.{◌≤◌, Option, Some, None, is_none, if◌then◌else◌}
use Rattle.ipdl_tree.specs.Trees.{Located, word, number, literal, group, Forest, no_trees, tree}
use Rattle.ipdl_forms.specs.Expressions.{symbol_named}
use Rattle.ipdl_forms.specs.Lists.{tree_count, word_in, literal_in, is_word, head_of, operands, IsForm, IsLongForm}
use Rattle.ipdl_forms.specs.Operators.{Operand, operator_operands}
use Rattle.ipdl_forms.specs.Scopes.{NameScope, symbol_number, bound_number, free_number, bound_variable, free_variable}
use Rattle.ipdl_forms.specs.Widths.{SpellsWidth, greatest_width}

-- ---- the parts

-- no part
pub no_parts : (P : Forest → Type 0) → P no_trees → (ts : Forest) → tree_count ts ≡ 0 → P ts
no_parts P make no_trees many = make
no_parts P make (tree a ts) many = absurd (omega (arith, many))

-- one part
pub one_part : (P : Forest → Type 0) → ((a : Located) → P (tree a no_trees)) → (ts : Forest) → tree_count ts ≡ 1 → P ts
one_part P make no_trees many = absurd (omega (arith, many))
one_part P make (tree a ts) many =
    no_parts (λ us. P (tree a us)) (make a) ts (omega (arith, many))

-- two parts
pub two_parts : (P : Forest → Type 0) → ((a b : Located) → P (tree a (tree b no_trees))) → (ts : Forest) → tree_count ts ≡ 2 → P ts
two_parts P make no_trees many = absurd (omega (arith, many))
two_parts P make (tree a ts) many =
    one_part (λ us. P (tree a us)) (make a) ts (omega (arith, many))

-- three parts
pub three_parts : (P : Forest → Type 0) → ((a b c : Located) → P (tree a (tree b (tree c no_trees)))) → (ts : Forest) → tree_count ts ≡ 3 → P ts
three_parts P make no_trees many = absurd (omega (arith, many))
three_parts P make (tree a ts) many =
    two_parts (λ us. P (tree a us)) (make a) ts (omega (arith, many))

-- four parts
pub four_parts : (P : Forest → Type 0) → ((a b c d : Located) → P (tree a (tree b (tree c (tree d no_trees))))) → (ts : Forest) → tree_count ts ≡ 4 → P ts
four_parts P make no_trees many = absurd (omega (arith, many))
four_parts P make (tree a ts) many =
    three_parts (λ us. P (tree a us)) (make a) ts (omega (arith, many))

-- two parts or more
pub many_parts : (P : Forest → Type 0) → ((a b : Located) (ts : Forest) → P (tree a (tree b ts))) → (ts : Forest) → 2 ≤ tree_count ts → P ts
many_parts P make no_trees many = absurd (omega (arith, many))
many_parts P make (tree a no_trees) many = absurd (omega (arith, many))
many_parts P make (tree a (tree b ts)) many = make a b ts

-- ---- the head

-- a list with a word in front
pub headed : (head : List ℕ) (P : Located → Type 0) → ((pos at : ℕ) (ts : Forest) → P (group pos (tree (word at head) ts))) → (t : Located) → head_of t ≡ Some head → P t
headed head P make (word pos name) front = cc
headed head P make (number pos n) front = cc
headed head P make (literal pos bits) front = cc
headed head P make (group pos no_trees) front = cc
headed head P make (group pos (tree (word at name) ts)) front =
    let same : head ≡ name = cc in
    subst (λ x. P (group pos (tree (word at x) ts))) same (make pos at ts)
headed head P make (group pos (tree (number at n) ts)) front = cc
headed head P make (group pos (tree (literal at bits) ts)) front = cc
headed head P make (group pos (tree (group at us) ts)) front = cc

-- ---- forms

pub form_of_none : (head : List ℕ) (P : Located → Type 0) → ((pos at : ℕ) → P (group pos (tree (word at head) no_trees))) → (t : Located) → IsForm head 0 t → P t
form_of_none head P make t form =
    headed head (λ u. tree_count (operands u) ≡ 0 → P u) (λ pos at ts. no_parts (λ us. P (group pos (tree (word at head) us))) (make pos at) ts) t form.0 form.1

pub form_of_one : (head : List ℕ) (P : Located → Type 0) → ((pos at : ℕ) (a : Located) → P (group pos (tree (word at head) (tree a no_trees)))) → (t : Located) → IsForm head 1 t → P t
form_of_one head P make t form =
    headed head (λ u. tree_count (operands u) ≡ 1 → P u) (λ pos at ts. one_part (λ us. P (group pos (tree (word at head) us))) (make pos at) ts) t form.0 form.1

pub form_of_two : (head : List ℕ) (P : Located → Type 0) → ((pos at : ℕ) (a b : Located) → P (group pos (tree (word at head) (tree a (tree b no_trees))))) → (t : Located) → IsForm head 2 t → P t
form_of_two head P make t form =
    headed head (λ u. tree_count (operands u) ≡ 2 → P u) (λ pos at ts. two_parts (λ us. P (group pos (tree (word at head) us))) (make pos at) ts) t form.0 form.1

pub form_of_three : (head : List ℕ) (P : Located → Type 0) → ((pos at : ℕ) (a b c : Located) → P (group pos (tree (word at head) (tree a (tree b (tree c no_trees)))))) → (t : Located) → IsForm head 3 t → P t
form_of_three head P make t form =
    headed head (λ u. tree_count (operands u) ≡ 3 → P u) (λ pos at ts. three_parts (λ us. P (group pos (tree (word at head) us))) (make pos at) ts) t form.0 form.1

pub form_of_four : (head : List ℕ) (P : Located → Type 0) → ((pos at : ℕ) (a b c d : Located) → P (group pos (tree (word at head) (tree a (tree b (tree c (tree d no_trees))))))) → (t : Located) → IsForm head 4 t → P t
form_of_four head P make t form =
    headed head (λ u. tree_count (operands u) ≡ 4 → P u) (λ pos at ts. four_parts (λ us. P (group pos (tree (word at head) us))) (make pos at) ts) t form.0 form.1

pub form_of_many : (head : List ℕ) (P : Located → Type 0) → ((pos at : ℕ) (a b : Located) (ts : Forest) → P (group pos (tree (word at head) (tree a (tree b ts))))) → (t : Located) → IsLongForm head 2 t → P t
form_of_many head P make t form =
    headed head (λ u. 2 ≤ tree_count (operands u) → P u) (λ pos at ts. many_parts (λ us. P (group pos (tree (word at head) us))) (make pos at) ts) t form.0 form.1

-- ---- names

-- a head that names a symbol names no operator
symbol_is : (scope : NameScope) (f : ℕ) (name : List ℕ) (o : Option (List Operand)) → operator_operands name ≡ o → (if is_none o then symbol_number scope name else None) ≡ Some f → (operator_operands name ≡ None) × (symbol_number scope name ≡ Some f)
symbol_is scope f name None same is = (same, is)
symbol_is scope f name (Some wanted) same is = cc

-- the list of a symbol's name and one part
pub form_of_symbol : (scope : NameScope) (f : ℕ) (P : Located → Type 0) → ((pos at : ℕ) (name : List ℕ) (a : Located) → operator_operands name ≡ None → symbol_number scope name ≡ Some f → P (group pos (tree (word at name) (tree a no_trees)))) → (t : Located) → symbol_named scope (head_of t) ≡ Some f → tree_count (operands t) ≡ 1 → P t
form_of_symbol scope f P make t front many = go (head_of t) refl front
  where
    go : (o : Option (List ℕ)) → head_of t ≡ o → symbol_named scope o ≡ Some f → P t
    go None same is = cc
    go (Some name) same is =
        let both = symbol_is scope f name (operator_operands name) refl is in
        form_of_one name P (λ pos at a. make pos at name a both.0 both.1) t (same, many)

-- ---- tokens

pub form_of_literal : (bits : List Bool) (P : Located → Type 0) → ((pos : ℕ) → P (literal pos bits)) → (t : Located) → literal_in t ≡ Some bits → P t
form_of_literal bits P make (word pos name) is = cc
form_of_literal bits P make (number pos n) is = cc
form_of_literal bits P make (literal pos b) is =
    let same : bits ≡ b = cc in
    subst (λ x. P (literal pos x)) same (make pos)
form_of_literal bits P make (group pos ts) is = cc

pub form_of_bound : (scope : NameScope) (n : ℕ) (P : Located → Type 0) → ((pos : ℕ) (name : List ℕ) → bound_number scope name ≡ Some n → P (word pos name)) → (t : Located) → bound_variable scope t ≡ Some n → P t
form_of_bound scope n P make (word pos name) is = make pos name is
form_of_bound scope n P make (number pos m) is = cc
form_of_bound scope n P make (literal pos bits) is = cc
form_of_bound scope n P make (group pos ts) is = cc

pub form_of_free : (scope : NameScope) (n : ℕ) (P : Located → Type 0) → ((pos : ℕ) (name : List ℕ) → free_number scope name ≡ Some n → P (word pos name)) → (t : Located) → free_variable scope t ≡ Some n → P t
form_of_free scope n P make (word pos name) is = make pos name is
form_of_free scope n P make (number pos m) is = cc
form_of_free scope n P make (literal pos bits) is = cc
form_of_free scope n P make (group pos ts) is = cc

-- a number that is not above the greatest
pub form_of_width : (w : ℕ) (P : Located → Type 0) → ((pos : ℕ) → w ≤ greatest_width → P (number pos w)) → (t : Located) → SpellsWidth w t → P t
form_of_width w P make (word pos name) is = cc
form_of_width w P make (number pos n) is =
    let same : w ≡ n = cc (is.0) in
    subst (λ x. P (number pos x)) same (make pos is.1)
form_of_width w P make (literal pos bits) is = cc
form_of_width w P make (group pos ts) is = cc

pub form_of_word : (name : List ℕ) (P : Located → Type 0) → ((pos : ℕ) → P (word pos name)) → (t : Located) → word_in t ≡ Some name → P t
form_of_word name P make (word pos n) is =
    let same : name ≡ n = cc in
    subst (λ x. P (word pos x)) same (make pos)
form_of_word name P make (number pos n) is = cc
form_of_word name P make (literal pos bits) is = cc
form_of_word name P make (group pos ts) is = cc

pub form_of_any_word : (P : Located → Type 0) → ((pos : ℕ) (name : List ℕ) → P (word pos name)) → (t : Located) → is_word t ≡ true → P t
form_of_any_word P make (word pos n) is = make pos n
form_of_any_word P make (number pos n) is = cc
form_of_any_word P make (literal pos bits) is = cc
form_of_any_word P make (group pos ts) is = cc
