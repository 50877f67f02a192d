-- Where a tree spells a term whose nodes fit, no test fails.
use Rattle.std.proofs.Common.{◌≡◌, ℕ, ◌+◌, ◌==◌, Bool, true, false, List, [], ◌∷◌, ◌++◌, length, refl, sym, ap, subst, arith}
use Rattle.std.specs.Prelude.{◌≤◌, nat_le, ◌||◌, Option, Some, None, is_some, codes, unwrap_or, if◌then◌else◌}
use Rattle.std.proofs.lemmas.Bool.{le-leb, eq-eqb}
use Rattle.std.specs.Option.{option_or}
use Rattle.ipdl_term.specs.Sizes.{most_nodes, expression_nodes}
use Rattle.ipdl_term.specs.Terms.{Expression, literal, variable, outer, application, exclusive, conjunction, negation, concatenation, segment, equality, selection}
use Rattle.ipdl_tree.specs.Trees.{Located, word, group, no_trees, tree}
use Rattle.ipdl_forms.specs.declared.fault.DocFault.{DocFault}
use Rattle.ipdl_forms.specs.Counts.{counted, IsWithinNodes, node_faults}
use Rattle.ipdl_forms.specs.Expressions.{SpellsExpression, operands_after, head_faults, variable_faults, expression_count, expression_faults, operand_faults}
use Rattle.ipdl_forms.specs.Faults.{tested, word_faults}
use Rattle.ipdl_forms.specs.Lists.{is_word, word_in, operand, IsForm}
use Rattle.ipdl_forms.specs.Operators.{Operand, expression_operand, operator_operands}
use Rattle.ipdl_forms.specs.Scopes.{NameScope, symbol_number, bound_number, free_number}
use Rattle.ipdl_forms.specs.Widths.{SpellsWidth, greatest_width, width_faults}
use Rattle.ipdl_forms.proofs.Faults.{clean-append}
use Rattle.ipdl_forms.proofs.Forms.{form_of_one, form_of_two, form_of_three, form_of_symbol, form_of_literal, form_of_bound, form_of_free, form_of_width, form_of_word}
use Rattle.ipdl_forms.proofs.NodeCounts.{expression_count-spelled}

-- ---- counts within the limit

-- a part of the nodes fits where all do
pub within_one : (count : Option ℕ) (n all : ℕ) → n ≤ all → IsWithinNodes (counted all count) → IsWithinNodes (counted n count)
within_one None n all less fits = tt
within_one (Some k) n all less fits = omega arith

-- two parts of the nodes
pub within_two : (count : Option ℕ) (m n all : ℕ) → m + n ≤ all → IsWithinNodes (counted all count) → IsWithinNodes (counted n (counted m count))
within_two None m n all less fits = tt
within_two (Some k) m n all less fits = omega arith

-- three parts of the nodes
pub within_three : (count : Option ℕ) (k m n all : ℕ) → k + m + n ≤ all → IsWithinNodes (counted all count) → IsWithinNodes (counted n (counted m (counted k count)))
within_three None k m n all less fits = tt
within_three (Some i) k m n all less fits = omega arith

-- four parts of the nodes
pub within_four : (count : Option ℕ) (i k m n all : ℕ) → i + k + m + n ≤ all → IsWithinNodes (counted all count) → IsWithinNodes (counted n (counted m (counted k (counted i count))))
within_four None i k m n all less fits = tt
within_four (Some j) i k m n all less fits = omega arith

-- a test that holds has no fault
pub tested-clean : (b : Bool) (fault : DocFault) → b ≡ true → tested b fault ≡ []
tested-clean b fault holds = rw holds refl

-- the limit is kept
pub node_faults-clean : (count : Option ℕ) (pos : ℕ) → IsWithinNodes count → node_faults count pos ≡ []
node_faults-clean None pos fits = refl
node_faults-clean (Some n) pos fits = tested-clean (nat_le n most_nodes) _ (le-leb n most_nodes fits)

-- ---- no fault in some lists

pub one_list : (f : List DocFault) → f ≡ [] → f ++ [] ≡ []
one_list f one = rw one refl

pub head_lists : (f g h : List DocFault) → f ≡ [] → g ≡ [] → h ≡ [] → (f ++ g) ++ h ≡ []
head_lists f g h one two three = rw (one, two, three) refl

pub two_lists : (f g : List DocFault) → f ≡ [] → g ≡ [] → f ++ (g ++ []) ≡ []
two_lists f g one two = rw (one, two) refl

pub three_lists : (f g h : List DocFault) → f ≡ [] → g ≡ [] → h ≡ [] → f ++ (g ++ (h ++ [])) ≡ []
three_lists f g h one two three = rw (one, two, three) refl

pub four_lists : (f g h i : List DocFault) → f ≡ [] → g ≡ [] → h ≡ [] → i ≡ [] → f ++ (g ++ (h ++ (i ++ []))) ≡ []
four_lists f g h i one two three four = rw (one, two, three, four) refl

pub five_lists : (f g h i j : List DocFault) → f ≡ [] → g ≡ [] → h ≡ [] → i ≡ [] → j ≡ [] → f ++ (g ++ (h ++ (i ++ (j ++ [])))) ≡ []
five_lists f g h i j one two three four five = rw (one, two, three, four, five) refl

-- ---- words and numbers

pub width_faults-clean : (w : ℕ) (t : Located) → SpellsWidth w t → width_faults greatest_width t ≡ []
width_faults-clean w t is =
    form_of_width w (λ u. width_faults greatest_width u ≡ []) (λ pos least. tested-clean (nat_le w greatest_width) _ (le-leb w greatest_width least)) t is

pub word_faults-clean : (t : Located) → is_word t ≡ true → word_faults t ≡ []
word_faults-clean t is = tested-clean (is_word t) _ is

pub named_faults-clean : (name : List ℕ) (t : Located) → word_in t ≡ Some name → word_faults t ≡ []
named_faults-clean name t is = form_of_word name (λ u. word_faults u ≡ []) (λ pos. refl) t is

-- ---- expressions

bound_clean : (scope : NameScope) (pos n : ℕ) (name : List ℕ) → bound_number scope name ≡ Some n → variable_faults scope pos name ≡ []
bound_clean scope pos n name is =
    tested-clean (is_some (bound_number scope name) || is_some (free_number scope name)) _ (rw is refl)

free_clean : (scope : NameScope) (pos n : ℕ) (name : List ℕ) → free_number scope name ≡ Some n → variable_faults scope pos name ≡ []
free_clean scope pos n name is =
    tested-clean (is_some (bound_number scope name) || is_some (free_number scope name)) _ (go (is_some (bound_number scope name)) (is_some (free_number scope name)) (ap is_some is))
  where
    go : (a b : Bool) → b ≡ true → (a || b) ≡ true
    go true b holds = refl
    go false b holds = holds

-- the head of a list is known, and as many parts follow as it asks for
head_clean : (scope : NameScope) (pos at : ℕ) (name : List ℕ) (count : ℕ) (wanted : List Operand) → operands_after scope name ≡ Some wanted → count ≡ length wanted → head_faults scope pos at name count ≡ []
head_clean scope pos at name count wanted known many =
    rw known (tested-clean (count == length wanted) _ (eq-eqb count (length wanted) many))

-- a list of one expression
one_clean : (scope : NameScope) (count : Option ℕ) (pos at : ℕ) (name : List ℕ) (a : Located) → operands_after scope name ≡ Some (expression_operand ∷ []) → IsWithinNodes (counted 1 count) → expression_faults scope (counted 1 count) a ≡ [] → expression_faults scope count (group pos (tree (word at name) (tree a no_trees))) ≡ []
one_clean scope count pos at name a known fits clean =
    subst (λ wanted. head_faults scope pos at name 1 ++ node_faults (counted 1 count) pos ++ operand_faults scope (counted 1 count) (unwrap_or wanted []) (tree a no_trees) ≡ []) (sym known) (head_lists (head_faults scope pos at name 1) (node_faults (counted 1 count) pos) (expression_faults scope (counted 1 count) a ++ []) (head_clean scope pos at name 1 (expression_operand ∷ []) known refl) (node_faults-clean (counted 1 count) pos fits) (one_list (expression_faults scope (counted 1 count) a) clean))

-- a list of two expressions
two_clean : (scope : NameScope) (count : Option ℕ) (pos at : ℕ) (name : List ℕ) (a b : Located) → operands_after scope name ≡ Some (expression_operand ∷ expression_operand ∷ []) → IsWithinNodes (counted 1 count) → expression_faults scope (counted 1 count) a ≡ [] → expression_faults scope (counted (expression_count a) (counted 1 count)) b ≡ [] → expression_faults scope count (group pos (tree (word at name) (tree a (tree b no_trees)))) ≡ []
two_clean scope count pos at name a b known fits first second =
    subst (λ wanted. head_faults scope pos at name 2 ++ node_faults (counted 1 count) pos ++ operand_faults scope (counted 1 count) (unwrap_or wanted []) (tree a (tree b no_trees)) ≡ []) (sym known) (head_lists (head_faults scope pos at name 2) (node_faults (counted 1 count) pos) (expression_faults scope (counted 1 count) a ++ (expression_faults scope (counted (expression_count a) (counted 1 count)) b ++ [])) (head_clean scope pos at name 2 (expression_operand ∷ expression_operand ∷ []) known refl) (node_faults-clean (counted 1 count) pos fits) (two_lists (expression_faults scope (counted 1 count) a) (expression_faults scope (counted (expression_count a) (counted 1 count)) b) first second))

-- the head of a symbol's list
pub symbol_known : (scope : NameScope) (f : ℕ) (name : List ℕ) → operator_operands name ≡ None → symbol_number scope name ≡ Some f → operands_after scope name ≡ Some (expression_operand ∷ [])
symbol_known scope f name no_operator symbol = go (operator_operands name) (symbol_number scope name) no_operator symbol
  where
    go : (o : Option (List Operand)) (n : Option ℕ) → o ≡ None → n ≡ Some f → option_or o (if is_some n then Some (expression_operand ∷ []) else None) ≡ Some (expression_operand ∷ [])
    go o n first second = rw (first, second) refl

-- an expression of so many nodes, at each count
abbrev IsClean : NameScope → (Located → Type 0) → ℕ → Type 0
IsClean scope P n =
    (count : Option ℕ) (t : Located) → P t → IsWithinNodes (counted n count) → expression_faults scope count t ≡ []

-- a list of one expression
unary_clean : (scope : NameScope) (head : List ℕ) (m : ℕ) (P : Located → Type 0) → operands_after scope head ≡ Some (expression_operand ∷ []) → IsClean scope P m → (count : Option ℕ) (t : Located) → IsForm head 1 t → P (operand 0 t) → IsWithinNodes (counted (m + 1) count) → expression_faults scope count t ≡ []
unary_clean scope head m P known clean count t form first fits =
    form_of_one head (λ u. P (operand 0 u) → expression_faults scope count u ≡ []) (λ pos at a here. one_clean scope count pos at head a known (within_one count 1 (m + 1) (omega arith) fits) (clean (counted 1 count) a here (within_two count 1 m (m + 1) (omega arith) fits))) t form first

-- a list of two expressions
binary_clean : (scope : NameScope) (head : List ℕ) (m n : ℕ) (P Q : Located → Type 0) → operands_after scope head ≡ Some (expression_operand ∷ expression_operand ∷ []) → IsClean scope P m → IsClean scope Q n → ((x : Located) → P x → expression_count x ≡ m) → (count : Option ℕ) (t : Located) → IsForm head 2 t → P (operand 0 t) → Q (operand 1 t) → IsWithinNodes (counted (m + n + 1) count) → expression_faults scope count t ≡ []
binary_clean scope head m n P Q known left right many count t form first second fits =
    form_of_two head (λ u. P (operand 0 u) → Q (operand 1 u) → expression_faults scope count u ≡ []) (λ pos at a b here there. let is : expression_count a ≡ m = many a here in two_clean scope count pos at head a b known (within_one count 1 (m + n + 1) (omega arith) fits) (left (counted 1 count) a here (within_two count 1 m (m + n + 1) (omega arith) fits)) (right (counted (expression_count a) (counted 1 count)) b there (within_three count 1 (expression_count a) n (m + n + 1) (omega (arith, is)) fits))) t form first second

pub expression_faults-clean : (scope : NameScope) (e : Expression) (count : Option ℕ) (t : Located) → SpellsExpression scope e t → IsWithinNodes (counted (expression_nodes e) count) → expression_faults scope count t ≡ []
expression_faults-clean scope (literal bits) count t is fits =
    form_of_literal bits (λ u. expression_faults scope count u ≡ []) (λ pos. node_faults-clean (counted 1 count) pos fits) t is
expression_faults-clean scope (variable n) count t is fits =
    form_of_bound scope n (λ u. expression_faults scope count u ≡ []) (λ pos name at. clean-append (node_faults (counted 1 count) pos) (variable_faults scope pos name) (node_faults-clean (counted 1 count) pos fits) (bound_clean scope pos n name at)) t is
expression_faults-clean scope (outer n) count t is fits =
    form_of_free scope n (λ u. expression_faults scope count u ≡ []) (λ pos name at. clean-append (node_faults (counted 1 count) pos) (variable_faults scope pos name) (node_faults-clean (counted 1 count) pos fits) (free_clean scope pos n name at)) t is
expression_faults-clean scope (application f e) count t is fits =
    form_of_symbol scope f (λ u. SpellsExpression scope e (operand 0 u) → expression_faults scope count u ≡ []) (λ pos at name a no_operator symbol first. one_clean scope count pos at name a (symbol_known scope f name no_operator symbol) (within_one count 1 (expression_nodes e + 1) (omega arith) fits) (expression_faults-clean scope e (counted 1 count) a first (within_two count 1 (expression_nodes e) (expression_nodes e + 1) (omega arith) fits))) t is.0 is.1 is.2
expression_faults-clean scope (exclusive a b) count t is fits =
    binary_clean scope (codes "xor") (expression_nodes a) (expression_nodes b) (SpellsExpression scope a) (SpellsExpression scope b) refl (expression_faults-clean scope a) (expression_faults-clean scope b) (expression_count-spelled scope a) count t is.0 is.1 is.2 fits
expression_faults-clean scope (conjunction a b) count t is fits =
    binary_clean scope (codes "and") (expression_nodes a) (expression_nodes b) (SpellsExpression scope a) (SpellsExpression scope b) refl (expression_faults-clean scope a) (expression_faults-clean scope b) (expression_count-spelled scope a) count t is.0 is.1 is.2 fits
expression_faults-clean scope (negation a) count t is fits =
    unary_clean scope (codes "not") (expression_nodes a) (SpellsExpression scope a) refl (expression_faults-clean scope a) count t is.0 is.1 fits
expression_faults-clean scope (concatenation a b) count t is fits =
    binary_clean scope (codes "cat") (expression_nodes a) (expression_nodes b) (SpellsExpression scope a) (SpellsExpression scope b) refl (expression_faults-clean scope a) (expression_faults-clean scope b) (expression_count-spelled scope a) count t is.0 is.1 is.2 fits
expression_faults-clean scope (segment i n a) count t is fits =
    form_of_three (codes "cut") (λ u. SpellsWidth i (operand 0 u) → SpellsWidth n (operand 1 u) → SpellsExpression scope a (operand 2 u) → expression_faults scope count u ≡ []) (λ pos at x y z first second third. four_lists (node_faults (counted 1 count) pos) (width_faults greatest_width x) (width_faults greatest_width y) (expression_faults scope (counted 1 count) z) (node_faults-clean (counted 1 count) pos (within_one count 1 (expression_nodes a + 1) (omega arith) fits)) (width_faults-clean i x first) (width_faults-clean n y second) (expression_faults-clean scope a (counted 1 count) z third (within_two count 1 (expression_nodes a) (expression_nodes a + 1) (omega arith) fits))) t is.0 is.1 is.2 is.3
expression_faults-clean scope (equality a b) count t is fits =
    binary_clean scope (codes "eq") (expression_nodes a) (expression_nodes b) (SpellsExpression scope a) (SpellsExpression scope b) refl (expression_faults-clean scope a) (expression_faults-clean scope b) (expression_count-spelled scope a) count t is.0 is.1 is.2 fits
expression_faults-clean scope (selection c a b) count t is fits =
    form_of_three (codes "mux") (λ u. SpellsExpression scope c (operand 0 u) → SpellsExpression scope a (operand 1 u) → SpellsExpression scope b (operand 2 u) → expression_faults scope count u ≡ []) (λ pos at x y z first second third.
    let one : expression_count x ≡ expression_nodes c = expression_count-spelled scope c x first in
    let two : expression_count y ≡ expression_nodes a = expression_count-spelled scope a y second in
    let all = expression_nodes c + expression_nodes a + expression_nodes b + 1 in
    four_lists (node_faults (counted 1 count) pos) (expression_faults scope (counted 1 count) x) (expression_faults scope (counted (expression_count x) (counted 1 count)) y) (expression_faults scope (counted (expression_count y) (counted (expression_count x) (counted 1 count))) z) (node_faults-clean (counted 1 count) pos (within_one count 1 all (omega arith) fits)) (expression_faults-clean scope c (counted 1 count) x first (within_two count 1 (expression_nodes c) all (omega arith) fits)) (expression_faults-clean scope a (counted (expression_count x) (counted 1 count)) y second (within_three count 1 (expression_count x) (expression_nodes a) all (omega (arith, one)) fits)) (expression_faults-clean scope b (counted (expression_count y) (counted (expression_count x) (counted 1 count))) z third (within_four count 1 (expression_count x) (expression_count y) (expression_nodes b) all (omega (arith, one, two)) fits))) t is.0 is.1 is.2 is.3
