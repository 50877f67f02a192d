-- A tree at which no test of an expression fails spells one: its parts do, and its head tells which operator or symbol
-- they belong to.
use Rattle.std.proofs.Common.{◌≡◌, ℕ, length, Bool, true, false, List, [], ◌∷◌, ◌++◌, refl, sym, subst, arith}
use Rattle.std.specs.Prelude.{◌≤◌, ◌==◌, ◌||◌, nat_le, Option, Some, None, is_some, codes, bytes_eq}
use Rattle.std.proofs.lemmas.Bool.{eqb-true, leb-true}
use Rattle.std.proofs.lemmas.Slice.Eq.{bytes_eq-Decides}
use Rattle.ipdl_term.specs.Terms.{Expression, literal, variable, outer, application, exclusive, conjunction, negation, concatenation, segment, equality, selection}
use Rattle.ipdl_tree.specs.Trees.{Located, word, number, group, Forest, no_trees, tree}
use Rattle.ipdl_tree.specs.Trees as Trees
use Rattle.ipdl_forms.specs.declared.fault.DocFault.{DocFault}
use Rattle.ipdl_forms.specs.Counts.{counted, node_faults}
use Rattle.ipdl_forms.specs.Expressions.{SpellsExpression, operands_wanted, head_faults, variable_faults, expression_count, expression_faults, operand_faults}
use Rattle.ipdl_forms.specs.Faults.{tested, word_faults}
use Rattle.ipdl_forms.specs.Lists.{tree_count, tree_at, is_word, word_in, number_in, name_in, value_in}
use Rattle.ipdl_forms.specs.Operators.{Operand, expression_operand, width_operand, operator_operands}
use Rattle.ipdl_forms.specs.Scopes.{NameScope, symbol_number, bound_number, free_number}
use Rattle.ipdl_forms.specs.Widths.{SpellsWidth, greatest_width, width_faults}
use Rattle.ipdl_forms.proofs.Clean.{symbol_known}
use Rattle.ipdl_forms.proofs.Faults.{append-clean, tested-holds}

-- ---- tests

-- what holds of a name that the test finds the same, and of one that it tells apart, holds of each name
pub by_name : (P : List ℕ → Type 0) (name other : List ℕ) → P other → (bytes_eq name other ≡ false → P name) → P name
by_name P name other same apart = go (bytes_eq name other) refl
  where
    go : (b : Bool) → bytes_eq name other ≡ b → P name
    go true is = subst P (sym ((bytes_eq-Decides name other).0 is)) same
    go false is = apart is

-- the number of parts is the one that is tested
pub count_tested : (m n : ℕ) (fault : DocFault) → tested (m == n) fault ≡ [] → m ≡ n
count_tested m n fault clean = eqb-true m n (tested-holds (m == n) fault clean)

-- a word is read as its name
pub named : (t : Located) → is_word t ≡ true → word_in t ≡ Some (name_in t)
named (word pos name) is = refl
named (number pos n) is = cc
named (Trees.literal pos bits) is = cc
named (group pos ts) is = cc

pub name_spelled : (t : Located) → word_faults t ≡ [] → word_in t ≡ Some (name_in t)
name_spelled t clean = named t (tested-holds (is_word t) _ clean)

-- a number that is tested against a limit
pub width_value : (most : ℕ) (t : Located) → width_faults most t ≡ [] → (number_in t ≡ Some (value_in t)) × (value_in t ≤ most)
width_value most (word pos name) clean = cc
width_value most (number pos n) clean = (refl, leb-true n most (tested-holds (nat_le n most) _ clean))
width_value most (Trees.literal pos bits) clean = cc
width_value most (group pos ts) clean = cc

pub width_spelled : (t : Located) → width_faults greatest_width t ≡ [] → (w : ℕ) × SpellsWidth w t
width_spelled t clean = (value_in t, width_value greatest_width t clean)

-- ---- expressions

abbrev pub IsExpression : NameScope → Located → Type 0
IsExpression scope t = (e : Expression) × SpellsExpression scope e t

-- the parts of a list are what its head asks for
abbrev pub AreOperands : NameScope → List Operand → Forest → Type 0
AreOperands scope [] no_trees = Unit {0}
AreOperands scope [] (tree t ts) = ⊥
AreOperands scope (o ∷ wanted) no_trees = ⊥
AreOperands scope (expression_operand ∷ wanted) (tree t ts) = IsExpression scope t × AreOperands scope wanted ts
AreOperands scope (width_operand ∷ wanted) (tree t ts) = ((w : ℕ) × SpellsWidth w t) × AreOperands scope wanted ts

-- one expression
unary : (scope : NameScope) (ts : Forest) (P : Type 0) → ((a : Expression) → tree_count ts ≡ 1 → SpellsExpression scope a (tree_at 0 ts) → P) → AreOperands scope (expression_operand ∷ []) ts → P
unary scope no_trees P make are = absurd are
unary scope (tree a no_trees) P make are = make are.0.0 refl are.0.1
unary scope (tree a (tree b ts)) P make are = absurd are.1

-- two expressions
binary : (scope : NameScope) (ts : Forest) (P : Type 0) → ((a b : Expression) → tree_count ts ≡ 2 → SpellsExpression scope a (tree_at 0 ts) → SpellsExpression scope b (tree_at 1 ts) → P) → AreOperands scope (expression_operand ∷ expression_operand ∷ []) ts → P
binary scope no_trees P make are = absurd are
binary scope (tree a no_trees) P make are = absurd are.1
binary scope (tree a (tree b no_trees)) P make are = make are.0.0 are.1.0.0 refl are.0.1 are.1.0.1
binary scope (tree a (tree b (tree c ts))) P make are = absurd are.1.1

-- three expressions
ternary : (scope : NameScope) (ts : Forest) (P : Type 0) → ((a b c : Expression) → tree_count ts ≡ 3 → SpellsExpression scope a (tree_at 0 ts) → SpellsExpression scope b (tree_at 1 ts) → SpellsExpression scope c (tree_at 2 ts) → P) → AreOperands scope (expression_operand ∷ expression_operand ∷ expression_operand ∷ []) ts → P
ternary scope no_trees P make are = absurd are
ternary scope (tree a no_trees) P make are = absurd are.1
ternary scope (tree a (tree b no_trees)) P make are = absurd are.1.1
ternary scope (tree a (tree b (tree c no_trees))) P make are =
    make are.0.0 are.1.0.0 are.1.1.0.0 refl are.0.1 are.1.0.1 are.1.1.0.1
ternary scope (tree a (tree b (tree c (tree d ts)))) P make are = absurd are.1.1.1

-- two widths and an expression
cutting : (scope : NameScope) (ts : Forest) (P : Type 0) → ((i n : ℕ) (a : Expression) → tree_count ts ≡ 3 → SpellsWidth i (tree_at 0 ts) → SpellsWidth n (tree_at 1 ts) → SpellsExpression scope a (tree_at 2 ts) → P) → AreOperands scope (width_operand ∷ width_operand ∷ expression_operand ∷ []) ts → P
cutting scope no_trees P make are = absurd are
cutting scope (tree a no_trees) P make are = absurd are.1
cutting scope (tree a (tree b no_trees)) P make are = absurd are.1.1
cutting scope (tree a (tree b (tree c no_trees))) P make are =
    make are.0.0 are.1.0.0 are.1.1.0.0 refl are.0.1 are.1.0.1 are.1.1.0.1
cutting scope (tree a (tree b (tree c (tree d ts)))) P make are = absurd are.1.1.1

-- a word that names a binder, here or outside
variable_spelled : (scope : NameScope) (pos : ℕ) (name : List ℕ) → (is_some (bound_number scope name) || is_some (free_number scope name)) ≡ true → IsExpression scope (word pos name)
variable_spelled scope pos name known = go (bound_number scope name) (free_number scope name) refl refl known
  where
    go : (bound free : Option ℕ) → bound_number scope name ≡ bound → free_number scope name ≡ free → (is_some bound || is_some free) ≡ true → IsExpression scope (word pos name)
    go (Some n) free is _ holds = (variable n, is)
    go None (Some n) _ is holds = (outer n, is)
    go None None _ _ holds = cc

-- the tests of a list with this head, and what it spells
abbrev ListSpells : NameScope → Option ℕ → (pos at : ℕ) → Forest → List ℕ → Type 0
ListSpells scope count pos at ts name =
    head_faults scope pos at name (tree_count ts) ≡ [] → operand_faults scope count (operands_wanted scope name) ts ≡ []
    → IsExpression scope (group pos (tree (word at name) ts))

-- how the parts of a list are spelled, once their tests hold
abbrev PartsSpell : NameScope → Option ℕ → Forest → Type 0
PartsSpell scope count ts =
    (wanted : List Operand) → tree_count ts ≡ length wanted → operand_faults scope count wanted ts ≡ []
    → AreOperands scope wanted ts

-- a symbol and its argument
symbol_spelled : (scope : NameScope) (count : Option ℕ) (pos at : ℕ) (ts : Forest) (name : List ℕ) → PartsSpell scope count ts → operator_operands name ≡ None → ListSpells scope count pos at ts name
symbol_spelled scope count pos at ts name parts no_operator = go (symbol_number scope name) refl
  where
    go : (f : Option ℕ) → symbol_number scope name ≡ f → ListSpells scope count pos at ts name
    go None is = λ head rest. let wrong = rw (no_operator, is) at head in cc
    go (Some f) is = λ head rest.
        let known = symbol_known scope f name no_operator is in
        let many = count_tested (tree_count ts) 1 _ (rw known at head) in
        let clean = rw known at rest in
        unary scope ts (IsExpression scope (group pos (tree (word at name) ts))) (λ a one spelled. (application f a, (rw (no_operator, is) refl, one, spelled))) (parts (expression_operand ∷ []) many clean)

list_spelled : (scope : NameScope) (count : Option ℕ) (pos at : ℕ) (ts : Forest) (name : List ℕ) → PartsSpell scope count ts → ListSpells scope count pos at ts name
list_spelled scope count pos at ts name parts =
    let P = ListSpells scope count pos at ts in
    let two : List Operand = expression_operand ∷ expression_operand ∷ [] in
    by_name P name (codes "xor") (λ head rest. binary scope ts (IsExpression scope (group pos (tree (word at (codes "xor")) ts))) (λ a b many first second. (exclusive a b, ((refl, many), first, second))) (parts two (count_tested (tree_count ts) 2 _ head) rest)) λ no_xor.
    by_name P name (codes "and") (λ head rest. binary scope ts (IsExpression scope (group pos (tree (word at (codes "and")) ts))) (λ a b many first second. (conjunction a b, ((refl, many), first, second))) (parts two (count_tested (tree_count ts) 2 _ head) rest)) λ no_and.
    by_name P name (codes "not") (λ head rest. unary scope ts (IsExpression scope (group pos (tree (word at (codes "not")) ts))) (λ a many first. (negation a, ((refl, many), first))) (parts (expression_operand ∷ []) (count_tested (tree_count ts) 1 _ head) rest)) λ no_not.
    by_name P name (codes "cat") (λ head rest. binary scope ts (IsExpression scope (group pos (tree (word at (codes "cat")) ts))) (λ a b many first second. (concatenation a b, ((refl, many), first, second))) (parts two (count_tested (tree_count ts) 2 _ head) rest)) λ no_cat.
    by_name P name (codes "cut") (λ head rest. cutting scope ts (IsExpression scope (group pos (tree (word at (codes "cut")) ts))) (λ i n a many first second third. (segment i n a, ((refl, many), first, second, third))) (parts (width_operand ∷ width_operand ∷ expression_operand ∷ []) (count_tested (tree_count ts) 3 _ head) rest)) λ no_cut.
    by_name P name (codes "eq") (λ head rest. binary scope ts (IsExpression scope (group pos (tree (word at (codes "eq")) ts))) (λ a b many first second. (equality a b, ((refl, many), first, second))) (parts two (count_tested (tree_count ts) 2 _ head) rest)) λ no_eq.
    by_name P name (codes "mux") (λ head rest. ternary scope ts (IsExpression scope (group pos (tree (word at (codes "mux")) ts))) (λ c a b many first second third. (selection c a b, ((refl, many), first, second, third))) (parts (expression_operand ∷ expression_operand ∷ expression_operand ∷ []) (count_tested (tree_count ts) 3 _ head) rest)) λ no_mux.
    symbol_spelled scope count pos at ts name parts (rw (no_xor, no_and, no_not, no_cat, no_cut, no_eq, no_mux) refl)

mutual
  pub expression_spelled : (t : Located) (scope : NameScope) (count : Option ℕ) → expression_faults scope count t ≡ [] → IsExpression scope t
  expression_spelled (word pos name) scope count clean =
      variable_spelled scope pos name (tested-holds _ _ (append-clean (node_faults (counted 1 count) pos) (variable_faults scope pos name) clean).1)
  expression_spelled (number pos n) scope count clean = cc
  expression_spelled (Trees.literal pos bits) scope count clean = (literal bits, refl)
  expression_spelled (group pos no_trees) scope count clean = cc
  expression_spelled (group pos (tree (word at name) ts)) scope count clean =
      let last = operand_faults scope (counted 1 count) (operands_wanted scope name) ts in
      let front = append-clean (head_faults scope pos at name (tree_count ts) ++ node_faults (counted 1 count) pos) last clean in
      let head = append-clean (head_faults scope pos at name (tree_count ts)) (node_faults (counted 1 count) pos) front.0 in
      list_spelled scope (counted 1 count) pos at ts name (operands_spelled ts scope (counted 1 count)) head.0 front.1
  expression_spelled (group pos (tree (number at n) ts)) scope count clean = cc
  expression_spelled (group pos (tree (Trees.literal at bits) ts)) scope count clean = cc
  expression_spelled (group pos (tree (group at us) ts)) scope count clean = cc

  pub operands_spelled : (ts : Forest) (scope : NameScope) (count : Option ℕ) (wanted : List Operand) → tree_count ts ≡ length wanted → operand_faults scope count wanted ts ≡ [] → AreOperands scope wanted ts
  operands_spelled no_trees scope count [] many clean = tt
  operands_spelled no_trees scope count (o ∷ wanted) many clean = absurd (omega arith)
  operands_spelled (tree t ts) scope count [] many clean = absurd (omega arith)
  operands_spelled (tree t ts) scope count (expression_operand ∷ wanted) many clean =
      let parts = append-clean (expression_faults scope count t) (operand_faults scope (counted (expression_count t) count) wanted ts) clean in
      (expression_spelled t scope count parts.0, operands_spelled ts scope (counted (expression_count t) count) wanted (omega arith) parts.1)
  operands_spelled (tree t ts) scope count (width_operand ∷ wanted) many clean =
      let parts = append-clean (width_faults greatest_width t) (operand_faults scope count wanted ts) clean in
      (width_spelled t parts.0, operands_spelled ts scope count wanted (omega arith) parts.1)
