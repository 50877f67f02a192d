-- What a tree spells does not depend on its offsets.
use Rattle.std.proofs.Common.{◌≡◌, ℕ, zero, suc, ◌==◌, Bool, true, false, List, [], refl, sym, ap, ◌∙◌, subst}
use Rattle.std.specs.Prelude.{◌≤◌, Some, is_some, unwrap_or, codes, if◌then◌else◌}
use Rattle.ipdl_term.specs.Terms.{Expression, literal, variable, outer, application, exclusive, conjunction, negation, concatenation, segment, equality, selection, Reaction, returning, flipping, reading, branching, binding, Protocol, nil, assignment, parallel, hiding}
use Rattle.ipdl_tree.specs.Trees.{Located, word, number, group, Forest, no_trees, tree, offset_of, without_offsets, all_without_offsets}
use Rattle.ipdl_tree.specs.Trees as Trees
use Rattle.ipdl_forms.specs.Expressions.{SpellsExpression, symbol_named}
use Rattle.ipdl_forms.specs.Lists.{tree_count, tree_at, without_first, parts_of, word_in, number_in, literal_in, is_word, name_in, word_before, head_of, operands, operand, IsForm, IsLongForm}
use Rattle.ipdl_forms.specs.Protocols.{SpellsProtocol, beside_first, ports_in, under_first}
use Rattle.ipdl_forms.specs.Reactions.{SpellsReaction}
use Rattle.ipdl_forms.specs.Scopes.{NameScope, under_binder, bound_variable, free_variable}
use Rattle.ipdl_forms.specs.Widths.{SpellsWidth, SpellsPort}

-- ---- what is kept without offsets

word_in-offsetless : (t : Located) → word_in (without_offsets t) ≡ word_in t
word_in-offsetless (word pos name) = refl
word_in-offsetless (number pos n) = refl
word_in-offsetless (Trees.literal pos bits) = refl
word_in-offsetless (group pos ts) = refl

pub number_in-offsetless : (t : Located) → number_in (without_offsets t) ≡ number_in t
number_in-offsetless (word pos name) = refl
number_in-offsetless (number pos n) = refl
number_in-offsetless (Trees.literal pos bits) = refl
number_in-offsetless (group pos ts) = refl

pub literal_in-offsetless : (t : Located) → literal_in (without_offsets t) ≡ literal_in t
literal_in-offsetless (word pos name) = refl
literal_in-offsetless (number pos n) = refl
literal_in-offsetless (Trees.literal pos bits) = refl
literal_in-offsetless (group pos ts) = refl

bound_variable-offsetless : (scope : NameScope) (t : Located) → bound_variable scope (without_offsets t) ≡ bound_variable scope t
bound_variable-offsetless scope (word pos name) = refl
bound_variable-offsetless scope (number pos n) = refl
bound_variable-offsetless scope (Trees.literal pos bits) = refl
bound_variable-offsetless scope (group pos ts) = refl

free_variable-offsetless : (scope : NameScope) (t : Located) → free_variable scope (without_offsets t) ≡ free_variable scope t
free_variable-offsetless scope (word pos name) = refl
free_variable-offsetless scope (number pos n) = refl
free_variable-offsetless scope (Trees.literal pos bits) = refl
free_variable-offsetless scope (group pos ts) = refl

offset_of-offsetless : (t : Located) → offset_of (without_offsets t) ≡ 0
offset_of-offsetless (word pos name) = refl
offset_of-offsetless (number pos n) = refl
offset_of-offsetless (Trees.literal pos bits) = refl
offset_of-offsetless (group pos ts) = refl

pub parts_of-offsetless : (t : Located) → parts_of (without_offsets t) ≡ all_without_offsets (parts_of t)
parts_of-offsetless (word pos name) = refl
parts_of-offsetless (number pos n) = refl
parts_of-offsetless (Trees.literal pos bits) = refl
parts_of-offsetless (group pos ts) = refl

tree_count-offsetless : (ts : Forest) → tree_count (all_without_offsets ts) ≡ tree_count ts
tree_count-offsetless no_trees = refl
tree_count-offsetless (tree t ts) = ap suc (tree_count-offsetless ts)

tree_at-offsetless : (n : ℕ) (ts : Forest) → tree_at n (all_without_offsets ts) ≡ without_offsets (tree_at n ts)
tree_at-offsetless n no_trees = refl
tree_at-offsetless zero (tree t ts) = refl
tree_at-offsetless (suc n) (tree t ts) = tree_at-offsetless n ts

pub without_first-offsetless : (ts : Forest) → without_first (all_without_offsets ts) ≡ all_without_offsets (without_first ts)
without_first-offsetless no_trees = refl
without_first-offsetless (tree t ts) = refl

word_before-offsetless : (ts : Forest) → word_before (all_without_offsets ts) ≡ word_before ts
word_before-offsetless no_trees = refl
word_before-offsetless (tree t ts) = word_in-offsetless t

pub head_of-offsetless : (t : Located) → head_of (without_offsets t) ≡ head_of t
head_of-offsetless t = ap word_before (parts_of-offsetless t) ∙ word_before-offsetless (parts_of t)

pub operands-offsetless : (t : Located) → operands (without_offsets t) ≡ all_without_offsets (operands t)
operands-offsetless t = ap without_first (parts_of-offsetless t) ∙ without_first-offsetless (parts_of t)

operand_count-offsetless : (t : Located) → tree_count (operands (without_offsets t)) ≡ tree_count (operands t)
operand_count-offsetless t = ap tree_count (operands-offsetless t) ∙ tree_count-offsetless (operands t)

operand-offsetless : (n : ℕ) (t : Located) → operand n (without_offsets t) ≡ without_offsets (operand n t)
operand-offsetless n t = ap (tree_at n) (operands-offsetless t) ∙ tree_at-offsetless n (operands t)

pub part_count-offsetless : (t : Located) → tree_count (parts_of (without_offsets t)) ≡ tree_count (parts_of t)
part_count-offsetless t = ap tree_count (parts_of-offsetless t) ∙ tree_count-offsetless (parts_of t)

part-offsetless : (n : ℕ) (t : Located) → tree_at n (parts_of (without_offsets t)) ≡ without_offsets (tree_at n (parts_of t))
part-offsetless n t = ap (tree_at n) (parts_of-offsetless t) ∙ tree_at-offsetless n (parts_of t)

ports_in-offsetless : (t : Located) → ports_in (without_offsets t) ≡ all_without_offsets (ports_in t)
ports_in-offsetless t = ap parts_of (operand-offsetless 0 t) ∙ parts_of-offsetless (operand 0 t)

-- what stands beside the first of some parts
abbrev beside_made : ℕ → Located → ℕ → Forest → Located
beside_made many b pos rest = if many == 2 then b else group pos (tree (word pos (codes "par")) rest)

beside_same : (m n : ℕ) (a b : Located) (p q : ℕ) (ts us : Forest) → m ≡ n → a ≡ b → p ≡ q → ts ≡ us → beside_made m a p ts ≡ beside_made n b q us
beside_same m n a b p q ts us one two three four = rw (one, two, three, four) refl

beside_made-offsetless : (n : ℕ) (b : Located) (pos : ℕ) (ts : Forest) → beside_made n (without_offsets b) 0 (all_without_offsets ts) ≡ without_offsets (beside_made n b pos ts)
beside_made-offsetless n b pos ts = go (n == 2)
  where
    go : (two : Bool) → (if two then without_offsets b else group 0 (tree (word 0 (codes "par")) (all_without_offsets ts))) ≡ without_offsets (if two then b else group pos (tree (word pos (codes "par")) ts))
    go true = refl
    go false = refl

beside_first-offsetless : (t : Located) → beside_first (without_offsets t) ≡ without_offsets (beside_first t)
beside_first-offsetless t =
    beside_same (tree_count (operands (without_offsets t))) (tree_count (operands t)) (operand 1 (without_offsets t)) (without_offsets (operand 1 t)) (offset_of (without_offsets t)) 0 (without_first (operands (without_offsets t))) (all_without_offsets (without_first (operands t))) (operand_count-offsetless t) (operand-offsetless 1 t) (offset_of-offsetless t) (ap without_first (operands-offsetless t) ∙ without_first-offsetless (operands t)) ∙ beside_made-offsetless (tree_count (operands t)) (operand 1 t) (offset_of t) (without_first (operands t))

-- what stands under the first of some ports
abbrev under_made : ℕ → Located → ℕ → Forest → Located
under_made many b pos rest =
    if many == 1 then b else group pos (tree (word pos (codes "new")) (tree (group pos rest) (tree b no_trees)))

under_same : (m n : ℕ) (a b : Located) (p q : ℕ) (ts us : Forest) → m ≡ n → a ≡ b → p ≡ q → ts ≡ us → under_made m a p ts ≡ under_made n b q us
under_same m n a b p q ts us one two three four = rw (one, two, three, four) refl

under_made-offsetless : (n : ℕ) (b : Located) (pos : ℕ) (ts : Forest) → under_made n (without_offsets b) 0 (all_without_offsets ts) ≡ without_offsets (under_made n b pos ts)
under_made-offsetless n b pos ts = go (n == 1)
  where
    go : (one : Bool) → (if one then without_offsets b else group 0 (tree (word 0 (codes "new")) (tree (group 0 (all_without_offsets ts)) (tree (without_offsets b) no_trees)))) ≡ without_offsets (if one then b else group pos (tree (word pos (codes "new")) (tree (group pos ts) (tree b no_trees))))
    go true = refl
    go false = refl

under_first-offsetless : (t : Located) → under_first (without_offsets t) ≡ without_offsets (under_first t)
under_first-offsetless t =
    under_same (tree_count (ports_in (without_offsets t))) (tree_count (ports_in t)) (operand 1 (without_offsets t)) (without_offsets (operand 1 t)) (offset_of (without_offsets t)) 0 (without_first (ports_in (without_offsets t))) (all_without_offsets (without_first (ports_in t))) (ap tree_count (ports_in-offsetless t) ∙ tree_count-offsetless (ports_in t)) (operand-offsetless 1 t) (offset_of-offsetless t) (ap without_first (ports_in-offsetless t) ∙ without_first-offsetless (ports_in t)) ∙ under_made-offsetless (tree_count (ports_in t)) (operand 1 t) (offset_of t) (without_first (ports_in t))

-- ---- trees that differ in their offsets alone

abbrev pub AreAlike : Located → Located → Type 0
AreAlike t u = without_offsets t ≡ without_offsets u

-- what is kept without offsets is one for both
pub kept : {X : Type 0} (f : Located → X) → ((t : Located) → f (without_offsets t) ≡ f t) → (t u : Located) → AreAlike t u → f t ≡ f u
kept f same t u alike = sym (same t) ∙ ap f alike ∙ same u

pub operands_alike : (n : ℕ) (t u : Located) → AreAlike t u → AreAlike (operand n t) (operand n u)
operands_alike n t u alike = sym (operand-offsetless n t) ∙ ap (operand n) alike ∙ operand-offsetless n u

pub parts_alike : (n : ℕ) (t u : Located) → AreAlike t u → AreAlike (tree_at n (parts_of t)) (tree_at n (parts_of u))
parts_alike n t u alike =
    sym (part-offsetless n t) ∙ ap (λ x. tree_at n (parts_of x)) alike ∙ part-offsetless n u

beside_alike : (t u : Located) → AreAlike t u → AreAlike (beside_first t) (beside_first u)
beside_alike t u alike = sym (beside_first-offsetless t) ∙ ap beside_first alike ∙ beside_first-offsetless u

under_alike : (t u : Located) → AreAlike t u → AreAlike (under_first t) (under_first u)
under_alike t u alike = sym (under_first-offsetless t) ∙ ap under_first alike ∙ under_first-offsetless u

pub form_alike : (head : List ℕ) (n : ℕ) (t u : Located) → AreAlike t u → IsForm head n t → IsForm head n u
form_alike head n t u alike form = (
  sym (kept head_of head_of-offsetless t u alike) ∙ form.0,
  sym (kept (λ x. tree_count (operands x)) operand_count-offsetless t u alike) ∙ form.1,
)

pub long_form_alike : (head : List ℕ) (n : ℕ) (t u : Located) → AreAlike t u → IsLongForm head n t → IsLongForm head n u
long_form_alike head n t u alike form = (
  sym (kept head_of head_of-offsetless t u alike) ∙ form.0,
  subst (λ m. n ≤ m) (kept (λ x. tree_count (operands x)) operand_count-offsetless t u alike) form.1,
)

pub width_alike : (w : ℕ) (t u : Located) → AreAlike t u → SpellsWidth w t → SpellsWidth w u
width_alike w t u alike is = (sym (kept number_in number_in-offsetless t u alike) ∙ is.0, is.1)

pub word_alike : (c : List ℕ) (t u : Located) → AreAlike t u → word_in t ≡ Some c → word_in u ≡ Some c
word_alike c t u alike is = sym (kept word_in word_in-offsetless t u alike) ∙ is

pub port_alike : (c : List ℕ) (w : ℕ) (t u : Located) → AreAlike t u → SpellsPort c w t → SpellsPort c w u
port_alike c w t u alike is = (
  sym (kept (λ x. tree_count (parts_of x)) part_count-offsetless t u alike) ∙ is.0,
  word_alike c (tree_at 0 (parts_of t)) (tree_at 0 (parts_of u)) (parts_alike 0 t u alike) is.1,
  width_alike w (tree_at 1 (parts_of t)) (tree_at 1 (parts_of u)) (parts_alike 1 t u alike) is.2,
)

name_alike : (t u : Located) → AreAlike t u → name_in t ≡ name_in u
name_alike t u alike = ap (λ o. unwrap_or o []) (kept word_in word_in-offsetless t u alike)

is_word_alike : (t u : Located) → AreAlike t u → is_word t ≡ true → is_word u ≡ true
is_word_alike t u alike is = sym (ap is_some (kept word_in word_in-offsetless t u alike)) ∙ is

-- ---- what is spelled

pub SpellsExpression-offsetless : (scope : NameScope) (e : Expression) (t u : Located) → SpellsExpression scope e t → without_offsets t ≡ without_offsets u → SpellsExpression scope e u
SpellsExpression-offsetless scope (literal bits) t u is alike =
    sym (kept literal_in literal_in-offsetless t u alike) ∙ is
SpellsExpression-offsetless scope (variable n) t u is alike =
    sym (kept (bound_variable scope) (bound_variable-offsetless scope) t u alike) ∙ is
SpellsExpression-offsetless scope (outer n) t u is alike =
    sym (kept (free_variable scope) (free_variable-offsetless scope) t u alike) ∙ is
SpellsExpression-offsetless scope (application f e) t u is alike = (
  sym (ap (symbol_named scope) (kept head_of head_of-offsetless t u alike)) ∙ is.0,
  sym (kept (λ x. tree_count (operands x)) operand_count-offsetless t u alike) ∙ is.1,
  SpellsExpression-offsetless scope e (operand 0 t) (operand 0 u) is.2 (operands_alike 0 t u alike),
)
SpellsExpression-offsetless scope (exclusive a b) t u is alike = (
  form_alike (codes "xor") 2 t u alike is.0,
  SpellsExpression-offsetless scope a (operand 0 t) (operand 0 u) is.1 (operands_alike 0 t u alike),
  SpellsExpression-offsetless scope b (operand 1 t) (operand 1 u) is.2 (operands_alike 1 t u alike),
)
SpellsExpression-offsetless scope (conjunction a b) t u is alike = (
  form_alike (codes "and") 2 t u alike is.0,
  SpellsExpression-offsetless scope a (operand 0 t) (operand 0 u) is.1 (operands_alike 0 t u alike),
  SpellsExpression-offsetless scope b (operand 1 t) (operand 1 u) is.2 (operands_alike 1 t u alike),
)
SpellsExpression-offsetless scope (negation a) t u is alike = (
  form_alike (codes "not") 1 t u alike is.0,
  SpellsExpression-offsetless scope a (operand 0 t) (operand 0 u) is.1 (operands_alike 0 t u alike),
)
SpellsExpression-offsetless scope (concatenation a b) t u is alike = (
  form_alike (codes "cat") 2 t u alike is.0,
  SpellsExpression-offsetless scope a (operand 0 t) (operand 0 u) is.1 (operands_alike 0 t u alike),
  SpellsExpression-offsetless scope b (operand 1 t) (operand 1 u) is.2 (operands_alike 1 t u alike),
)
SpellsExpression-offsetless scope (segment i n a) t u is alike = (
  form_alike (codes "cut") 3 t u alike is.0,
  width_alike i (operand 0 t) (operand 0 u) (operands_alike 0 t u alike) is.1,
  width_alike n (operand 1 t) (operand 1 u) (operands_alike 1 t u alike) is.2,
  SpellsExpression-offsetless scope a (operand 2 t) (operand 2 u) is.3 (operands_alike 2 t u alike),
)
SpellsExpression-offsetless scope (equality a b) t u is alike = (
  form_alike (codes "eq") 2 t u alike is.0,
  SpellsExpression-offsetless scope a (operand 0 t) (operand 0 u) is.1 (operands_alike 0 t u alike),
  SpellsExpression-offsetless scope b (operand 1 t) (operand 1 u) is.2 (operands_alike 1 t u alike),
)
SpellsExpression-offsetless scope (selection c a b) t u is alike = (
  form_alike (codes "mux") 3 t u alike is.0,
  SpellsExpression-offsetless scope c (operand 0 t) (operand 0 u) is.1 (operands_alike 0 t u alike),
  SpellsExpression-offsetless scope a (operand 1 t) (operand 1 u) is.2 (operands_alike 1 t u alike),
  SpellsExpression-offsetless scope b (operand 2 t) (operand 2 u) is.3 (operands_alike 2 t u alike),
)

pub SpellsReaction-offsetless : (scope : NameScope) (r : Reaction) (t u : Located) → SpellsReaction scope r t → without_offsets t ≡ without_offsets u → SpellsReaction scope r u
SpellsReaction-offsetless scope (returning e) t u is alike = (
  form_alike (codes "ret") 1 t u alike is.0,
  SpellsExpression-offsetless scope e (operand 0 t) (operand 0 u) is.1 (operands_alike 0 t u alike),
)
SpellsReaction-offsetless scope (flipping w) t u is alike = (
  form_alike (codes "flip") 1 t u alike is.0,
  width_alike w (operand 0 t) (operand 0 u) (operands_alike 0 t u alike) is.1,
)
SpellsReaction-offsetless scope (reading c) t u is alike = (
  form_alike (codes "read") 1 t u alike is.0,
  word_alike c (operand 0 t) (operand 0 u) (operands_alike 0 t u alike) is.1,
)
SpellsReaction-offsetless scope (branching e r s) t u is alike = (
  form_alike (codes "if") 3 t u alike is.0,
  SpellsExpression-offsetless scope e (operand 0 t) (operand 0 u) is.1 (operands_alike 0 t u alike),
  SpellsReaction-offsetless scope r (operand 1 t) (operand 1 u) is.2 (operands_alike 1 t u alike),
  SpellsReaction-offsetless scope s (operand 2 t) (operand 2 u) is.3 (operands_alike 2 t u alike),
)
SpellsReaction-offsetless scope (binding w r s) t u is alike = (
  form_alike (codes "bind") 4 t u alike is.0,
  is_word_alike (operand 0 t) (operand 0 u) (operands_alike 0 t u alike) is.1,
  width_alike w (operand 1 t) (operand 1 u) (operands_alike 1 t u alike) is.2,
  SpellsReaction-offsetless scope r (operand 2 t) (operand 2 u) is.3 (operands_alike 2 t u alike),
  subst (λ name. SpellsReaction (under_binder name scope) s (operand 3 u)) (name_alike (operand 0 t) (operand 0 u) (operands_alike 0 t u alike)) (SpellsReaction-offsetless (under_binder (name_in (operand 0 t)) scope) s (operand 3 t) (operand 3 u) is.4 (operands_alike 3 t u alike)),
)

pub SpellsProtocol-offsetless : (scope : NameScope) (p : Protocol) (t u : Located) → SpellsProtocol scope p t → without_offsets t ≡ without_offsets u → SpellsProtocol scope p u
SpellsProtocol-offsetless scope nil t u is alike = form_alike (codes "nil") 0 t u alike is
SpellsProtocol-offsetless scope (assignment c r) t u is alike = (
  form_alike (codes "out") 2 t u alike is.0,
  word_alike c (operand 0 t) (operand 0 u) (operands_alike 0 t u alike) is.1,
  SpellsReaction-offsetless scope r (operand 1 t) (operand 1 u) is.2 (operands_alike 1 t u alike),
)
SpellsProtocol-offsetless scope (parallel p q) t u is alike = (
  long_form_alike (codes "par") 2 t u alike is.0,
  SpellsProtocol-offsetless scope p (operand 0 t) (operand 0 u) is.1 (operands_alike 0 t u alike),
  SpellsProtocol-offsetless scope q (beside_first t) (beside_first u) is.2 (beside_alike t u alike),
)
SpellsProtocol-offsetless scope (hiding c w p) t u is alike = (
  form_alike (codes "new") 2 t u alike is.0,
  port_alike c w (tree_at 0 (ports_in t)) (tree_at 0 (ports_in u)) (parts_alike 0 (operand 0 t) (operand 0 u) (operands_alike 0 t u alike)) is.1,
  SpellsProtocol-offsetless scope p (under_first t) (under_first u) is.2 (under_alike t u alike),
)
