-- A tree at which no test of a reaction fails spells one.
use Rattle.std.proofs.Common.{◌≡◌, ℕ, length, true, List, [], ◌∷◌, ◌++◌, refl, arith}
use Rattle.std.specs.Prelude.{◌==◌, Option, codes}
use Rattle.ipdl_term.specs.Terms.{Reaction, returning, flipping, reading, branching, binding}
use Rattle.ipdl_tree.specs.Trees.{Located, word, number, literal, group, Forest, no_trees, tree}
use Rattle.ipdl_forms.specs.declared.fault.FormCause.TheVariants.{NotAForm}
use Rattle.ipdl_forms.specs.Counts.{counted, node_faults}
use Rattle.ipdl_forms.specs.Expressions.{expression_count, expression_faults}
use Rattle.ipdl_forms.specs.Faults.{form_fault, tested, word_faults}
use Rattle.ipdl_forms.specs.Lists.{tree_count, tree_at, is_word, name_in}
use Rattle.ipdl_forms.specs.Reactions.{SpellsReaction, ReactionPart, name_part, width_part, expression_part, reaction_part, body_part, reaction_parts, reaction_parts_wanted, has_parts, reaction_count, reaction_faults, reaction_part_faults}
use Rattle.ipdl_forms.specs.Scopes.{NameScope, under_binder}
use Rattle.ipdl_forms.specs.Widths.{SpellsWidth, greatest_width, width_faults}
use Rattle.ipdl_forms.proofs.Faults.{append-clean, tested-holds}
use Rattle.ipdl_forms.proofs.Spelled.{by_name, count_tested, named, width_spelled, IsExpression, expression_spelled}

abbrev pub IsReaction : NameScope → Located → Type 0
IsReaction scope t = (r : Reaction) × SpellsReaction scope r t

-- the parts of a list are what its head asks for, the first one naming the binder of a body
abbrev AreParts : NameScope → List ℕ → List ReactionPart → Forest → Type 0
AreParts scope binder [] no_trees = Unit {0}
AreParts scope binder [] (tree t ts) = ⊥
AreParts scope binder (p ∷ wanted) no_trees = ⊥
AreParts scope binder (name_part ∷ wanted) (tree t ts) = (is_word t ≡ true) × AreParts scope binder wanted ts
AreParts scope binder (width_part ∷ wanted) (tree t ts) = ((w : ℕ) × SpellsWidth w t) × AreParts scope binder wanted ts
AreParts scope binder (expression_part ∷ wanted) (tree t ts) = IsExpression scope t × AreParts scope binder wanted ts
AreParts scope binder (reaction_part ∷ wanted) (tree t ts) = IsReaction scope t × AreParts scope binder wanted ts
AreParts scope binder (body_part ∷ wanted) (tree t ts) =
    IsReaction (under_binder binder scope) t × AreParts scope binder wanted ts

-- ---- lists by their heads

ret_spelled : (scope : NameScope) (binder : List ℕ) (pos at : ℕ) (ts : Forest) → AreParts scope binder (expression_part ∷ []) ts → IsReaction scope (group pos (tree (word at (codes "ret")) ts))
ret_spelled scope binder pos at no_trees are = absurd are
ret_spelled scope binder pos at (tree a no_trees) are = (returning are.0.0, ((refl, refl), are.0.1))
ret_spelled scope binder pos at (tree a (tree b ts)) are = absurd are.1

flip_spelled : (scope : NameScope) (binder : List ℕ) (pos at : ℕ) (ts : Forest) → AreParts scope binder (width_part ∷ []) ts → IsReaction scope (group pos (tree (word at (codes "flip")) ts))
flip_spelled scope binder pos at no_trees are = absurd are
flip_spelled scope binder pos at (tree a no_trees) are = (flipping are.0.0, ((refl, refl), are.0.1))
flip_spelled scope binder pos at (tree a (tree b ts)) are = absurd are.1

read_spelled : (scope : NameScope) (binder : List ℕ) (pos at : ℕ) (ts : Forest) → AreParts scope binder (name_part ∷ []) ts → IsReaction scope (group pos (tree (word at (codes "read")) ts))
read_spelled scope binder pos at no_trees are = absurd are
read_spelled scope binder pos at (tree a no_trees) are = (reading (name_in a), ((refl, refl), named a are.0))
read_spelled scope binder pos at (tree a (tree b ts)) are = absurd are.1

if_spelled : (scope : NameScope) (binder : List ℕ) (pos at : ℕ) (ts : Forest) → AreParts scope binder (expression_part ∷ reaction_part ∷ reaction_part ∷ []) ts → IsReaction scope (group pos (tree (word at (codes "if")) ts))
if_spelled scope binder pos at no_trees are = absurd are
if_spelled scope binder pos at (tree a no_trees) are = absurd are.1
if_spelled scope binder pos at (tree a (tree b no_trees)) are = absurd are.1.1
if_spelled scope binder pos at (tree a (tree b (tree c no_trees))) are =
    (branching are.0.0 are.1.0.0 are.1.1.0.0, ((refl, refl), are.0.1, are.1.0.1, are.1.1.0.1))
if_spelled scope binder pos at (tree a (tree b (tree c (tree d ts)))) are = absurd are.1.1.1

bind_spelled : (scope : NameScope) (pos at : ℕ) (ts : Forest) → AreParts scope (name_in (tree_at 0 ts)) (name_part ∷ width_part ∷ reaction_part ∷ body_part ∷ []) ts → IsReaction scope (group pos (tree (word at (codes "bind")) ts))
bind_spelled scope pos at no_trees are = absurd are
bind_spelled scope pos at (tree a no_trees) are = absurd are.1
bind_spelled scope pos at (tree a (tree b no_trees)) are = absurd are.1.1
bind_spelled scope pos at (tree a (tree b (tree c no_trees))) are = absurd are.1.1.1
bind_spelled scope pos at (tree a (tree b (tree c (tree d no_trees)))) are =
    (binding are.1.0.0 are.1.1.0.0 are.1.1.1.0.0, ((refl, refl), are.0, are.1.0.1, are.1.1.0.1, are.1.1.1.0.1))
bind_spelled scope pos at (tree a (tree b (tree c (tree d (tree e ts))))) are = absurd are.1.1.1.1

-- how the parts of a list are spelled, once their tests hold
abbrev PartsSpell : NameScope → Option ℕ → Forest → Type 0
PartsSpell scope count ts =
    (wanted : List ReactionPart) → tree_count ts ≡ length wanted
    → reaction_part_faults scope (name_in (tree_at 0 ts)) count wanted ts ≡ [] → AreParts scope (name_in (tree_at 0 ts)) wanted ts

-- the tests of a list with this head, and what it spells
abbrev ListSpells : NameScope → Option ℕ → (pos at : ℕ) → Forest → List ℕ → Type 0
ListSpells scope count pos at ts name =
    tested (has_parts (reaction_parts name) (tree_count ts)) (form_fault NotAForm pos) ≡ []
    → reaction_part_faults scope (name_in (tree_at 0 ts)) count (reaction_parts_wanted name) ts ≡ []
    → IsReaction scope (group pos (tree (word at name) ts))

list_spelled : (scope : NameScope) (count : Option ℕ) (pos at : ℕ) (ts : Forest) (name : List ℕ) → PartsSpell scope count ts → ListSpells scope count pos at ts name
list_spelled scope count pos at ts name parts =
    let P = ListSpells scope count pos at ts in
    let binder = name_in (tree_at 0 ts) in
    let ask : (wanted : List ReactionPart) → tested (tree_count ts == length wanted) (form_fault NotAForm pos) ≡ [] → reaction_part_faults scope binder count wanted ts ≡ [] → AreParts scope binder wanted ts = λ wanted head rest. parts wanted (count_tested (tree_count ts) (length wanted) _ head) rest in
    by_name P name (codes "ret") (λ head rest. ret_spelled scope binder pos at ts (ask (expression_part ∷ []) head rest)) λ no_ret.
    by_name P name (codes "flip") (λ head rest. flip_spelled scope binder pos at ts (ask (width_part ∷ []) head rest)) λ no_flip.
    by_name P name (codes "read") (λ head rest. read_spelled scope binder pos at ts (ask (name_part ∷ []) head rest)) λ no_read.
    by_name P name (codes "if") (λ head rest. if_spelled scope binder pos at ts (ask (expression_part ∷ reaction_part ∷ reaction_part ∷ []) head rest)) λ no_if.
    by_name P name (codes "bind") (λ head rest. bind_spelled scope pos at ts (ask (name_part ∷ width_part ∷ reaction_part ∷ body_part ∷ []) head rest)) λ no_bind.
    λ head rest. let wrong = rw (no_ret, no_flip, no_read, no_if, no_bind) at head in cc

mutual
  pub reaction_spelled : (t : Located) (scope : NameScope) (count : Option ℕ) → reaction_faults scope count t ≡ [] → IsReaction scope t
  reaction_spelled (word pos name) scope count clean = cc
  reaction_spelled (number pos n) scope count clean = cc
  reaction_spelled (literal pos bits) scope count clean = cc
  reaction_spelled (group pos no_trees) scope count clean = cc
  reaction_spelled (group pos (tree (word at name) ts)) scope count clean =
      let form = tested (has_parts (reaction_parts name) (tree_count ts)) (form_fault NotAForm pos) in
      let last = reaction_part_faults scope (name_in (tree_at 0 ts)) (counted 1 count) (reaction_parts_wanted name) ts in
      let front = append-clean (form ++ node_faults (counted 1 count) pos) last clean in
      let head = append-clean form (node_faults (counted 1 count) pos) front.0 in
      list_spelled scope (counted 1 count) pos at ts name (parts_spelled ts scope (name_in (tree_at 0 ts)) (counted 1 count)) head.0 front.1
  reaction_spelled (group pos (tree (number at n) ts)) scope count clean = cc
  reaction_spelled (group pos (tree (literal at bits) ts)) scope count clean = cc
  reaction_spelled (group pos (tree (group at us) ts)) scope count clean = cc

  parts_spelled : (ts : Forest) (scope : NameScope) (binder : List ℕ) (count : Option ℕ) (wanted : List ReactionPart) → tree_count ts ≡ length wanted → reaction_part_faults scope binder count wanted ts ≡ [] → AreParts scope binder wanted ts
  parts_spelled no_trees scope binder count [] many clean = tt
  parts_spelled no_trees scope binder count (p ∷ wanted) many clean = absurd (omega arith)
  parts_spelled (tree t ts) scope binder count [] many clean = absurd (omega arith)
  parts_spelled (tree t ts) scope binder count (name_part ∷ wanted) many clean =
      let parts = append-clean (word_faults t) (reaction_part_faults scope binder count wanted ts) clean in
      (tested-holds (is_word t) _ parts.0, parts_spelled ts scope binder count wanted (omega arith) parts.1)
  parts_spelled (tree t ts) scope binder count (width_part ∷ wanted) many clean =
      let parts = append-clean (width_faults greatest_width t) (reaction_part_faults scope binder count wanted ts) clean in
      (width_spelled t parts.0, parts_spelled ts scope binder count wanted (omega arith) parts.1)
  parts_spelled (tree t ts) scope binder count (expression_part ∷ wanted) many clean =
      let more = counted (expression_count t) count in
      let parts = append-clean (expression_faults scope count t) (reaction_part_faults scope binder more wanted ts) clean in
      (expression_spelled t scope count parts.0, parts_spelled ts scope binder more wanted (omega arith) parts.1)
  parts_spelled (tree t ts) scope binder count (reaction_part ∷ wanted) many clean =
      let more = counted (reaction_count t) count in
      let parts = append-clean (reaction_faults scope count t) (reaction_part_faults scope binder more wanted ts) clean in
      (reaction_spelled t scope count parts.0, parts_spelled ts scope binder more wanted (omega arith) parts.1)
  parts_spelled (tree t ts) scope binder count (body_part ∷ wanted) many clean =
      let more = counted (reaction_count t) count in
      let parts = append-clean (reaction_faults (under_binder binder scope) count t) (reaction_part_faults scope binder more wanted ts) clean in
      (reaction_spelled t (under_binder binder scope) count parts.0, parts_spelled ts scope binder more wanted (omega arith) parts.1)
