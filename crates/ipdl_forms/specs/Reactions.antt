-- Which trees spell a reaction, and the tests of one in reading order.
use Rattle.std.specs.Prelude.{◌≡◌, ℕ, suc, ◌+◌, ◌==◌, true, Bool, false, List, [], ◌∷◌, ◌++◌, length, codes, bytes_eq, Option, Some, None, unwrap_or, if◌then◌else◌}
use Rattle.ipdl_term.specs.Terms.{Reaction, returning, flipping, reading, branching, binding}
use Rattle.ipdl_tree.specs.Trees.{Located, word, number, literal, group, Forest, no_trees, tree}
use Rattle.ipdl_forms.specs.declared.fault.FormCause.TheVariants.{NotAForm}
use Rattle.ipdl_forms.specs.declared.fault.DocFault.{DocFault}
use Rattle.ipdl_forms.specs.Counts.{counted, node_faults}
use Rattle.ipdl_forms.specs.Expressions.{SpellsExpression, expression_count, expression_faults}
use Rattle.ipdl_forms.specs.Faults.{form_fault, tested, word_faults}
use Rattle.ipdl_forms.specs.Lists.{tree_count, tree_at, is_word, word_in, name_in, operand, IsForm}
use Rattle.ipdl_forms.specs.Scopes.{NameScope, under_binder}
use Rattle.ipdl_forms.specs.Widths.{SpellsWidth, greatest_width, width_faults}

-- ---- what is spelled

abbrev pub SpellsReaction : NameScope → Reaction → Located → Type 0
SpellsReaction scope (returning e) t = IsForm (codes "ret") 1 t × SpellsExpression scope e (operand 0 t)
SpellsReaction scope (flipping w) t = IsForm (codes "flip") 1 t × SpellsWidth w (operand 0 t)
SpellsReaction scope (reading c) t = IsForm (codes "read") 1 t × (word_in (operand 0 t) ≡ Some c)
SpellsReaction scope (branching e r s) t =
    IsForm (codes "if") 3 t × SpellsExpression scope e (operand 0 t) × SpellsReaction scope r (operand 1 t)
    × SpellsReaction scope s (operand 2 t)
SpellsReaction scope (binding w r s) t =
    IsForm (codes "bind") 4 t × (is_word (operand 0 t) ≡ true) × SpellsWidth w (operand 1 t)
    × SpellsReaction scope r (operand 2 t)
    × SpellsReaction (under_binder (name_in (operand 0 t)) scope) s (operand 3 t)

-- ---- the tests

-- what a part of a list has to be: the body of a `bind` stands under its binder
pub data ReactionPart : Type 0 where
  name_part : ReactionPart
  width_part : ReactionPart
  expression_part : ReactionPart
  reaction_part : ReactionPart
  body_part : ReactionPart

-- the parts after a head, none where it is no reaction's
abbrev pub reaction_parts : List ℕ → Option (List ReactionPart)
reaction_parts name =
    if bytes_eq name (codes "ret") then Some (expression_part ∷ [])
    else (if bytes_eq name (codes "flip") then Some (width_part ∷ [])
    else (if bytes_eq name (codes "read") then Some (name_part ∷ [])
    else (if bytes_eq name (codes "if") then Some (expression_part ∷ reaction_part ∷ reaction_part ∷ [])
    else (if bytes_eq name (codes "bind") then Some (name_part ∷ width_part ∷ reaction_part ∷ body_part ∷ [])
    else None))))

-- the same, none where there is no such head
abbrev pub reaction_parts_wanted : List ℕ → List ReactionPart
reaction_parts_wanted name = unwrap_or (reaction_parts name) []

-- whether a reaction's list has this head and so many more parts
abbrev pub has_parts : Option (List ReactionPart) → ℕ → Bool
has_parts None count = false
has_parts (Some parts) count = count == length parts

-- how many nodes are counted in the tree of a reaction
abbrev mutual
  pub reaction_count : Located → ℕ
  reaction_count (word pos name) = 0
  reaction_count (number pos n) = 0
  reaction_count (literal pos bits) = 0
  reaction_count (group pos no_trees) = 1
  reaction_count (group pos (tree t ts)) = suc (reaction_part_count (reaction_parts_wanted (name_in t)) ts)

  pub reaction_part_count : List ReactionPart → Forest → ℕ
  reaction_part_count wanted no_trees = 0
  reaction_part_count [] (tree t ts) = 0
  reaction_part_count (name_part ∷ wanted) (tree t ts) = reaction_part_count wanted ts
  reaction_part_count (width_part ∷ wanted) (tree t ts) = reaction_part_count wanted ts
  reaction_part_count (expression_part ∷ wanted) (tree t ts) = expression_count t + reaction_part_count wanted ts
  reaction_part_count (reaction_part ∷ wanted) (tree t ts) = reaction_count t + reaction_part_count wanted ts
  reaction_part_count (body_part ∷ wanted) (tree t ts) = reaction_count t + reaction_part_count wanted ts

-- the tests of a reaction, so many nodes being counted before
abbrev mutual
  pub reaction_faults : NameScope → Option ℕ → Located → List DocFault
  reaction_faults scope count (word pos name) = form_fault NotAForm pos ∷ []
  reaction_faults scope count (number pos n) = form_fault NotAForm pos ∷ []
  reaction_faults scope count (literal pos bits) = form_fault NotAForm pos ∷ []
  reaction_faults scope count (group pos no_trees) = form_fault NotAForm pos ∷ []
  reaction_faults scope count (group pos (tree (word at name) ts)) =
      tested (has_parts (reaction_parts name) (tree_count ts)) (form_fault NotAForm pos)
      ++ node_faults (counted 1 count) pos
      ++ reaction_part_faults scope (name_in (tree_at 0 ts)) (counted 1 count) (reaction_parts_wanted name) ts
  reaction_faults scope count (group pos (tree (number at n) ts)) = form_fault NotAForm pos ∷ []
  reaction_faults scope count (group pos (tree (literal at bits) ts)) = form_fault NotAForm pos ∷ []
  reaction_faults scope count (group pos (tree (group at us) ts)) = form_fault NotAForm pos ∷ []

  -- the parts of a list, whose first one names the binder of a body
  pub reaction_part_faults : NameScope → List ℕ → Option ℕ → List ReactionPart → Forest → List DocFault
  reaction_part_faults scope binder count wanted no_trees = []
  reaction_part_faults scope binder count [] (tree t ts) = []
  reaction_part_faults scope binder count (name_part ∷ wanted) (tree t ts) =
      word_faults t ++ reaction_part_faults scope binder count wanted ts
  reaction_part_faults scope binder count (width_part ∷ wanted) (tree t ts) =
      width_faults greatest_width t ++ reaction_part_faults scope binder count wanted ts
  reaction_part_faults scope binder count (expression_part ∷ wanted) (tree t ts) =
      expression_faults scope count t ++ reaction_part_faults scope binder (counted (expression_count t) count) wanted ts
  reaction_part_faults scope binder count (reaction_part ∷ wanted) (tree t ts) =
      reaction_faults scope count t ++ reaction_part_faults scope binder (counted (reaction_count t) count) wanted ts
  reaction_part_faults scope binder count (body_part ∷ wanted) (tree t ts) =
      reaction_faults (under_binder binder scope) count t
      ++ reaction_part_faults scope binder (counted (reaction_count t) count) wanted ts
