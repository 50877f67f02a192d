-- No fault of a test is want of memory: each tells of a form or of a limit.
use Rattle.std.proofs.Common.{◌≡◌, ℕ, suc, ◌^◌, ◌==◌, ◌⊎◌, inl, inr, Bool, true, false, List, [], ◌∷◌, ◌++◌, length, bytes_eq, codes, Option, Some, None, is_some, refl, subst}
use Rattle.std.specs.Prelude.{◌&&◌, ◌||◌, not, nat_le, nat_lt, if◌then◌else◌}
use Rattle.std.specs.List.{AllByRecursion}
use Rattle.ipdl_base.specs.declared.limit.Limit.{Limit}
use Rattle.ipdl_base.specs.declared.limit.Limit.TheVariants.{Items, Nodes, Steps}
use Rattle.ipdl_term.specs.Rules.{RuleKind, at_reactions, at_expressions, at_protocols, ArgumentKind, expression_kind, symbol_kind, number_kind, name_kind, path_kind, width_kind, Heading, heading_named}
use Rattle.ipdl_tree.specs.Trees.{Located, word, number, group, Forest, no_trees, tree, offset_of}
use Rattle.ipdl_tree.specs.Trees as Trees
use Rattle.ipdl_forms.specs.declared.fault.FormCause.{FormCause}
use Rattle.ipdl_forms.specs.declared.fault.FormCause.TheVariants.{NotAForm, UnknownName, Repeated, WrongWidth, TableLength}
use Rattle.ipdl_forms.specs.declared.fault.DocFault.{DocFault}
use Rattle.ipdl_forms.specs.declared.fault.DocFault.TheVariants.{Form, Over, Memory}
use Rattle.ipdl_forms.specs.Counts.{counted, is_within_nodes, node_faults}
use Rattle.ipdl_forms.specs.Expressions.{operands_after, operands_wanted, head_faults, expression_count, expression_faults, operand_faults}
use Rattle.ipdl_forms.specs.Faults.{form_fault, over_fault, tested, word_faults, first_fault}
use Rattle.ipdl_forms.specs.Items.{nothing_earlier, is_taken, body_scope, item_name_faults, greatest_table_width, value_faults, all_value_faults, table_faults, interface_port_faults, all_port_faults, first_names, interface_faults, ItemForm, fun_form, table_form, protocol_form, assume_form, theorem_form, item_form, has_item_form, item_part_faults, item_faults, earlier_past, this_version, most_items, all_item_faults, version_faults, document_faults}
use Rattle.ipdl_forms.specs.Lists.{tree_count, tree_at, without_first, parts_of, is_list, is_word, is_among, number_in, name_in, value_in, operands}
use Rattle.ipdl_forms.specs.Operators.{Operand, expression_operand, width_operand}
use Rattle.ipdl_forms.specs.Protocols.{Shape, nil_shape, out_shape, par_shape, new_shape, shape_named, has_shape, shape_count, protocol_count, hidden_faults, new_faults, protocol_faults, protocol_part_faults, protocols_faults}
use Rattle.ipdl_forms.specs.Reactions.{ReactionPart, name_part, width_part, expression_part, reaction_part, body_part, reaction_parts, reaction_parts_wanted, has_parts, reaction_count, reaction_faults, reaction_part_faults}
use Rattle.ipdl_forms.specs.Scopes.{NameScope, under_binder, bound_number, free_number}
use Rattle.ipdl_forms.specs.Steps.{Earlier, step_scope, number_faults, list_faults, all_number_faults, path_faults, symbol_in, argument_faults, all_argument_faults, has_arguments, arguments_wanted, place_faults, first_name, is_reversible, term_faults, rev_faults, is_direction_word, new_name_faults, pair_faults, all_pair_faults, declared_faults, use_faults, headed_step_faults, step_faults, most_steps, all_step_faults, headed_faults, side_faults}
use Rattle.ipdl_forms.specs.Widths.{greatest_width, width_faults, two_faults, port_faults}

-- ---- plain faults

-- the fault is not want of memory
abbrev IsPlain : DocFault → Type 0
IsPlain (Form pos cause) = Unit {0}
IsPlain (Over limit pos) = Unit {0}
IsPlain Memory = ⊥

record ArePlain (faults : List DocFault) : Type 0 where
  all : AllByRecursion IsPlain faults

none : ArePlain []
none = record { all = tt }

one : (cause : FormCause) (offset : ℕ) → ArePlain (form_fault cause offset ∷ [])
one cause offset = record { all = (tt, tt) }

both : {fs gs : List DocFault} → ArePlain fs → ArePlain gs → ArePlain (fs ++ gs)
both {fs} {gs} left right = record { all = go fs left.all }
  where
    go : (hs : List DocFault) → AllByRecursion IsPlain hs → AllByRecursion IsPlain (hs ++ gs)
    go [] plain = right.all
    go (h ∷ hs) plain = (plain.0, go hs plain.1)

form_tested : (b : Bool) (cause : FormCause) (offset : ℕ) → ArePlain (tested b (form_fault cause offset))
form_tested true cause offset = none
form_tested false cause offset = one cause offset

over_tested : (b : Bool) (limit : Limit) (offset : ℕ) → ArePlain (tested b (over_fault limit offset))
over_tested true limit offset = none
over_tested false limit offset = record { all = (tt, tt) }

either : (b : Bool) {fs gs : List DocFault} → ArePlain fs → ArePlain gs → ArePlain (if b then fs else gs)
either true left right = left
either false left right = right

-- ---- words, numbers and counts

word_faults-plain : (t : Located) → ArePlain (word_faults t)
word_faults-plain t = form_tested (is_word t) NotAForm (offset_of t)

width_faults-plain : (most : ℕ) (t : Located) → ArePlain (width_faults most t)
width_faults-plain most (word pos name) = one NotAForm pos
width_faults-plain most (number pos n) = form_tested (nat_le n most) WrongWidth pos
width_faults-plain most (Trees.literal pos bits) = one NotAForm pos
width_faults-plain most (group pos ts) = one NotAForm pos

two_faults-plain : (pos : ℕ) (ts : Forest) → ArePlain (two_faults pos ts)
two_faults-plain pos ts = form_tested (tree_count ts == 2) NotAForm pos

node_faults-plain : (count : Option ℕ) (pos : ℕ) → ArePlain (node_faults count pos)
node_faults-plain count pos = over_tested (is_within_nodes count) Nodes pos

-- ---- expressions

head_faults-plain : (scope : NameScope) (pos at : ℕ) (name : List ℕ) (count : ℕ) → ArePlain (head_faults scope pos at name count)
head_faults-plain scope pos at name count = go (operands_after scope name) refl
  where
    go : (wanted : Option (List Operand)) → operands_after scope name ≡ wanted → ArePlain (head_faults scope pos at name count)
    go None is = rw is (one UnknownName at)
    go (Some wanted) is = rw is (form_tested (count == length wanted) NotAForm pos)

mutual
  expression_faults-plain : (t : Located) (scope : NameScope) (count : Option ℕ) → ArePlain (expression_faults scope count t)
  expression_faults-plain (word pos name) scope count =
      both (node_faults-plain (counted 1 count) pos)
      (form_tested (is_some (bound_number scope name) || is_some (free_number scope name)) UnknownName pos)
  expression_faults-plain (number pos n) scope count = one NotAForm pos
  expression_faults-plain (Trees.literal pos bits) scope count = node_faults-plain (counted 1 count) pos
  expression_faults-plain (group pos no_trees) scope count = one NotAForm pos
  expression_faults-plain (group pos (tree (word at name) ts)) scope count =
      both (both (head_faults-plain scope pos at name (tree_count ts)) (node_faults-plain (counted 1 count) pos))
      (operand_faults-plain ts scope (counted 1 count) (operands_wanted scope name))
  expression_faults-plain (group pos (tree (number at n) ts)) scope count = one NotAForm pos
  expression_faults-plain (group pos (tree (Trees.literal at bits) ts)) scope count = one NotAForm pos
  expression_faults-plain (group pos (tree (group at us) ts)) scope count = one NotAForm pos

  operand_faults-plain : (ts : Forest) (scope : NameScope) (count : Option ℕ) (wanted : List Operand) → ArePlain (operand_faults scope count wanted ts)
  operand_faults-plain no_trees scope count wanted = none
  operand_faults-plain (tree t ts) scope count [] = none
  operand_faults-plain (tree t ts) scope count (expression_operand ∷ wanted) =
      both (expression_faults-plain t scope count)
      (operand_faults-plain ts scope (counted (expression_count t) count) wanted)
  operand_faults-plain (tree t ts) scope count (width_operand ∷ wanted) =
      both (width_faults-plain greatest_width t) (operand_faults-plain ts scope count wanted)

-- ---- reactions

mutual
  reaction_faults-plain : (t : Located) (scope : NameScope) (count : Option ℕ) → ArePlain (reaction_faults scope count t)
  reaction_faults-plain (word pos name) scope count = one NotAForm pos
  reaction_faults-plain (number pos n) scope count = one NotAForm pos
  reaction_faults-plain (Trees.literal pos bits) scope count = one NotAForm pos
  reaction_faults-plain (group pos no_trees) scope count = one NotAForm pos
  reaction_faults-plain (group pos (tree (word at name) ts)) scope count =
      both (both (form_tested (has_parts (reaction_parts name) (tree_count ts)) NotAForm pos)
      (node_faults-plain (counted 1 count) pos))
      (reaction_part_faults-plain ts scope (name_in (tree_at 0 ts)) (counted 1 count) (reaction_parts_wanted name))
  reaction_faults-plain (group pos (tree (number at n) ts)) scope count = one NotAForm pos
  reaction_faults-plain (group pos (tree (Trees.literal at bits) ts)) scope count = one NotAForm pos
  reaction_faults-plain (group pos (tree (group at us) ts)) scope count = one NotAForm pos

  reaction_part_faults-plain : (ts : Forest) (scope : NameScope) (binder : List ℕ) (count : Option ℕ) (wanted : List ReactionPart) → ArePlain (reaction_part_faults scope binder count wanted ts)
  reaction_part_faults-plain no_trees scope binder count wanted = none
  reaction_part_faults-plain (tree t ts) scope binder count [] = none
  reaction_part_faults-plain (tree t ts) scope binder count (name_part ∷ wanted) =
      both (word_faults-plain t) (reaction_part_faults-plain ts scope binder count wanted)
  reaction_part_faults-plain (tree t ts) scope binder count (width_part ∷ wanted) =
      both (width_faults-plain greatest_width t) (reaction_part_faults-plain ts scope binder count wanted)
  reaction_part_faults-plain (tree t ts) scope binder count (expression_part ∷ wanted) =
      both (expression_faults-plain t scope count)
      (reaction_part_faults-plain ts scope binder (counted (expression_count t) count) wanted)
  reaction_part_faults-plain (tree t ts) scope binder count (reaction_part ∷ wanted) =
      both (reaction_faults-plain t scope count)
      (reaction_part_faults-plain ts scope binder (counted (reaction_count t) count) wanted)
  reaction_part_faults-plain (tree t ts) scope binder count (body_part ∷ wanted) =
      both (reaction_faults-plain t (under_binder binder scope) count)
      (reaction_part_faults-plain ts scope binder (counted (reaction_count t) count) wanted)

-- ---- protocols

port_faults-plain : (t : Located) → ArePlain (port_faults t)
port_faults-plain (word pos name) = one NotAForm pos
port_faults-plain (number pos n) = one NotAForm pos
port_faults-plain (Trees.literal pos bits) = one NotAForm pos
port_faults-plain (group pos ts) =
    both (both (two_faults-plain pos ts) (word_faults-plain (tree_at 0 ts)))
    (width_faults-plain greatest_width (tree_at 1 ts))

hidden_faults-plain : (ts : Forest) → ArePlain (hidden_faults ts)
hidden_faults-plain no_trees = none
hidden_faults-plain (tree t ts) = both (port_faults-plain t) (hidden_faults-plain ts)

new_faults-plain : (t : Located) → ArePlain (new_faults t)
new_faults-plain (word pos name) = one NotAForm pos
new_faults-plain (number pos n) = one NotAForm pos
new_faults-plain (Trees.literal pos bits) = one NotAForm pos
new_faults-plain (group pos no_trees) = one NotAForm pos
new_faults-plain (group pos (tree t ts)) = hidden_faults-plain (tree t ts)

mutual
  protocol_faults-plain : (t : Located) (scope : NameScope) (count : Option ℕ) → ArePlain (protocol_faults scope count t)
  protocol_faults-plain (word pos name) scope count = one NotAForm pos
  protocol_faults-plain (number pos n) scope count = one NotAForm pos
  protocol_faults-plain (Trees.literal pos bits) scope count = one NotAForm pos
  protocol_faults-plain (group pos no_trees) scope count = one NotAForm pos
  protocol_faults-plain (group pos (tree (word at name) ts)) scope count =
      both (both (form_tested (has_shape (shape_named name) (tree_count ts)) NotAForm pos)
      (node_faults-plain (counted (shape_count (shape_named name) ts) count) pos))
      (protocol_part_faults-plain ts scope (counted (shape_count (shape_named name) ts) count) (shape_named name))
  protocol_faults-plain (group pos (tree (number at n) ts)) scope count = one NotAForm pos
  protocol_faults-plain (group pos (tree (Trees.literal at bits) ts)) scope count = one NotAForm pos
  protocol_faults-plain (group pos (tree (group at us) ts)) scope count = one NotAForm pos

  protocol_part_faults-plain : (ts : Forest) (scope : NameScope) (count : Option ℕ) (shape : Option Shape) → ArePlain (protocol_part_faults scope count shape ts)
  protocol_part_faults-plain ts scope count None = none
  protocol_part_faults-plain ts scope count (Some nil_shape) = none
  protocol_part_faults-plain no_trees scope count (Some out_shape) = none
  protocol_part_faults-plain (tree a no_trees) scope count (Some out_shape) = none
  protocol_part_faults-plain (tree a (tree b no_trees)) scope count (Some out_shape) =
      both (word_faults-plain a) (reaction_faults-plain b scope count)
  protocol_part_faults-plain (tree a (tree b (tree c ts))) scope count (Some out_shape) = none
  protocol_part_faults-plain no_trees scope count (Some par_shape) = none
  protocol_part_faults-plain (tree t ts) scope count (Some par_shape) =
      both (protocol_faults-plain t scope count) (protocols_faults-plain ts scope (counted (protocol_count t) count))
  protocol_part_faults-plain no_trees scope count (Some new_shape) = none
  protocol_part_faults-plain (tree a no_trees) scope count (Some new_shape) = none
  protocol_part_faults-plain (tree a (tree b no_trees)) scope count (Some new_shape) =
      both (new_faults-plain a) (protocol_faults-plain b scope count)
  protocol_part_faults-plain (tree a (tree b (tree c ts))) scope count (Some new_shape) = none

  protocols_faults-plain : (ts : Forest) (scope : NameScope) (count : Option ℕ) → ArePlain (protocols_faults scope count ts)
  protocols_faults-plain no_trees scope count = none
  protocols_faults-plain (tree t ts) scope count =
      both (protocol_faults-plain t scope count) (protocols_faults-plain ts scope (counted (protocol_count t) count))

-- ---- the parts of a step

number_faults-plain : (t : Located) → ArePlain (number_faults t)
number_faults-plain t = form_tested (is_some (number_in t)) NotAForm (offset_of t)

list_faults-plain : (t : Located) → ArePlain (list_faults t)
list_faults-plain t = form_tested (is_list t) NotAForm (offset_of t)

all_number_faults-plain : (ts : Forest) → ArePlain (all_number_faults ts)
all_number_faults-plain no_trees = none
all_number_faults-plain (tree t ts) = both (number_faults-plain t) (all_number_faults-plain ts)

path_faults-plain : (t : Located) → ArePlain (path_faults t)
path_faults-plain t = both (list_faults-plain t) (all_number_faults-plain (parts_of t))

argument_faults-plain : (scope : NameScope) (kind : ArgumentKind) (t : Located) → ArePlain (argument_faults scope kind t)
argument_faults-plain scope expression_kind t = expression_faults-plain t scope None
argument_faults-plain scope symbol_kind t =
    both (word_faults-plain t) (form_tested (is_some (symbol_in scope t)) UnknownName (offset_of t))
argument_faults-plain scope number_kind t = number_faults-plain t
argument_faults-plain scope name_kind t = word_faults-plain t
argument_faults-plain scope path_kind t = path_faults-plain t
argument_faults-plain scope width_kind t = width_faults-plain greatest_width t

all_argument_faults-plain : (scope : NameScope) (kinds : List ArgumentKind) (ts : Forest) → ArePlain (all_argument_faults scope kinds ts)
all_argument_faults-plain scope kinds no_trees = none
all_argument_faults-plain scope [] (tree t ts) = none
all_argument_faults-plain scope (kind ∷ kinds) (tree t ts) =
    both (argument_faults-plain scope kind t) (all_argument_faults-plain scope kinds ts)

place_faults-plain : (scope : NameScope) (heading : Option Heading) (ts : Forest) → ArePlain (place_faults scope heading ts)
place_faults-plain scope heading ts =
    both (path_faults-plain (tree_at 0 ts))
    (all_argument_faults-plain scope (arguments_wanted heading) (without_first ts))

term_faults-plain : (scope : NameScope) (heading : Option Heading) (t : Located) → ArePlain (term_faults scope heading t)
term_faults-plain scope None t = none
term_faults-plain scope (Some heading) t = go heading.kind refl
  where
    go : (kind : RuleKind) → heading.kind ≡ kind → ArePlain (term_faults scope (Some heading) t)
    go at_reactions is = rw is (reaction_faults-plain t scope (Some 0))
    go at_expressions is = rw is none
    go at_protocols is = rw is (protocol_faults-plain t scope (Some 0))

rev_faults-plain : (scope : NameScope) (pos : ℕ) (ts : Forest) → ArePlain (rev_faults scope pos ts)
rev_faults-plain scope pos ts =
    let heading = heading_named (first_name (tree_at 0 ts)) in
    let inner = tree_at 0 ts in
    both (both (two_faults-plain pos ts)
    (both (form_tested (has_arguments heading (tree_count (operands inner)) && is_reversible heading) NotAForm (offset_of inner))
    (place_faults-plain scope heading (operands inner))))
    (term_faults-plain scope heading (tree_at 1 ts))

new_name_faults-plain : (before : List (List ℕ)) (t : Located) → ArePlain (new_name_faults before t)
new_name_faults-plain before t =
    both (word_faults-plain t)
    (form_tested (if is_among before (name_in t) then false else true) Repeated (offset_of t))

pair_faults-plain : (before : List (List ℕ)) (t : Located) → ArePlain (pair_faults before t)
pair_faults-plain before (word pos name) = one NotAForm pos
pair_faults-plain before (number pos n) = one NotAForm pos
pair_faults-plain before (Trees.literal pos bits) = one NotAForm pos
pair_faults-plain before (group pos ts) =
    both (both (two_faults-plain pos ts) (new_name_faults-plain before (tree_at 0 ts)))
    (word_faults-plain (tree_at 1 ts))

all_pair_faults-plain : (before : List (List ℕ)) (ts : Forest) → ArePlain (all_pair_faults before ts)
all_pair_faults-plain before no_trees = none
all_pair_faults-plain before (tree t ts) =
    both (pair_faults-plain before t) (all_pair_faults-plain (before ++ first_name t ∷ []) ts)

declared_faults-plain : (names : List (List ℕ)) (t : Located) → ArePlain (declared_faults names t)
declared_faults-plain names t =
    both (word_faults-plain t) (form_tested (is_among names (name_in t)) UnknownName (offset_of t))

use_faults-plain : (earlier : Earlier) (pos : ℕ) (ts : Forest) → ArePlain (use_faults earlier pos ts)
use_faults-plain earlier pos ts =
    let direction = tree_at 2 ts in
    both (both (both (both (both (form_tested (tree_count ts == 4) NotAForm pos)
    (declared_faults-plain earlier.statements (tree_at 0 ts)))
    (path_faults-plain (tree_at 1 ts)))
    (form_tested (is_word direction && is_direction_word (name_in direction)) NotAForm (offset_of direction)))
    (list_faults-plain (tree_at 3 ts)))
    (all_pair_faults-plain [] (parts_of (tree_at 3 ts)))

-- ---- steps

headed_step_faults-plain : (earlier : Earlier) (pos : ℕ) (name : List ℕ) (ts : Forest) → ArePlain (headed_step_faults earlier pos name ts)
headed_step_faults-plain earlier pos name ts =
    let scope = step_scope earlier in
    let heading = heading_named name in
    either (bytes_eq name (codes "rev")) (rev_faults-plain scope pos ts)
    (either (bytes_eq name (codes "use")) (use_faults-plain earlier pos ts)
    (both (form_tested (has_arguments heading (tree_count ts)) NotAForm pos) (place_faults-plain scope heading ts)))

step_faults-plain : (earlier : Earlier) (t : Located) → ArePlain (step_faults earlier t)
step_faults-plain earlier (word pos name) = one NotAForm pos
step_faults-plain earlier (number pos n) = one NotAForm pos
step_faults-plain earlier (Trees.literal pos bits) = one NotAForm pos
step_faults-plain earlier (group pos no_trees) = one NotAForm pos
step_faults-plain earlier (group pos (tree (word at name) ts)) = headed_step_faults-plain earlier pos name ts
step_faults-plain earlier (group pos (tree (number at n) ts)) = one NotAForm pos
step_faults-plain earlier (group pos (tree (Trees.literal at bits) ts)) = one NotAForm pos
step_faults-plain earlier (group pos (tree (group at us) ts)) = one NotAForm pos

all_step_faults-plain : (earlier : Earlier) (before : ℕ) (ts : Forest) → ArePlain (all_step_faults earlier before ts)
all_step_faults-plain earlier before no_trees = none
all_step_faults-plain earlier before (tree t ts) =
    both (both (over_tested (nat_lt before most_steps) Steps (offset_of t)) (step_faults-plain earlier t))
    (all_step_faults-plain earlier (suc before) ts)

headed_faults-plain : (head : List ℕ) (t : Located) → ArePlain (headed_faults head t)
headed_faults-plain head t = form_tested _ NotAForm (offset_of t)

side_faults-plain : (earlier : Earlier) (side : List ℕ) (before : ℕ) (t : Located) → ArePlain (side_faults earlier side before t)
side_faults-plain earlier side before t =
    both (headed_faults-plain side t) (all_step_faults-plain earlier before (operands t))

-- ---- the parts of an item

item_name_faults-plain : (earlier : Earlier) (t : Located) → ArePlain (item_name_faults earlier t)
item_name_faults-plain earlier t =
    both (word_faults-plain t) (form_tested (not (is_taken earlier (name_in t))) Repeated (offset_of t))

value_faults-plain : (w : ℕ) (t : Located) → ArePlain (value_faults w t)
value_faults-plain w (word pos name) = one NotAForm pos
value_faults-plain w (number pos n) = one NotAForm pos
value_faults-plain w (Trees.literal pos bits) = form_tested (length bits == w) WrongWidth pos
value_faults-plain w (group pos ts) = one NotAForm pos

all_value_faults-plain : (w : ℕ) (ts : Forest) → ArePlain (all_value_faults w ts)
all_value_faults-plain w no_trees = none
all_value_faults-plain w (tree t ts) = both (value_faults-plain w t) (all_value_faults-plain w ts)

table_faults-plain : (from to : ℕ) (t : Located) → ArePlain (table_faults from to t)
table_faults-plain from to t =
    both (both (list_faults-plain t) (all_value_faults-plain to (parts_of t)))
    (form_tested (tree_count (parts_of t) == 2 ^ from) TableLength (offset_of t))

interface_port_faults-plain : (before : List (List ℕ)) (t : Located) → ArePlain (interface_port_faults before t)
interface_port_faults-plain before (word pos name) = one NotAForm pos
interface_port_faults-plain before (number pos n) = one NotAForm pos
interface_port_faults-plain before (Trees.literal pos bits) = one NotAForm pos
interface_port_faults-plain before (group pos ts) =
    both (both (two_faults-plain pos ts) (new_name_faults-plain before (tree_at 0 ts)))
    (width_faults-plain greatest_width (tree_at 1 ts))

all_port_faults-plain : (before : List (List ℕ)) (ts : Forest) → ArePlain (all_port_faults before ts)
all_port_faults-plain before no_trees = none
all_port_faults-plain before (tree t ts) =
    both (interface_port_faults-plain before t) (all_port_faults-plain (before ++ first_name t ∷ []) ts)

interface_faults-plain : (inputs outputs : Located) → ArePlain (interface_faults inputs outputs)
interface_faults-plain inputs outputs =
    both (both (both (headed_faults-plain (codes "inputs") inputs) (all_port_faults-plain [] (operands inputs)))
    (headed_faults-plain (codes "outputs") outputs))
    (all_port_faults-plain (first_names (operands inputs)) (operands outputs))

-- ---- items

item_part_faults-plain : (earlier : Earlier) (form : Option ItemForm) (ts : Forest) → ArePlain (item_part_faults earlier form ts)
item_part_faults-plain earlier None ts = none
item_part_faults-plain earlier (Some fun_form) ts =
    both (both (item_name_faults-plain earlier (tree_at 0 ts)) (width_faults-plain greatest_width (tree_at 1 ts)))
    (width_faults-plain greatest_width (tree_at 2 ts))
item_part_faults-plain earlier (Some table_form) ts =
    both (both (both (item_name_faults-plain earlier (tree_at 0 ts)) (width_faults-plain greatest_table_width (tree_at 1 ts)))
    (width_faults-plain greatest_width (tree_at 2 ts)))
    (table_faults-plain (value_in (tree_at 1 ts)) (value_in (tree_at 2 ts)) (tree_at 3 ts))
item_part_faults-plain earlier (Some protocol_form) ts =
    both (both (item_name_faults-plain earlier (tree_at 0 ts)) (interface_faults-plain (tree_at 1 ts) (tree_at 2 ts)))
    (protocol_faults-plain (tree_at 3 ts) (body_scope earlier) (Some 0))
item_part_faults-plain earlier (Some assume_form) ts =
    both (both (item_name_faults-plain earlier (tree_at 0 ts)) (declared_faults-plain earlier.protocols (tree_at 1 ts)))
    (declared_faults-plain earlier.protocols (tree_at 2 ts))
item_part_faults-plain earlier (Some theorem_form) ts =
    both (both (both (both (item_name_faults-plain earlier (tree_at 0 ts)) (declared_faults-plain earlier.protocols (tree_at 1 ts)))
    (declared_faults-plain earlier.protocols (tree_at 2 ts)))
    (side_faults-plain earlier (codes "left") 0 (tree_at 3 ts)))
    (side_faults-plain earlier (codes "right") (tree_count (operands (tree_at 3 ts))) (tree_at 4 ts))

item_faults-plain : (earlier : Earlier) (t : Located) → ArePlain (item_faults earlier t)
item_faults-plain earlier (word pos name) = one NotAForm pos
item_faults-plain earlier (number pos n) = one NotAForm pos
item_faults-plain earlier (Trees.literal pos bits) = one NotAForm pos
item_faults-plain earlier (group pos no_trees) = one NotAForm pos
item_faults-plain earlier (group pos (tree (word at name) ts)) =
    both (form_tested (has_item_form (item_form name) (tree_count ts)) NotAForm pos)
    (item_part_faults-plain earlier (item_form name) ts)
item_faults-plain earlier (group pos (tree (number at n) ts)) = one NotAForm pos
item_faults-plain earlier (group pos (tree (Trees.literal at bits) ts)) = one NotAForm pos
item_faults-plain earlier (group pos (tree (group at us) ts)) = one NotAForm pos

-- ---- documents

all_item_faults-plain : (earlier : Earlier) (before : ℕ) (ts : Forest) → ArePlain (all_item_faults earlier before ts)
all_item_faults-plain earlier before no_trees = none
all_item_faults-plain earlier before (tree t ts) =
    both (both (over_tested (nat_lt before most_items) Items (offset_of t)) (item_faults-plain earlier t))
    (all_item_faults-plain (earlier_past t earlier) (suc before) ts)

version_faults-plain : (t : Located) → ArePlain (version_faults t)
version_faults-plain (word pos name) = one NotAForm pos
version_faults-plain (number pos n) = form_tested (n == this_version) NotAForm pos
version_faults-plain (Trees.literal pos bits) = one NotAForm pos
version_faults-plain (group pos ts) = one NotAForm pos

document_faults-plain : (t : Located) → ArePlain (document_faults t)
document_faults-plain (word pos name) = one NotAForm pos
document_faults-plain (number pos n) = one NotAForm pos
document_faults-plain (Trees.literal pos bits) = one NotAForm pos
document_faults-plain (group pos no_trees) = one NotAForm pos
document_faults-plain (group pos (tree (word at name) ts)) =
    both (both (form_tested (bytes_eq name (codes "ipdl") && nat_le 1 (tree_count ts)) NotAForm pos)
    (version_faults-plain (tree_at 0 ts)))
    (all_item_faults-plain nothing_earlier 0 (without_first ts))
document_faults-plain (group pos (tree (number at n) ts)) = one NotAForm pos
document_faults-plain (group pos (tree (Trees.literal at bits) ts)) = one NotAForm pos
document_faults-plain (group pos (tree (group at us) ts)) = one NotAForm pos

-- ---- the first fault

plain_told : (fault : DocFault) → IsPlain fault → ((offset : ℕ) × (cause : FormCause) × (fault ≡ form_fault cause offset)) ⊎ ((offset : ℕ) × (limit : Limit) × (fault ≡ over_fault limit offset))
plain_told (Form pos cause) plain = inl (pos.0, cause, refl)
plain_told (Over limit pos) plain = inr (pos.0, limit, refl)
plain_told Memory plain = absurd plain

first_plain : (fs : List DocFault) (fault : DocFault) → ArePlain fs → first_fault fs ≡ Some fault → IsPlain fault
first_plain [] fault plain is = cc
first_plain (f ∷ fs) fault plain is = let same : f ≡ fault = cc in subst IsPlain same plain.all.0

-- the first fault of a tree tells of a form or of a limit
pub first_told : (t : Located) (fault : DocFault) → first_fault (document_faults t) ≡ Some fault → ((offset : ℕ) × (cause : FormCause) × (fault ≡ form_fault cause offset)) ⊎ ((offset : ℕ) × (limit : Limit) × (fault ≡ over_fault limit offset))
first_told t fault is =
    plain_told fault (first_plain (document_faults t) fault (document_faults-plain t) is)
