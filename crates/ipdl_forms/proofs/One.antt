-- One tree spells at most one term: what it spells is what is read off it here.
use Rattle.std.proofs.Common.{◌≡◌, ℕ, zero, suc, Bool, true, false, List, [], refl, sym, ap, ap₂, ◌∙◌}
use Rattle.std.specs.Prelude.{◌&&◌, Option, Some, None, is_none, unwrap_or, codes, bytes_eq, if◌then◌else◌}
use Rattle.ipdl_term.specs.Terms.{Expression, literal, variable, outer, application, exclusive, conjunction, negation, concatenation, segment, equality, selection, Reaction, returning, flipping, reading, branching, binding, Protocol, nil, assignment, parallel, hiding}
use Rattle.ipdl_tree.specs.Trees.{Located, word, number, group, Forest, no_trees, tree}
use Rattle.ipdl_tree.specs.Trees as Trees
use Rattle.ipdl_forms.specs.Expressions.{SpellsExpression}
use Rattle.ipdl_forms.specs.Lists.{tree_at, parts_of, name_in, value_in, word_in, operand}
use Rattle.ipdl_forms.specs.Operators.{operator_operands}
use Rattle.ipdl_forms.specs.Protocols.{SpellsProtocol, Shape, nil_shape, out_shape, par_shape, new_shape, shape_named}
use Rattle.ipdl_forms.specs.Reactions.{SpellsReaction}
use Rattle.ipdl_forms.specs.Scopes.{NameScope, under_binder, symbol_number, bound_number, free_number, outer_number}
use Rattle.ipdl_forms.specs.Widths.{SpellsWidth, SpellsPort}
use Rattle.ipdl_forms.proofs.Forms.{form_of_none, form_of_one, form_of_two, form_of_three, form_of_four, form_of_symbol, form_of_literal, form_of_bound, form_of_free, form_of_width, form_of_word}
use Rattle.ipdl_forms.proofs.ProtocolForms.{form_of_parallel, form_of_hiding, form_of_port}

-- ---- numbers and words

pub value_in-spelled : (w : ℕ) (t : Located) → SpellsWidth w t → value_in t ≡ w
value_in-spelled w t is = form_of_width w (λ u. value_in u ≡ w) (λ pos least. refl) t is

pub name_in-spelled : (c : List ℕ) (t : Located) → word_in t ≡ Some c → name_in t ≡ c
name_in-spelled c t is = form_of_word c (λ u. name_in u ≡ c) (λ pos. refl) t is

-- ---- expressions

-- the variable that a word names
abbrev variable_read : Option ℕ → Option ℕ → Expression
variable_read (Some n) free = variable n
variable_read None free = outer (unwrap_or free 0)

-- the expression of a head, whose parts are read
abbrev list_read : NameScope → List ℕ → Forest → (ℕ → Expression) → Expression
list_read scope name ts part =
    if is_none (operator_operands name) then application (unwrap_or (symbol_number scope name) 0) (part 0)
    else (if bytes_eq name (codes "xor") then exclusive (part 0) (part 1)
    else (if bytes_eq name (codes "and") then conjunction (part 0) (part 1)
    else (if bytes_eq name (codes "not") then negation (part 0)
    else (if bytes_eq name (codes "cat") then concatenation (part 0) (part 1)
    else (if bytes_eq name (codes "cut") then segment (value_in (tree_at 0 ts)) (value_in (tree_at 1 ts)) (part 2)
    else (if bytes_eq name (codes "eq") then equality (part 0) (part 1)
    else selection (part 0) (part 1) (part 2)))))))

abbrev mutual
  pub expression_read : NameScope → Located → Expression
  expression_read scope (word pos name) = variable_read (bound_number scope name) (free_number scope name)
  expression_read scope (number pos n) = literal []
  expression_read scope (Trees.literal pos bits) = literal bits
  expression_read scope (group pos no_trees) = literal []
  expression_read scope (group pos (tree t ts)) = list_read scope (name_in t) ts (expressions_read scope ts)

  expressions_read : NameScope → Forest → ℕ → Expression
  expressions_read scope no_trees n = literal []
  expressions_read scope (tree t ts) zero = expression_read scope t
  expressions_read scope (tree t ts) (suc n) = expressions_read scope ts n

-- an outer variable is named by no binder
free_unbound : (scope : NameScope) (n : ℕ) (name : List ℕ) → free_number scope name ≡ Some n → bound_number scope name ≡ None
free_unbound scope n name is = go scope.in_step (bound_number scope name) (outer_number name) is
  where
    go : (b : Bool) (o f : Option ℕ) → (if b && is_none o then f else None) ≡ Some n → o ≡ None
    go true None f is = refl
    go true (Some m) f is = cc
    go false o f is = cc

variable_is : (n : ℕ) (o f : Option ℕ) → o ≡ Some n → variable_read o f ≡ variable n
variable_is n o f is = rw is refl

outer_is : (n : ℕ) (o f : Option ℕ) → o ≡ None → f ≡ Some n → variable_read o f ≡ outer n
outer_is n o f none is = rw (none, is) refl

symbol_is : (scope : NameScope) (f : ℕ) (name : List ℕ) (ts : Forest) (part : ℕ → Expression) → operator_operands name ≡ None → symbol_number scope name ≡ Some f → list_read scope name ts part ≡ application f (part 0)
symbol_is scope f name ts part no_operator symbol = rw (no_operator, symbol) refl

-- what is spelled is read
pub expression_read-spelled : (scope : NameScope) (e : Expression) (t : Located) → SpellsExpression scope e t → expression_read scope t ≡ e
expression_read-spelled scope (literal bits) t is =
    form_of_literal bits (λ u. expression_read scope u ≡ literal bits) (λ pos. refl) t is
expression_read-spelled scope (variable n) t is =
    form_of_bound scope n (λ u. expression_read scope u ≡ variable n) (λ pos name at. variable_is n (bound_number scope name) (free_number scope name) at) t is
expression_read-spelled scope (outer n) t is =
    form_of_free scope n (λ u. expression_read scope u ≡ outer n) (λ pos name at. outer_is n (bound_number scope name) (free_number scope name) (free_unbound scope n name at) at) t is
expression_read-spelled scope (application f e) t is =
    form_of_symbol scope f (λ u. SpellsExpression scope e (operand 0 u) → expression_read scope u ≡ application f e) (λ pos at name a no_operator symbol first. symbol_is scope f name (tree a no_trees) (expressions_read scope (tree a no_trees)) no_operator symbol ∙ ap (application f) (expression_read-spelled scope e a first)) t is.0 is.1 is.2
expression_read-spelled scope (exclusive a b) t is =
    form_of_two (codes "xor") (λ u. SpellsExpression scope a (operand 0 u) → SpellsExpression scope b (operand 1 u) → expression_read scope u ≡ exclusive a b) (λ pos at x y first second. ap₂ exclusive (expression_read-spelled scope a x first) (expression_read-spelled scope b y second)) t is.0 is.1 is.2
expression_read-spelled scope (conjunction a b) t is =
    form_of_two (codes "and") (λ u. SpellsExpression scope a (operand 0 u) → SpellsExpression scope b (operand 1 u) → expression_read scope u ≡ conjunction a b) (λ pos at x y first second. ap₂ conjunction (expression_read-spelled scope a x first) (expression_read-spelled scope b y second)) t is.0 is.1 is.2
expression_read-spelled scope (negation a) t is =
    form_of_one (codes "not") (λ u. SpellsExpression scope a (operand 0 u) → expression_read scope u ≡ negation a) (λ pos at x first. ap negation (expression_read-spelled scope a x first)) t is.0 is.1
expression_read-spelled scope (concatenation a b) t is =
    form_of_two (codes "cat") (λ u. SpellsExpression scope a (operand 0 u) → SpellsExpression scope b (operand 1 u) → expression_read scope u ≡ concatenation a b) (λ pos at x y first second. ap₂ concatenation (expression_read-spelled scope a x first) (expression_read-spelled scope b y second)) t is.0 is.1 is.2
expression_read-spelled scope (segment i n a) t is =
    form_of_three (codes "cut") (λ u. SpellsWidth i (operand 0 u) → SpellsWidth n (operand 1 u) → SpellsExpression scope a (operand 2 u) → expression_read scope u ≡ segment i n a) (λ pos at x y z first second third.
    let one : value_in x ≡ i = value_in-spelled i x first in
    let two : value_in y ≡ n = value_in-spelled n y second in
    let three : expression_read scope z ≡ a = expression_read-spelled scope a z third in
    cc) t is.0 is.1 is.2 is.3
expression_read-spelled scope (equality a b) t is =
    form_of_two (codes "eq") (λ u. SpellsExpression scope a (operand 0 u) → SpellsExpression scope b (operand 1 u) → expression_read scope u ≡ equality a b) (λ pos at x y first second. ap₂ equality (expression_read-spelled scope a x first) (expression_read-spelled scope b y second)) t is.0 is.1 is.2
expression_read-spelled scope (selection c a b) t is =
    form_of_three (codes "mux") (λ u. SpellsExpression scope c (operand 0 u) → SpellsExpression scope a (operand 1 u) → SpellsExpression scope b (operand 2 u) → expression_read scope u ≡ selection c a b) (λ pos at x y z first second third.
    let one : expression_read scope x ≡ c = expression_read-spelled scope c x first in
    let two : expression_read scope y ≡ a = expression_read-spelled scope a y second in
    let three : expression_read scope z ≡ b = expression_read-spelled scope b z third in
    cc) t is.0 is.1 is.2 is.3

-- one tree spells one expression
pub one_expression : (scope : NameScope) (e f : Expression) (t : Located) → SpellsExpression scope e t → SpellsExpression scope f t → e ≡ f
one_expression scope e f t is also =
    sym (expression_read-spelled scope e t is) ∙ expression_read-spelled scope f t also

-- ---- reactions

-- the reaction of a head, whose parts are read, also under the binder that the first one names
abbrev reaction_list_read : List ℕ → Expression → Forest → (ℕ → Reaction) → (ℕ → Reaction) → Reaction
reaction_list_read name e ts part body =
    if bytes_eq name (codes "ret") then returning e
    else (if bytes_eq name (codes "flip") then flipping (value_in (tree_at 0 ts))
    else (if bytes_eq name (codes "read") then reading (name_in (tree_at 0 ts))
    else (if bytes_eq name (codes "if") then branching e (part 1) (part 2)
    else binding (value_in (tree_at 1 ts)) (part 2) (body 3))))

abbrev mutual
  reaction_read : NameScope → Located → Reaction
  reaction_read scope (word pos name) = flipping 0
  reaction_read scope (number pos n) = flipping 0
  reaction_read scope (Trees.literal pos bits) = flipping 0
  reaction_read scope (group pos no_trees) = flipping 0
  reaction_read scope (group pos (tree t ts)) =
      reaction_list_read (name_in t) (expression_read scope (tree_at 0 ts)) ts (reactions_read scope ts) (reactions_read (under_binder (name_in (tree_at 0 ts)) scope) ts)

  reactions_read : NameScope → Forest → ℕ → Reaction
  reactions_read scope no_trees n = flipping 0
  reactions_read scope (tree t ts) zero = reaction_read scope t
  reactions_read scope (tree t ts) (suc n) = reactions_read scope ts n

-- what is spelled is read
reaction_read-spelled : (scope : NameScope) (r : Reaction) (t : Located) → SpellsReaction scope r t → reaction_read scope t ≡ r
reaction_read-spelled scope (returning e) t is =
    form_of_one (codes "ret") (λ u. SpellsExpression scope e (operand 0 u) → reaction_read scope u ≡ returning e) (λ pos at a first. ap returning (expression_read-spelled scope e a first)) t is.0 is.1
reaction_read-spelled scope (flipping w) t is =
    form_of_one (codes "flip") (λ u. SpellsWidth w (operand 0 u) → reaction_read scope u ≡ flipping w) (λ pos at a first. ap flipping (value_in-spelled w a first)) t is.0 is.1
reaction_read-spelled scope (reading c) t is =
    form_of_one (codes "read") (λ u. word_in (operand 0 u) ≡ Some c → reaction_read scope u ≡ reading c) (λ pos at a first. ap reading (name_in-spelled c a first)) t is.0 is.1
reaction_read-spelled scope (branching e r s) t is =
    form_of_three (codes "if") (λ u. SpellsExpression scope e (operand 0 u) → SpellsReaction scope r (operand 1 u) → SpellsReaction scope s (operand 2 u) → reaction_read scope u ≡ branching e r s) (λ pos at x y z first second third.
    let one : expression_read scope x ≡ e = expression_read-spelled scope e x first in
    let two : reaction_read scope y ≡ r = reaction_read-spelled scope r y second in
    let three : reaction_read scope z ≡ s = reaction_read-spelled scope s z third in
    cc) t is.0 is.1 is.2 is.3
reaction_read-spelled scope (binding w r s) t is =
    form_of_four (codes "bind") (λ u. SpellsWidth w (operand 1 u) → SpellsReaction scope r (operand 2 u) → SpellsReaction (under_binder (name_in (operand 0 u)) scope) s (operand 3 u) → reaction_read scope u ≡ binding w r s) (λ pos at x y z v wide first second.
    let one : value_in y ≡ w = value_in-spelled w y wide in
    let two : reaction_read scope z ≡ r = reaction_read-spelled scope r z first in
    let three : reaction_read (under_binder (name_in x) scope) v ≡ s = reaction_read-spelled (under_binder (name_in x) scope) s v second in
    cc) t is.0 is.2 is.3 is.4

-- one tree spells one reaction
pub one_reaction : (scope : NameScope) (r s : Reaction) (t : Located) → SpellsReaction scope r t → SpellsReaction scope s t → r ≡ s
one_reaction scope r s t is also =
    sym (reaction_read-spelled scope r t is) ∙ reaction_read-spelled scope s t also

-- ---- protocols

-- the channel and the width of a port
abbrev port_name : Located → List ℕ
port_name t = name_in (tree_at 0 (parts_of t))

abbrev port_width : Located → ℕ
port_width t = value_in (tree_at 1 (parts_of t))

-- a protocol under some ports
abbrev ports_read : Forest → Protocol → Protocol
ports_read no_trees p = p
ports_read (tree d ds) p = hiding (port_name d) (port_width d) (ports_read ds p)

-- the protocol of a head, whose parts are read one by one and side by side
abbrev protocol_list_read : NameScope → Option Shape → Forest → Protocol → Protocol → Protocol
protocol_list_read scope None ts second beside = nil
protocol_list_read scope (Some nil_shape) ts second beside = nil
protocol_list_read scope (Some out_shape) ts second beside =
    assignment (name_in (tree_at 0 ts)) (reaction_read scope (tree_at 1 ts))
protocol_list_read scope (Some par_shape) ts second beside = beside
protocol_list_read scope (Some new_shape) ts second beside = ports_read (parts_of (tree_at 0 ts)) second

abbrev mutual
  protocol_read : NameScope → Located → Protocol
  protocol_read scope (word pos name) = nil
  protocol_read scope (number pos n) = nil
  protocol_read scope (Trees.literal pos bits) = nil
  protocol_read scope (group pos no_trees) = nil
  protocol_read scope (group pos (tree t ts)) =
      protocol_list_read scope (shape_named (name_in t)) ts (protocol_at scope ts 1) (beside_read scope ts)

  protocol_at : NameScope → Forest → ℕ → Protocol
  protocol_at scope no_trees n = nil
  protocol_at scope (tree t ts) zero = protocol_read scope t
  protocol_at scope (tree t ts) (suc n) = protocol_at scope ts n

  beside_read : NameScope → Forest → Protocol
  beside_read scope no_trees = nil
  beside_read scope (tree t no_trees) = protocol_read scope t
  beside_read scope (tree t (tree u ts)) = parallel (protocol_read scope t) (beside_read scope (tree u ts))

port_name-spelled : (c : List ℕ) (w : ℕ) (t : Located) → SpellsPort c w t → port_name t ≡ c
port_name-spelled c w t is = form_of_port c w (λ u. port_name u ≡ c) (λ pos at from least. refl) t is

port_width-spelled : (c : List ℕ) (w : ℕ) (t : Located) → SpellsPort c w t → port_width t ≡ w
port_width-spelled c w t is = form_of_port c w (λ u. port_width u ≡ w) (λ pos at from least. refl) t is

-- a protocol under a port
hiding_is : (c : List ℕ) (w : ℕ) (d : Located) (p q : Protocol) → SpellsPort c w d → q ≡ p → hiding (port_name d) (port_width d) q ≡ hiding c w p
hiding_is c w d p q port same =
    let one : port_name d ≡ c = port_name-spelled c w d port in
    let two : port_width d ≡ w = port_width-spelled c w d port in
    rw (one, two, same) refl

-- what is spelled is read
protocol_read-spelled : (scope : NameScope) (p : Protocol) (t : Located) → SpellsProtocol scope p t → protocol_read scope t ≡ p
protocol_read-spelled scope nil t is =
    form_of_none (codes "nil") (λ u. protocol_read scope u ≡ nil) (λ pos at. refl) t is
protocol_read-spelled scope (assignment c r) t is =
    form_of_two (codes "out") (λ u. word_in (operand 0 u) ≡ Some c → SpellsReaction scope r (operand 1 u) → protocol_read scope u ≡ assignment c r) (λ pos at a b named body. ap₂ assignment (name_in-spelled c a named) (reaction_read-spelled scope r b body)) t is.0 is.1 is.2
protocol_read-spelled scope (parallel p q) t is =
    form_of_parallel (λ u. SpellsProtocol scope p (operand 0 u) → protocol_read scope u ≡ parallel p q) (SpellsProtocol scope q) (λ pos at a b second first. ap₂ parallel (protocol_read-spelled scope p a first) (protocol_read-spelled scope q b second)) (λ pos at a b c ts second first. ap₂ parallel (protocol_read-spelled scope p a first) (protocol_read-spelled scope q (group pos (tree (word pos (codes "par")) (tree b (tree c ts)))) second)) t is.0 is.2 is.1
protocol_read-spelled scope (hiding c w p) t is =
    form_of_hiding c w (λ u. protocol_read scope u ≡ hiding c w p) (SpellsProtocol scope p) (λ pos at from d y port under. hiding_is c w d p (protocol_read scope y) port (protocol_read-spelled scope p y under)) (λ pos at from d e ds y port under. hiding_is c w d p (ports_read (tree e ds) (protocol_read scope y)) port (protocol_read-spelled scope p (group pos (tree (word pos (codes "new")) (tree (group pos (tree e ds)) (tree y no_trees)))) under)) t is.0 is.1 is.2

-- one tree spells one protocol
pub one_protocol : (scope : NameScope) (p q : Protocol) (t : Located) → SpellsProtocol scope p t → SpellsProtocol scope q t → p ≡ q
one_protocol scope p q t is also =
    sym (protocol_read-spelled scope p t is) ∙ protocol_read-spelled scope q t also
