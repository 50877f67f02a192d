-- Which trees spell a step of a script, and the tests of one in reading order.
use Rattle.std.specs.Prelude.{◌≡◌, ℕ, suc, ◌==◌, ◌&&◌, nat_lt, Bool, true, false, List, [], ◌∷◌, ◌++◌, length, codes, bytes_eq, Option, Some, None, is_some, if◌then◌else◌}
use Rattle.ipdl_base.specs.Limits.{limit_number}
use Rattle.ipdl_base.specs.declared.limit.Limit.TheVariants.{Steps}
use Rattle.ipdl_term.specs.Rules.{Rule, RuleKind, at_reactions, at_expressions, at_protocols, Argument, expression_argument, symbol_argument, number_argument, name_argument, path_argument, width_argument, row_of, rule_word, rule_arguments, ArgumentKind, expression_kind, symbol_kind, number_kind, name_kind, path_kind, width_kind, Heading, heading_named}
use Rattle.ipdl_term.specs.Steps.{Direction, lr, rl, Step, plain, rev, invoke}
use Rattle.ipdl_term.specs.Terms.{Term, protocol_term, reaction_term}
use Rattle.ipdl_tree.specs.Trees.{Located, word, number, literal, group, Forest, no_trees, tree, offset_of}
use Rattle.ipdl_forms.specs.declared.fault.FormCause.TheVariants.{NotAForm, UnknownName, Repeated}
use Rattle.ipdl_forms.specs.declared.fault.DocFault.{DocFault}
use Rattle.ipdl_forms.specs.Expressions.{SpellsExpression, expression_faults}
use Rattle.ipdl_forms.specs.Faults.{form_fault, over_fault, tested, word_faults}
use Rattle.ipdl_forms.specs.Lists.{tree_count, tree_at, without_first, parts_of, is_list, is_word, is_among, word_in, number_in, name_in, head_of, operands, operand, IsForm}
use Rattle.ipdl_forms.specs.Protocols.{SpellsProtocol, protocol_faults}
use Rattle.ipdl_forms.specs.Reactions.{SpellsReaction, reaction_faults}
use Rattle.ipdl_forms.specs.Scopes.{NameScope, symbol_number}
use Rattle.ipdl_forms.specs.Widths.{SpellsWidth, greatest_width, width_faults, two_faults}

-- what is declared before an item: the names of the symbols, of the protocols, and of the assumptions and theorems
pub record Earlier : Type 0 where
  pub symbols : List (List ℕ)
  pub protocols : List (List ℕ)
  pub statements : List (List ℕ)

-- the scope of a step's arguments and TERM
abbrev pub step_scope : Earlier → NameScope
step_scope earlier = record { symbols = earlier.symbols; binders = []; in_step = true }

-- ---- paths

abbrev pub AreNumbers : List ℕ → Forest → Type 0
AreNumbers [] no_trees = Unit {0}
AreNumbers [] (tree t ts) = ⊥
AreNumbers (n ∷ ns) no_trees = ⊥
AreNumbers (n ∷ ns) (tree t ts) = (number_in t ≡ Some n) × AreNumbers ns ts

abbrev pub SpellsPath : List ℕ → Located → Type 0
SpellsPath path t = (is_list t ≡ true) × AreNumbers path (parts_of t)

-- the tree is a number
abbrev pub number_faults : Located → List DocFault
number_faults t = tested (is_some (number_in t)) (form_fault NotAForm (offset_of t))

-- the tree is a list
abbrev pub list_faults : Located → List DocFault
list_faults t = tested (is_list t) (form_fault NotAForm (offset_of t))

abbrev pub all_number_faults : Forest → List DocFault
all_number_faults no_trees = []
all_number_faults (tree t ts) = number_faults t ++ all_number_faults ts

abbrev pub path_faults : Located → List DocFault
path_faults t = list_faults t ++ all_number_faults (parts_of t)

-- ---- the arguments of a rule

-- the symbol that a tree names
abbrev pub symbol_in : NameScope → Located → Option ℕ
symbol_in scope (word pos name) = symbol_number scope name
symbol_in scope (number pos n) = None
symbol_in scope (literal pos bits) = None
symbol_in scope (group pos ts) = None

abbrev pub SpellsArgument : NameScope → Argument → Located → Type 0
SpellsArgument scope (expression_argument binders e) t = SpellsExpression scope e t
SpellsArgument scope (symbol_argument f) t = symbol_in scope t ≡ Some f
SpellsArgument scope (number_argument k) t = number_in t ≡ Some k
SpellsArgument scope (name_argument c) t = word_in t ≡ Some c
SpellsArgument scope (path_argument path) t = SpellsPath path t
SpellsArgument scope (width_argument w) t = SpellsWidth w t

abbrev pub SpellsArguments : NameScope → List Argument → Forest → Type 0
SpellsArguments scope [] no_trees = Unit {0}
SpellsArguments scope [] (tree t ts) = ⊥
SpellsArguments scope (a ∷ more) no_trees = ⊥
SpellsArguments scope (a ∷ more) (tree t ts) = SpellsArgument scope a t × SpellsArguments scope more ts

abbrev pub symbol_faults : NameScope → Located → List DocFault
symbol_faults scope t = word_faults t ++ tested (is_some (symbol_in scope t)) (form_fault UnknownName (offset_of t))

-- the tests of an argument; its nodes are not counted
abbrev pub argument_faults : NameScope → ArgumentKind → Located → List DocFault
argument_faults scope expression_kind t = expression_faults scope None t
argument_faults scope symbol_kind t = symbol_faults scope t
argument_faults scope number_kind t = number_faults t
argument_faults scope name_kind t = word_faults t
argument_faults scope path_kind t = path_faults t
argument_faults scope width_kind t = width_faults greatest_width t

abbrev pub all_argument_faults : NameScope → List ArgumentKind → Forest → List DocFault
all_argument_faults scope kinds no_trees = []
all_argument_faults scope [] (tree t ts) = []
all_argument_faults scope (kind ∷ kinds) (tree t ts) = argument_faults scope kind t ++ all_argument_faults scope kinds ts

-- ---- a rule at a place

-- the word of the rule, the place, and the arguments of the rule
abbrev pub SpellsRule : NameScope → (place : List ℕ) → Rule → Located → Type 0
SpellsRule scope place rule t =
    (head_of t ≡ Some (rule_word rule)) × SpellsPath place (operand 0 t)
    × SpellsArguments scope (rule_arguments rule) (without_first (operands t))

-- whether a rule has the word of which this is known, and so many parts follow it: the place, and its arguments
abbrev pub has_arguments : Option Heading → ℕ → Bool
has_arguments None count = false
has_arguments (Some heading) count = count == suc (length heading.arguments)

-- the kinds of its arguments, none where it is no rule's word
abbrev pub arguments_wanted : Option Heading → List ArgumentKind
arguments_wanted None = []
arguments_wanted (Some heading) = heading.arguments

-- the tests of the place and the arguments
abbrev pub place_faults : NameScope → Option Heading → Forest → List DocFault
place_faults scope heading ts =
    path_faults (tree_at 0 ts) ++ all_argument_faults scope (arguments_wanted heading) (without_first ts)

-- the tests of the parts after a word that has to be a rule's, the list being at an offset
abbrev pub rule_faults : NameScope → ℕ → Option Heading → Forest → List DocFault
rule_faults scope pos heading ts =
    tested (has_arguments heading (tree_count ts)) (form_fault NotAForm pos) ++ place_faults scope heading ts

-- ---- a step backwards

-- a term of the kind that the rule changes; no rule at expressions has a step backwards
abbrev pub SpellsTerm : NameScope → RuleKind → Term → Located → Type 0
SpellsTerm scope at_protocols (protocol_term p) t = SpellsProtocol scope p t
SpellsTerm scope at_reactions (reaction_term r) t = SpellsReaction scope r t
SpellsTerm scope kind term t = ⊥

-- the first name of a list
abbrev pub first_name : Located → List ℕ
first_name t = name_in (tree_at 0 (parts_of t))

-- whether there is a step backwards
abbrev pub is_reversible : Option Heading → Bool
is_reversible None = false
is_reversible (Some heading) = by_kind heading.kind
  where
    by_kind : RuleKind → Bool
    by_kind at_reactions = true
    by_kind at_expressions = false
    by_kind at_protocols = true

-- the tests of the list of a rule that has a step backwards
abbrev pub reversed_faults : NameScope → Option Heading → Located → List DocFault
reversed_faults scope heading t =
    tested (has_arguments heading (tree_count (operands t)) && is_reversible heading) (form_fault NotAForm (offset_of t))
    ++ place_faults scope heading (operands t)

abbrev pub term_faults : NameScope → Option Heading → Located → List DocFault
term_faults scope None t = []
term_faults scope (Some heading) t = by_kind heading.kind
  where
    by_kind : RuleKind → List DocFault
    by_kind at_reactions = reaction_faults scope (Some 0) t
    by_kind at_expressions = []
    by_kind at_protocols = protocol_faults scope (Some 0) t

-- the tests of the parts after `rev`: the list of a rule, and a term
abbrev pub rev_faults : NameScope → ℕ → Forest → List DocFault
rev_faults scope pos ts =
    tested (tree_count ts == 2) (form_fault NotAForm pos)
    ++ reversed_faults scope (heading_named (first_name (tree_at 0 ts))) (tree_at 0 ts)
    ++ term_faults scope (heading_named (first_name (tree_at 0 ts))) (tree_at 1 ts)

-- ---- the use of an assumption or a theorem

abbrev pub direction_word : Direction → List ℕ
direction_word lr = codes "lr"
direction_word rl = codes "rl"

abbrev pub is_direction_word : List ℕ → Bool
is_direction_word name = if bytes_eq name (codes "lr") then true else bytes_eq name (codes "rl")

abbrev pub direction_faults : Located → List DocFault
direction_faults t = tested (is_word t && is_direction_word (name_in t)) (form_fault NotAForm (offset_of t))

-- pairs in lists of two, of which no two have one first name, and none a first name that came before
abbrev pub ArePairs : List (List ℕ) → List (List ℕ × List ℕ) → Forest → Type 0
ArePairs before [] no_trees = Unit {0}
ArePairs before [] (tree t ts) = ⊥
ArePairs before (p ∷ ps) no_trees = ⊥
ArePairs before (p ∷ ps) (tree t ts) =
    (tree_count (parts_of t) ≡ 2) × (word_in (tree_at 0 (parts_of t)) ≡ Some p.0) × (is_among before p.0 ≡ false)
    × (word_in (tree_at 1 (parts_of t)) ≡ Some p.1) × ArePairs (before ++ p.0 ∷ []) ps ts

-- a name that did not come before
abbrev pub new_name_faults : List (List ℕ) → Located → List DocFault
new_name_faults before t =
    word_faults t ++ tested (if is_among before (name_in t) then false else true) (form_fault Repeated (offset_of t))

abbrev pub pair_faults : List (List ℕ) → Located → List DocFault
pair_faults before (word pos name) = form_fault NotAForm pos ∷ []
pair_faults before (number pos n) = form_fault NotAForm pos ∷ []
pair_faults before (literal pos bits) = form_fault NotAForm pos ∷ []
pair_faults before (group pos ts) = two_faults pos ts ++ new_name_faults before (tree_at 0 ts) ++ word_faults (tree_at 1 ts)

abbrev pub all_pair_faults : List (List ℕ) → Forest → List DocFault
all_pair_faults before no_trees = []
all_pair_faults before (tree t ts) = pair_faults before t ++ all_pair_faults (before ++ first_name t ∷ []) ts

-- a name that is declared before
abbrev pub declared_faults : List (List ℕ) → Located → List DocFault
declared_faults names t = word_faults t ++ tested (is_among names (name_in t)) (form_fault UnknownName (offset_of t))

-- the tests of the parts after `use`
abbrev pub use_faults : Earlier → ℕ → Forest → List DocFault
use_faults earlier pos ts =
    tested (tree_count ts == 4) (form_fault NotAForm pos) ++ declared_faults earlier.statements (tree_at 0 ts)
    ++ path_faults (tree_at 1 ts) ++ direction_faults (tree_at 2 ts) ++ list_faults (tree_at 3 ts)
    ++ all_pair_faults [] (parts_of (tree_at 3 ts))

-- ---- steps

abbrev pub SpellsStep : Earlier → Step → Located → Type 0
SpellsStep earlier (plain place rule) t = SpellsRule (step_scope earlier) place rule t
SpellsStep earlier (rev place rule term) t =
    IsForm (codes "rev") 2 t × SpellsRule (step_scope earlier) place rule (operand 0 t)
    × SpellsTerm (step_scope earlier) (row_of rule).kind term (operand 1 t)
SpellsStep earlier (invoke place name direction pairs) t =
    IsForm (codes "use") 4 t × (word_in (operand 0 t) ≡ Some name) × (is_among earlier.statements name ≡ true)
    × SpellsPath place (operand 1 t) × (word_in (operand 2 t) ≡ Some (direction_word direction))
    × (is_list (operand 3 t) ≡ true) × ArePairs [] pairs (parts_of (operand 3 t))

-- the tests of a list with this word in front
abbrev pub headed_step_faults : Earlier → ℕ → List ℕ → Forest → List DocFault
headed_step_faults earlier pos name ts =
    if bytes_eq name (codes "rev") then rev_faults (step_scope earlier) pos ts
    else (if bytes_eq name (codes "use") then use_faults earlier pos ts
    else rule_faults (step_scope earlier) pos (heading_named name) ts)

abbrev pub step_faults : Earlier → Located → List DocFault
step_faults earlier (word pos name) = form_fault NotAForm pos ∷ []
step_faults earlier (number pos n) = form_fault NotAForm pos ∷ []
step_faults earlier (literal pos bits) = form_fault NotAForm pos ∷ []
step_faults earlier (group pos no_trees) = form_fault NotAForm pos ∷ []
step_faults earlier (group pos (tree (word at name) ts)) = headed_step_faults earlier pos name ts
step_faults earlier (group pos (tree (number at n) ts)) = form_fault NotAForm pos ∷ []
step_faults earlier (group pos (tree (literal at bits) ts)) = form_fault NotAForm pos ∷ []
step_faults earlier (group pos (tree (group at us) ts)) = form_fault NotAForm pos ∷ []

-- ---- scripts

abbrev pub AreSteps : Earlier → List Step → Forest → Type 0
AreSteps earlier [] no_trees = Unit {0}
AreSteps earlier [] (tree t ts) = ⊥
AreSteps earlier (step ∷ steps) no_trees = ⊥
AreSteps earlier (step ∷ steps) (tree t ts) = SpellsStep earlier step t × AreSteps earlier steps ts

-- the steps of one side, after its word
abbrev pub SpellsSide : Earlier → List ℕ → List Step → Located → Type 0
SpellsSide earlier side steps t = (head_of t ≡ Some side) × AreSteps earlier steps (operands t)

-- the most steps of a theorem, both sides together
abbrev pub most_steps : ℕ
most_steps = limit_number Steps

-- steps, so many of the theorem being read before
abbrev pub all_step_faults : Earlier → ℕ → Forest → List DocFault
all_step_faults earlier before no_trees = []
all_step_faults earlier before (tree t ts) =
    tested (nat_lt before most_steps) (over_fault Steps (offset_of t)) ++ step_faults earlier t
    ++ all_step_faults earlier (suc before) ts

-- a list with this word in front, of any number of parts
abbrev pub headed_faults : List ℕ → Located → List DocFault
headed_faults head t = tested (is_headed (head_of t)) (form_fault NotAForm (offset_of t))
  where
    is_headed : Option (List ℕ) → Bool
    is_headed None = false
    is_headed (Some name) = bytes_eq name head

abbrev pub side_faults : Earlier → List ℕ → ℕ → Located → List DocFault
side_faults earlier side before t = headed_faults side t ++ all_step_faults earlier before (operands t)
