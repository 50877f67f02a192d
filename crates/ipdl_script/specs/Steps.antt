-- Steps: from which whole term to which other one a step leads, and the tests that refuse a step, in their order.
use Rattle.std.specs.Prelude.{◌≡◌, ℕ, ◌≤◌, nat_le, Bool, true, false, ◌&&◌, List, [], ◌∷◌, ◌++◌, length, map, Option, Some, None, is_some, option_map, if◌then◌else◌}
use Rattle.std.specs.List.{AllByRecursion}
use Rattle.std.specs.Option.{option_or}
use Rattle.ipdl_base.specs.Limits.{limit_number}
use Rattle.ipdl_base.specs.declared.limit.Limit.{Limit}
use Rattle.ipdl_base.specs.declared.limit.Limit.TheVariants.{Nodes, Channels, Depth}
use Rattle.ipdl_chain.specs.Chains.{Link, Chain}
use Rattle.ipdl_embed.specs.Completing.{completed}
use Rattle.ipdl_embed.specs.Pairs.{Pairs}
use Rattle.ipdl_forms.specs.Documents.{Entry}
use Rattle.ipdl_term.specs.Interpretations.{Signature}
use Rattle.ipdl_term.specs.Places.{protocol_or, term_at, term_with, context_at}
use Rattle.ipdl_term.specs.Rules.{RuleKind, at_reactions, at_expressions, at_protocols, row_of}
use Rattle.ipdl_term.specs.Same.{same_term}
use Rattle.ipdl_term.specs.Sizes.{most_nodes, term_nodes, protocol_nodes, channel_count, printed_depth, greatest_printed_depth}
use Rattle.ipdl_term.specs.Steps.{Direction, Step, plain, rev, invoke}
use Rattle.ipdl_term.specs.Surroundings.{Surroundings, outermost, around}
use Rattle.ipdl_term.specs.Terms.{Channel, Protocol, Context, Term, protocol_term, reaction_term, expression_term}
use Rattle.ipdl_term.specs.Typing.{Scope, scope_of, HasInterface}
use Rattle.ipdl_term.specs.declared.interface.Interface.{Interface}
use Rattle.ipdl_typing.specs.Checks.{Failure, first_failure}
use Rattle.ipdl_typing.specs.Interfaces.{interface_failures}
use Rattle.ipdl_rules_r.specs.TruthTests.{TruthRefusal}
use Rattle.ipdl_uses.specs.Lemmas.{Lemma, right_of}
use Rattle.ipdl_uses.specs.Meanings.{Sides}
use Rattle.ipdl_uses.specs.Usable.{IsUsable, UseRefusal, use_refusal}
use Rattle.ipdl_uses.specs.Usable as U
use Rattle.ipdl_uses.specs.Uses.{used}
use Rattle.ipdl_script.specs.Instances.{IsInstanceAt, Answer, other_shape, failing, gives, answer_at, truth_at}
use Rattle.ipdl_script.specs.Known.{Proved, lemma_among, sides_named}
use Rattle.ipdl_script.specs.Settling.{unsettled_in_step, settled_step}

-- what the steps of a theorem are checked against: the symbols and the items of the document, the theorems before it, and
-- the interface of its left protocol
pub record Setting : Type 0 where
  pub sig : Signature
  pub entries : List Entry
  pub theorems : List Proved
  pub interface : Interface

-- what a step may use by this name
abbrev pub lemma_named : Setting → (name : List ℕ) → Option Lemma
lemma_named x name = lemma_among x.entries x.theorems name

-- the sides of the assumption of the name
abbrev pub assumed_in : Setting → (name : List ℕ) → Option Sides
assumed_in x name = sides_named x.entries name

-- the channels of the interface
abbrev pub scope_in : Setting → Scope
scope_in x = scope_of (x.interface.inputs ++ x.interface.outputs)

abbrev pub place_of : Step → List ℕ
place_of (plain place rule) = place
place_of (rev place rule term) = place
place_of (invoke place name direction pairs) = place

-- what is around a place in a whole term
abbrev pub around_place : Setting → Protocol → (place : List ℕ) → Surroundings
around_place x whole place = around (outermost (scope_in x)) (protocol_term whole) place

-- what is around the place of a step
abbrev pub around_step : Setting → Protocol → Step → Surroundings
around_step x before step = around_place x before (place_of step)

-- the number of binders around it
abbrev pub depth_at : Setting → Protocol → Step → ℕ
depth_at x before step = length (around_step x before step).widths

-- the step with its outer variables settled there
abbrev pub settled_there : Setting → Protocol → Step → Step
settled_there x before step = settled_step (depth_at x before step) step

-- ---- the relation

-- ---- uses

-- what is used where there is something of the name, and a protocol at the place
abbrev pub used_at : (before : Protocol) → (place name : List ℕ) → Direction → Pairs → Option Lemma → Option Context → Chain
used_at before place name direction pairs (Some lemma) (Some C) =
    used direction (record { name = name; place = place; around = C; pairs = completed lemma.interface pairs }) lemma.chain
used_at before place name direction pairs (Some lemma) None = record { first = before; links = [] }
used_at before place name direction pairs None C = record { first = before; links = [] }

-- the neighbours that the use gives there
abbrev pub used_there : Setting → (before : Protocol) → (place name : List ℕ) → Direction → Pairs → Chain
used_there x before place name direction pairs =
    used_at before place name direction pairs (lemma_named x name) (context_at before place)

-- the terms that are added
abbrev pub further_terms : Chain → List Protocol
further_terms chain = map (λ (link : Link). link.term) chain.links

-- ---- rules

-- whether a rule of this kind has a step back: at expressions there is none
abbrev pub is_reversible : RuleKind → Bool
is_reversible at_expressions = false
is_reversible _ = true

-- The two parts are the sides of the rule: the old one is the left side, or for `rev` the new one, which is written out.
abbrev pub IsChange : Setting → Surroundings → Step → (old new : Term) → Type 0
IsChange x there (plain place rule) old new = IsInstanceAt x.sig there rule old new
IsChange x there (rev place rule term) old new =
    (new ≡ term) × (is_reversible (row_of rule).kind ≡ true) × IsInstanceAt x.sig there rule new old
IsChange x there (invoke place name direction pairs) old new = ⊥

-- the right side of the rule, which it makes of the other one
abbrev pub result_side : Step → (old new : Term) → Term
result_side (plain place rule) old new = new
result_side (rev place rule term) old new = old
result_side (invoke place name direction pairs) old new = new

-- the whole term is within the limits
pub record KeepsLimits (p : Protocol) : Type 0 where
  pub nodes : protocol_nodes p ≤ most_nodes
  pub channels : channel_count p ≤ limit_number Channels
  pub depth : printed_depth p ≤ greatest_printed_depth

-- The step by a rule leads from the one whole term to the other: its place is there, and the part at it becomes the other
-- side of the rule.
pub record IsRuleStep (x : Setting) (before : Protocol) (step : Step) (after : Protocol) : Type 0 where
  pub old : Term
  pub new : Term
  pub place : term_at (protocol_term before) (place_of step) ≡ Some old
  pub bound : unsettled_in_step (depth_at x before step) step ≡ None
  pub change : IsChange x (around_step x before step) (settled_there x before step) old new
  pub small : term_nodes (result_side step old new) ≤ most_nodes
  pub whole : term_with (protocol_term before) (place_of step) new ≡ protocol_term after
  pub within : KeepsLimits after
  pub typed : HasInterface x.sig x.interface after

-- The lemma of the name is used at the place, under pairs for all of its channels: it gives this chain, whose terms are all
-- within the limits, and which leads to the other whole term.
pub record IsUseStep (x : Setting) (before : Protocol) (place name : List ℕ) (direction : Direction) (pairs : Pairs) (after : Protocol) : Type 0 where
  pub lemma : Lemma
  pub part : Protocol
  pub there : lemma_named x name ≡ Some lemma
  pub at_place : term_at (protocol_term before) place ≡ Some (protocol_term part)
  pub usable : IsUsable lemma direction part (around_place x before place).scope pairs
  pub within : AllByRecursion KeepsLimits (further_terms (used_there x before place name direction pairs))
  pub leads : right_of (used_there x before place name direction pairs) ≡ after
  pub typed : HasInterface x.sig x.interface after

abbrev pub IsStep : Setting → (before : Protocol) → Step → (after : Protocol) → Type 0
IsStep x before (plain place rule) after = IsRuleStep x before (plain place rule) after
IsStep x before (rev place rule term) after = IsRuleStep x before (rev place rule term) after
IsStep x before (invoke place name direction pairs) after = IsUseStep x before place name direction pairs after

-- ---- what the tests look at

abbrev pub is_of_kind : RuleKind → Term → Bool
is_of_kind at_protocols (protocol_term p) = true
is_of_kind at_reactions (reaction_term r) = true
is_of_kind at_expressions (expression_term e) = true
is_of_kind _ _ = false

-- what the rule of a settled step answers to the part at the place, or for `rev` to the term that is written out
abbrev pub answer_to : Setting → Surroundings → Step → (part : Option Term) → Answer
answer_to x there (plain place rule) (Some part) =
    if is_of_kind (row_of rule).kind part then answer_at x.sig there rule part else other_shape
answer_to x there (rev place rule term) (Some part) =
    if is_reversible (row_of rule).kind && is_of_kind (row_of rule).kind part then answer_at x.sig there rule term
    else other_shape
answer_to x there _ _ = other_shape

-- the whole term with the new part at the place, where there is one
abbrev pub changed : Protocol → Step → Answer → Protocol
changed before (plain place rule) (gives right) = protocol_or before (term_with (protocol_term before) place right)
changed before (rev place rule term) (gives right) = protocol_or before (term_with (protocol_term before) place term)
changed before _ _ = before

-- ---- the tests: each tells why a step is refused, and none where it passes

pub data Refusal : Type 0 where
  no_place : Refusal
  no_variable : (number : ℕ) → Refusal
  no_match : Refusal
  side_fails : (number : ℕ) → Refusal
  not_result : Refusal
  ill_typed : Failure → Refusal
  over : Limit → Refusal
  untrue : TruthRefusal → Refusal
  no_channel : Channel → Refusal
  not_injective : (first second : Channel) → Refusal
  captured : Channel → Refusal
  no_port : Channel → Refusal

abbrev pub refused_unless : Bool → Refusal → Option Refusal
refused_unless true refusal = None
refused_unless false refusal = Some refusal

abbrev pub limit_test : Limit → (most count : ℕ) → Option Refusal
limit_test limit most count = refused_unless (nat_le count most) (over limit)

-- the path leaves the term
abbrev pub place_test : (part : Option Term) → Option Refusal
place_test part = refused_unless (is_some part) no_place

-- an outer variable has no binder around the place
abbrev pub variable_test : (unsettled : Option ℕ) → Option Refusal
variable_test unsettled = option_map no_variable unsettled

-- a term is of another kind or shape
abbrev pub match_test : Answer → Option Refusal
match_test other_shape = Some no_match
match_test _ = None

-- a side condition fails
abbrev pub side_test : Answer → Option Refusal
side_test (failing number) = Some (side_fails number)
side_test _ = None

-- the right side of the rule has too many nodes
abbrev pub size_test : Answer → Option Refusal
size_test (gives right) = limit_test Nodes most_nodes (term_nodes right)
size_test _ = None

-- for `rev`, the right side is not the part at the place
abbrev pub result_test : Step → (part : Option Term) → Answer → Option Refusal
result_test (rev place rule term) (Some part) (gives right) = refused_unless (same_term right part) not_result
result_test _ _ _ = None

-- the new whole term has too many nodes, too many channels, or is too deep in print
abbrev pub nodes_test : (after : Protocol) → Option Refusal
nodes_test after = limit_test Nodes most_nodes (protocol_nodes after)

abbrev pub channels_test : (after : Protocol) → Option Refusal
channels_test after = limit_test Channels (limit_number Channels) (channel_count after)

abbrev pub depth_test : (after : Protocol) → Option Refusal
depth_test after = limit_test Depth greatest_printed_depth (printed_depth after)

-- it is not well typed at the interface
abbrev pub type_test : Setting → (after : Protocol) → Option Refusal
type_test x after = option_map ill_typed (first_failure (interface_failures x.sig x.interface after))

-- the part at the place and the right side of the rule are not shown to be equal there
abbrev pub truth_test : Setting → Surroundings → Step → (part : Option Term) → Answer → Option Refusal
truth_test x there (plain place rule) (Some part) (gives right) = option_map untrue (truth_at x.sig there rule part)
truth_test _ _ _ _ _ = None

-- ---- the tests of a use

-- the protocol of a part
abbrev pub protocol_in : Option Term → Option Protocol
protocol_in (Some (protocol_term p)) = Some p
protocol_in _ = None

-- why a step is refused whose use is
abbrev pub refusal_of_use : UseRefusal → Refusal
refusal_of_use (U.no_channel c) = no_channel c
refusal_of_use (U.not_injective c d) = not_injective c d
refusal_of_use (U.captured c) = captured c
refusal_of_use U.not_side = no_match
refusal_of_use (U.no_port c) = no_port c

-- what is of the name may not be used there, or nothing has the name
abbrev pub use_test : Option Lemma → Direction → (part : Option Term) → Scope → Pairs → Option Refusal
use_test (Some lemma) direction part scope pairs =
    option_map refusal_of_use (use_refusal lemma direction (protocol_in part) scope pairs)
use_test None direction part scope pairs = Some no_match

-- a whole term that is added is too large
abbrev pub extent_tests : List Protocol → List (Option Refusal)
extent_tests [] = []
extent_tests (term ∷ terms) = nodes_test term ∷ channels_test term ∷ depth_test term ∷ extent_tests terms

-- the tests in their order
abbrev pub use_tests : Setting → (before : Protocol) → (place name : List ℕ) → Direction → Pairs → List (Option Refusal)
use_tests x before place name direction pairs =
    let added = used_there x before place name direction pairs in
    let part = term_at (protocol_term before) place in
    place_test part
    ∷ use_test (lemma_named x name) direction part (around_place x before place).scope pairs
    ∷ extent_tests (further_terms added) ++ type_test x (right_of added) ∷ []

-- ---- all tests of a step

-- the tests in their order, of a settled step, what is around its place and the part there, and what its rule answers
abbrev pub tests_of : Setting → Protocol → Surroundings → Step → (unsettled : Option ℕ) → (part : Option Term) → Answer → List (Option Refusal)
tests_of x before there step unsettled part answered =
    let after = changed before step answered in
    place_test part
    ∷ variable_test unsettled
    ∷ match_test answered
    ∷ side_test answered
    ∷ size_test answered
    ∷ result_test step part answered
    ∷ nodes_test after
    ∷ channels_test after
    ∷ depth_test after
    ∷ type_test x after
    ∷ truth_test x there step part answered
    ∷ []

-- the part at the place of a step
abbrev pub part_of : Protocol → Step → Option Term
part_of before step = term_at (protocol_term before) (place_of step)

abbrev pub answered_there : Setting → Protocol → Step → Answer
answered_there x before step = answer_to x (around_step x before step) (settled_there x before step) (part_of before step)

-- those of a step by a rule
abbrev pub rule_tests : Setting → Protocol → Step → List (Option Refusal)
rule_tests x before step =
    tests_of x before (around_step x before step) (settled_there x before step)
    (unsettled_in_step (depth_at x before step) step) (part_of before step) (answered_there x before step)

abbrev pub step_tests : Setting → Protocol → Step → List (Option Refusal)
step_tests x before (plain place rule) = rule_tests x before (plain place rule)
step_tests x before (rev place rule term) = rule_tests x before (rev place rule term)
step_tests x before (invoke place name direction pairs) = use_tests x before place name direction pairs

-- the first refusal of some tests
abbrev pub first_refusal : List (Option Refusal) → Option Refusal
first_refusal [] = None
first_refusal (test ∷ tests) = option_or test (first_refusal tests)

-- all of them pass
abbrev pub AllPass : List (Option Refusal) → Type 0
AllPass [] = Unit {0}
AllPass (test ∷ tests) = (test ≡ None) × AllPass tests

-- why the step is refused, none where it stands
abbrev pub step_refusal : Setting → Protocol → Step → Option Refusal
step_refusal x before step = first_refusal (step_tests x before step)

-- the whole term to which a step by a rule leads that stands
abbrev pub after_rule : Setting → Protocol → Step → Protocol
after_rule x before step = changed before (settled_there x before step) (answered_there x before step)

-- that of a step
abbrev pub after_step : Setting → Protocol → Step → Protocol
after_step x before (plain place rule) = after_rule x before (plain place rule)
after_step x before (rev place rule term) = after_rule x before (rev place rule term)
after_step x before (invoke place name direction pairs) = right_of (used_there x before place name direction pairs)
