-- The tests of a step: when one passes, and which of several is told.
use Rattle.std.proofs.Common.{◌≡◌, ℕ, ◌≤◌, nat_le, Bool, true, false, List, [], ◌∷◌, ◌++◌, Option, Some, None, refl, ap}
use Rattle.std.proofs.lemmas.Bool.{leb-true, le-leb}
use Rattle.std.specs.List.{AllByRecursion}
use Rattle.std.specs.Option.{option_or}
use Rattle.std.specs.Prelude.{option_map, if◌then◌else◌}
use Rattle.ipdl_base.specs.Limits.{limit_number}
use Rattle.ipdl_base.specs.declared.limit.Limit.{Limit}
use Rattle.ipdl_base.specs.declared.limit.Limit.TheVariants.{Nodes, Channels, Depth}
use Rattle.ipdl_script.specs.Instances.{Answer, other_shape, gives}
use Rattle.ipdl_script.specs.Steps.{Setting, KeepsLimits, Refusal, ill_typed, AllPass, refused_unless, limit_test, variable_test, nodes_test, channels_test, depth_test, type_test, extent_tests, first_refusal}
use Rattle.ipdl_term.specs.Sizes.{most_nodes, protocol_nodes, channel_count, printed_depth, greatest_printed_depth}
use Rattle.ipdl_term.specs.Terms.{Protocol, Term}
use Rattle.ipdl_term.specs.Typing.{HasInterface}
use Rattle.ipdl_typing.proofs.ProtocolTyping.{HasInterface-clean}
use Rattle.ipdl_typing.proofs.Typed.{interface-HasInterface}
use Rattle.ipdl_typing.specs.Checks.{Failure, first_failure}
use Rattle.ipdl_typing.specs.Interfaces.{interface_failures}

pub none_of_map : {X Y : Type 0} (f : X → Y) (a : Option X) → option_map f a ≡ None → a ≡ None
none_of_map f None h = refl
none_of_map f (Some x) h = cc

pub none_of_either : {X : Type 0} (a b : Option X) → option_or a b ≡ None → (a ≡ None) × (b ≡ None)
none_of_either None b h = (refl, h)
none_of_either (Some x) b h = cc

pub option_or-none : {X : Type 0} (a : Option X) → option_or a None ≡ a
option_or-none None = refl
option_or-none (Some x) = refl

-- ---- several tests

pub first_refusal-passed : (tests : List (Option Refusal)) → AllPass tests → first_refusal tests ≡ None
first_refusal-passed [] h = refl
first_refusal-passed (None ∷ tests) h = first_refusal-passed tests h.1
first_refusal-passed (Some refusal ∷ tests) h = let k = h.0 in cc

pub all_pass : (tests : List (Option Refusal)) → first_refusal tests ≡ None → AllPass tests
all_pass [] h = tt
all_pass (None ∷ tests) h = (refl, all_pass tests h)
all_pass (Some refusal ∷ tests) h = cc

-- those of two lists
pub all_of_both : (tests later : List (Option Refusal)) → AllPass tests → AllPass later → AllPass (tests ++ later)
all_of_both [] later h k = k
all_of_both (test ∷ tests) later h k = (h.0, all_of_both tests later h.1 k)

pub both_pass : (tests later : List (Option Refusal)) → AllPass (tests ++ later) → AllPass tests × AllPass later
both_pass [] later h = (tt, h)
both_pass (test ∷ tests) later h = let rest = both_pass tests later h.1 in ((h.0, rest.0), rest.1)

-- the one that is told is the first
pub told_first : (tests : List (Option Refusal)) (refusal : Refusal) → first_refusal tests ≡ Some refusal →
    (passed : List (Option Refusal)) × (later : List (Option Refusal)) × AllPass passed × (tests ≡ passed ++ Some refusal ∷ later)
told_first [] refusal h = cc
told_first (None ∷ tests) refusal h =
    let rest = told_first tests refusal h in
    (None ∷ rest.0, rest.1, (refl, rest.2), ap (λ ts. None ∷ ts) rest.3)
told_first (Some told ∷ tests) refusal h = ([], tests, tt, ap (λ t. t ∷ tests) h)

-- ---- single tests

pub refused_unless-true : (b : Bool) (refusal : Refusal) → b ≡ true → refused_unless b refusal ≡ None
refused_unless-true true refusal h = refl
refused_unless-true false refusal h = cc

pub true_unless : (b : Bool) (refusal : Refusal) → refused_unless b refusal ≡ None → b ≡ true
true_unless true refusal h = refl
true_unless false refusal h = cc

pub limit_test-kept : (limit : Limit) (most count : ℕ) → count ≤ most → limit_test limit most count ≡ None
limit_test-kept limit most count h = refused_unless-true (nat_le count most) _ (le-leb count most h)

pub limit_is_kept : (limit : Limit) (most count : ℕ) → limit_test limit most count ≡ None → count ≤ most
limit_is_kept limit most count h = leb-true count most (true_unless (nat_le count most) _ h)

pub no_failure : (failures : List Failure) → option_map ill_typed (first_failure failures) ≡ None → failures ≡ []
no_failure [] h = refl
no_failure (failure ∷ failures) h = cc

pub type_passes : (x : Setting) (p : Protocol) → HasInterface x.sig x.interface p → type_test x p ≡ None
type_passes x p typed = ap (λ fs. option_map ill_typed (first_failure fs)) (interface-HasInterface x.sig x.interface p typed)

pub passed_type : (x : Setting) (p : Protocol) → type_test x p ≡ None → HasInterface x.sig x.interface p
passed_type x p h = HasInterface-clean x.sig x.interface p (no_failure (interface_failures x.sig x.interface p) h)

pub all_bound : (unsettled : Option ℕ) → variable_test unsettled ≡ None → unsettled ≡ None
all_bound None h = refl
all_bound (Some number) h = cc

-- ---- the limits of whole terms

pub extent_is_kept : (p : Protocol) → nodes_test p ≡ None → channels_test p ≡ None → depth_test p ≡ None → KeepsLimits p
extent_is_kept p nodes channels depth = record {
  nodes = limit_is_kept Nodes most_nodes (protocol_nodes p) nodes;
  channels = limit_is_kept Channels (limit_number Channels) (channel_count p) channels;
  depth = limit_is_kept Depth greatest_printed_depth (printed_depth p) depth;
}

pub extent_passes : (p : Protocol) → KeepsLimits p → (nodes_test p ≡ None) × (channels_test p ≡ None) × (depth_test p ≡ None)
extent_passes p h = (
  limit_test-kept Nodes most_nodes (protocol_nodes p) h.nodes,
  limit_test-kept Channels (limit_number Channels) (channel_count p) h.channels,
  limit_test-kept Depth greatest_printed_depth (printed_depth p) h.depth,
)

pub extents_pass : (terms : List Protocol) → AllByRecursion KeepsLimits terms → AllPass (extent_tests terms)
extents_pass [] h = tt
extents_pass (term ∷ terms) h = let fits = extent_passes term h.0 in (fits.0, (fits.1, (fits.2, extents_pass terms h.1)))

pub extents_are_kept : (terms : List Protocol) → AllPass (extent_tests terms) → AllByRecursion KeepsLimits terms
extents_are_kept [] h = tt
extents_are_kept (term ∷ terms) h = (extent_is_kept term h.0 h.1.0 h.1.1.0, extents_are_kept terms h.1.1.1)

-- ---- what a rule answers to a term, the part being of its kind

pub answer_of_kind : (b : Bool) (answer : Answer) (right : Term) → b ≡ true → answer ≡ gives right → (if b then answer else other_shape) ≡ gives right
answer_of_kind true answer right h e = e
answer_of_kind false answer right h e = cc

pub kind_of_answer : (b : Bool) (answer : Answer) (right : Term) → (if b then answer else other_shape) ≡ gives right → (b ≡ true) × (answer ≡ gives right)
kind_of_answer true answer right h = (refl, h)
kind_of_answer false answer right h = cc
