-- The steps that trees spell do not depend on their offsets.
use Rattle.std.proofs.Common.{◌≡◌, ℕ, true, List, [], ◌∷◌, ◌++◌, Some, refl, sym, ap, ◌∙◌}
use Rattle.std.specs.Prelude.{codes}
use Rattle.ipdl_term.specs.Rules.{Rule, RuleKind, at_reactions, at_expressions, at_protocols, Argument, expression_argument, symbol_argument, number_argument, name_argument, path_argument, width_argument, row_of, rule_word, rule_arguments}
use Rattle.ipdl_term.specs.Steps.{Step, plain, rev, invoke}
use Rattle.ipdl_term.specs.Terms.{Term, protocol_term, reaction_term, expression_term}
use Rattle.ipdl_tree.specs.Trees.{Located, word, number, literal, group, Forest, no_trees, tree, without_offsets, all_without_offsets}
use Rattle.ipdl_forms.specs.Lists.{tree_count, tree_at, without_first, parts_of, is_list, number_in, head_of, operands, operand}
use Rattle.ipdl_forms.specs.Scopes.{NameScope}
use Rattle.ipdl_forms.specs.Steps.{Earlier, step_scope, AreNumbers, SpellsPath, symbol_in, SpellsArgument, SpellsArguments, SpellsRule, SpellsTerm, direction_word, ArePairs, SpellsStep, AreSteps, SpellsSide}
use Rattle.ipdl_forms.proofs.Offsetless.{AreAlike, kept, number_in-offsetless, parts_of-offsetless, part_count-offsetless, head_of-offsetless, operands-offsetless, without_first-offsetless, operands_alike, parts_alike, form_alike, word_alike, width_alike, SpellsExpression-offsetless, SpellsReaction-offsetless, SpellsProtocol-offsetless}

-- ---- lists of trees

abbrev pub AreAllAlike : Forest → Forest → Type 0
AreAllAlike ts us = all_without_offsets ts ≡ all_without_offsets us

pub first_alike : (t u : Located) (ts us : Forest) → AreAllAlike (tree t ts) (tree u us) → AreAlike t u
first_alike t u ts us alike = cc

pub rest_alike : (t u : Located) (ts us : Forest) → AreAllAlike (tree t ts) (tree u us) → AreAllAlike ts us
rest_alike t u ts us alike = cc

pub all_parts_alike : (t u : Located) → AreAlike t u → AreAllAlike (parts_of t) (parts_of u)
all_parts_alike t u alike = sym (parts_of-offsetless t) ∙ ap parts_of alike ∙ parts_of-offsetless u

pub all_operands_alike : (t u : Located) → AreAlike t u → AreAllAlike (operands t) (operands u)
all_operands_alike t u alike = sym (operands-offsetless t) ∙ ap operands alike ∙ operands-offsetless u

pub without_first_alike : (ts us : Forest) → AreAllAlike ts us → AreAllAlike (without_first ts) (without_first us)
without_first_alike ts us alike = sym (without_first-offsetless ts) ∙ ap without_first alike ∙ without_first-offsetless us

pub number_alike : (n : ℕ) (t u : Located) → AreAlike t u → number_in t ≡ Some n → number_in u ≡ Some n
number_alike n t u alike is = sym (kept number_in number_in-offsetless t u alike) ∙ is

pub head_alike : (head : List ℕ) (t u : Located) → AreAlike t u → head_of t ≡ Some head → head_of u ≡ Some head
head_alike head t u alike is = sym (kept head_of head_of-offsetless t u alike) ∙ is

is_list-offsetless : (t : Located) → is_list (without_offsets t) ≡ is_list t
is_list-offsetless (word pos name) = refl
is_list-offsetless (number pos n) = refl
is_list-offsetless (literal pos bits) = refl
is_list-offsetless (group pos ts) = refl

is_list_alike : (t u : Located) → AreAlike t u → is_list t ≡ true → is_list u ≡ true
is_list_alike t u alike is = sym (kept is_list is_list-offsetless t u alike) ∙ is

symbol_in-offsetless : (scope : NameScope) (t : Located) → symbol_in scope (without_offsets t) ≡ symbol_in scope t
symbol_in-offsetless scope (word pos name) = refl
symbol_in-offsetless scope (number pos n) = refl
symbol_in-offsetless scope (literal pos bits) = refl
symbol_in-offsetless scope (group pos ts) = refl

-- ---- paths and arguments

AreNumbers-offsetless : (path : List ℕ) (ts us : Forest) → AreNumbers path ts → AreAllAlike ts us → AreNumbers path us
AreNumbers-offsetless [] no_trees no_trees is alike = tt
AreNumbers-offsetless [] no_trees (tree u us) is alike = cc
AreNumbers-offsetless [] (tree t ts) us is alike = absurd is
AreNumbers-offsetless (n ∷ ns) no_trees us is alike = absurd is
AreNumbers-offsetless (n ∷ ns) (tree t ts) no_trees is alike = cc
AreNumbers-offsetless (n ∷ ns) (tree t ts) (tree u us) is alike =
    (number_alike n t u (first_alike t u ts us alike) is.0, AreNumbers-offsetless ns ts us is.1 (rest_alike t u ts us alike))

SpellsPath-offsetless : (path : List ℕ) (t u : Located) → SpellsPath path t → AreAlike t u → SpellsPath path u
SpellsPath-offsetless path t u is alike =
    (is_list_alike t u alike is.0, AreNumbers-offsetless path (parts_of t) (parts_of u) is.1 (all_parts_alike t u alike))

SpellsArgument-offsetless : (scope : NameScope) (a : Argument) (t u : Located) → SpellsArgument scope a t → AreAlike t u → SpellsArgument scope a u
SpellsArgument-offsetless scope (expression_argument binders e) t u is alike = SpellsExpression-offsetless scope e t u is alike
SpellsArgument-offsetless scope (symbol_argument f) t u is alike = sym (kept (symbol_in scope) (symbol_in-offsetless scope) t u alike) ∙ is
SpellsArgument-offsetless scope (number_argument k) t u is alike = number_alike k t u alike is
SpellsArgument-offsetless scope (name_argument c) t u is alike = word_alike c t u alike is
SpellsArgument-offsetless scope (path_argument path) t u is alike = SpellsPath-offsetless path t u is alike
SpellsArgument-offsetless scope (width_argument w) t u is alike = width_alike w t u alike is

SpellsArguments-offsetless : (scope : NameScope) (arguments : List Argument) (ts us : Forest) → SpellsArguments scope arguments ts → AreAllAlike ts us → SpellsArguments scope arguments us
SpellsArguments-offsetless scope [] no_trees no_trees is alike = tt
SpellsArguments-offsetless scope [] no_trees (tree u us) is alike = cc
SpellsArguments-offsetless scope [] (tree t ts) us is alike = absurd is
SpellsArguments-offsetless scope (a ∷ more) no_trees us is alike = absurd is
SpellsArguments-offsetless scope (a ∷ more) (tree t ts) no_trees is alike = cc
SpellsArguments-offsetless scope (a ∷ more) (tree t ts) (tree u us) is alike =
    (SpellsArgument-offsetless scope a t u is.0 (first_alike t u ts us alike), SpellsArguments-offsetless scope more ts us is.1 (rest_alike t u ts us alike))

SpellsRule-offsetless : (scope : NameScope) (path : List ℕ) (a : Rule) (t u : Located) → SpellsRule scope path a t → AreAlike t u → SpellsRule scope path a u
SpellsRule-offsetless scope path a t u is alike = (
  head_alike (rule_word a) t u alike is.0,
  SpellsPath-offsetless path (operand 0 t) (operand 0 u) is.1 (operands_alike 0 t u alike),
  SpellsArguments-offsetless scope (rule_arguments a) (without_first (operands t)) (without_first (operands u)) is.2 (without_first_alike (operands t) (operands u) (all_operands_alike t u alike)),
)

SpellsTerm-offsetless : (scope : NameScope) (kind : RuleKind) (term : Term) (t u : Located) → SpellsTerm scope kind term t → AreAlike t u → SpellsTerm scope kind term u
SpellsTerm-offsetless scope at_protocols (protocol_term p) t u is alike = SpellsProtocol-offsetless scope p t u is alike
SpellsTerm-offsetless scope at_protocols (reaction_term r) t u is alike = absurd is
SpellsTerm-offsetless scope at_protocols (expression_term e) t u is alike = absurd is
SpellsTerm-offsetless scope at_reactions (reaction_term r) t u is alike = SpellsReaction-offsetless scope r t u is alike
SpellsTerm-offsetless scope at_reactions (protocol_term p) t u is alike = absurd is
SpellsTerm-offsetless scope at_reactions (expression_term e) t u is alike = absurd is
SpellsTerm-offsetless scope at_expressions term t u is alike = absurd is

-- ---- steps

ArePairs-offsetless : (before : List (List ℕ)) (pairs : List (List ℕ × List ℕ)) (ts us : Forest) → ArePairs before pairs ts → AreAllAlike ts us → ArePairs before pairs us
ArePairs-offsetless before [] no_trees no_trees is alike = tt
ArePairs-offsetless before [] no_trees (tree u us) is alike = cc
ArePairs-offsetless before [] (tree t ts) us is alike = absurd is
ArePairs-offsetless before (p ∷ ps) no_trees us is alike = absurd is
ArePairs-offsetless before (p ∷ ps) (tree t ts) no_trees is alike = cc
ArePairs-offsetless before (p ∷ ps) (tree t ts) (tree u us) is alike =
    let first = first_alike t u ts us alike in (
      sym (kept (λ x. tree_count (parts_of x)) part_count-offsetless t u first) ∙ is.0,
      word_alike p.0 (tree_at 0 (parts_of t)) (tree_at 0 (parts_of u)) (parts_alike 0 t u first) is.1,
      is.2,
      word_alike p.1 (tree_at 1 (parts_of t)) (tree_at 1 (parts_of u)) (parts_alike 1 t u first) is.3,
      ArePairs-offsetless (before ++ p.0 ∷ []) ps ts us is.4 (rest_alike t u ts us alike),
    )

SpellsStep-offsetless : (earlier : Earlier) (m : Step) (t u : Located) → SpellsStep earlier m t → AreAlike t u → SpellsStep earlier m u
SpellsStep-offsetless earlier (plain path a) t u is alike = SpellsRule-offsetless (step_scope earlier) path a t u is alike
SpellsStep-offsetless earlier (rev path a term) t u is alike = (
  form_alike (codes "rev") 2 t u alike is.0,
  SpellsRule-offsetless (step_scope earlier) path a (operand 0 t) (operand 0 u) is.1 (operands_alike 0 t u alike),
  SpellsTerm-offsetless (step_scope earlier) (row_of a).kind term (operand 1 t) (operand 1 u) is.2 (operands_alike 1 t u alike),
)
SpellsStep-offsetless earlier (invoke path name direction pairs) t u is alike = (
  form_alike (codes "use") 4 t u alike is.0,
  word_alike name (operand 0 t) (operand 0 u) (operands_alike 0 t u alike) is.1,
  is.2,
  SpellsPath-offsetless path (operand 1 t) (operand 1 u) is.3 (operands_alike 1 t u alike),
  word_alike (direction_word direction) (operand 2 t) (operand 2 u) (operands_alike 2 t u alike) is.4,
  is_list_alike (operand 3 t) (operand 3 u) (operands_alike 3 t u alike) is.5,
  ArePairs-offsetless [] pairs (parts_of (operand 3 t)) (parts_of (operand 3 u)) is.6 (all_parts_alike (operand 3 t) (operand 3 u) (operands_alike 3 t u alike)),
)

AreSteps-offsetless : (earlier : Earlier) (ms : List Step) (ts us : Forest) → AreSteps earlier ms ts → AreAllAlike ts us → AreSteps earlier ms us
AreSteps-offsetless earlier [] no_trees no_trees is alike = tt
AreSteps-offsetless earlier [] no_trees (tree u us) is alike = cc
AreSteps-offsetless earlier [] (tree t ts) us is alike = absurd is
AreSteps-offsetless earlier (m ∷ ms) no_trees us is alike = absurd is
AreSteps-offsetless earlier (m ∷ ms) (tree t ts) no_trees is alike = cc
AreSteps-offsetless earlier (m ∷ ms) (tree t ts) (tree u us) is alike =
    (SpellsStep-offsetless earlier m t u is.0 (first_alike t u ts us alike), AreSteps-offsetless earlier ms ts us is.1 (rest_alike t u ts us alike))

pub SpellsSide-offsetless : (earlier : Earlier) (side : List ℕ) (ms : List Step) (t u : Located) → SpellsSide earlier side ms t → AreAlike t u → SpellsSide earlier side ms u
SpellsSide-offsetless earlier side ms t u is alike =
    (head_alike side t u alike is.0, AreSteps-offsetless earlier ms (operands t) (operands u) is.1 (all_operands_alike t u alike))
