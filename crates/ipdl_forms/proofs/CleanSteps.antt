-- What spells a step has no faults.
use Rattle.std.proofs.Common.{◌≡◌, ℕ, suc, ◌+◌, ◌≤◌, true, List, [], ◌∷◌, ◌++◌, length, map, Some, refl, sym, ap, subst, ◌∙◌, arith}
use Rattle.std.specs.Prelude.{nat_le, nat_lt, codes}
use Rattle.std.specs.List.{AllByRecursion}
use Rattle.std.proofs.lemmas.Bool.{le-leb, lt-ltb, eq-eqb}
use Rattle.ipdl_term.specs.Sizes.{term_nodes, most_nodes}
use Rattle.ipdl_term.specs.Rules.{Rule, RuleKind, at_reactions, at_expressions, at_protocols, Argument, expression_argument, symbol_argument, number_argument, name_argument, path_argument, width_argument, argument_kind, Heading, heading_of, heading_named, row_of, rule_word, rule_arguments}
use Rattle.ipdl_term.specs.Steps.{Direction, lr, rl, Step, plain, rev, invoke}
use Rattle.ipdl_term.specs.Terms.{Term, protocol_term, reaction_term, expression_term}
use Rattle.ipdl_tree.specs.Trees.{Located, word, number, literal, group, Forest, no_trees, tree}
use Rattle.ipdl_forms.specs.Limits.{IsStepWithin}
use Rattle.ipdl_forms.specs.Lists.{tree_count, tree_at, without_first, parts_of, number_in, head_of, operands, operand}
use Rattle.ipdl_forms.specs.Scopes.{NameScope}
use Rattle.ipdl_forms.specs.Steps.{Earlier, AreNumbers, SpellsPath, all_number_faults, path_faults, SpellsArgument, SpellsArguments, argument_faults, all_argument_faults, SpellsRule, has_arguments, place_faults, is_reversible, SpellsTerm, term_faults, reversed_faults, direction_word, is_direction_word, ArePairs, all_pair_faults, SpellsStep, step_scope, step_faults, AreSteps, all_step_faults, most_steps, headed_faults, SpellsSide, side_faults, first_name}
use Rattle.ipdl_forms.specs.Widths.{greatest_width, width_faults}
use Rattle.ipdl_forms.proofs.Faults.{clean-append}
use Rattle.ipdl_forms.proofs.RuleWords.{heading_named-word, not_rev, not_use}
use Rattle.ipdl_forms.proofs.Terms.{clean_expression, clean_protocol, clean_reaction}
use Rattle.ipdl_forms.proofs.TreeForms.{with_head, first_name_head, count_after_list, bytes_eq-itself}

-- ---- paths and widths

clean_numbers : (path : List ℕ) (ts : Forest) → AreNumbers path ts → all_number_faults ts ≡ []
clean_numbers [] no_trees s = refl
clean_numbers [] (tree t ts) s = absurd s
clean_numbers (n ∷ ns) no_trees s = absurd s
clean_numbers (n ∷ ns) (tree t ts) s = rw (s.0, clean_numbers ns ts s.1) refl

pub clean_path : (path : List ℕ) (t : Located) → SpellsPath path t → path_faults t ≡ []
clean_path path t s = rw (s.0, clean_numbers path (parts_of t) s.1) refl

pub clean_width : (most w : ℕ) (t : Located) → number_in t ≡ Some w → w ≤ most → width_faults most t ≡ []
clean_width most w (word pos name) is few = cc
clean_width most w (number pos n) is few =
    let same : n ≡ w = cc in let holds : nat_le n most ≡ true = le-leb n most (subst (λ x. x ≤ most) (sym same) few) in rw holds refl
clean_width most w (literal pos bits) is few = cc
clean_width most w (group pos ts) is few = cc

-- ---- the arguments of a rule

clean_argument : (scope : NameScope) (a : Argument) (t : Located) → SpellsArgument scope a t → argument_faults scope (argument_kind a) t ≡ []
clean_argument scope (expression_argument binders e) t s = clean_expression scope e t s
clean_argument scope (symbol_argument f) (word pos name) s = rw s refl
clean_argument scope (symbol_argument f) (number pos n) s = cc
clean_argument scope (symbol_argument f) (literal pos bits) s = cc
clean_argument scope (symbol_argument f) (group pos ts) s = cc
clean_argument scope (number_argument k) t s = rw s refl
clean_argument scope (name_argument c) t s = rw s refl
clean_argument scope (path_argument path) t s = clean_path path t s
clean_argument scope (width_argument w) t s = clean_width greatest_width w t s.0 s.1

clean_arguments : (scope : NameScope) (more : List Argument) (ts : Forest) → SpellsArguments scope more ts → all_argument_faults scope (map argument_kind more) ts ≡ []
clean_arguments scope [] no_trees s = refl
clean_arguments scope [] (tree t ts) s = absurd s
clean_arguments scope (a ∷ more) no_trees s = absurd s
clean_arguments scope (a ∷ more) (tree t ts) s =
    rw (clean_argument scope a t s.0, clean_arguments scope more ts s.1) refl

argument_count : (scope : NameScope) (more : List Argument) (ts : Forest) → SpellsArguments scope more ts → tree_count ts ≡ length (map argument_kind more)
argument_count scope [] no_trees s = refl
argument_count scope [] (tree t ts) s = absurd s
argument_count scope (a ∷ more) no_trees s = absurd s
argument_count scope (a ∷ more) (tree t ts) s = ap suc (argument_count scope more ts s.1)

-- ---- a rule at a place

clean_place : (scope : NameScope) (path : List ℕ) (a : Rule) (t : Located) → SpellsRule scope path a t → place_faults scope (Some (heading_of a)) (operands t) ≡ []
clean_place scope path a t s =
    rw (clean_path path (operand 0 t) s.1) (clean_arguments scope (rule_arguments a) (without_first (operands t)) s.2)

-- the list of a rule has the parts that the rule asks for
clean_form : (scope : NameScope) (path : List ℕ) (a : Rule) (t : Located) → SpellsRule scope path a t → has_arguments (Some (heading_of a)) (tree_count (operands t)) ≡ true
clean_form scope path a t s =
    let count : tree_count (operands t) ≡ suc (length (map argument_kind (rule_arguments a))) = count_after_list (operands t) s.1.0 ∙ ap suc (argument_count scope (rule_arguments a) (without_first (operands t)) s.2) in
    eq-eqb (tree_count (operands t)) (suc (length (map argument_kind (rule_arguments a)))) count

-- what is known of the rule by its list
heading_in : (scope : NameScope) (path : List ℕ) (a : Rule) (t : Located) → SpellsRule scope path a t → heading_named (first_name t) ≡ Some (heading_of a)
heading_in scope path a t s = ap heading_named (first_name_head t (rule_word a) s.0) ∙ heading_named-word a

-- ---- the TERM of a step backwards

clean_term : (scope : NameScope) (kind : RuleKind) (heading : Heading) (term : Term) (t : Located) → heading.kind ≡ kind → SpellsTerm scope kind term t → term_nodes term ≤ most_nodes → term_faults scope (Some heading) t ≡ []
clean_term scope at_protocols heading (protocol_term p) t is s few = rw is (clean_protocol scope p t s few)
clean_term scope at_protocols heading (reaction_term r) t is s few = absurd s
clean_term scope at_protocols heading (expression_term e) t is s few = absurd s
clean_term scope at_reactions heading (reaction_term r) t is s few = rw is (clean_reaction scope r t s few)
clean_term scope at_reactions heading (protocol_term p) t is s few = absurd s
clean_term scope at_reactions heading (expression_term e) t is s few = absurd s
clean_term scope at_expressions heading term t is s few = absurd s

reversible : (scope : NameScope) (kind : RuleKind) (heading : Heading) (term : Term) (t : Located) → heading.kind ≡ kind → SpellsTerm scope kind term t → is_reversible (Some heading) ≡ true
reversible scope at_protocols heading term t is s = rw is refl
reversible scope at_reactions heading term t is s = rw is refl
reversible scope at_expressions heading term t is s = absurd s

-- ---- pairs

clean_pairs : (before : List (List ℕ)) (ps : List (List ℕ × List ℕ)) (ts : Forest) → ArePairs before ps ts → all_pair_faults before ts ≡ []
clean_pairs before [] no_trees s = refl
clean_pairs before [] (tree t ts) s = absurd s
clean_pairs before (p ∷ ps) no_trees s = absurd s
clean_pairs before (p ∷ ps) (tree (word pos name) ts) s = absurd (omega (arith, s.0))
clean_pairs before (p ∷ ps) (tree (number pos n) ts) s = absurd (omega (arith, s.0))
clean_pairs before (p ∷ ps) (tree (literal pos bits) ts) s = absurd (omega (arith, s.0))
clean_pairs before (p ∷ ps) (tree (group pos us) ts) s =
    rw (s.0, s.1, s.2, s.3) (clean_pairs (before ++ p.0 ∷ []) ps ts s.4)

-- ---- steps

known_direction : (direction : Direction) → is_direction_word (direction_word direction) ≡ true
known_direction lr = refl
known_direction rl = refl

clean_plain : (earlier : Earlier) (path : List ℕ) (a : Rule) (t : Located) → SpellsStep earlier (plain path a) t → step_faults earlier t ≡ []
clean_plain earlier path a t s =
    with_head (λ u. SpellsStep earlier (plain path a) u → step_faults earlier u ≡ []) t (rule_word a) s.0 (λ pos at ts h. at_group pos at ts h) s
  where
    at_group : (pos at : ℕ) (ts : Forest) → SpellsStep earlier (plain path a) (group pos (tree (word at (rule_word a)) ts)) → step_faults earlier (group pos (tree (word at (rule_word a)) ts)) ≡ []
    at_group pos at ts h =
        rw (not_rev a, not_use a, heading_named-word a, clean_form (step_scope earlier) path a (group pos (tree (word at (rule_word a)) ts)) h) (clean_place (step_scope earlier) path a (group pos (tree (word at (rule_word a)) ts)) h)

clean_reversed : (scope : NameScope) (path : List ℕ) (a : Rule) (term : Term) (t u : Located) → SpellsRule scope path a t → SpellsTerm scope (row_of a).kind term u → reversed_faults scope (Some (heading_of a)) t ≡ []
clean_reversed scope path a term t u s back =
    rw (clean_form scope path a t s, reversible scope (row_of a).kind (heading_of a) term u refl back) (clean_place scope path a t s)

clean_rev : (earlier : Earlier) (path : List ℕ) (a : Rule) (term : Term) (t : Located) → SpellsStep earlier (rev path a term) t → term_nodes term ≤ most_nodes → step_faults earlier t ≡ []
clean_rev earlier path a term t s few =
    with_head (λ u. SpellsStep earlier (rev path a term) u → step_faults earlier u ≡ []) t (codes "rev") s.0.0 (λ pos at ts h. at_group pos at ts h) s
  where
    at_group : (pos at : ℕ) (ts : Forest) → SpellsStep earlier (rev path a term) (group pos (tree (word at (codes "rev")) ts)) → step_faults earlier (group pos (tree (word at (codes "rev")) ts)) ≡ []
    at_group pos at ts h =
        rw (h.0.1, heading_in (step_scope earlier) path a (tree_at 0 ts) h.1, clean_reversed (step_scope earlier) path a term (tree_at 0 ts) (tree_at 1 ts) h.1 h.2) (clean_term (step_scope earlier) (row_of a).kind (heading_of a) term (tree_at 1 ts) refl h.2 few)

clean_invoke : (earlier : Earlier) (path name : List ℕ) (direction : Direction) (pairs : List (List ℕ × List ℕ)) (t : Located) → SpellsStep earlier (invoke path name direction pairs) t → step_faults earlier t ≡ []
clean_invoke earlier path name direction pairs t s =
    with_head (λ u. SpellsStep earlier (invoke path name direction pairs) u → step_faults earlier u ≡ []) t (codes "use") s.0.0 (λ pos at ts h. at_group pos at ts h) s
  where
    at_group : (pos at : ℕ) (ts : Forest) → SpellsStep earlier (invoke path name direction pairs) (group pos (tree (word at (codes "use")) ts)) → step_faults earlier (group pos (tree (word at (codes "use")) ts)) ≡ []
    at_group pos at ts h =
        rw (h.0.1, h.1, h.2, clean_path path (tree_at 1 ts) h.3, h.4, known_direction direction, h.5) (clean_pairs [] pairs (parts_of (tree_at 3 ts)) h.6)

pub clean_step : (earlier : Earlier) (m : Step) (t : Located) → SpellsStep earlier m t → IsStepWithin m → step_faults earlier t ≡ []
clean_step earlier (plain path a) t s few = clean_plain earlier path a t s
clean_step earlier (rev path a term) t s few = clean_rev earlier path a term t s few
clean_step earlier (invoke path name direction pairs) t s few = clean_invoke earlier path name direction pairs t s

-- ---- scripts

pub clean_steps : (earlier : Earlier) (before : ℕ) (ms : List Step) (ts : Forest) → AreSteps earlier ms ts → AllByRecursion IsStepWithin ms → before + length ms ≤ most_steps → all_step_faults earlier before ts ≡ []
clean_steps earlier before [] no_trees s within few = refl
clean_steps earlier before [] (tree t ts) s within few = absurd s
clean_steps earlier before (m ∷ ms) no_trees s within few = absurd s
clean_steps earlier before (m ∷ ms) (tree t ts) s within few =
    let first : nat_lt before most_steps ≡ true = lt-ltb before most_steps (omega arith) in
    let rest : suc before + length ms ≤ most_steps = omega arith in
    rw (first, clean_step earlier m t s.0 within.0) (clean_steps earlier (suc before) ms ts s.1 within.1 rest)

pub clean_head : (head : List ℕ) (t : Located) → head_of t ≡ Some head → headed_faults head t ≡ []
clean_head head t is = with_head (λ u. headed_faults head u ≡ []) t head is (λ pos at ts. rw (bytes_eq-itself head) refl)

pub clean_side : (earlier : Earlier) (side : List ℕ) (before : ℕ) (ms : List Step) (t : Located) → SpellsSide earlier side ms t → AllByRecursion IsStepWithin ms → before + length ms ≤ most_steps → side_faults earlier side before t ≡ []
clean_side earlier side before ms t s within few =
    clean-append (headed_faults side t) (all_step_faults earlier before (operands t)) (clean_head side t s.0) (clean_steps earlier before ms (operands t) s.1 within few)
