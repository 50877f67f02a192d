-- A tree at which no test of a step fails spells one, and a side of a theorem its steps.
use Rattle.std.proofs.Common.{◌≡◌, ℕ, suc, length, Bool, true, false, List, [], ◌∷◌, ◌++◌, map, refl, sym, ap, ◌∙◌, arith}
use Rattle.std.specs.Prelude.{◌==◌, ◌&&◌, nat_lt, Option, Some, None, is_some, option_map, codes, bytes_eq, if◌then◌else◌}
use Rattle.std.proofs.lemmas.Bool.{and_parts, both_ways, eqb-true}
use Rattle.std.proofs.lemmas.Slice.Eq.{bytes_eq-Decides}
use Rattle.ipdl_base.specs.declared.limit.Limit.TheVariants.{Steps}
use Rattle.ipdl_term.specs.Rules.{Rule, RuleKind, at_reactions, at_expressions, at_protocols, mask, perm, table, lin, rename, fold, subsume, rule_word, rule_arguments, argument_kind, ArgumentKind, expression_kind, symbol_kind, number_kind, name_kind, path_kind, width_kind, Heading, heading_of, heading_named, row_of}
use Rattle.ipdl_term.specs.Rules as Rules
use Rattle.ipdl_term.specs.Steps.{Direction, lr, rl, Step, plain, rev, invoke}
use Rattle.ipdl_term.specs.Terms.{Term, protocol_term, reaction_term}
use Rattle.ipdl_tree.specs.Trees.{Located, word, number, literal, group, Forest, no_trees, tree, offset_of}
use Rattle.ipdl_forms.specs.declared.fault.FormCause.TheVariants.{NotAForm}
use Rattle.ipdl_forms.specs.Faults.{form_fault, over_fault, tested, word_faults}
use Rattle.ipdl_forms.specs.Lists.{tree_count, no_tree, tree_at, parts_of, is_list, is_word, is_among, word_in, number_in, name_in, value_in, head_of, operands}
use Rattle.ipdl_forms.specs.Scopes.{NameScope}
use Rattle.ipdl_forms.specs.Steps.{Earlier, step_scope, AreNumbers, SpellsPath, number_faults, list_faults, all_number_faults, path_faults, symbol_in, SpellsArguments, has_arguments, argument_faults, all_argument_faults, SpellsRule, place_faults, rule_faults, is_reversible, SpellsTerm, term_faults, reversed_faults, rev_faults, direction_word, is_direction_word, direction_faults, ArePairs, new_name_faults, pair_faults, first_name, all_pair_faults, declared_faults, use_faults, SpellsStep, headed_step_faults, step_faults, AreSteps, SpellsSide, most_steps, all_step_faults, headed_faults, side_faults}
use Rattle.ipdl_forms.specs.Widths.{two_faults}
use Rattle.ipdl_forms.proofs.Faults.{append-clean, tested-holds}
use Rattle.ipdl_forms.proofs.Forms.{two_parts}
use Rattle.ipdl_forms.proofs.RuleWords.{rule_named, rule_named-word, heading_named-rule}
use Rattle.ipdl_forms.proofs.Spelled.{by_name, count_tested, named, name_spelled, width_spelled, expression_spelled}
use Rattle.ipdl_forms.proofs.SpelledProtocols.{protocol_spelled}
use Rattle.ipdl_forms.proofs.SpelledReactions.{reaction_spelled}

-- ---- names

-- a list with this word in front
pub headed_spelled : (head : List ℕ) (t : Located) → headed_faults head t ≡ [] → head_of t ≡ Some head
headed_spelled head (word pos name) clean = cc
headed_spelled head (number pos n) clean = cc
headed_spelled head (literal pos bits) clean = cc
headed_spelled head (group pos no_trees) clean = cc
headed_spelled head (group pos (tree (word at name) ts)) clean =
    ap Some ((bytes_eq-Decides name head).0 (tested-holds (bytes_eq name head) _ clean))
headed_spelled head (group pos (tree (number at n) ts)) clean = cc
headed_spelled head (group pos (tree (literal at bits) ts)) clean = cc
headed_spelled head (group pos (tree (group at us) ts)) clean = cc

-- a name that is declared
pub declared_spelled : (names : List (List ℕ)) (t : Located) → declared_faults names t ≡ [] → (word_in t ≡ Some (name_in t)) × (is_among names (name_in t) ≡ true)
declared_spelled names t clean =
    let parts = append-clean (word_faults t) (tested (is_among names (name_in t)) _) clean in
    (name_spelled t parts.0, tested-holds (is_among names (name_in t)) _ parts.1)

-- a name that did not come before
pub new_name_spelled : (before : List (List ℕ)) (t : Located) → new_name_faults before t ≡ [] → (word_in t ≡ Some (name_in t)) × (is_among before (name_in t) ≡ false)
new_name_spelled before t clean =
    let parts = append-clean (word_faults t) (tested (if is_among before (name_in t) then false else true) _) clean in
    (name_spelled t parts.0, go (is_among before (name_in t)) (tested-holds (if is_among before (name_in t) then false else true) _ parts.1))
  where
    go : (b : Bool) → (if b then false else true) ≡ true → b ≡ false
    go true is = cc
    go false is = refl

-- ---- paths

numbers_spelled : (ts : Forest) → all_number_faults ts ≡ [] → (path : List ℕ) × AreNumbers path ts
numbers_spelled no_trees clean = ([], tt)
numbers_spelled (tree (word pos name) ts) clean = cc
numbers_spelled (tree (number pos n) ts) clean =
    let rest = numbers_spelled ts clean in (n ∷ rest.0, (refl, rest.1))
numbers_spelled (tree (literal pos bits) ts) clean = cc
numbers_spelled (tree (group pos us) ts) clean = cc

path_spelled : (t : Located) → path_faults t ≡ [] → (path : List ℕ) × SpellsPath path t
path_spelled t clean =
    let parts = append-clean (list_faults t) (all_number_faults (parts_of t)) clean in
    let numbers = numbers_spelled (parts_of t) parts.1 in
    (numbers.0, (tested-holds (is_list t) _ parts.0, numbers.1))

-- ---- the arguments of a rule

-- the name of a symbol
symbol_spelled : (scope : NameScope) (t : Located) → is_some (symbol_in scope t) ≡ true → (f : ℕ) × (symbol_in scope t ≡ Some f)
symbol_spelled scope t is = go (symbol_in scope t) is
  where
    go : (o : Option ℕ) → is_some o ≡ true → (f : ℕ) × (o ≡ Some f)
    go None is = cc
    go (Some f) is = (f, refl)

number_spelled : (t : Located) → number_faults t ≡ [] → number_in t ≡ Some (value_in t)
number_spelled (word pos name) clean = cc
number_spelled (number pos n) clean = refl
number_spelled (literal pos bits) clean = cc
number_spelled (group pos ts) clean = cc

-- the arguments of one rule, in place of those of another one of its word
abbrev IsRefilled : NameScope → Rule → Forest → Type 0
IsRefilled scope rule ts =
    (new : Rule) × (heading_of new ≡ heading_of rule) × (rule_word new ≡ rule_word rule) × SpellsArguments scope (rule_arguments new) ts

-- one argument of this kind
one_refilled : (scope : NameScope) (kind : ArgumentKind) (Q : Forest → Type 0) → ((t : Located) → argument_faults scope kind t ≡ [] → Q (tree t no_trees)) → (ts : Forest) → tree_count ts ≡ 1 → all_argument_faults scope (kind ∷ []) ts ≡ [] → Q ts
one_refilled scope kind Q make no_trees many clean = absurd (omega arith)
one_refilled scope kind Q make (tree t no_trees) many clean = make t (append-clean (argument_faults scope kind t) [] clean).0
one_refilled scope kind Q make (tree t (tree u ts)) many clean = absurd (omega arith)

-- two of these
two_refilled : (scope : NameScope) (kind other : ArgumentKind) (Q : Forest → Type 0) → ((t u : Located) → argument_faults scope kind t ≡ [] → argument_faults scope other u ≡ [] → Q (tree t (tree u no_trees))) → (ts : Forest) → tree_count ts ≡ 2 → all_argument_faults scope (kind ∷ other ∷ []) ts ≡ [] → Q ts
two_refilled scope kind other Q make no_trees many clean = absurd (omega arith)
two_refilled scope kind other Q make (tree t ts) many clean =
    let parts = append-clean (argument_faults scope kind t) (all_argument_faults scope (other ∷ []) ts) clean in
    one_refilled scope other (λ us. Q (tree t us)) (λ u last. make t u parts.0 last) ts (omega arith) parts.1

rule_refilled : (scope : NameScope) (rule : Rule) (ts : Forest) → tree_count ts ≡ length (map argument_kind (rule_arguments rule)) → all_argument_faults scope (map argument_kind (rule_arguments rule)) ts ≡ [] → IsRefilled scope rule ts
rule_refilled scope (mask e) ts many clean =
    one_refilled scope expression_kind (IsRefilled scope (mask e)) (λ t ok. let x = expression_spelled t scope None ok in (mask x.0, refl, refl, (x.1, tt))) ts many clean
rule_refilled scope (perm f) ts many clean =
    one_refilled scope symbol_kind (IsRefilled scope (perm f)) (λ t ok.
    let parts = append-clean (word_faults t) (tested (is_some (symbol_in scope t)) _) ok in
    let x = symbol_spelled scope t (tested-holds (is_some (symbol_in scope t)) _ parts.1) in
    (perm x.0, refl, refl, (x.1, tt))) ts many clean
rule_refilled scope (table k e) ts many clean =
    two_refilled scope number_kind expression_kind (IsRefilled scope (table k e)) (λ t u ok last. let x = expression_spelled u scope None last in (table (value_in t) x.0, refl, refl, (number_spelled t ok, (x.1, tt)))) ts many clean
rule_refilled scope (lin e) ts many clean =
    one_refilled scope expression_kind (IsRefilled scope (lin e)) (λ t ok. let x = expression_spelled t scope None ok in (lin x.0, refl, refl, (x.1, tt))) ts many clean
rule_refilled scope (rename c) ts many clean =
    one_refilled scope name_kind (IsRefilled scope (rename c)) (λ t ok. (rename (name_in t), refl, refl, (name_spelled t ok, tt))) ts many clean
rule_refilled scope (fold q) ts many clean =
    one_refilled scope path_kind (IsRefilled scope (fold q)) (λ t ok. let x = path_spelled t ok in (fold x.0, refl, refl, (x.1, tt))) ts many clean
rule_refilled scope (Rules.subst q) ts many clean =
    one_refilled scope path_kind (IsRefilled scope (Rules.subst q)) (λ t ok. let x = path_spelled t ok in (Rules.subst x.0, refl, refl, (x.1, tt))) ts many clean
rule_refilled scope (subsume c w) ts many clean =
    two_refilled scope name_kind width_kind (IsRefilled scope (subsume c w)) (λ t u ok last. let x = width_spelled u last in (subsume (name_in t) x.0, refl, refl, (name_spelled t ok, (x.1, tt)))) ts many clean
rule_refilled scope rule no_trees many clean = (rule, refl, refl, tt)
rule_refilled scope rule (tree t ts) many clean = absurd (omega arith)

-- ---- a rule at a place

abbrev IsRule : NameScope → Located → Type 0
IsRule scope t =
    (place : List ℕ) × (rule : Rule) × SpellsRule scope place rule t × (heading_named (first_name t) ≡ Some (heading_of rule))

rule_at_place : (scope : NameScope) (pos at : ℕ) (name : List ℕ) (ts : Forest) → has_arguments (heading_named name) (tree_count ts) ≡ true → place_faults scope (heading_named name) ts ≡ [] → IsRule scope (group pos (tree (word at name) ts))
rule_at_place scope pos at name ts many clean = go (rule_named name) refl ts many clean
  where
    go : (o : Option Rule) → rule_named name ≡ o → (us : Forest) → has_arguments (heading_named name) (tree_count us) ≡ true → place_faults scope (heading_named name) us ≡ [] → IsRule scope (group pos (tree (word at name) us))
    go None is us many clean =
        let none : heading_named name ≡ None = heading_named-rule name ∙ ap (option_map heading_of) is in
        let wrong = rw none at many in cc
    go (Some first) is us many clean =
        let heading : heading_named name ≡ Some (heading_of first) = heading_named-rule name ∙ ap (option_map heading_of) is in
        by_parts us heading (rw heading at many) (rw heading at clean)
      where
        by_parts : (vs : Forest) → heading_named name ≡ Some (heading_of first) → has_arguments (Some (heading_of first)) (tree_count vs) ≡ true → place_faults scope (Some (heading_of first)) vs ≡ [] → IsRule scope (group pos (tree (word at name) vs))
        by_parts no_trees heading many clean =
            absurd (omega (arith, eqb-true 0 (suc (length (heading_of first).arguments)) many))
        by_parts (tree p vs) heading many clean =
            let parts = append-clean (path_faults p) (all_argument_faults scope (heading_of first).arguments vs) clean in
            let path = path_spelled p parts.0 in
            let count : tree_count vs ≡ length (heading_of first).arguments = omega (arith, eqb-true (suc (tree_count vs)) (suc (length (heading_of first).arguments)) many) in
            let new = rule_refilled scope first vs count parts.1 in
            let word_is : rule_word new.0 ≡ name = new.2 ∙ rule_named-word name first is in
            (path.0, new.0, (ap Some (sym word_is), path.1, new.3), heading ∙ ap Some (sym new.1))

-- ---- the TERM of a step backwards

term_spelled : (scope : NameScope) (kind : RuleKind) (heading : Heading) (t : Located) → heading.kind ≡ kind → is_reversible (Some heading) ≡ true → term_faults scope (Some heading) t ≡ [] → (term : Term) × SpellsTerm scope kind term t
term_spelled scope at_reactions heading t is turns clean =
    let r = reaction_spelled t scope (Some 0) (rw is at clean) in (reaction_term r.0, r.1)
term_spelled scope at_expressions heading t is turns clean = let wrong = rw is at turns in cc
term_spelled scope at_protocols heading t is turns clean =
    let p = protocol_spelled t scope (Some 0) (rw is at clean) in (protocol_term p.0, p.1)

-- ---- steps

abbrev IsStep : Earlier → Located → Type 0
IsStep earlier t = (step : Step) × SpellsStep earlier step t

-- no rule has a list without a word in front
headless : (t : Located) → name_in t ≡ [] → is_reversible (heading_named (name_in t)) ≡ false
unfolding heading_named
headless t is = rw is refl

-- the parts after `rev`
reversed_spelled : (earlier : Earlier) (pos at : ℕ) (t u : Located) → reversed_faults (step_scope earlier) (heading_named (first_name t)) t ≡ [] → term_faults (step_scope earlier) (heading_named (first_name t)) u ≡ [] → IsStep earlier (group pos (tree (word at (codes "rev")) (tree t (tree u no_trees))))
reversed_spelled earlier pos at t u clean last =
    let scope = step_scope earlier in
    let heading = heading_named (first_name t) in
    let form = tested (has_arguments heading (tree_count (operands t)) && is_reversible heading) (form_fault NotAForm (offset_of t)) in
    let parts = append-clean form (place_faults scope heading (operands t)) clean in
    let both = and_parts (has_arguments heading (tree_count (operands t))) (is_reversible heading) (tested-holds _ _ parts.0) in
    by_tree t both.0 both.1 parts.1 last
  where
    by_tree : (v : Located) → has_arguments (heading_named (first_name v)) (tree_count (operands v)) ≡ true → is_reversible (heading_named (first_name v)) ≡ true → place_faults (step_scope earlier) (heading_named (first_name v)) (operands v) ≡ [] → term_faults (step_scope earlier) (heading_named (first_name v)) u ≡ [] → IsStep earlier (group pos (tree (word at (codes "rev")) (tree v (tree u no_trees))))
    by_tree (word from name) many turns place last = absurd (both_ways _ (headless no_tree refl) turns)
    by_tree (number from n) many turns place last = absurd (both_ways _ (headless no_tree refl) turns)
    by_tree (literal from bits) many turns place last = absurd (both_ways _ (headless no_tree refl) turns)
    by_tree (group from no_trees) many turns place last = absurd (both_ways _ (headless no_tree refl) turns)
    by_tree (group from (tree (word back name) ts)) many turns place last =
        let rule = rule_at_place (step_scope earlier) from back name ts many place in
        let term = term_spelled (step_scope earlier) (row_of rule.1).kind (heading_of rule.1) u refl (rw rule.3 at turns) (rw rule.3 at last) in
        (rev rule.0 rule.1 term.0, ((refl, refl), rule.2, term.1))
    by_tree (group from (tree (number back n) ts)) many turns place last = absurd (both_ways _ (headless (number back n) refl) turns)
    by_tree (group from (tree (literal back bits) ts)) many turns place last = absurd (both_ways _ (headless (literal back bits) refl) turns)
    by_tree (group from (tree (group back us) ts)) many turns place last = absurd (both_ways _ (headless (group back us) refl) turns)

direction_spelled : (t : Located) → direction_faults t ≡ [] → (direction : Direction) × (word_in t ≡ Some (direction_word direction))
direction_spelled t clean =
    let both = and_parts (is_word t) (is_direction_word (name_in t)) (tested-holds (is_word t && is_direction_word (name_in t)) _ clean) in
    go (name_in t) (named t both.0) both.1
  where
    go : (name : List ℕ) → word_in t ≡ Some name → is_direction_word name ≡ true → (direction : Direction) × (word_in t ≡ Some (direction_word direction))
    go name is holds =
        by_name (λ x. word_in t ≡ Some x → is_direction_word x ≡ true → (direction : Direction) × (word_in t ≡ Some (direction_word direction))) name (codes "lr") (λ here _. (lr, here)) (λ no_lr here other. (rl, here ∙ ap Some ((bytes_eq-Decides name (codes "rl")).0 (rw no_lr at other)))) is holds

abbrev IsPair : List (List ℕ) → Located → Type 0
IsPair before t =
    (tree_count (parts_of t) ≡ 2) × (word_in (tree_at 0 (parts_of t)) ≡ Some (first_name t)) × (is_among before (first_name t) ≡ false)
    × (word_in (tree_at 1 (parts_of t)) ≡ Some (name_in (tree_at 1 (parts_of t))))

pair_spelled : (before : List (List ℕ)) (t : Located) → pair_faults before t ≡ [] → IsPair before t
pair_spelled before (word pos name) clean = cc
pair_spelled before (number pos n) clean = cc
pair_spelled before (literal pos bits) clean = cc
pair_spelled before (group pos ts) clean =
    let front = append-clean (two_faults pos ts ++ new_name_faults before (tree_at 0 ts)) (word_faults (tree_at 1 ts)) clean in
    let head = append-clean (two_faults pos ts) (new_name_faults before (tree_at 0 ts)) front.0 in
    let fresh = new_name_spelled before (tree_at 0 ts) head.1 in
    (count_tested (tree_count ts) 2 _ head.0, fresh.0, fresh.1, name_spelled (tree_at 1 ts) front.1)

pairs_spelled : (ts : Forest) (before : List (List ℕ)) → all_pair_faults before ts ≡ [] → (pairs : List (List ℕ × List ℕ)) × ArePairs before pairs ts
pairs_spelled no_trees before clean = ([], tt)
pairs_spelled (tree t ts) before clean =
    let parts = append-clean (pair_faults before t) (all_pair_faults (before ++ first_name t ∷ []) ts) clean in
    let pair = pair_spelled before t parts.0 in
    let rest = pairs_spelled ts (before ++ first_name t ∷ []) parts.1 in
    ((first_name t, name_in (tree_at 1 (parts_of t))) ∷ rest.0, (pair.0, pair.1, pair.2, pair.3, rest.1))

-- the use of an assumption or a theorem
use_spelled : (earlier : Earlier) (pos at : ℕ) (ts : Forest) → use_faults earlier pos ts ≡ [] → IsStep earlier (group pos (tree (word at (codes "use")) ts))
use_spelled earlier pos at ts clean =
    let count = tested (tree_count ts == 4) (form_fault NotAForm pos) in
    let name = declared_faults earlier.statements (tree_at 0 ts) in
    let path = path_faults (tree_at 1 ts) in
    let direction = direction_faults (tree_at 2 ts) in
    let list = list_faults (tree_at 3 ts) in
    let five = append-clean (count ++ name ++ path ++ direction ++ list) (all_pair_faults [] (parts_of (tree_at 3 ts))) clean in
    let four = append-clean (count ++ name ++ path ++ direction) list five.0 in
    let three = append-clean (count ++ name ++ path) direction four.0 in
    let two = append-clean (count ++ name) path three.0 in
    let one = append-clean count name two.0 in
    let declared = declared_spelled earlier.statements (tree_at 0 ts) one.1 in
    let place = path_spelled (tree_at 1 ts) two.1 in
    let turned = direction_spelled (tree_at 2 ts) three.1 in
    let pairs = pairs_spelled (parts_of (tree_at 3 ts)) [] five.1 in
    (invoke place.0 (name_in (tree_at 0 ts)) turned.0 pairs.0, ((refl, count_tested (tree_count ts) 4 _ one.0), declared.0, declared.1, place.1, turned.1, tested-holds (is_list (tree_at 3 ts)) _ four.1, pairs.1))

rev_spelled : (earlier : Earlier) (pos at : ℕ) (ts : Forest) → rev_faults (step_scope earlier) pos ts ≡ [] → IsStep earlier (group pos (tree (word at (codes "rev")) ts))
rev_spelled earlier pos at ts clean =
    let heading = heading_named (first_name (tree_at 0 ts)) in
    let count = tested (tree_count ts == 2) (form_fault NotAForm pos) in
    let front = append-clean (count ++ reversed_faults (step_scope earlier) heading (tree_at 0 ts)) (term_faults (step_scope earlier) heading (tree_at 1 ts)) clean in
    let head = append-clean count (reversed_faults (step_scope earlier) heading (tree_at 0 ts)) front.0 in
    two_parts (λ us. reversed_faults (step_scope earlier) (heading_named (first_name (tree_at 0 us))) (tree_at 0 us) ≡ [] → term_faults (step_scope earlier) (heading_named (first_name (tree_at 0 us))) (tree_at 1 us) ≡ [] → IsStep earlier (group pos (tree (word at (codes "rev")) us))) (reversed_spelled earlier pos at) ts (count_tested (tree_count ts) 2 _ head.0) head.1 front.1

rule_spelled : (earlier : Earlier) (pos at : ℕ) (name : List ℕ) (ts : Forest) → rule_faults (step_scope earlier) pos (heading_named name) ts ≡ [] → IsStep earlier (group pos (tree (word at name) ts))
rule_spelled earlier pos at name ts clean =
    let known = has_arguments (heading_named name) (tree_count ts) in
    let parts = append-clean (tested known (form_fault NotAForm pos)) (place_faults (step_scope earlier) (heading_named name) ts) clean in
    let rule = rule_at_place (step_scope earlier) pos at name ts (tested-holds known _ parts.0) parts.1 in
    (plain rule.0 rule.1, rule.2)

-- a list with this word in front
list_spelled : (earlier : Earlier) (pos at : ℕ) (ts : Forest) (name : List ℕ) → headed_step_faults earlier pos name ts ≡ [] → IsStep earlier (group pos (tree (word at name) ts))
list_spelled earlier pos at ts name =
    let P : List ℕ → Type 0 = λ x. headed_step_faults earlier pos x ts ≡ [] → IsStep earlier (group pos (tree (word at x) ts)) in
    by_name P name (codes "rev") (rev_spelled earlier pos at ts) λ no_rev.
    by_name P name (codes "use") (use_spelled earlier pos at ts) λ no_use.
    λ clean. rule_spelled earlier pos at name ts (rw (no_rev, no_use) at clean)

step_spelled : (earlier : Earlier) (t : Located) → step_faults earlier t ≡ [] → IsStep earlier t
step_spelled earlier (word pos name) clean = cc
step_spelled earlier (number pos n) clean = cc
step_spelled earlier (literal pos bits) clean = cc
step_spelled earlier (group pos no_trees) clean = cc
step_spelled earlier (group pos (tree (word at name) ts)) clean = list_spelled earlier pos at ts name clean
step_spelled earlier (group pos (tree (number at n) ts)) clean = cc
step_spelled earlier (group pos (tree (literal at bits) ts)) clean = cc
step_spelled earlier (group pos (tree (group at us) ts)) clean = cc

-- ---- scripts

steps_spelled : (ts : Forest) (earlier : Earlier) (before : ℕ) → all_step_faults earlier before ts ≡ [] → (steps : List Step) × AreSteps earlier steps ts
steps_spelled no_trees earlier before clean = ([], tt)
steps_spelled (tree t ts) earlier before clean =
    let limit = tested (nat_lt before most_steps) (over_fault Steps (offset_of t)) in
    let parts = append-clean (limit ++ step_faults earlier t) (all_step_faults earlier (suc before) ts) clean in
    let step = step_spelled earlier t (append-clean limit (step_faults earlier t) parts.0).1 in
    let rest = steps_spelled ts earlier (suc before) parts.1 in
    (step.0 ∷ rest.0, (step.1, rest.1))

pub side_spelled : (earlier : Earlier) (side : List ℕ) (before : ℕ) (t : Located) → side_faults earlier side before t ≡ [] → (steps : List Step) × SpellsSide earlier side steps t
side_spelled earlier side before t clean =
    let parts = append-clean (headed_faults side t) (all_step_faults earlier before (operands t)) clean in
    let steps = steps_spelled (operands t) earlier before parts.1 in
    (steps.0, (headed_spelled side t parts.0, steps.1))
