-- Steps as they are read: lists by the word in front, steps backwards, and the steps of a side so far.
use Rattle.std.proofs.Common.{◌≡◌, ℕ, suc, ◌+◌, ◌≤◌, Bool, true, false, List, [], ◌++◌, length, drop, append-nil, Option, None, Some, refl, sym, ap, ◌∙◌, subst, lt-ltb, arith}
use Rattle.std.specs.Prelude.{◌&&◌, codes, bytes_eq, option_map, if◌then◌else◌}
use Rattle.std.proofs.Math.Bool.{and-true}
use Rattle.std.proofs.lemmas.Bool.{true≢false}
use Rattle.std.proofs.lemmas.List.{drop_all}
use Rattle.std.proofs.lemmas.Slice.Eq.{bytes_eq-Decides}
use Rattle.ipdl_base.specs.declared.limit.Limit.TheVariants.{Steps}
use Rattle.ipdl_term.specs.Rules.{Rule, beta, table, lin, RuleKind, at_reactions, at_expressions, at_protocols, row_of, rule_word, rule_arguments, Heading, heading_of, heading_named}
use Rattle.ipdl_term.specs.Steps.{Step}
use Rattle.ipdl_tree.specs.Trees.{Located, Forest, word, number, literal, group, tree, no_trees, offset_of}
use Rattle.ipdl_tree.specs.Views.{all_located}
use Rattle.ipdl_tree.specs.declared.tree.Tree.{Tree}
use Rattle.ipdl_forms.specs.declared.fault.DocFault.{DocFault}
use Rattle.ipdl_forms.specs.declared.fault.FormCause.TheVariants.{NotAForm}
use Rattle.ipdl_forms.specs.Faults.{TellsFirst, tested, form_fault, over_fault}
use Rattle.ipdl_forms.specs.Lists.{tree_count, tree_at, without_first, head_of, operands}
use Rattle.ipdl_forms.specs.Protocols.{protocol_faults}
use Rattle.ipdl_forms.specs.Reactions.{reaction_faults}
use Rattle.ipdl_forms.specs.Scopes.{NameScope}
use Rattle.ipdl_forms.specs.Steps.{Earlier, SpellsPath, SpellsArguments, SpellsRule, has_arguments, place_faults, rule_faults, is_reversible, reversed_faults, term_faults, rev_faults, first_name, AreSteps, most_steps, step_faults, headed_step_faults, all_step_faults}
use Rattle.ipdl_forms.proofs.Faults.{TellsFirst-in_front, TellsFirst-after, TellsFirst-tested}
use Rattle.ipdl_forms.proofs.RuleWords.{rule_named, rule_named-word, heading_named-rule, heading_named-word}
use Rattle.ipdl_forms.proofs.TreeForms.{with_head, first_name_head}
use Rattle.ipdl_read.specs.Rules.{is_expression_word, is_at_reactions}

-- ---- lists with a word in front

pub step_faults-headed : (earlier : Earlier) (t : Located) (name : List ℕ) → head_of t ≡ Some name → step_faults earlier t ≡ headed_step_faults earlier (offset_of t) name (operands t)
step_faults-headed earlier t name is =
    with_head (λ u. step_faults earlier u ≡ headed_step_faults earlier (offset_of u) name (operands u)) t name is (λ pos at ts. refl)

-- the same with the parts and the place that are known
pub step_faults-list : (earlier : Earlier) (t : Located) (name : List ℕ) (pos : ℕ) (ts : Forest) → head_of t ≡ Some name → operands t ≡ ts → offset_of t ≡ pos → step_faults earlier t ≡ headed_step_faults earlier pos name ts
step_faults-list earlier t name pos ts is parts place =
    step_faults-headed earlier t name is ∙ ap (λ n. headed_step_faults earlier n name (operands t)) place ∙ ap (headed_step_faults earlier pos name) parts

-- ---- steps backwards

-- a rule that is none at expressions has a step backwards
pub reversible_rule : (rule : Rule) → is_expression_word (rule_word rule) ≡ false → is_reversible (Some (heading_of rule)) ≡ true
reversible_rule beta other = refl
reversible_rule (table k e) other = cc
reversible_rule (lin e) other = cc
reversible_rule rule other = refl

-- a word that is none of a rule at expressions: the list of a rule is tested for nothing more
reversible_word : (name : List ℕ) (count : ℕ) → is_expression_word name ≡ false → has_arguments (heading_named name) count && is_reversible (heading_named name) ≡ has_arguments (heading_named name) count
reversible_word name count other = go (rule_named name) refl
  where
    go : (o : Option Rule) → rule_named name ≡ o → has_arguments (heading_named name) count && is_reversible (heading_named name) ≡ has_arguments (heading_named name) count
    go None is =
        subst (λ h. has_arguments h count && is_reversible h ≡ has_arguments h count) (sym (heading_named-rule name ∙ ap (option_map heading_of) is)) refl
    go (Some rule) is =
        let back = reversible_rule rule (subst (λ w. is_expression_word w ≡ false) (sym (rule_named-word name rule is)) other) in
        subst (λ h. has_arguments h count && is_reversible h ≡ has_arguments h count) (sym (heading_named-rule name ∙ ap (option_map heading_of) is))
        (ap (λ b. has_arguments (Some (heading_of rule)) count && b) back ∙ and-true (has_arguments (Some (heading_of rule)) count))

pub reversed_faults-list : (scope : NameScope) (t : Located) (name : List ℕ) (pos : ℕ) (ts : Forest) → head_of t ≡ Some name → operands t ≡ ts → offset_of t ≡ pos → is_expression_word name ≡ false → reversed_faults scope (heading_named (first_name t)) t ≡ rule_faults scope pos (heading_named name) ts
reversed_faults-list scope t name pos ts is parts place other =
    ap (λ n. reversed_faults scope (heading_named n) t) (first_name_head t name is)
    ∙ ap (λ n. tested (has_arguments (heading_named name) (tree_count (operands t)) && is_reversible (heading_named name)) (form_fault NotAForm n) ++ place_faults scope (heading_named name) (operands t)) place
    ∙ ap (λ us. tested (has_arguments (heading_named name) (tree_count us) && is_reversible (heading_named name)) (form_fault NotAForm pos) ++ place_faults scope (heading_named name) us) parts
    ∙ ap (λ b. tested b (form_fault NotAForm pos) ++ place_faults scope (heading_named name) ts) (reversible_word name (tree_count ts) other)

-- a list that no word begins
pub reversed_faults-headless : (scope : NameScope) (t : Located) → head_of t ≡ None → TellsFirst (form_fault NotAForm (offset_of t)) (reversed_faults scope (heading_named (first_name t)) t)
unfolding heading_named
reversed_faults-headless scope (word pos name) none = record { told = λ other. refl }
reversed_faults-headless scope (number pos n) none = record { told = λ other. refl }
reversed_faults-headless scope (literal pos bits) none = record { told = λ other. refl }
reversed_faults-headless scope (group pos no_trees) none = record { told = λ other. refl }
reversed_faults-headless scope (group pos (tree (word at name) ts)) none = cc
reversed_faults-headless scope (group pos (tree (number at n) ts)) none = record { told = λ other. refl }
reversed_faults-headless scope (group pos (tree (literal at bits) ts)) none = record { told = λ other. refl }
reversed_faults-headless scope (group pos (tree (group at us) ts)) none = record { told = λ other. refl }

-- a rule at expressions has none
table_forward : is_reversible (heading_named (codes "table")) ≡ false
unfolding heading_named
table_forward = refl

lin_forward : is_reversible (heading_named (codes "lin")) ≡ false
unfolding heading_named
lin_forward = refl

expression_forward : (name : List ℕ) → is_expression_word name ≡ true → is_reversible (heading_named name) ≡ false
expression_forward name is = go (bytes_eq name (codes "table")) refl (bytes_eq name (codes "lin")) refl is
  where
    go : (a : Bool) → bytes_eq name (codes "table") ≡ a → (b : Bool) → bytes_eq name (codes "lin") ≡ b → (if a then true else b) ≡ true → is_reversible (heading_named name) ≡ false
    go true same b other holds = ap (λ w. is_reversible (heading_named w)) ((bytes_eq-Decides name (codes "table")).0 same) ∙ table_forward
    go false another true same holds = ap (λ w. is_reversible (heading_named w)) ((bytes_eq-Decides name (codes "lin")).0 same) ∙ lin_forward
    go false another false other holds = cc

and_fails : (b : Bool) → b && false ≡ false
and_fails true = refl
and_fails false = refl

pub reversed_faults-expression : (scope : NameScope) (t : Located) (name : List ℕ) → head_of t ≡ Some name → is_expression_word name ≡ true → TellsFirst (form_fault NotAForm (offset_of t)) (reversed_faults scope (heading_named (first_name t)) t)
reversed_faults-expression scope t name is expression =
    let H = heading_named (first_name t) in
    let back : is_reversible H ≡ false = ap (λ n. is_reversible (heading_named n)) (first_name_head t name is) ∙ expression_forward name expression in
    let fails : has_arguments H (tree_count (operands t)) && is_reversible H ≡ false = ap (λ b. has_arguments H (tree_count (operands t)) && b) back ∙ and_fails (has_arguments H (tree_count (operands t))) in
    TellsFirst-in_front (form_fault NotAForm (offset_of t)) (tested (has_arguments H (tree_count (operands t)) && is_reversible H) (form_fault NotAForm (offset_of t))) (place_faults scope H (operands t))
    (TellsFirst-tested (form_fault NotAForm (offset_of t)) (has_arguments H (tree_count (operands t)) && is_reversible H) fails)

-- the first fault of the list of a rule, and of the term
pub rev_faults-rule : (fault : DocFault) (scope : NameScope) (pos : ℕ) (a b : Located) → TellsFirst fault (reversed_faults scope (heading_named (first_name a)) a) → TellsFirst fault (rev_faults scope pos (tree a (tree b no_trees)))
rev_faults-rule fault scope pos a b first =
    TellsFirst-in_front fault (reversed_faults scope (heading_named (first_name a)) a) (term_faults scope (heading_named (first_name a)) b) first

-- the heading by the rule that is read
heading_read : (a : Located) (name : List ℕ) (rule : Rule) → head_of a ≡ Some name → rule_word rule ≡ name → heading_named (first_name a) ≡ Some (heading_of rule)
heading_read a name rule is named = ap heading_named (first_name_head a name is ∙ sym named) ∙ heading_named-word rule

pub rev_faults-term : (fault : DocFault) (scope : NameScope) (pos : ℕ) (a b : Located) (name : List ℕ) (rule : Rule) → head_of a ≡ Some name → rule_word rule ≡ name → reversed_faults scope (heading_named (first_name a)) a ≡ [] → TellsFirst fault (term_faults scope (Some (heading_of rule)) b) → TellsFirst fault (rev_faults scope pos (tree a (tree b no_trees)))
rev_faults-term fault scope pos a b name rule is named clean first =
    TellsFirst-after fault (reversed_faults scope (heading_named (first_name a)) a) (term_faults scope (heading_named (first_name a)) b) clean
    (subst (λ h. TellsFirst fault (term_faults scope h b)) (sym (heading_read a name rule is named)) first)

pub rev_faults-clean : (scope : NameScope) (pos : ℕ) (a b : Located) (name : List ℕ) (rule : Rule) → head_of a ≡ Some name → rule_word rule ≡ name → reversed_faults scope (heading_named (first_name a)) a ≡ [] → term_faults scope (Some (heading_of rule)) b ≡ [] → rev_faults scope pos (tree a (tree b no_trees)) ≡ []
rev_faults-clean scope pos a b name rule is named clean term =
    ap (λ h. reversed_faults scope (heading_named (first_name a)) a ++ term_faults scope h b) (heading_read a name rule is named)
    ∙ ap (λ fs. fs ++ term_faults scope (Some (heading_of rule)) b) clean ∙ term

-- a rule with its place and arguments, by its list
pub SpellsRule-list : (scope : NameScope) (place : List ℕ) (rule : Rule) (t : Located) (name : List ℕ) (ts : Forest) → head_of t ≡ Some name → operands t ≡ ts → rule_word rule ≡ name → SpellsPath place (tree_at 0 ts) → SpellsArguments scope (rule_arguments rule) (without_first ts) → SpellsRule scope place rule t
SpellsRule-list scope place rule t name ts is parts named path arguments =
    (is ∙ ap Some (sym named), subst (λ us. SpellsPath place (tree_at 0 us)) (sym parts) path, subst (λ us. SpellsArguments scope (rule_arguments rule) (without_first us)) (sym parts) arguments)

-- the kind of a rule that is none at expressions, by whether it is one at reactions
pub kind_at_reactions : (kind : RuleKind) → is_at_reactions kind ≡ true → kind ≡ at_reactions
kind_at_reactions at_reactions is = refl
kind_at_reactions at_expressions is = cc
kind_at_reactions at_protocols is = cc

by_kind_protocols : (heading : Heading) → is_at_reactions heading.kind ≡ false → is_reversible (Some heading) ≡ true → heading.kind ≡ at_protocols
by_kind_protocols heading other back = go heading.kind refl
  where
    go : (kind : RuleKind) → heading.kind ≡ kind → heading.kind ≡ at_protocols
    go at_reactions is = absurd (true≢false (sym (ap is_at_reactions is) ∙ other))
    go at_expressions is =
        let same : is_reversible (Some (record { kind = at_expressions; arguments = heading.arguments })) ≡ true = subst (λ k. is_reversible (Some (record { kind = k; arguments = heading.arguments })) ≡ true) is back in
        absurd (true≢false (sym same))
    go at_protocols is = is

pub kind_at_protocols : (rule : Rule) → is_expression_word (rule_word rule) ≡ false → is_at_reactions (row_of rule).kind ≡ false → (row_of rule).kind ≡ at_protocols
kind_at_protocols rule reversible other = by_kind_protocols (heading_of rule) other (reversible_rule rule reversible)

-- the term of a step backwards, by the kind of its rule
pub term_faults-reactions : (scope : NameScope) (rule : Rule) (t : Located) → is_at_reactions (row_of rule).kind ≡ true → term_faults scope (Some (heading_of rule)) t ≡ reaction_faults scope (Some 0) t
term_faults-reactions scope rule t is =
    ap (λ k. term_faults scope (Some (record { kind = k; arguments = (heading_of rule).arguments })) t) (kind_at_reactions (row_of rule).kind is)

pub term_faults-protocols : (scope : NameScope) (rule : Rule) (t : Located) → is_expression_word (rule_word rule) ≡ false → is_at_reactions (row_of rule).kind ≡ false → term_faults scope (Some (heading_of rule)) t ≡ protocol_faults scope (Some 0) t
term_faults-protocols scope rule t reversible is =
    ap (λ k. term_faults scope (Some (record { kind = k; arguments = (heading_of rule).arguments })) t) (kind_at_protocols rule reversible is)

-- ---- the steps of a side

-- the steps that are read, how many of the theorem these and those before are, and the trees that are left of all of them
pub record AreStepsSoFar (earlier : Earlier) (before count : ℕ) (steps : List Step) (rest whole : Forest) : Type 0 where
  pub spelled : (more : List Step) → AreSteps earlier more rest → AreSteps earlier (steps ++ more) whole
  pub faults : all_step_faults earlier before whole ≡ all_step_faults earlier count rest
  pub together : count ≡ before + length steps
  pub all : length steps + tree_count rest ≡ tree_count whole
  pub few : count ≤ 2_048

pub AreStepsSoFar-spelled : (earlier : Earlier) (before count : ℕ) (steps : List Step) (xs : List Tree) (i : ℕ) (whole : Forest) → length xs ≤ i → AreStepsSoFar earlier before count steps (all_located (drop i xs)) whole → AreSteps earlier steps whole
AreStepsSoFar-spelled earlier before count steps xs i whole past far =
    let none : all_located (drop i xs) ≡ no_trees = ap all_located (drop_all i xs past) in
    subst (λ ms. AreSteps earlier ms whole) (append-nil steps) (far.spelled [] (subst (AreSteps earlier []) (sym none) tt))

-- the first fault of the next step
pub AreStepsSoFar-fault : (earlier : Earlier) (before count : ℕ) (steps : List Step) (fault : DocFault) (t : Located) (ts whole : Forest) → AreStepsSoFar earlier before count steps (tree t ts) whole → suc count ≤ 2_048 → TellsFirst fault (step_faults earlier t) → TellsFirst fault (all_step_faults earlier before whole)
AreStepsSoFar-fault earlier before count steps fault t ts whole far room first =
    subst (TellsFirst fault) (sym (far.faults ∙ ap (λ b. tested b (over_fault Steps (offset_of t)) ++ step_faults earlier t ++ all_step_faults earlier (suc count) ts) (lt-ltb count most_steps (omega arith))))
    (TellsFirst-in_front fault (step_faults earlier t) (all_step_faults earlier (suc count) ts) first)
