-- A tree spells one step.
use Rattle.std.proofs.Common.{◌≡◌, ℕ, List, [], ◌∷◌, ◌++◌, Option, Some, refl, sym, ap, ap₂, subst, ◌∙◌}
use Rattle.std.specs.Prelude.{codes}
use Rattle.ipdl_term.specs.Rules.{Rule, RuleKind, at_reactions, at_expressions, at_protocols, row_of, rule_word}
use Rattle.ipdl_term.specs.Steps.{Direction, lr, rl, Step, plain, rev, invoke}
use Rattle.ipdl_term.specs.Terms.{Term, protocol_term, reaction_term, expression_term}
use Rattle.ipdl_tree.specs.Trees.{Located, Forest, no_trees, tree}
use Rattle.ipdl_forms.specs.Lists.{parts_of, without_first, word_in, head_of, operands, operand}
use Rattle.ipdl_forms.specs.Scopes.{NameScope}
use Rattle.ipdl_forms.specs.Steps.{Earlier, SpellsPath, SpellsRule, SpellsTerm, direction_word, ArePairs, SpellsStep, step_scope, AreSteps, SpellsSide}
use Rattle.ipdl_forms.proofs.RuleWords.{path_read-spelled, one_rule_of_word, not_rev, not_use}
use Rattle.ipdl_forms.proofs.One.{one_protocol, one_reaction}
use Rattle.ipdl_forms.proofs.TreeForms.{heads_apart}

-- ---- rules and places

one_path : (path other : List ℕ) (t : Located) → SpellsPath path t → SpellsPath other t → path ≡ other
one_path path other t s u = sym (path_read-spelled path t s) ∙ path_read-spelled other t u

one_rule : (scope : NameScope) (path other : List ℕ) (a b : Rule) (t : Located) → SpellsRule scope path a t → SpellsRule scope other b t → a ≡ b
one_rule scope path other a b t s u =
    let words : rule_word a ≡ rule_word b = cc (s.0, u.0) in
    one_rule_of_word scope a b (without_first (operands t)) words s.2 u.2

-- the list of a rule is no other step
rule_not_rev : (scope : NameScope) (path : List ℕ) (a : Rule) (t : Located) → SpellsRule scope path a t → head_of t ≡ Some (codes "rev") → ⊥
rule_not_rev scope path a t s is = heads_apart (rule_word a) (codes "rev") (head_of t) s.0 is (not_rev a)

rule_not_use : (scope : NameScope) (path : List ℕ) (a : Rule) (t : Located) → SpellsRule scope path a t → head_of t ≡ Some (codes "use") → ⊥
rule_not_use scope path a t s is = heads_apart (rule_word a) (codes "use") (head_of t) s.0 is (not_use a)

-- ---- the TERM of a step backwards

one_term : (scope : NameScope) (kind : RuleKind) (a b : Term) (t : Located) → SpellsTerm scope kind a t → SpellsTerm scope kind b t → a ≡ b
one_term scope at_protocols (protocol_term p) (protocol_term q) t s u = ap protocol_term (one_protocol scope p q t s u)
one_term scope at_protocols (protocol_term p) (reaction_term r) t s u = absurd u
one_term scope at_protocols (protocol_term p) (expression_term e) t s u = absurd u
one_term scope at_protocols (reaction_term r) b t s u = absurd s
one_term scope at_protocols (expression_term e) b t s u = absurd s
one_term scope at_reactions (reaction_term r) (reaction_term q) t s u = ap reaction_term (one_reaction scope r q t s u)
one_term scope at_reactions (reaction_term r) (protocol_term p) t s u = absurd u
one_term scope at_reactions (reaction_term r) (expression_term e) t s u = absurd u
one_term scope at_reactions (protocol_term p) b t s u = absurd s
one_term scope at_reactions (expression_term e) b t s u = absurd s
one_term scope at_expressions a b t s u = absurd s

-- ---- pairs and directions

same_pair : (p q : List ℕ × List ℕ) → p.0 ≡ q.0 → p.1 ≡ q.1 → p ≡ q
same_pair p q firsts seconds =
    let make : List ℕ → List ℕ → List ℕ × List ℕ = λ a b. (a, b) in ap₂ make firsts seconds

one_pairs : (before : List (List ℕ)) (ps qs : List (List ℕ × List ℕ)) (ts : Forest) → ArePairs before ps ts → ArePairs before qs ts → ps ≡ qs
one_pairs before [] [] ts s u = refl
one_pairs before [] (q ∷ qs) no_trees s u = absurd u
one_pairs before [] (q ∷ qs) (tree t ts) s u = absurd s
one_pairs before (p ∷ ps) [] no_trees s u = absurd s
one_pairs before (p ∷ ps) [] (tree t ts) s u = absurd u
one_pairs before (p ∷ ps) (q ∷ qs) no_trees s u = absurd s
one_pairs before (p ∷ ps) (q ∷ qs) (tree t ts) s u =
    let firsts : p.0 ≡ q.0 = cc (s.1, u.1) in
    let seconds : p.1 ≡ q.1 = cc (s.3, u.3) in
    let rest = one_pairs (before ++ p.0 ∷ []) ps qs ts s.4 (subst (λ x. ArePairs (before ++ x ∷ []) qs ts) (sym firsts) u.4) in
    ap₂ (λ (x : List ℕ × List ℕ) (xs : List (List ℕ × List ℕ)). x ∷ xs) (same_pair p q firsts seconds) rest

one_direction : (a b : Direction) (name : Option (List ℕ)) → name ≡ Some (direction_word a) → name ≡ Some (direction_word b) → a ≡ b
one_direction lr lr name is too = refl
one_direction lr rl name is too = absurd (heads_apart (codes "lr") (codes "rl") name is too refl)
one_direction rl lr name is too = absurd (heads_apart (codes "rl") (codes "lr") name is too refl)
one_direction rl rl name is too = refl

-- ---- steps

one_step : (earlier : Earlier) (m n : Step) (t : Located) → SpellsStep earlier m t → SpellsStep earlier n t → m ≡ n
one_step earlier (plain path a) (plain other b) t s u =
    ap₂ plain (one_path path other (operand 0 t) s.1 u.1) (one_rule (step_scope earlier) path other a b t s u)
one_step earlier (plain path a) (rev other b term) t s u =
    absurd (rule_not_rev (step_scope earlier) path a t s u.0.0)
one_step earlier (plain path a) (invoke other name direction pairs) t s u =
    absurd (rule_not_use (step_scope earlier) path a t s u.0.0)
one_step earlier (rev path a term) (plain other b) t s u =
    absurd (rule_not_rev (step_scope earlier) other b t u s.0.0)
one_step earlier (rev path a x) (rev other b y) t s u =
    let paths = one_path path other (operand 0 (operand 0 t)) s.1.1 u.1.1 in
    let rules = one_rule (step_scope earlier) path other a b (operand 0 t) s.1 u.1 in
    let back : SpellsTerm (step_scope earlier) (row_of a).kind y (operand 1 t) = subst (λ (c : Rule). SpellsTerm (step_scope earlier) (row_of c).kind y (operand 1 t)) (sym rules) u.2 in
    let terms = one_term (step_scope earlier) (row_of a).kind x y (operand 1 t) s.2 back in
    rw (paths, rules, terms) refl
one_step earlier (rev path a x) (invoke other name direction pairs) t s u =
    absurd (heads_apart (codes "rev") (codes "use") (head_of t) s.0.0 u.0.0 refl)
one_step earlier (invoke path name direction pairs) (plain other b) t s u =
    absurd (rule_not_use (step_scope earlier) other b t u s.0.0)
one_step earlier (invoke path name direction pairs) (rev other b y) t s u =
    absurd (heads_apart (codes "use") (codes "rev") (head_of t) s.0.0 u.0.0 refl)
one_step earlier (invoke path name direction pairs) (invoke path₂ name₂ direction₂ pairs₂) t s u =
    let names : name ≡ name₂ = cc (s.1, u.1) in
    let paths = one_path path path₂ (operand 1 t) s.3 u.3 in
    let directions = one_direction direction direction₂ (word_in (operand 2 t)) s.4 u.4 in
    let all = one_pairs [] pairs pairs₂ (parts_of (operand 3 t)) s.6 u.6 in
    rw (paths, names, directions, all) refl

-- ---- scripts

one_steps : (earlier : Earlier) (ms ns : List Step) (ts : Forest) → AreSteps earlier ms ts → AreSteps earlier ns ts → ms ≡ ns
one_steps earlier [] [] ts s u = refl
one_steps earlier [] (n ∷ ns) no_trees s u = absurd u
one_steps earlier [] (n ∷ ns) (tree t ts) s u = absurd s
one_steps earlier (m ∷ ms) [] no_trees s u = absurd s
one_steps earlier (m ∷ ms) [] (tree t ts) s u = absurd u
one_steps earlier (m ∷ ms) (n ∷ ns) no_trees s u = absurd s
one_steps earlier (m ∷ ms) (n ∷ ns) (tree t ts) s u =
    let first = one_step earlier m n t s.0 u.0 in let rest = one_steps earlier ms ns ts s.1 u.1 in cc

pub one_side : (earlier : Earlier) (side : List ℕ) (ms ns : List Step) (t : Located) → SpellsSide earlier side ms t → SpellsSide earlier side ns t → ms ≡ ns
one_side earlier side ms ns t s u = one_steps earlier ms ns (operands t) s.1 u.1
