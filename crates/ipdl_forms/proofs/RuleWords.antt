-- What the words of rules tell: which rule, what arguments it asks for, and that one list spells one rule.
use Rattle.std.proofs.Common.{◌≡◌, ℕ, Bool, true, false, List, [], ◌∷◌, Option, Some, None, refl, sym, ap, ap₂, ◌∙◌}
use Rattle.std.specs.Prelude.{bytes_eq, codes, unwrap_or, option_map, if◌then◌else◌}
use Rattle.std.proofs.lemmas.Slice.Eq.{bytes_eq-Decides}
use Rattle.ipdl_term.specs.Rules.{Rule, beta, eta, assoc, swap, dropr, again, iftrue, iffalse, ifsame, ifbind, mask, perm, join, flip0, tidy, table, lin, comm, assocl, assocr, unit, newswap, scope, rename, absorb, fold, drop, subsume, diverge, shape, Argument, rule_word, rule_arguments, Heading, heading_of, heading_named}
use Rattle.ipdl_term.specs.Rules as Rules
use Rattle.ipdl_term.specs.Terms.{literal}
use Rattle.ipdl_tree.specs.Trees.{Located, Forest, no_trees, tree}
use Rattle.ipdl_forms.specs.Lists.{tree_at, parts_of, value_in, name_in, number_in}
use Rattle.ipdl_forms.specs.Scopes.{NameScope}
use Rattle.ipdl_forms.specs.Steps.{AreNumbers, SpellsPath, symbol_in, SpellsArgument, SpellsArguments}
use Rattle.ipdl_forms.proofs.One.{expression_read, expression_read-spelled, value_in-spelled, name_in-spelled}

-- ---- rules by their words

-- a rule of each word, with some arguments
abbrev rules : List Rule
rules =
    beta ∷ eta ∷ assoc ∷ swap ∷ dropr ∷ again ∷ iftrue ∷ iffalse ∷ ifsame ∷ ifbind ∷ mask (literal []) ∷ perm 0 ∷ join ∷ flip0
    ∷ tidy ∷ table 0 (literal []) ∷ lin (literal []) ∷ comm ∷ assocl ∷ assocr ∷ unit ∷ newswap ∷ scope ∷ rename [] ∷ absorb
    ∷ fold [] ∷ Rules.subst [] ∷ drop ∷ subsume [] 0 ∷ diverge ∷ shape ∷ []

abbrev rule_among : List Rule → List ℕ → Option Rule
rule_among [] word = None
rule_among (rule ∷ more) word = if bytes_eq (rule_word rule) word then Some rule else rule_among more word

abbrev pub rule_named : List ℕ → Option Rule
rule_named word = rule_among rules word

rule_among-word : (some : List Rule) (word : List ℕ) (rule : Rule) → rule_among some word ≡ Some rule → rule_word rule ≡ word
rule_among-word [] word rule is = cc
rule_among-word (first ∷ more) word rule is =
    go (rule_among-word more word rule) (bytes_eq (rule_word first) word) refl is
  where
    go : (rule_among more word ≡ Some rule → rule_word rule ≡ word) → (b : Bool) → bytes_eq (rule_word first) word ≡ b → (if b then Some first else rule_among more word) ≡ Some rule → rule_word rule ≡ word
    go later true same found =
        let here : first ≡ rule = cc found in ap rule_word (sym here) ∙ (bytes_eq-Decides (rule_word first) word).0 same
    go later false other found = later found

pub rule_named-word : (word : List ℕ) (rule : Rule) → rule_named word ≡ Some rule → rule_word rule ≡ word
rule_named-word word rule is = rule_among-word rules word rule is

-- the heading of the first rule of the word
abbrev heading_among : List Rule → List ℕ → Option Heading
heading_among [] word = None
heading_among (rule ∷ more) word =
    if bytes_eq (rule_word rule) word then Some (heading_of rule) else heading_among more word

heading_among-rule : (some : List Rule) (word : List ℕ) → heading_among some word ≡ option_map heading_of (rule_among some word)
heading_among-rule [] word = refl
heading_among-rule (rule ∷ more) word = go (heading_among-rule more word) (bytes_eq (rule_word rule) word)
  where
    go : heading_among more word ≡ option_map heading_of (rule_among more word) → (b : Bool) → (if b then Some (heading_of rule) else heading_among more word) ≡ option_map heading_of (if b then Some rule else rule_among more word)
    go later true = refl
    go later false = later

heading_named-among : (word : List ℕ) → heading_named word ≡ heading_among rules word
unfolding heading_named
heading_named-among word = refl

-- the heading of a word is that of its rule
pub heading_named-rule : (word : List ℕ) → heading_named word ≡ option_map heading_of (rule_named word)
heading_named-rule word = heading_named-among word ∙ heading_among-rule rules word

pub heading_named-word : (rule : Rule) → heading_named (rule_word rule) ≡ Some (heading_of rule)
unfolding heading_named
heading_named-word beta = refl
heading_named-word rule = refl

-- a word that is a rule's is not the head of another step
pub not_rev : (rule : Rule) → bytes_eq (rule_word rule) (codes "rev") ≡ false
not_rev beta = refl
not_rev rule = refl

pub not_use : (rule : Rule) → bytes_eq (rule_word rule) (codes "use") ≡ false
not_use beta = refl
not_use rule = refl

-- ---- one list spells one rule

abbrev numbers_read : Forest → List ℕ
numbers_read no_trees = []
numbers_read (tree t ts) = value_in t ∷ numbers_read ts

value_in-number : (n : ℕ) (t : Located) → number_in t ≡ Some n → value_in t ≡ n
value_in-number n t is = ap (λ o. unwrap_or o 0) is

numbers_read-spelled : (path : List ℕ) (ts : Forest) → AreNumbers path ts → numbers_read ts ≡ path
numbers_read-spelled [] no_trees s = refl
numbers_read-spelled [] (tree t ts) s = absurd s
numbers_read-spelled (n ∷ ns) no_trees s = absurd s
numbers_read-spelled (n ∷ ns) (tree t ts) s =
    ap₂ (λ (x : ℕ) (xs : List ℕ). x ∷ xs) (value_in-number n t s.0) (numbers_read-spelled ns ts s.1)

abbrev path_read : Located → List ℕ
path_read t = numbers_read (parts_of t)

pub path_read-spelled : (path : List ℕ) (t : Located) → SpellsPath path t → path_read t ≡ path
path_read-spelled path t s = numbers_read-spelled path (parts_of t) s.1

-- the rule, with the arguments that the trees spell
abbrev refilled : NameScope → Rule → Forest → Rule
refilled names (mask e) ts = mask (expression_read names (tree_at 0 ts))
refilled names (perm f) ts = perm (unwrap_or (symbol_in names (tree_at 0 ts)) 0)
refilled names (table k e) ts = table (value_in (tree_at 0 ts)) (expression_read names (tree_at 1 ts))
refilled names (lin e) ts = lin (expression_read names (tree_at 0 ts))
refilled names (rename c) ts = rename (name_in (tree_at 0 ts))
refilled names (fold q) ts = fold (path_read (tree_at 0 ts))
refilled names (Rules.subst q) ts = Rules.subst (path_read (tree_at 0 ts))
refilled names (subsume c w) ts = subsume (name_in (tree_at 0 ts)) (value_in (tree_at 1 ts))
refilled names rule ts = rule

abbrev rule_read : NameScope → List ℕ → Forest → Option Rule
rule_read names word ts = option_map (λ rule. refilled names rule ts) (rule_named word)

-- one argument, and two
first_spelled : (names : NameScope) (a : Argument) (more : List Argument) (ts : Forest) → SpellsArguments names (a ∷ more) ts → SpellsArgument names a (tree_at 0 ts)
first_spelled names a more no_trees s = absurd s
first_spelled names a more (tree t ts) s = s.0

second_spelled : (names : NameScope) (a b : Argument) (more : List Argument) (ts : Forest) → SpellsArguments names (a ∷ b ∷ more) ts → SpellsArgument names b (tree_at 1 ts)
second_spelled names a b more no_trees s = absurd s
second_spelled names a b more (tree t ts) s = first_spelled names b more ts s.1

-- what is spelled is read
rule_read-spelled : (names : NameScope) (rule : Rule) (ts : Forest) → SpellsArguments names (rule_arguments rule) ts → rule_read names (rule_word rule) ts ≡ Some rule
rule_read-spelled names (mask e) ts s =
    ap (λ x. Some (mask x)) (expression_read-spelled names e (tree_at 0 ts) (first_spelled names (Rules.expression_argument 1 e) [] ts s))
rule_read-spelled names (perm f) ts s =
    ap (λ o. Some (perm (unwrap_or o 0))) (first_spelled names (Rules.symbol_argument f) [] ts s)
rule_read-spelled names (table k e) ts s =
    let a = Rules.number_argument k in
    let b = Rules.expression_argument 0 e in
    ap₂ (λ x y. Some (table x y)) (value_in-number k (tree_at 0 ts) (first_spelled names a (b ∷ []) ts s)) (expression_read-spelled names e (tree_at 1 ts) (second_spelled names a b [] ts s))
rule_read-spelled names (lin e) ts s =
    ap (λ x. Some (lin x)) (expression_read-spelled names e (tree_at 0 ts) (first_spelled names (Rules.expression_argument 0 e) [] ts s))
rule_read-spelled names (rename c) ts s =
    ap (λ x. Some (rename x)) (name_in-spelled c (tree_at 0 ts) (first_spelled names (Rules.name_argument c) [] ts s))
rule_read-spelled names (fold q) ts s =
    ap (λ x. Some (fold x)) (path_read-spelled q (tree_at 0 ts) (first_spelled names (Rules.path_argument q) [] ts s))
rule_read-spelled names (Rules.subst q) ts s =
    ap (λ x. Some (Rules.subst x)) (path_read-spelled q (tree_at 0 ts) (first_spelled names (Rules.path_argument q) [] ts s))
rule_read-spelled names (subsume c w) ts s =
    let a = Rules.name_argument c in
    let b = Rules.width_argument w in
    ap₂ (λ x y. Some (subsume x y)) (name_in-spelled c (tree_at 0 ts) (first_spelled names a (b ∷ []) ts s)) (value_in-spelled w (tree_at 1 ts) (second_spelled names a b [] ts s))
rule_read-spelled names rule ts s = refl

pub one_rule_of_word : (names : NameScope) (a b : Rule) (ts : Forest) → rule_word a ≡ rule_word b → SpellsArguments names (rule_arguments a) ts → SpellsArguments names (rule_arguments b) ts → a ≡ b
one_rule_of_word names a b ts words s u =
    let same : Some a ≡ Some b = sym (rule_read-spelled names a ts s) ∙ ap (λ word. rule_read names word ts) words ∙ rule_read-spelled names b ts u in
    cc same
