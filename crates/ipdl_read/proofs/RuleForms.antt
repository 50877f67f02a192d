-- Rules by their words, and the first fault among the parts of a rule's list.
use Rattle.std.proofs.Common.{◌≡◌, ℕ, suc, Bool, true, false, List, [], ◌∷◌, ◌++◌, length, map, Option, None, Some, refl, sym, ap, ◌∙◌}
use Rattle.std.specs.Prelude.{◌==◌, bytes_eq, codes, unwrap_or, option_map, if◌then◌else◌}
use Rattle.std.proofs.lemmas.Slice.Eq.{bytes_eq-Decides}
use Rattle.ipdl_term.specs.Rules.{Rule, beta, mask, perm, table, lin, rename, fold, subsume, rule_word, rule_arguments, argument_kind, ArgumentKind, Heading, heading_of, heading_named, is_plain_word}
use Rattle.ipdl_term.specs.Rules as Rules
use Rattle.ipdl_term.specs.Steps.{rule_of}
use Rattle.ipdl_term.specs.Terms.{literal}
use Rattle.ipdl_term.specs.declared.step.Rule.{Rule as Held}
use Rattle.ipdl_tree.specs.Trees.{Located, Forest, tree, no_trees}
use Rattle.ipdl_forms.specs.declared.fault.DocFault.{DocFault}
use Rattle.ipdl_forms.specs.declared.fault.FormCause.TheVariants.{NotAForm}
use Rattle.ipdl_forms.specs.Faults.{TellsFirst, tested, form_fault}
use Rattle.ipdl_forms.specs.Lists.{tree_count, tree_at, without_first}
use Rattle.ipdl_forms.specs.Scopes.{NameScope}
use Rattle.ipdl_forms.specs.Steps.{path_faults, argument_faults, all_argument_faults, rule_faults}
use Rattle.ipdl_forms.proofs.Faults.{TellsFirst-in_front, TellsFirst-after, TellsFirst-tested}
use Rattle.ipdl_forms.proofs.RuleWords.{rule_named, rule_named-word, heading_named-rule}
use Rattle.ipdl_read.specs.Rules.{asks_more, part_faults, kinds_asked, has_kinds, word_list_faults}

-- the kinds that the word of a rule asks for are those of its arguments
kinds_asked-word : (rule : Rule) → kinds_asked (rule_word rule) ≡ Some (map argument_kind (rule_arguments rule))
unfolding heading_named
kinds_asked-word beta = refl
kinds_asked-word rule = refl

-- a word that is no rule's is not one that is
other_word : (word w : List ℕ) (heading : Heading) → heading_named word ≡ None → heading_named w ≡ Some heading → bytes_eq word w ≡ false
other_word word w heading none known = by_test (bytes_eq word w) refl
  where
    by_test : (b : Bool) → bytes_eq word w ≡ b → b ≡ false
    by_test false is = refl
    by_test true is =
        let same : word ≡ w = (bytes_eq-Decides word w).0 is in
        let both : None ≡ Some heading = sym none ∙ ap heading_named same ∙ known in
        cc both

-- eight tests that fail
none_of_eight : (a b c d e f g h : Bool) (ks ls ms ns os ps qs rs : Option (List ArgumentKind)) (rest : Option (List ArgumentKind)) → (if a then true else (if b then true else (if c then true else (if d then true else (if e then true else (if f then true else (if g then true else (if h then true else false)))))))) ≡ false → (if a then ks else (if b then ls else (if c then ms else (if d then ns else (if e then os else (if f then ps else (if g then qs else (if h then rs else rest)))))))) ≡ rest
none_of_eight true b c d e f g h ks ls ms ns os ps qs rs rest fail = cc
none_of_eight false true c d e f g h ks ls ms ns os ps qs rs rest fail = cc
none_of_eight false false true d e f g h ks ls ms ns os ps qs rs rest fail = cc
none_of_eight false false false true e f g h ks ls ms ns os ps qs rs rest fail = cc
none_of_eight false false false false true f g h ks ls ms ns os ps qs rs rest fail = cc
none_of_eight false false false false false true g h ks ls ms ns os ps qs rs rest fail = cc
none_of_eight false false false false false false true h ks ls ms ns os ps qs rs rest fail = cc
none_of_eight false false false false false false false true ks ls ms ns os ps qs rs rest fail = cc
none_of_eight false false false false false false false false ks ls ms ns os ps qs rs rest fail = refl

pub kinds_asked-unknown : (name : List ℕ) → asks_more name ≡ false → is_plain_word name ≡ false → kinds_asked name ≡ None
kinds_asked-unknown name more plain =
    none_of_eight (bytes_eq name (codes "mask")) (bytes_eq name (codes "perm")) (bytes_eq name (codes "table")) (bytes_eq name (codes "lin")) (bytes_eq name (codes "rename")) (bytes_eq name (codes "fold")) (bytes_eq name (codes "subst")) (bytes_eq name (codes "subsume")) _ _ _ _ _ _ _ _ (if is_plain_word name then Some [] else None) more
    ∙ ap (λ (b : Bool). if b then Some [] else None) plain

-- one test more that fails
one_more : (b rest : Bool) → b ≡ false → rest ≡ false → (if b then true else rest) ≡ false
one_more true rest b_is rest_is = b_is
one_more false rest b_is rest_is = rest_is

asks_more-none : (word : List ℕ) → heading_named word ≡ None → asks_more word ≡ false
unfolding heading_named
asks_more-none word none =
    one_more (bytes_eq word (codes "mask")) _ (other_word word (codes "mask") (heading_of (mask (literal []))) none refl)
    (one_more (bytes_eq word (codes "perm")) _ (other_word word (codes "perm") (heading_of (perm 0)) none refl)
    (one_more (bytes_eq word (codes "table")) _ (other_word word (codes "table") (heading_of (table 0 (literal []))) none refl)
    (one_more (bytes_eq word (codes "lin")) _ (other_word word (codes "lin") (heading_of (lin (literal []))) none refl)
    (one_more (bytes_eq word (codes "rename")) _ (other_word word (codes "rename") (heading_of (rename [])) none refl)
    (one_more (bytes_eq word (codes "fold")) _ (other_word word (codes "fold") (heading_of (fold [])) none refl)
    (one_more (bytes_eq word (codes "subst")) _ (other_word word (codes "subst") (heading_of (Rules.subst [])) none refl)
    (one_more (bytes_eq word (codes "subsume")) false (other_word word (codes "subsume") (heading_of (subsume [] 0)) none refl) refl)))))))

-- a word that is no rule's is not that of a rule without arguments
is_plain_word-none : (word : List ℕ) → heading_named word ≡ None → is_plain_word word ≡ false
is_plain_word-none word none = rw none refl

-- a word that is no rule's asks for nothing
kinds_asked-none : (word : List ℕ) → heading_named word ≡ None → kinds_asked word ≡ None
kinds_asked-none word none = kinds_asked-unknown word (asks_more-none word none) (is_plain_word-none word none)

-- what a word asks for is what its heading says
kinds_asked-heading : (word : List ℕ) → option_map (λ (h : Heading). h.arguments) (heading_named word) ≡ kinds_asked word
kinds_asked-heading word = go (rule_named word) refl
  where
    go : (o : Option Rule) → rule_named word ≡ o → option_map (λ (h : Heading). h.arguments) (heading_named word) ≡ kinds_asked word
    go None is =
        ap (option_map (λ (h : Heading). h.arguments)) (heading_named-rule word ∙ ap (option_map heading_of) is) ∙ sym (kinds_asked-none word (heading_named-rule word ∙ ap (option_map heading_of) is))
    go (Some rule) is =
        ap (option_map (λ (h : Heading). h.arguments)) (heading_named-rule word ∙ ap (option_map heading_of) is)
        ∙ sym (kinds_asked-word rule) ∙ ap kinds_asked (rule_named-word word rule is)

-- the word of a rule without arguments asks for none
pub kinds_asked-plain : (r : Held) (name : List ℕ) → rule_word (rule_of r) ≡ name → rule_arguments (rule_of r) ≡ [] → kinds_asked name ≡ Some []
kinds_asked-plain r name named alone =
    ap kinds_asked (sym named) ∙ kinds_asked-word (rule_of r) ∙ ap (λ arguments. Some (map argument_kind arguments)) alone

-- ---- the tests of a rule's list

-- the tests by the heading of the word
heading_faults : (scope : NameScope) (pos : ℕ) (heading : Option Heading) (ts : Forest) → rule_faults scope pos heading ts ≡ word_list_faults scope pos (option_map (λ (h : Heading). h.arguments) heading) ts
heading_faults scope pos None ts = refl
heading_faults scope pos (Some heading) ts = refl

pub rule_faults-asked : (scope : NameScope) (pos : ℕ) (word : List ℕ) (ts : Forest) → rule_faults scope pos (heading_named word) ts ≡ word_list_faults scope pos (kinds_asked word) ts
rule_faults-asked scope pos word ts =
    heading_faults scope pos (heading_named word) ts ∙ ap (λ kinds. word_list_faults scope pos kinds ts) (kinds_asked-heading word)

pub rule_faults-kinds : (scope : NameScope) (pos : ℕ) (name : List ℕ) (kinds : List ArgumentKind) (ts : Forest) → kinds_asked name ≡ Some kinds → word_list_faults scope pos (kinds_asked name) ts ≡ part_faults scope pos kinds ts
rule_faults-kinds scope pos name kinds ts is = ap (λ o. word_list_faults scope pos o ts) is

-- a word that is no rule's
pub rule_faults-unknown : (scope : NameScope) (pos : ℕ) (name : List ℕ) (ts : Forest) → kinds_asked name ≡ None → TellsFirst (form_fault NotAForm pos) (word_list_faults scope pos (kinds_asked name) ts)
rule_faults-unknown scope pos name ts unknown =
    TellsFirst-in_front (form_fault NotAForm pos) (tested (has_kinds (kinds_asked name) (tree_count ts)) (form_fault NotAForm pos)) (path_faults (tree_at 0 ts) ++ all_argument_faults scope (unwrap_or (kinds_asked name) []) (without_first ts))
    (TellsFirst-tested (form_fault NotAForm pos) (has_kinds (kinds_asked name) (tree_count ts)) (ap (λ o. has_kinds o (tree_count ts)) unknown))

-- the first fault of the path
pub part_faults-path : (fault : DocFault) (scope : NameScope) (pos : ℕ) (kinds : List ArgumentKind) (t : Located) (ts : Forest) → tested (tree_count (tree t ts) == suc (length kinds)) (form_fault NotAForm pos) ≡ [] → TellsFirst fault (path_faults t) → TellsFirst fault (part_faults scope pos kinds (tree t ts))
part_faults-path fault scope pos kinds t ts many first =
    TellsFirst-after fault (tested (tree_count (tree t ts) == suc (length kinds)) (form_fault NotAForm pos)) (path_faults t ++ all_argument_faults scope kinds ts) many
    (TellsFirst-in_front fault (path_faults t) (all_argument_faults scope kinds ts) first)

-- that of the second argument
pub part_faults-second : (fault : DocFault) (scope : NameScope) (pos : ℕ) (one two : ArgumentKind) (t a b : Located) → path_faults t ≡ [] → argument_faults scope one a ≡ [] → TellsFirst fault (argument_faults scope two b) → TellsFirst fault (part_faults scope pos (one ∷ two ∷ []) (tree t (tree a (tree b no_trees))))
part_faults-second fault scope pos one two t a b path clean first =
    TellsFirst-after fault (path_faults t) (argument_faults scope one a ++ (argument_faults scope two b ++ [])) path
    (TellsFirst-after fault (argument_faults scope one a) (argument_faults scope two b ++ []) clean
    (TellsFirst-in_front fault (argument_faults scope two b) [] first))
