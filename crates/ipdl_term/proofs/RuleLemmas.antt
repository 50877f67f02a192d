-- Rules by their words and their arguments.
use Rattle.std.proofs.Common.{◌≡◌, ℕ, List, [], ◌∷◌, Some, refl, sym, ap₂, ◌∙◌}
use Rattle.std.specs.Prelude.{bytes_eq, codes, if◌then◌else◌}
use Rattle.ipdl_term.specs.Rules.{Rule, beta, eta, assoc, swap, dropr, again, iftrue, iffalse, ifsame, ifbind, mask, perm, join, flip0, tidy, table, lin, comm, assocl, assocr, unit, newswap, scope, rename, absorb, fold, subst, drop, subsume, diverge, shape, Argument, expression_argument, symbol_argument, number_argument, name_argument, path_argument, width_argument, rule_word, rule_arguments, heading_of, heading_named}

pub heading_named-word : (rule : Rule) → heading_named (rule_word rule) ≡ Some (heading_of rule)
unfolding heading_named
heading_named-word beta = refl
heading_named-word eta = refl
heading_named-word assoc = refl
heading_named-word swap = refl
heading_named-word dropr = refl
heading_named-word again = refl
heading_named-word iftrue = refl
heading_named-word iffalse = refl
heading_named-word ifsame = refl
heading_named-word ifbind = refl
heading_named-word (mask e) = refl
heading_named-word (perm f) = refl
heading_named-word join = refl
heading_named-word flip0 = refl
heading_named-word tidy = refl
heading_named-word (table k e) = refl
heading_named-word (lin e) = refl
heading_named-word comm = refl
heading_named-word assocl = refl
heading_named-word assocr = refl
heading_named-word unit = refl
heading_named-word newswap = refl
heading_named-word scope = refl
heading_named-word (rename c) = refl
heading_named-word absorb = refl
heading_named-word (fold place) = refl
heading_named-word (subst place) = refl
heading_named-word drop = refl
heading_named-word (subsume c w) = refl
heading_named-word diverge = refl
heading_named-word shape = refl

-- ---- a rule is made again from its word and its arguments

-- the first of some rules that has the word, or else `shape`
first_named : List Rule → List ℕ → Rule
first_named [] word = shape
first_named (rule ∷ rules) word = if bytes_eq (rule_word rule) word then rule else first_named rules word

plain_rules : List Rule
plain_rules = beta ∷ eta ∷ assoc ∷ swap ∷ dropr ∷ again ∷ iftrue ∷ iffalse ∷ ifsame ∷ ifbind ∷ join ∷ flip0 ∷ tidy ∷ comm ∷ assocl ∷ assocr ∷ unit ∷ newswap ∷ scope ∷ absorb ∷ drop ∷ diverge ∷ shape ∷ []

rule_with : List ℕ → List Argument → Rule
rule_with word [] = first_named plain_rules word
rule_with word (expression_argument n e ∷ []) = if bytes_eq word (codes "mask") then mask e else lin e
rule_with word (symbol_argument f ∷ []) = perm f
rule_with word (number_argument k ∷ expression_argument n e ∷ []) = table k e
rule_with word (name_argument c ∷ []) = rename c
rule_with word (path_argument place ∷ []) = if bytes_eq word (codes "fold") then fold place else subst place
rule_with word (name_argument c ∷ width_argument w ∷ []) = subsume c w
rule_with word _ = shape

rule_with-parts : (rule : Rule) → rule_with (rule_word rule) (rule_arguments rule) ≡ rule
unfolding rule_with first_named plain_rules
rule_with-parts beta = refl
rule_with-parts eta = refl
rule_with-parts assoc = refl
rule_with-parts swap = refl
rule_with-parts dropr = refl
rule_with-parts again = refl
rule_with-parts iftrue = refl
rule_with-parts iffalse = refl
rule_with-parts ifsame = refl
rule_with-parts ifbind = refl
rule_with-parts (mask e) = refl
rule_with-parts (perm f) = refl
rule_with-parts join = refl
rule_with-parts flip0 = refl
rule_with-parts tidy = refl
rule_with-parts (table k e) = refl
rule_with-parts (lin e) = refl
rule_with-parts comm = refl
rule_with-parts assocl = refl
rule_with-parts assocr = refl
rule_with-parts unit = refl
rule_with-parts newswap = refl
rule_with-parts scope = refl
rule_with-parts (rename c) = refl
rule_with-parts absorb = refl
rule_with-parts (fold place) = refl
rule_with-parts (subst place) = refl
rule_with-parts drop = refl
rule_with-parts (subsume c w) = refl
rule_with-parts diverge = refl
rule_with-parts shape = refl

pub same_rule : (r s : Rule) → rule_word r ≡ rule_word s → rule_arguments r ≡ rule_arguments s → r ≡ s
same_rule r s word arguments = sym (rule_with-parts r) ∙ ap₂ rule_with word arguments ∙ rule_with-parts s
