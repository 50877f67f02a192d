-- The rules with their arguments, and the one table of their words, of the kind of terms that each changes, and of what
-- arguments it has.
use Rattle.std.specs.Prelude.{ℕ, Bool, true, false, List, [], ◌∷◌, map, Option, Some, None, bytes_eq, codes, position, if◌then◌else◌}
use Rattle.ipdl_term.specs.Terms.{Channel, Expression, literal}

pub data Rule : Type 0 where
  beta : Rule
  eta : Rule
  assoc : Rule
  swap : Rule
  dropr : Rule
  again : Rule
  iftrue : Rule
  iffalse : Rule
  ifsame : Rule
  ifbind : Rule
  mask : (masking : Expression) → Rule
  perm : (symbol : ℕ) → Rule
  join : Rule
  flip0 : Rule
  tidy : Rule
  table : (conditions : ℕ) → (result : Expression) → Rule
  lin : (result : Expression) → Rule
  comm : Rule
  assocl : Rule
  assocr : Rule
  unit : Rule
  newswap : Rule
  scope : Rule
  rename : (name : Channel) → Rule
  absorb : Rule
  fold : (place : List ℕ) → Rule
  subst : (place : List ℕ) → Rule
  drop : Rule
  subsume : (name : Channel) → (width : ℕ) → Rule
  diverge : Rule
  shape : Rule

-- ---- the table

-- what kind of term a rule changes
pub data RuleKind : Type 0 where
  at_reactions : RuleKind
  at_expressions : RuleKind
  at_protocols : RuleKind

-- What stands after the place of a step. An expression stands under the binders of the place and so many more.
pub data Argument : Type 0 where
  expression_argument : (binders : ℕ) → Expression → Argument
  symbol_argument : (number : ℕ) → Argument
  number_argument : (value : ℕ) → Argument
  name_argument : (name : List ℕ) → Argument
  path_argument : (path : List ℕ) → Argument
  width_argument : (width : ℕ) → Argument

pub record Row : Type 0 where
  pub kind : RuleKind
  pub word : List ℕ
  pub arguments : List Argument

abbrev at : RuleKind → List ℕ → List Argument → Row
at kind word arguments = record { kind = kind; word = word; arguments = arguments }

-- a row for each rule
abbrev pub row_of : Rule → Row
row_of beta = at at_reactions (codes "beta") []
row_of eta = at at_reactions (codes "eta") []
row_of assoc = at at_reactions (codes "assoc") []
row_of swap = at at_reactions (codes "swap") []
row_of dropr = at at_reactions (codes "dropr") []
row_of again = at at_reactions (codes "again") []
row_of iftrue = at at_reactions (codes "iftrue") []
row_of iffalse = at at_reactions (codes "iffalse") []
row_of ifsame = at at_reactions (codes "ifsame") []
row_of ifbind = at at_reactions (codes "ifbind") []
row_of (mask e) = at at_reactions (codes "mask") (expression_argument 1 e ∷ [])
row_of (perm f) = at at_reactions (codes "perm") (symbol_argument f ∷ [])
row_of join = at at_reactions (codes "join") []
row_of flip0 = at at_reactions (codes "flip0") []
row_of tidy = at at_reactions (codes "tidy") []
row_of (table k e) = at at_expressions (codes "table") (number_argument k ∷ expression_argument 0 e ∷ [])
row_of (lin e) = at at_expressions (codes "lin") (expression_argument 0 e ∷ [])
row_of comm = at at_protocols (codes "comm") []
row_of assocl = at at_protocols (codes "assocl") []
row_of assocr = at at_protocols (codes "assocr") []
row_of unit = at at_protocols (codes "unit") []
row_of newswap = at at_protocols (codes "newswap") []
row_of scope = at at_protocols (codes "scope") []
row_of (rename c) = at at_protocols (codes "rename") (name_argument c ∷ [])
row_of absorb = at at_protocols (codes "absorb") []
row_of (fold place) = at at_protocols (codes "fold") (path_argument place ∷ [])
row_of (subst place) = at at_protocols (codes "subst") (path_argument place ∷ [])
row_of drop = at at_protocols (codes "drop") []
row_of (subsume c w) = at at_protocols (codes "subsume") (name_argument c ∷ width_argument w ∷ [])
row_of diverge = at at_protocols (codes "diverge") []
row_of shape = at at_protocols (codes "shape") []

abbrev pub rule_word : Rule → List ℕ
rule_word rule = (row_of rule).word

abbrev pub rule_arguments : Rule → List Argument
rule_arguments rule = (row_of rule).arguments

-- ---- rules by their words

-- each rule once, in the order of their numbers; what arguments stand here makes no difference
abbrev every_rule : List Rule
every_rule =
    beta ∷ eta ∷ assoc ∷ swap ∷ dropr ∷ again ∷ iftrue ∷ iffalse ∷ ifsame ∷ ifbind ∷ mask (literal []) ∷ perm 0 ∷ join ∷ flip0
    ∷ tidy ∷ table 0 (literal []) ∷ lin (literal []) ∷ comm ∷ assocl ∷ assocr ∷ unit ∷ newswap ∷ scope ∷ rename [] ∷ absorb
    ∷ fold [] ∷ subst [] ∷ drop ∷ subsume [] 0 ∷ diverge ∷ shape ∷ []

-- the words of all rules, in the order of their numbers
unfoldable pub rule_words : List (List ℕ)
rule_words = map rule_word every_rule

-- the number of a word, none where it is no rule's
abbrev pub rule_number : List ℕ → Option ℕ
rule_number word = position (λ w. bytes_eq w word) rule_words

-- what an argument has to be
pub data ArgumentKind : Type 0 where
  expression_kind : ArgumentKind
  symbol_kind : ArgumentKind
  number_kind : ArgumentKind
  name_kind : ArgumentKind
  path_kind : ArgumentKind
  width_kind : ArgumentKind

abbrev pub argument_kind : Argument → ArgumentKind
argument_kind (expression_argument binders e) = expression_kind
argument_kind (symbol_argument f) = symbol_kind
argument_kind (number_argument k) = number_kind
argument_kind (name_argument c) = name_kind
argument_kind (path_argument path) = path_kind
argument_kind (width_argument w) = width_kind

-- what is known of a rule by its word: what kind of term it changes, and of what kinds its arguments are
pub record Heading : Type 0 where
  pub kind : RuleKind
  pub arguments : List ArgumentKind

abbrev pub heading_of : Rule → Heading
heading_of rule = record { kind = (row_of rule).kind; arguments = map argument_kind (row_of rule).arguments }

-- the heading of the first of some rules that has the word
abbrev heading_among : List Rule → List ℕ → Option Heading
heading_among [] word = None
heading_among (rule ∷ rules) word = if bytes_eq (rule_word rule) word then Some (heading_of rule) else heading_among rules word

-- the heading of the rule of a word, none where it is no rule's
unfoldable pub heading_named : List ℕ → Option Heading
heading_named word = heading_among every_rule word

-- whether it is the word of a rule without arguments
abbrev pub is_plain_word : List ℕ → Bool
is_plain_word word = is_plain (heading_named word)
  where
    is_plain : Option Heading → Bool
    is_plain None = false
    is_plain (Some heading) = is_empty heading.arguments
      where
        is_empty : List ArgumentKind → Bool
        is_empty [] = true
        is_empty (kind ∷ kinds) = false
