-- What a step by a rule says of its two neighbours: which rule relates the two, at which place and in which direction. And
-- what is known of everything that a step may use.
use Rattle.std.specs.Prelude.{◌≡◌, ℕ, List, Some}
use Rattle.ipdl_chain.specs.Chains.{Mark, by_rule, by_theorem, by_assumption}
use Rattle.ipdl_script.specs.Instances.{IsInstanceAt}
use Rattle.ipdl_script.specs.Steps.{Setting, around_place, assumed_in, lemma_named}
use Rattle.ipdl_term.specs.Places.{term_at, term_with}
use Rattle.ipdl_term.specs.Rules.{Rule, rule_word}
use Rattle.ipdl_term.specs.Steps.{lr, rl}
use Rattle.ipdl_term.specs.Terms.{Protocol, Term, protocol_term}
use Rattle.ipdl_uses.specs.Lemmas.{Lemma}
use Rattle.ipdl_uses.specs.Meanings.{ChainMeans}

-- ---- marks

-- at the place, the second whole term has what the rule makes of the part of the first
pub record IsRewritten (x : Setting) (rule : Rule) (place : List ℕ) (first second : Protocol) : Type 0 where
  pub left : Term
  pub right : Term
  pub there : term_at (protocol_term first) place ≡ Some left
  pub sides : IsInstanceAt x.sig (around_place x first place) rule left right
  pub whole : term_with (protocol_term first) place right ≡ protocol_term second

-- by some rule of this word
pub record IsRewrittenBy (x : Setting) (word place : List ℕ) (first second : Protocol) : Type 0 where
  pub rule : Rule
  pub named : rule_word rule ≡ word
  pub rewritten : IsRewritten x rule place first second

-- For `lr` the upper neighbour has the rule's left side, and for `rl` the lower one.
abbrev pub IsMarked : Setting → Mark → (upper lower : Protocol) → Type 0
IsMarked x (by_rule lr word place) upper lower = IsRewrittenBy x word place upper lower
IsMarked x (by_rule rl word place) upper lower = IsRewrittenBy x word place lower upper
IsMarked x (by_theorem direction name place pairs) upper lower = ⊥
IsMarked x (by_assumption direction name place pairs C) upper lower = ⊥

-- ---- what may be used

-- the chain of each assumption and each earlier theorem means what it says
abbrev pub LemmasMean : Setting → Type 0
LemmasMean x =
    (name : List ℕ) (lemma : Lemma) → lemma_named x name ≡ Some lemma →
    ChainMeans x.sig lemma.interface (assumed_in x) lemma.chain
