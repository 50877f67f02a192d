-- The scripts of a theorem: which chain they give, and what is wrong where they give none.
use Rattle.std.specs.Prelude.{◌≡◌, ℕ, suc, ◌+◌, ◌≤◌, List, [], ◌∷◌, ◌++◌, length, Option, Some, None, option_map}
use Rattle.std.specs.Option.{option_or}
use Rattle.ipdl_base.specs.Limits.{limit_number}
use Rattle.ipdl_base.specs.declared.limit.Limit.TheVariants.{Chain as ChainLimit}
use Rattle.ipdl_chain.specs.Chains.{Link, by_rule, Chain, last_of, neighbour_count, turned_links}
use Rattle.ipdl_term.specs.Rules.{rule_word}
use Rattle.ipdl_term.specs.Steps.{lr, rl, Step, plain, rev, invoke}
use Rattle.ipdl_term.specs.Terms.{Protocol, protocol_term}
use Rattle.ipdl_script.specs.Differences.{DifferFirstAt}
use Rattle.ipdl_script.specs.EndPlaces.{differing_place}
use Rattle.ipdl_script.specs.Steps.{Setting, IsStep, Refusal, used_there, limit_test, step_refusal, after_step}

-- a theorem: its two protocols, and the script of each, a list of steps
pub record Theorem : Type 0 where
  pub left : Protocol
  pub right : Protocol
  pub lefts : List Step
  pub rights : List Step

-- ---- the relation

-- the links that a step gives which leads from one whole term to another
abbrev pub links_of_step : Setting → (before : Protocol) → Step → (after : Protocol) → List Link
links_of_step x before (plain place rule) after = record { mark = by_rule lr (rule_word rule) place; term = after } ∷ []
links_of_step x before (rev place rule term) after = record { mark = by_rule rl (rule_word rule) place; term = after } ∷ []
links_of_step x before (invoke place name direction pairs) after = (used_there x before place name direction pairs).links

-- the number of neighbours with those of the step, where there are so many before it
abbrev pub count_after : Setting → (so_far : ℕ) → (before : Protocol) → Step → (after : Protocol) → ℕ
count_after x so_far before step after = so_far + neighbour_count (links_of_step x before step after)

-- The step leads to a whole term, and the neighbours are not too many. From that term the rest of the script goes on.
pub record GoesOn (x : Setting) (so_far : ℕ) (before : Protocol) (step : Step) (Rest : ℕ → Protocol → List Link → Type 0) (links : List Link) : Type 0 where
  pub after : Protocol
  pub later : List Link
  pub stands : IsStep x before step after
  pub short : count_after x so_far before step after ≤ limit_number ChainLimit
  pub rest : Rest (count_after x so_far before step after) after later
  pub all : links ≡ links_of_step x before step after ++ later

-- The steps, each from the whole term before it, give these links. So many neighbours there are before them.
abbrev pub IsScript : Setting → (so_far : ℕ) → (before : Protocol) → List Step → List Link → Type 0
IsScript x so_far before [] links = links ≡ []
IsScript x so_far before (step ∷ steps) links =
    GoesOn x so_far before step (λ so_far after later. IsScript x so_far after steps later) links

-- Both scripts end in one term. The chain is the left terms in order, and then the right ones from the last but one back
-- to the first.
pub record IsChain (x : Setting) (so_far : ℕ) (t : Theorem) (chain : Chain) : Type 0 where
  pub lefts : List Link
  pub rights : List Link
  pub left_script : IsScript x so_far t.left t.lefts lefts
  pub right_script : IsScript x (so_far + neighbour_count lefts) t.right t.rights rights
  pub meet : last_of t.left lefts ≡ last_of t.right rights
  pub first : chain.first ≡ t.left
  pub links : chain.links ≡ lefts ++ turned_links t.right rights

-- ---- what is wrong, as it is found

pub data Side : Type 0 where
  left_side : Side
  right_side : Side

-- why a theorem has no chain: a step, numbered from 1 on its side, or the first place where the two ends differ
pub data Wrong : Type 0 where
  wrong_step : Side → (number : ℕ) → Refusal → Wrong
  wrong_ends : (place : List ℕ) → Wrong

-- with the step there are too many neighbours
abbrev pub chain_test : Setting → (so_far : ℕ) → (before : Protocol) → Step → (after : Protocol) → Option Refusal
chain_test x so_far before step after =
    limit_test ChainLimit (limit_number ChainLimit) (count_after x so_far before step after)

-- why the step is refused in a script, where there are so many neighbours before it
abbrev pub refusal_in_script : Setting → (so_far : ℕ) → (before : Protocol) → Step → Option Refusal
refusal_in_script x so_far before step =
    option_or (step_refusal x before step) (chain_test x so_far before step (after_step x before step))

-- the first step of a script that is refused; the first step of all has this number
abbrev pub wrong_in_script : Setting → (so_far : ℕ) → Side → (number : ℕ) → (before : Protocol) → List Step → Option Wrong
wrong_in_script x so_far side number before [] = None
wrong_in_script x so_far side number before (step ∷ steps) =
    let after = after_step x before step in
    option_or (option_map (wrong_step side number) (refusal_in_script x so_far before step))
    (wrong_in_script x (count_after x so_far before step after) side (suc number) after steps)

-- the links of a script in which no step is refused
abbrev pub links_of_script : Setting → (before : Protocol) → List Step → List Link
links_of_script x before [] = []
links_of_script x before (step ∷ steps) =
    let after = after_step x before step in
    links_of_step x before step after ++ links_of_script x after steps

abbrev pub left_links : Setting → Theorem → List Link
left_links x t = links_of_script x t.left t.lefts

abbrev pub right_links : Setting → Theorem → List Link
right_links x t = links_of_script x t.right t.rights

-- the whole terms in which the two scripts end
abbrev pub left_end : Setting → Theorem → Protocol
left_end x t = last_of t.left (left_links x t)

abbrev pub right_end : Setting → Theorem → Protocol
right_end x t = last_of t.right (right_links x t)

-- what is wrong first: the left steps in order, then the right ones, then the ends
abbrev pub first_wrong : Setting → (so_far : ℕ) → Theorem → Option Wrong
first_wrong x so_far t =
    option_or (wrong_in_script x so_far left_side 1 t.left t.lefts)
    (option_or (wrong_in_script x (so_far + neighbour_count (left_links x t)) right_side 1 t.right t.rights)
    (option_map wrong_ends (differing_place (left_end x t) (right_end x t))))

-- the chain where nothing is wrong
abbrev pub chain_of_scripts : Setting → Theorem → Chain
chain_of_scripts x t =
    record { first = t.left; links = left_links x t ++ turned_links t.right (right_links x t) }

-- ---- what is wrong, as a relation

-- the steps before the one of this number stand, and it is refused
pub record IsRefusedAt (x : Setting) (so_far : ℕ) (before : Protocol) (steps : List Step) (number : ℕ) (refusal : Refusal) : Type 0 where
  pub done : List Step
  pub step : Step
  pub later : List Step
  pub links : List Link
  pub in_order : steps ≡ done ++ step ∷ later
  pub numbered : number ≡ suc (length done)
  pub stand : IsScript x so_far before done links
  pub refused : refusal_in_script x (so_far + neighbour_count links) (last_of before links) step ≡ Some refusal

-- the left script stands, and a step of the right one is refused
pub record IsRefusedOnRight (x : Setting) (so_far : ℕ) (t : Theorem) (number : ℕ) (refusal : Refusal) : Type 0 where
  pub lefts : List Link
  pub left_script : IsScript x so_far t.left t.lefts lefts
  pub right_step : IsRefusedAt x (so_far + neighbour_count lefts) t.right t.rights number refusal

-- both scripts stand, and their ends differ first at this place
pub record HasDifferentEnds (x : Setting) (so_far : ℕ) (t : Theorem) (place : List ℕ) : Type 0 where
  pub lefts : List Link
  pub rights : List Link
  pub left_script : IsScript x so_far t.left t.lefts lefts
  pub right_script : IsScript x (so_far + neighbour_count lefts) t.right t.rights rights
  pub differ : DifferFirstAt (protocol_term (last_of t.left lefts)) (protocol_term (last_of t.right rights)) place

abbrev pub IsFirstWrong : Setting → (so_far : ℕ) → Theorem → Wrong → Type 0
IsFirstWrong x so_far t (wrong_step left_side number refusal) = IsRefusedAt x so_far t.left t.lefts number refusal
IsFirstWrong x so_far t (wrong_step right_side number refusal) = IsRefusedOnRight x so_far t number refusal
IsFirstWrong x so_far t (wrong_ends place) = HasDifferentEnds x so_far t place
