-- Steps of scripts as plain data, and the rules and steps that the types of the program stand for.
use Rattle.std.specs.Prelude.{ℕ, List}
use Rattle.ipdl_term.specs.Rules.{Rule}
use Rattle.ipdl_term.specs.Rules as R
use Rattle.ipdl_term.specs.Terms.{Channel, Term}
use Rattle.ipdl_term.specs.Views.{expression_of, term_of}
use Rattle.ipdl_term.specs.declared.step.Dir.{Dir}
use Rattle.ipdl_term.specs.declared.step.Dir.TheVariants as D
use Rattle.ipdl_term.specs.declared.step.Rule.{Rule as HeldRule}
use Rattle.ipdl_term.specs.declared.step.Rule.TheVariants as H
use Rattle.ipdl_term.specs.declared.step.Step.{Step as HeldStep}
use Rattle.ipdl_term.specs.declared.step.Step.TheVariants.{Plain, Rev, Invoke}

-- from the left side to the right side, or back
pub data Direction : Type 0 where
  lr : Direction
  rl : Direction

pub data Step : Type 0 where
  -- the rule at the place, from its left side to its right side
  plain : (place : List ℕ) → Rule → Step
  -- the rule at the place from its right side to its left side, which is the term
  rev : (place : List ℕ) → Rule → Term → Step
  -- an assumption or an earlier theorem at the place, with new names for the channels of its interface
  invoke : (place name : List ℕ) → Direction → (pairs : List (Channel × Channel)) → Step

-- ---- what the types of the program stand for

abbrev pub rule_of : HeldRule → Rule
rule_of H.Beta = R.beta
rule_of H.Eta = R.eta
rule_of H.Assoc = R.assoc
rule_of H.Swap = R.swap
rule_of H.Dropr = R.dropr
rule_of H.Again = R.again
rule_of H.Iftrue = R.iftrue
rule_of H.Iffalse = R.iffalse
rule_of H.Ifsame = R.ifsame
rule_of H.Ifbind = R.ifbind
rule_of (H.Mask e) = R.mask (expression_of e)
rule_of (H.Perm f) = R.perm f
rule_of H.Join = R.join
rule_of H.Flip0 = R.flip0
rule_of H.Tidy = R.tidy
rule_of (H.Table k e) = R.table k (expression_of e)
rule_of (H.Lin e) = R.lin (expression_of e)
rule_of H.Comm = R.comm
rule_of H.Assocl = R.assocl
rule_of H.Assocr = R.assocr
rule_of H.Unit = R.unit
rule_of H.Newswap = R.newswap
rule_of H.Scope = R.scope
rule_of (H.Rename c) = R.rename c
rule_of H.Absorb = R.absorb
rule_of (H.Fold q) = R.fold q
rule_of (H.Subst q) = R.subst q
rule_of H.Drop = R.drop
rule_of (H.Subsume c w) = R.subsume c w
rule_of H.Diverge = R.diverge
rule_of H.Shape = R.shape

abbrev pub direction_of : Dir → Direction
direction_of D.Lr = lr
direction_of D.Rl = rl

abbrev pub step_of : HeldStep → Step
step_of (Plain path rule) = plain path (rule_of rule)
step_of (Rev path rule term) = rev path (rule_of rule) (term_of term)
step_of (Invoke path name dir pairs) = invoke path name (direction_of dir) pairs
