-- Which whole terms and which steps the calls take: all that a reader or an earlier step gives.
use Rattle.std.specs.Prelude.{ℕ, ◌+◌, ◌*◌, ◌^◌, ◌<◌, max, List, [], ◌∷◌}
use Rattle.ipdl_rules_r.specs.Room.{greatest_in_rule}
use Rattle.ipdl_term.specs.Rules.{Argument, expression_argument}
use Rattle.ipdl_term.specs.Sizes.{most_nodes, term_binders, greatest_in_term}
use Rattle.ipdl_term.specs.Steps.{Step, plain, rev, invoke}
use Rattle.ipdl_term.specs.Terms.{Protocol, Term, protocol_term, reaction_term, expression_term}
use Rattle.ipdl_term.specs.Typing.{HasInterface}
use Rattle.ipdl_term.specs.Within.{IsExpressionWithin, IsReactionWithin, IsProtocolWithin}
use Rattle.ipdl_script.specs.Steps.{Setting, KeepsLimits}

-- It is within the limits, and has the theorem's interface.
pub record WholeFits (x : Setting) (p : Protocol) : Type 0 where
  pub limits : KeepsLimits p
  pub typed : HasInterface x.sig x.interface p

-- The variables of the rule's argument and of the term that is written out keep 32 bits, whatever place the term is put
-- at, and also in what the rule makes of it.
abbrev pub StepFits : Step → Type 0
StepFits (plain place rule) = greatest_in_rule rule + most_nodes < 2 ^ 32
StepFits (rev place rule term) =
    max (greatest_in_rule rule) (greatest_in_term term) + 2 * term_binders term + most_nodes < 2 ^ 32
StepFits (invoke place name direction pairs) = Unit {0}

-- the symbols of the expressions among some arguments are among the first so many, and each variable has a binder in it
abbrev pub AreArgumentsWithin : (symbols : ℕ) → List Argument → Type 0
AreArgumentsWithin symbols [] = Unit {0}
AreArgumentsWithin symbols (expression_argument binders e ∷ arguments) =
    IsExpressionWithin symbols 0 e × AreArgumentsWithin symbols arguments
AreArgumentsWithin symbols (_ ∷ arguments) = AreArgumentsWithin symbols arguments

-- the symbols of a term are among the first so many, and each of its variables has a binder in it
abbrev pub IsTermWithin : (symbols : ℕ) → Term → Type 0
IsTermWithin symbols (protocol_term p) = IsProtocolWithin symbols p
IsTermWithin symbols (reaction_term r) = IsReactionWithin symbols 0 r
IsTermWithin symbols (expression_term e) = IsExpressionWithin symbols 0 e
