-- Instances of rules at a place in a term, and what a rule answers there. Each crate of rules has its cases here, and so
-- have the normal forms, by the kind of term that the rules rewrite; whatever is said of steps asks these definitions alone.
use Rattle.std.specs.Prelude.{ℕ, nat_le, List, length, Option, Some, None, if◌then◌else◌, ◌⊎◌}
use Rattle.ipdl_norm.specs.Repeated.{first_repeated_name}
use Rattle.ipdl_norm.specs.Shaped.{shaped}
use Rattle.ipdl_norm.specs.Tidied.{tidied}
use Rattle.ipdl_rules_p.specs.Instances.{IsProtocolInstance}
use Rattle.ipdl_rules_p.specs.Matching as P
use Rattle.ipdl_rules_r.specs.Expressions.{IsExpressionInstance, pair_at, question_at}
use Rattle.ipdl_rules_r.specs.Instances.{IsReactionInstance}
use Rattle.ipdl_rules_r.specs.Matching as Q
use Rattle.ipdl_rules_r.specs.TruthTests.{TruthRefusal, form_refusal, truth_refusal}
use Rattle.ipdl_script.specs.NormalForms.{IsShaping, IsTidying}
use Rattle.ipdl_term.specs.Interpretations.{Signature}
use Rattle.ipdl_term.specs.Rules.{Rule}
use Rattle.ipdl_term.specs.Rules as R
use Rattle.ipdl_term.specs.Surroundings.{Surroundings, Condition}
use Rattle.ipdl_term.specs.Terms.{Channel, Protocol, Reaction, Term, protocol_term, reaction_term, expression_term}

-- the second term is what the rule makes of the first, where these symbols and surroundings are
abbrev pub IsInstanceAt : Signature → Surroundings → Rule → (left right : Term) → Type 0
IsInstanceAt sig around rule (protocol_term left) (protocol_term right) =
    IsProtocolInstance rule left right ⊎ IsShaping rule left right
IsInstanceAt sig around rule (reaction_term left) (reaction_term right) =
    IsReactionInstance sig rule left right ⊎ IsTidying rule left right
IsInstanceAt sig around rule (expression_term left) (expression_term right) =
    IsExpressionInstance sig around.widths around.conditions rule left right
IsInstanceAt _ _ _ _ _ = ⊥

-- ---- answers

pub data Answer : Type 0 where
  -- the term has not the left shape of the rule
  other_shape : Answer
  -- the side condition of this number is the first that fails
  failing : (number : ℕ) → Answer
  -- all hold, and this is the right side
  gives : (right : Term) → Answer

-- what a rule for protocols answers, of terms
abbrev pub answer_of_protocols : P.Answer → Answer
answer_of_protocols P.other_shape = other_shape
answer_of_protocols (P.failing number) = failing number
answer_of_protocols (P.gives right) = gives (protocol_term right)

-- what a rule for reactions answers, of terms
abbrev pub answer_of_reactions : Q.Answer → Answer
answer_of_reactions Q.other_shape = other_shape
answer_of_reactions (Q.failing number) = failing number
answer_of_reactions (Q.gives right) = gives (reaction_term right)

-- what `shape` answers: a shape, where no name repeats
abbrev pub shape_answer : (repeated : Option Channel) → Protocol → Answer
shape_answer None left = gives (protocol_term (shaped left))
shape_answer (Some c) left = failing 1

-- what a rule answers to a protocol
abbrev pub protocol_answer : Rule → (left : Protocol) → Answer
protocol_answer R.shape left = shape_answer (first_repeated_name left) left
protocol_answer rule left = answer_of_protocols (P.answer rule left)

-- what a rule answers to a reaction
abbrev pub reaction_answer : Signature → Rule → (left : Reaction) → Answer
reaction_answer sig R.tidy left = gives (reaction_term (tidied left))
reaction_answer sig rule left = answer_of_reactions (Q.answer sig rule left)

-- What a rule for expressions answers, whatever stands there: its own expression, for `table` where so many conditions are
-- around. Whether that is equal is asked last of all.
abbrev pub expression_answer : List Condition → Rule → Answer
expression_answer conditions (R.table k e) =
    if nat_le k (length conditions) then gives (expression_term e) else failing 1
expression_answer conditions (R.lin e) = gives (expression_term e)
expression_answer conditions _ = other_shape

-- what the rule answers to a term there
abbrev pub answer_at : Signature → Surroundings → Rule → (left : Term) → Answer
answer_at sig around rule (protocol_term left) = protocol_answer rule left
answer_at sig around rule (reaction_term left) = reaction_answer sig rule left
answer_at sig around rule (expression_term left) = expression_answer around.conditions rule

-- ---- truth

-- why a right side that is answered is not equal there; only the rules for expressions ask
abbrev pub truth_at : Signature → Surroundings → Rule → (left : Term) → Option TruthRefusal
truth_at sig around (R.table k e) (expression_term left) =
    truth_refusal (question_at sig around.widths around.conditions k left e)
truth_at sig around (R.lin e) (expression_term left) = form_refusal (pair_at sig around.widths left e)
truth_at _ _ _ _ = None
