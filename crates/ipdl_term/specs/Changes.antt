-- Changes: what comes to stand for the variables of a term, by the depth, which grows by one under each binder.
use Rattle.std.specs.Prelude.{◌≡◌, ℕ, suc, ◌+◌, ◌^◌, ◌<◌, ◌≤◌}
use Rattle.ipdl_term.specs.declared.change.Change.TheVariants as C
use Rattle.ipdl_term.specs.declared.change.Change.{Change as DeclaredChange}
use Rattle.ipdl_term.specs.Terms.{Expression, literal, variable, outer, application, exclusive, conjunction, negation, concatenation, segment, equality, selection, Reaction, returning, flipping, reading, branching, binding, Protocol, nil, assignment, parallel, hiding}
use Rattle.ipdl_term.specs.Views.{expression_of}
use Rattle.ipdl_term.specs.Variables.{lifted_number, put_number, settled_number}
use Rattle.ipdl_term.specs.Fitting.{LiftFitsInExpression}

-- each variable stays; each from the depth on grows; a value stands for that of the depth; the outer ones become
-- variables under so many binders
pub data Change : Type 0 where
  keep : Change
  lift : (by : ℕ) → Change
  put : (value : Expression) → Change
  settle : Change

-- the change that the type of the program stands for
abbrev pub change_of : DeclaredChange → Change
change_of C.Keep = keep
change_of (C.Lift by) = lift by
change_of (C.Put v) = put (expression_of v.now)
change_of C.Settle = settle

-- ---- what stands for the variables

abbrev pub changed_variable : Change → ℕ → ℕ → Expression
changed_variable keep depth n = variable n
changed_variable (lift by) depth n = variable (lifted_number depth by n)
changed_variable (put v) depth n = put_number depth v n
changed_variable settle depth n = variable n

abbrev pub changed_outer_variable : Change → ℕ → ℕ → Expression
changed_outer_variable keep depth n = outer n
changed_outer_variable (lift by) depth n = outer n
changed_outer_variable (put v) depth n = outer n
changed_outer_variable settle depth n = settled_number depth n

abbrev pub changed_expression : Change → ℕ → Expression → Expression
changed_expression change depth (literal bits) = literal bits
changed_expression change depth (variable n) = changed_variable change depth n
changed_expression change depth (outer n) = changed_outer_variable change depth n
changed_expression change depth (application f e) = application f (changed_expression change depth e)
changed_expression change depth (exclusive a b) =
    exclusive (changed_expression change depth a) (changed_expression change depth b)
changed_expression change depth (conjunction a b) =
    conjunction (changed_expression change depth a) (changed_expression change depth b)
changed_expression change depth (negation a) = negation (changed_expression change depth a)
changed_expression change depth (concatenation a b) =
    concatenation (changed_expression change depth a) (changed_expression change depth b)
changed_expression change depth (segment i n a) = segment i n (changed_expression change depth a)
changed_expression change depth (equality a b) =
    equality (changed_expression change depth a) (changed_expression change depth b)
changed_expression change depth (selection c a b) =
    selection (changed_expression change depth c) (changed_expression change depth a) (changed_expression change depth b)

abbrev pub changed_reaction : Change → ℕ → Reaction → Reaction
changed_reaction change depth (returning e) = returning (changed_expression change depth e)
changed_reaction change depth (flipping w) = flipping w
changed_reaction change depth (reading c) = reading c
changed_reaction change depth (branching e r s) =
    branching (changed_expression change depth e) (changed_reaction change depth r) (changed_reaction change depth s)
changed_reaction change depth (binding w r s) =
    binding w (changed_reaction change depth r) (changed_reaction change (suc depth) s)

abbrev pub changed_protocol : Change → ℕ → Protocol → Protocol
changed_protocol change depth nil = nil
changed_protocol change depth (assignment c r) = assignment c (changed_reaction change depth r)
changed_protocol change depth (parallel p q) = parallel (changed_protocol change depth p) (changed_protocol change depth q)
changed_protocol change depth (hiding c w p) = hiding c w (changed_protocol change depth p)

-- ---- which changes keep the numbers of the variables in 32 bits

abbrev pub VariableFits : Change → ℕ → ℕ → Type 0
VariableFits keep depth n = Unit {0}
VariableFits (lift by) depth n = depth ≤ n → n < 2 ^ 32 → n + by < 2 ^ 32
VariableFits (put v) depth n = n ≡ depth → LiftFitsInExpression v 0 depth
VariableFits settle depth n = Unit {0}

abbrev pub OuterVariableFits : Change → ℕ → Type 0
OuterVariableFits keep depth = Unit {0}
OuterVariableFits (lift by) depth = Unit {0}
OuterVariableFits (put v) depth = Unit {0}
OuterVariableFits settle depth = depth < 2 ^ 32

abbrev pub ChangeFitsInExpression : Change → ℕ → Expression → Type 0
ChangeFitsInExpression change depth (literal bits) = Unit {0}
ChangeFitsInExpression change depth (variable n) = VariableFits change depth n
ChangeFitsInExpression change depth (outer n) = OuterVariableFits change depth
ChangeFitsInExpression change depth (application f e) = ChangeFitsInExpression change depth e
ChangeFitsInExpression change depth (exclusive a b) =
    ChangeFitsInExpression change depth a × ChangeFitsInExpression change depth b
ChangeFitsInExpression change depth (conjunction a b) =
    ChangeFitsInExpression change depth a × ChangeFitsInExpression change depth b
ChangeFitsInExpression change depth (negation a) = ChangeFitsInExpression change depth a
ChangeFitsInExpression change depth (concatenation a b) =
    ChangeFitsInExpression change depth a × ChangeFitsInExpression change depth b
ChangeFitsInExpression change depth (segment i n a) = ChangeFitsInExpression change depth a
ChangeFitsInExpression change depth (equality a b) =
    ChangeFitsInExpression change depth a × ChangeFitsInExpression change depth b
ChangeFitsInExpression change depth (selection c a b) =
    ChangeFitsInExpression change depth c × ChangeFitsInExpression change depth a × ChangeFitsInExpression change depth b

abbrev pub ChangeFitsInReaction : Change → ℕ → Reaction → Type 0
ChangeFitsInReaction change depth (returning e) = ChangeFitsInExpression change depth e
ChangeFitsInReaction change depth (flipping w) = Unit {0}
ChangeFitsInReaction change depth (reading c) = Unit {0}
ChangeFitsInReaction change depth (branching e r s) =
    ChangeFitsInExpression change depth e × ChangeFitsInReaction change depth r × ChangeFitsInReaction change depth s
ChangeFitsInReaction change depth (binding w r s) = ChangeFitsInReaction change depth r × ChangeFitsInReaction change (suc depth) s

abbrev pub ChangeFitsInProtocol : Change → ℕ → Protocol → Type 0
ChangeFitsInProtocol change depth nil = Unit {0}
ChangeFitsInProtocol change depth (assignment c r) = ChangeFitsInReaction change depth r
ChangeFitsInProtocol change depth (parallel p q) = ChangeFitsInProtocol change depth p × ChangeFitsInProtocol change depth q
ChangeFitsInProtocol change depth (hiding c w p) = ChangeFitsInProtocol change depth p
