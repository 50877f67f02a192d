-- The terms that the types of the program stand for.
use Rattle.ipdl_term.specs.declared.expression.Expr.{Expr}
use Rattle.ipdl_term.specs.declared.expression.Expr.TheVariants as E
use Rattle.ipdl_term.specs.declared.reaction.React.{React}
use Rattle.ipdl_term.specs.declared.reaction.React.TheVariants as R
use Rattle.ipdl_term.specs.declared.protocol.Proto.{Proto}
use Rattle.ipdl_term.specs.declared.protocol.Proto.TheVariants as P
use Rattle.ipdl_term.specs.declared.context.Ctx.{Ctx}
use Rattle.ipdl_term.specs.declared.context.Ctx.TheVariants as C
use Rattle.ipdl_term.specs.declared.part.Part.{Part}
use Rattle.ipdl_term.specs.declared.part.Part.TheVariants as T
use Rattle.ipdl_term.specs.Terms.{Expression, literal, variable, outer, application, exclusive, conjunction, negation, concatenation, segment, equality, selection, Reaction, returning, flipping, reading, branching, binding, Protocol, nil, assignment, parallel, hiding, Context, hole, in_left, in_right, in_hiding, Term, protocol_term, reaction_term, expression_term}

-- A box comes as its pointer and then its value.
abbrev pub expression_of : Expr → Expression
expression_of (E.Lit bits) = literal bits
expression_of (E.Var n) = variable n
expression_of (E.Outer n) = outer n
expression_of (E.Apply' f _ e) = application f (expression_of e)
expression_of (E.Xor' _ a _ b) = exclusive (expression_of a) (expression_of b)
expression_of (E.And' _ a _ b) = conjunction (expression_of a) (expression_of b)
expression_of (E.Not' _ a) = negation (expression_of a)
expression_of (E.Cat' _ a _ b) = concatenation (expression_of a) (expression_of b)
expression_of (E.Cut' i n _ a) = segment i n (expression_of a)
expression_of (E.Same' _ a _ b) = equality (expression_of a) (expression_of b)
expression_of (E.Mux' _ c _ a _ b) = selection (expression_of c) (expression_of a) (expression_of b)

abbrev pub reaction_of : React → Reaction
reaction_of (R.Ret e) = returning (expression_of e)
reaction_of (R.Flip w) = flipping w
reaction_of (R.Read c) = reading c
reaction_of (R.Cond' e _ r _ s) = branching (expression_of e) (reaction_of r) (reaction_of s)
reaction_of (R.Bind' w _ r _ s) = binding w (reaction_of r) (reaction_of s)

abbrev pub protocol_of : Proto → Protocol
protocol_of P.Nil = nil
protocol_of (P.Out c r) = assignment c (reaction_of r)
protocol_of (P.Par' _ p _ q) = parallel (protocol_of p) (protocol_of q)
protocol_of (P.Hide' c w _ p) = hiding c w (protocol_of p)

abbrev pub context_of : Ctx → Context
context_of C.Hole = hole
context_of (C.Left' _ c q) = in_left (context_of c) (protocol_of q)
context_of (C.Right' p _ c) = in_right (protocol_of p) (context_of c)
context_of (C.Hide' c w _ inner) = in_hiding c w (context_of inner)

abbrev pub term_of : Part → Term
term_of (T.P p) = protocol_term (protocol_of p)
term_of (T.R r) = reaction_term (reaction_of r)
term_of (T.E e) = expression_term (expression_of e)
