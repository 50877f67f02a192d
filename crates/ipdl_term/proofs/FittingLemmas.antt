-- Lifts that keep the numbers of the variables in 32 bits.
use Rattle.std.proofs.Common.{ℕ, ◌+◌, ◌^◌, ◌<◌, arith}
use Rattle.ipdl_term.specs.Terms.{Expression, literal, variable, outer, application, exclusive, conjunction, negation, concatenation, segment, equality, selection}
use Rattle.ipdl_term.specs.Sizes.{greatest_in_expression}
use Rattle.ipdl_term.specs.Fitting.{LiftFitsInExpression}

-- where the greatest number has room for the growth, each has
pub LiftFitsInExpression-greatest : (e : Expression) (from by : ℕ) → greatest_in_expression e + by < 2 ^ 32 → LiftFitsInExpression e from by
LiftFitsInExpression-greatest (literal bits) from by room = tt
LiftFitsInExpression-greatest (variable n) from by room = λ least small. room
LiftFitsInExpression-greatest (outer n) from by room = tt
LiftFitsInExpression-greatest (application f e) from by room = LiftFitsInExpression-greatest e from by room
LiftFitsInExpression-greatest (exclusive a b) from by room =
    (LiftFitsInExpression-greatest a from by (omega arith), LiftFitsInExpression-greatest b from by (omega arith))
LiftFitsInExpression-greatest (conjunction a b) from by room =
    (LiftFitsInExpression-greatest a from by (omega arith), LiftFitsInExpression-greatest b from by (omega arith))
LiftFitsInExpression-greatest (negation a) from by room = LiftFitsInExpression-greatest a from by room
LiftFitsInExpression-greatest (concatenation a b) from by room =
    (LiftFitsInExpression-greatest a from by (omega arith), LiftFitsInExpression-greatest b from by (omega arith))
LiftFitsInExpression-greatest (segment i n a) from by room = LiftFitsInExpression-greatest a from by room
LiftFitsInExpression-greatest (equality a b) from by room =
    (LiftFitsInExpression-greatest a from by (omega arith), LiftFitsInExpression-greatest b from by (omega arith))
LiftFitsInExpression-greatest (selection c a b) from by room =
    (LiftFitsInExpression-greatest c from by (omega arith), LiftFitsInExpression-greatest a from by (omega arith), LiftFitsInExpression-greatest b from by (omega arith))

-- a lift by nothing always fits
pub LiftFitsInExpression-none : (e : Expression) (from : ℕ) → LiftFitsInExpression e from 0
LiftFitsInExpression-none (literal bits) from = tt
LiftFitsInExpression-none (variable n) from = λ least small. omega arith
LiftFitsInExpression-none (outer n) from = tt
LiftFitsInExpression-none (application f e) from = LiftFitsInExpression-none e from
LiftFitsInExpression-none (exclusive a b) from = (LiftFitsInExpression-none a from, LiftFitsInExpression-none b from)
LiftFitsInExpression-none (conjunction a b) from = (LiftFitsInExpression-none a from, LiftFitsInExpression-none b from)
LiftFitsInExpression-none (negation a) from = LiftFitsInExpression-none a from
LiftFitsInExpression-none (concatenation a b) from = (LiftFitsInExpression-none a from, LiftFitsInExpression-none b from)
LiftFitsInExpression-none (segment i n a) from = LiftFitsInExpression-none a from
LiftFitsInExpression-none (equality a b) from = (LiftFitsInExpression-none a from, LiftFitsInExpression-none b from)
LiftFitsInExpression-none (selection c a b) from =
    (LiftFitsInExpression-none c from, LiftFitsInExpression-none a from, LiftFitsInExpression-none b from)
