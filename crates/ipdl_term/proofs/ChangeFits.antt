-- Changes that keep the numbers of the variables in 32 bits.
use Rattle.std.proofs.Common.{ℕ, suc, ◌+◌, ◌^◌, ◌<◌, ◌≤◌, arith}
use Rattle.ipdl_term.specs.Terms.{Expression, literal, variable, outer, application, exclusive, conjunction, negation, concatenation, segment, equality, selection, Reaction, returning, flipping, reading, branching, binding, Protocol, nil, assignment, parallel, hiding}
use Rattle.ipdl_term.specs.Sizes.{greatest_in_expression, reaction_binders, protocol_binders}
use Rattle.ipdl_term.specs.Fitting.{LiftFitsInExpression, LiftFitsInReaction}
use Rattle.ipdl_term.specs.Changes.{Change, keep, lift, put, settle, VariableFits, OuterVariableFits, ChangeFitsInExpression, ChangeFitsInReaction, ChangeFitsInProtocol}
use Rattle.ipdl_term.proofs.FittingLemmas.{LiftFitsInExpression-greatest, LiftFitsInExpression-none}

-- ---- lifts

pub ChangeFitsInExpression-lift : (by depth : ℕ) (e : Expression) → LiftFitsInExpression e depth by → ChangeFitsInExpression (lift by) depth e
ChangeFitsInExpression-lift by depth (literal bits) fits = tt
ChangeFitsInExpression-lift by depth (variable n) fits = fits
ChangeFitsInExpression-lift by depth (outer n) fits = tt
ChangeFitsInExpression-lift by depth (application f e) fits = ChangeFitsInExpression-lift by depth e fits
ChangeFitsInExpression-lift by depth (exclusive a b) fits =
    (ChangeFitsInExpression-lift by depth a fits.0, ChangeFitsInExpression-lift by depth b fits.1)
ChangeFitsInExpression-lift by depth (conjunction a b) fits =
    (ChangeFitsInExpression-lift by depth a fits.0, ChangeFitsInExpression-lift by depth b fits.1)
ChangeFitsInExpression-lift by depth (negation a) fits = ChangeFitsInExpression-lift by depth a fits
ChangeFitsInExpression-lift by depth (concatenation a b) fits =
    (ChangeFitsInExpression-lift by depth a fits.0, ChangeFitsInExpression-lift by depth b fits.1)
ChangeFitsInExpression-lift by depth (segment i n a) fits = ChangeFitsInExpression-lift by depth a fits
ChangeFitsInExpression-lift by depth (equality a b) fits =
    (ChangeFitsInExpression-lift by depth a fits.0, ChangeFitsInExpression-lift by depth b fits.1)
ChangeFitsInExpression-lift by depth (selection c a b) fits =
    (ChangeFitsInExpression-lift by depth c fits.0, ChangeFitsInExpression-lift by depth a fits.1, ChangeFitsInExpression-lift by depth b fits.2)

pub ChangeFitsInReaction-lift : (by depth : ℕ) (r : Reaction) → LiftFitsInReaction r depth by → ChangeFitsInReaction (lift by) depth r
ChangeFitsInReaction-lift by depth (returning e) fits = ChangeFitsInExpression-lift by depth e fits
ChangeFitsInReaction-lift by depth (flipping w) fits = tt
ChangeFitsInReaction-lift by depth (reading c) fits = tt
ChangeFitsInReaction-lift by depth (branching e r s) fits =
    (ChangeFitsInExpression-lift by depth e fits.0, ChangeFitsInReaction-lift by depth r fits.1, ChangeFitsInReaction-lift by depth s fits.2)
ChangeFitsInReaction-lift by depth (binding w r s) fits =
    (ChangeFitsInReaction-lift by depth r fits.0, ChangeFitsInReaction-lift by (suc depth) s fits.1)

pub ruleset lift_fits = (ChangeFitsInExpression-lift, ChangeFitsInReaction-lift)

-- ---- changes that fit at each depth that a term has

-- whatever variables there are at this depth
abbrev FitsAt : Change → ℕ → Type 0
FitsAt change depth = ((n : ℕ) → VariableFits change depth n) × OuterVariableFits change depth

ChangeFitsInExpression-at : (change : Change) (depth : ℕ) (e : Expression) → FitsAt change depth → ChangeFitsInExpression change depth e
ChangeFitsInExpression-at change depth (literal bits) at = tt
ChangeFitsInExpression-at change depth (variable n) at = at.0 n
ChangeFitsInExpression-at change depth (outer n) at = at.1
ChangeFitsInExpression-at change depth (application f e) at = ChangeFitsInExpression-at change depth e at
ChangeFitsInExpression-at change depth (exclusive a b) at =
    (ChangeFitsInExpression-at change depth a at, ChangeFitsInExpression-at change depth b at)
ChangeFitsInExpression-at change depth (conjunction a b) at =
    (ChangeFitsInExpression-at change depth a at, ChangeFitsInExpression-at change depth b at)
ChangeFitsInExpression-at change depth (negation a) at = ChangeFitsInExpression-at change depth a at
ChangeFitsInExpression-at change depth (concatenation a b) at =
    (ChangeFitsInExpression-at change depth a at, ChangeFitsInExpression-at change depth b at)
ChangeFitsInExpression-at change depth (segment i n a) at = ChangeFitsInExpression-at change depth a at
ChangeFitsInExpression-at change depth (equality a b) at =
    (ChangeFitsInExpression-at change depth a at, ChangeFitsInExpression-at change depth b at)
ChangeFitsInExpression-at change depth (selection c a b) at =
    (ChangeFitsInExpression-at change depth c at, ChangeFitsInExpression-at change depth a at, ChangeFitsInExpression-at change depth b at)

ChangeFitsInReaction-at : (change : Change) (most depth : ℕ) (r : Reaction) → ((d : ℕ) → d ≤ most → FitsAt change d) → depth + reaction_binders r ≤ most → ChangeFitsInReaction change depth r
ChangeFitsInReaction-at change most depth (returning e) at room = ChangeFitsInExpression-at change depth e (at depth (omega arith))
ChangeFitsInReaction-at change most depth (flipping w) at room = tt
ChangeFitsInReaction-at change most depth (reading c) at room = tt
ChangeFitsInReaction-at change most depth (branching e r s) at room =
    (ChangeFitsInExpression-at change depth e (at depth (omega arith)), ChangeFitsInReaction-at change most depth r at (omega arith), ChangeFitsInReaction-at change most depth s at (omega arith))
ChangeFitsInReaction-at change most depth (binding w r s) at room =
    (ChangeFitsInReaction-at change most depth r at (omega arith), ChangeFitsInReaction-at change most (suc depth) s at (omega arith))

ChangeFitsInProtocol-at : (change : Change) (most depth : ℕ) (p : Protocol) → ((d : ℕ) → d ≤ most → FitsAt change d) → depth + protocol_binders p ≤ most → ChangeFitsInProtocol change depth p
ChangeFitsInProtocol-at change most depth nil at room = tt
ChangeFitsInProtocol-at change most depth (assignment c r) at room = ChangeFitsInReaction-at change most depth r at room
ChangeFitsInProtocol-at change most depth (parallel p q) at room =
    (ChangeFitsInProtocol-at change most depth p at (omega arith), ChangeFitsInProtocol-at change most depth q at (omega arith))
ChangeFitsInProtocol-at change most depth (hiding c w p) at room = ChangeFitsInProtocol-at change most depth p at room

-- ---- copies

pub ChangeFitsInExpression-keep : (depth : ℕ) (e : Expression) → ChangeFitsInExpression keep depth e
ChangeFitsInExpression-keep depth e = ChangeFitsInExpression-at keep depth e ((λ n. tt), tt)

pub ChangeFitsInReaction-keep : (depth : ℕ) (r : Reaction) → ChangeFitsInReaction keep depth r
ChangeFitsInReaction-keep depth r =
    ChangeFitsInReaction-at keep (depth + reaction_binders r) depth r (λ d below. ((λ n. tt), tt)) (omega arith)

pub ChangeFitsInProtocol-keep : (depth : ℕ) (p : Protocol) → ChangeFitsInProtocol keep depth p
ChangeFitsInProtocol-keep depth p =
    ChangeFitsInProtocol-at keep (depth + protocol_binders p) depth p (λ d below. ((λ n. tt), tt)) (omega arith)

pub ruleset keep_fits = (ChangeFitsInExpression-keep, ChangeFitsInReaction-keep, ChangeFitsInProtocol-keep)

-- ---- values

pub ChangeFitsInExpression-put : (v e : Expression) → ChangeFitsInExpression (put v) 0 e
ChangeFitsInExpression-put v e =
    ChangeFitsInExpression-at (put v) 0 e ((λ n is. LiftFitsInExpression-none v 0), tt)

pub ChangeFitsInReaction-put : (v : Expression) (r : Reaction) → greatest_in_expression v + reaction_binders r < 2 ^ 32 → ChangeFitsInReaction (put v) 0 r
ChangeFitsInReaction-put v r room =
    ChangeFitsInReaction-at (put v) (reaction_binders r) 0 r (λ d below. ((λ n is. LiftFitsInExpression-greatest v 0 d (omega arith)), tt)) (omega arith)

pub ruleset put_fits = (ChangeFitsInExpression-put, ChangeFitsInReaction-put)

-- ---- settling

pub ChangeFitsInExpression-settle : (depth : ℕ) (e : Expression) → depth < 2 ^ 32 → ChangeFitsInExpression settle depth e
ChangeFitsInExpression-settle depth e room = ChangeFitsInExpression-at settle depth e ((λ n. tt), room)

pub ChangeFitsInReaction-settle : (depth : ℕ) (r : Reaction) → depth + reaction_binders r < 2 ^ 32 → ChangeFitsInReaction settle depth r
ChangeFitsInReaction-settle depth r room =
    ChangeFitsInReaction-at settle (depth + reaction_binders r) depth r (λ d below. ((λ n. tt), omega arith)) (omega arith)

pub ChangeFitsInProtocol-settle : (depth : ℕ) (p : Protocol) → depth + protocol_binders p < 2 ^ 32 → ChangeFitsInProtocol settle depth p
ChangeFitsInProtocol-settle depth p room =
    ChangeFitsInProtocol-at settle (depth + protocol_binders p) depth p (λ d below. ((λ n. tt), omega arith)) (omega arith)

pub ruleset settle_fits = (ChangeFitsInExpression-settle, ChangeFitsInReaction-settle, ChangeFitsInProtocol-settle)
