-- Typed terms are within their signature and their binders.
use Rattle.std.proofs.Common.{ℕ, suc, ◌+◌, List, [], ◌∷◌, length, subst, arith, ◌≡◌}
use Rattle.std.proofs.lemmas.Option.{slice_get_within}
use Rattle.ipdl_term.specs.Terms.{Expression, literal, variable, outer, application, exclusive, conjunction, negation, concatenation, segment, equality, selection, Reaction, returning, flipping, reading, branching, binding, Protocol, nil, assignment, parallel, hiding}
use Rattle.ipdl_term.specs.Interpretations.{Signature}
use Rattle.ipdl_term.specs.Typing.{Scope, scope_with, HasWidth, GivesWidth, IsTyped}
use Rattle.ipdl_term.specs.Within.{IsExpressionWithin, IsReactionWithin, IsProtocolWithin}

pub IsExpressionWithin-typed : (sig : Signature) (widths : List ℕ) (e : Expression) (w : ℕ) → HasWidth sig widths e w → IsExpressionWithin (length sig) (length widths) e
IsExpressionWithin-typed sig widths (literal bits) w typed = tt
IsExpressionWithin-typed sig widths (variable n) w typed = slice_get_within widths n w typed
IsExpressionWithin-typed sig widths (outer n) w typed = absurd typed
IsExpressionWithin-typed sig widths (application f e) w typed =
    (slice_get_within sig f typed.0 typed.1, IsExpressionWithin-typed sig widths e typed.0.from typed.2)
IsExpressionWithin-typed sig widths (exclusive a b) w typed =
    (IsExpressionWithin-typed sig widths a w typed.0, IsExpressionWithin-typed sig widths b w typed.1)
IsExpressionWithin-typed sig widths (conjunction a b) w typed =
    (IsExpressionWithin-typed sig widths a w typed.0, IsExpressionWithin-typed sig widths b w typed.1)
IsExpressionWithin-typed sig widths (negation a) w typed = IsExpressionWithin-typed sig widths a w typed
IsExpressionWithin-typed sig widths (concatenation a b) w typed =
    (IsExpressionWithin-typed sig widths a typed.0 typed.2, IsExpressionWithin-typed sig widths b typed.1 typed.3)
IsExpressionWithin-typed sig widths (segment i n a) w typed = IsExpressionWithin-typed sig widths a typed.0 typed.1
IsExpressionWithin-typed sig widths (equality a b) w typed =
    (IsExpressionWithin-typed sig widths a typed.0 typed.1, IsExpressionWithin-typed sig widths b typed.0 typed.2)
IsExpressionWithin-typed sig widths (selection c a b) w typed =
    (IsExpressionWithin-typed sig widths c 1 typed.0, IsExpressionWithin-typed sig widths a w typed.1, IsExpressionWithin-typed sig widths b w typed.2)

pub IsReactionWithin-typed : (sig : Signature) (scope : Scope) (widths : List ℕ) (r : Reaction) (w : ℕ) → GivesWidth sig scope widths r w → IsReactionWithin (length sig) (length widths) r
IsReactionWithin-typed sig scope widths (returning e) w typed = IsExpressionWithin-typed sig widths e w typed
IsReactionWithin-typed sig scope widths (flipping n) w typed = tt
IsReactionWithin-typed sig scope widths (reading c) w typed = tt
IsReactionWithin-typed sig scope widths (branching e r s) w typed =
    (IsExpressionWithin-typed sig widths e 1 typed.0, IsReactionWithin-typed sig scope widths r w typed.1, IsReactionWithin-typed sig scope widths s w typed.2)
IsReactionWithin-typed sig scope widths (binding v r s) w typed =
    let more : suc (length widths) ≡ length widths + 1 = omega arith in
    (IsReactionWithin-typed sig scope widths r v typed.0, subst (λ depth. IsReactionWithin (length sig) depth s) more (IsReactionWithin-typed sig scope (v ∷ widths) s w typed.1))

pub IsProtocolWithin-typed : (sig : Signature) (scope : Scope) (p : Protocol) → IsTyped sig scope p → IsProtocolWithin (length sig) p
IsProtocolWithin-typed sig scope nil typed = tt
IsProtocolWithin-typed sig scope (assignment c r) typed = IsReactionWithin-typed sig scope [] r typed.0 typed.2
IsProtocolWithin-typed sig scope (parallel p q) typed =
    (IsProtocolWithin-typed sig scope p typed.0, IsProtocolWithin-typed sig scope q typed.1)
IsProtocolWithin-typed sig scope (hiding c w p) typed = IsProtocolWithin-typed sig (scope_with c w scope) p typed.1
