-- The worked rows of the rule that rewrites an expression.
use Rattle.std.proofs.Common.{◌≡◌, Bool, true, false, List, [], ◌∷◌, length, refl, ap, ◌∙◌, subst, sym, arith, lit≤}
use Rattle.ipdl_base.specs.Bits.{xor_bits}
use Rattle.ipdl_rules_r.specs.Expressions.{question_at, IsExpressionInstance}
use Rattle.ipdl_rules_r.specs.Worked.{symbols, v0, v1}
use Rattle.ipdl_rules_r.specs.WorkedExpressions.{cancelled, nothing_of, two_arms, two_binders}
use Rattle.ipdl_term.specs.Interpretations.{zeros, at_one_width}
use Rattle.ipdl_term.specs.Rules as R
use Rattle.ipdl_term.specs.Surroundings.{FitWidths}
use Rattle.ipdl_term.specs.Terms.{Value}
use Rattle.ipdl_truth.specs.Agreement.{IsAllowed, AgreeOn, AgreeEverywhere}

-- ---- bits with themselves

self_cancels : (v : Value) → xor_bits v v ≡ zeros (length v)
self_cancels [] = refl
self_cancels (true ∷ v) = ap (λ x. false ∷ x) (self_cancels v)
self_cancels (false ∷ v) = ap (λ x. false ∷ x) (self_cancels v)

at_twelve : (v : Value) → length v ≡ 12 → at_one_width v v (xor_bits v v) ≡ zeros 12
at_twelve v h = let e : xor_bits v v ≡ zeros 12 = self_cancels v ∙ ap zeros h in rw h e

cancelled_everywhere : AgreeEverywhere (question_at symbols (12 ∷ []) [] 0 cancelled (nothing_of 12))
cancelled_everywhere [] allowed = absurd allowed.widths
cancelled_everywhere (v ∷ []) allowed = at_twelve v allowed.widths.0
cancelled_everywhere (v ∷ u ∷ env) allowed = absurd allowed.widths.1

pub cancelled_instance : IsExpressionInstance symbols (12 ∷ []) [] (R.table 0 (nothing_of 12)) cancelled (nothing_of 12)
cancelled_instance = (
  lit≤ tt,
  record { tables = refl; light = lit≤ tt; narrow = lit≤ tt; agree = cancelled_everywhere },
  refl,
)

-- ---- arms

-- the values from the outermost
two_values : (env : List Value) → FitWidths (2 ∷ 1 ∷ []) env → (a b c : Bool) × ((a ∷ b ∷ []) ∷ (c ∷ []) ∷ [] ≡ env)
two_values [] h = absurd h
two_values (u ∷ []) h = absurd h.1
two_values ((a ∷ b ∷ []) ∷ (c ∷ []) ∷ []) h = (a, b, c, refl)
two_values ([] ∷ v ∷ []) h = absurd (omega (arith, h.0))
two_values ((a ∷ []) ∷ v ∷ []) h = absurd (omega (arith, h.0))
two_values ((a ∷ b ∷ c ∷ bits) ∷ v ∷ []) h = absurd (omega (arith, h.0))
two_values ((a ∷ b ∷ []) ∷ [] ∷ []) h = absurd (omega (arith, h.1.0))
two_values ((a ∷ b ∷ []) ∷ (c ∷ d ∷ bits) ∷ []) h = absurd (omega (arith, h.1.0))
two_values (u ∷ v ∷ w ∷ env) h = absurd h.1.1

inner_at : (a b c : Bool) → (let q = question_at symbols two_binders two_arms 1 v0 (nothing_of 1) in let env = (a ∷ b ∷ []) ∷ (c ∷ []) ∷ [] in IsAllowed q env → AgreeOn q env)
inner_at a b c allowed = allowed.conditions.0

inner_everywhere : AgreeEverywhere (question_at symbols two_binders two_arms 1 v0 (nothing_of 1))
inner_everywhere env allowed =
    let q = question_at symbols two_binders two_arms 1 v0 (nothing_of 1) in
    let x = two_values env allowed.widths in
    subst (AgreeOn q) x.3 (inner_at x.0 x.1 x.2 (subst (IsAllowed q) (sym x.3) allowed))

pub inner_instance : IsExpressionInstance symbols two_binders two_arms (R.table 1 (nothing_of 1)) v0 (nothing_of 1)
inner_instance = (
  lit≤ tt,
  record { tables = refl; light = lit≤ tt; narrow = lit≤ tt; agree = inner_everywhere },
  refl,
)

outer_at : (a b c : Bool) → (let q = question_at symbols two_binders two_arms 2 v1 (nothing_of 2) in let env = (a ∷ b ∷ []) ∷ (c ∷ []) ∷ [] in IsAllowed q env → AgreeOn q env)
outer_at false false c allowed = refl
outer_at false true c allowed = let e = allowed.conditions.1.0 in cc
outer_at true false c allowed = let e = allowed.conditions.1.0 in cc
outer_at true true c allowed = let e = allowed.conditions.1.0 in cc

outer_everywhere : AgreeEverywhere (question_at symbols two_binders two_arms 2 v1 (nothing_of 2))
outer_everywhere env allowed =
    let q = question_at symbols two_binders two_arms 2 v1 (nothing_of 2) in
    let x = two_values env allowed.widths in
    subst (AgreeOn q) x.3 (outer_at x.0 x.1 x.2 (subst (IsAllowed q) (sym x.3) allowed))

pub outer_instance : IsExpressionInstance symbols two_binders two_arms (R.table 2 (nothing_of 2)) v1 (nothing_of 2)
outer_instance = (
  lit≤ tt,
  record { tables = refl; light = lit≤ tt; narrow = lit≤ tt; agree = outer_everywhere },
  refl,
)

-- at `#11` for the outer one
pub outer_by_innermost_alone : IsExpressionInstance symbols two_binders two_arms (R.table 1 (nothing_of 2)) v1 (nothing_of 2) → ⊥
outer_by_innermost_alone h =
    let e = h.1.agree ((true ∷ true ∷ []) ∷ (false ∷ []) ∷ []) (record { widths = (refl, (refl, tt)); conditions = (refl, tt) }) in
    cc

pub three_conditions : IsExpressionInstance symbols two_binders two_arms (R.table 3 (nothing_of 2)) v1 (nothing_of 2) → ⊥
three_conditions h = let few = h.0 in omega arith
