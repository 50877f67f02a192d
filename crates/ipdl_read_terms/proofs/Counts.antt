-- The nodes that are counted, and the binders around.
use Rattle.std.proofs.Common.{◌≡◌, ℕ, suc, ◌+◌, ◌≤◌, List, [], length, refl, sym, ap, subst, arith}
use Rattle.std.specs.Prelude.{Option, Some, None}
use Rattle.ipdl_forms.specs.Counts.{counted, IsWithinNodes}
use Rattle.ipdl_read_terms.specs.Counts.{IsUnder}

-- within the limit
pub under_within : (depth : ℕ) (count : Option ℕ) → IsUnder depth count → IsWithinNodes count
under_within depth None under = absurd under
under_within depth (Some n) under = under.1

-- few binders
pub under_shallow : (depth : ℕ) (count : Option ℕ) → IsUnder depth count → depth ≤ 4096
under_shallow depth None under = absurd under
under_shallow depth (Some n) under = omega arith

-- more nodes within the limit
pub under_more : (depth more : ℕ) (count : Option ℕ) → IsUnder depth count → IsWithinNodes (counted more count) → IsUnder (depth + more) (counted more count)
under_more depth more None under within = absurd under
under_more depth more (Some n) under within = (omega arith, within)

-- fewer binders
pub under_fewer : (depth less : ℕ) (count : Option ℕ) → IsUnder depth count → less ≤ depth → IsUnder less count
under_fewer depth less None under few = absurd under
under_fewer depth less (Some n) under few = (omega arith, under.1)

-- the binders that were around
pub under_kept : (depth more : ℕ) (count new : Option ℕ) → IsUnder depth count → new ≡ counted more count → IsWithinNodes new → IsUnder depth new
under_kept depth more count new under is within =
    let all = under_more depth more count under (subst IsWithinNodes is within) in
    subst (IsUnder depth) (sym is) (under_fewer (depth + more) depth (counted more count) all (omega arith))

-- one binder more, where the list was counted
one_inside : (depth : ℕ) (count : Option ℕ) → IsUnder depth count → IsWithinNodes (counted 1 count) → IsUnder (suc depth) (counted 1 count)
one_inside depth None under within = absurd under
one_inside depth (Some n) under within = (omega arith, within)

pub under_inside : (depth : ℕ) (count new : Option ℕ) → IsUnder depth count → new ≡ counted 1 count → IsWithinNodes new → IsUnder (suc depth) new
under_inside depth count new under is within =
    subst (IsUnder (suc depth)) (sym is) (one_inside depth count under (subst IsWithinNodes is within))

-- no binder is around
pub under_alone : (names : List (List ℕ)) (count : Option ℕ) → names ≡ [] → IsUnder 0 count → IsUnder (length names) count
under_alone names count alone under = subst (λ ns. IsUnder (length ns) count) (sym alone) under

pub under_none : (depth : ℕ) (count : Option ℕ) → IsUnder depth count → IsUnder 0 count
under_none depth count under = under_fewer depth 0 count under (omega arith)

-- nodes counted one after the other
pub counted_twice : (first second : ℕ) (count : Option ℕ) → counted second (counted first count) ≡ counted (first + second) count
counted_twice first second None = refl
counted_twice first second (Some n) = ap Some (let same : n + first + second ≡ n + (first + second) = omega arith in same)

-- no node more
pub counted_none : (count : Option ℕ) → counted 0 count ≡ count
counted_none None = refl
counted_none (Some n) = ap Some (let same : n + 0 ≡ n = omega arith in same)
