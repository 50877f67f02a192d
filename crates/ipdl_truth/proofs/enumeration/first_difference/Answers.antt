use Rattle.std.proofs.Common.{◌≡◌, ℕ, ◌*◌, ◌%◌, ◌^◌, ◌<◌, ◌≤◌, List, length, reverse, subst, sym, ap, ◌∙◌, arith, mod-eq_of_lt}
use Rattle.std.proofs.Math.Nat.{pow-le-pow_right}
use Rattle.std.specs.Prelude.{All}
use Rattle.ipdl_term.specs.Surroundings.{Meets}
use Rattle.ipdl_truth.proofs.Enumerations.{agree_below_next, differ_at, binders_after, agree_everywhere}
use Rattle.ipdl_truth.proofs.FreeValues.{free_of-below}
use Rattle.ipdl_truth.specs.Agreement.{AgreeOn, DifferFirstAt}
use Rattle.ipdl_truth.specs.FreeVariables.{reading}
use Rattle.ipdl_truth.specs.Questions.{expressions_in, free_variables, free_bits, valuation_of}
use Rattle.ipdl_truth.specs.Tables.{tables_of}
use Rattle.ipdl_truth.specs.Valuations.{valued, put_in}
use Rattle.ipdl_truth.specs.Views.{asked_of}
use Rattle.ipdl_truth.proofs.enumeration.first_difference.Goals as goal

-- the number of all valuations
count_is : (bits : ℕ) → bits ≤ 12 → 1 * 2 ^ bits % 4294967296 ≡ 2 ^ bits
count_is bits few =
    let two : 0 < 2 = omega arith in
    let most : 2 ^ bits ≤ 2 ^ 12 = pow-le-pow_right two few in
    ap (λ n. n % 4294967296) (omega arith) ∙ mod-eq_of_lt (omega arith)

before : (m k n : ℕ) → m < k → k ≤ n → m < n
before m k n less past = omega arith

pub fill-requires-clause-within : goal.fill-requires-clause-within
fill-requires-clause-within c =
    let q = asked_of c.args.question.now in
    let all = free_of-below (expressions_in q) q.widths in
    let P : List (ℕ × ℕ) → Type 0 = λ free. All (λ v. v.0 < length q.widths) free in
    let at = subst P (sym c.requires.free) all in
    subst (λ m. All (λ v. v.0 < m) c.args.free.now) (sym c.loop-number.invariant.binders) at

pub returns-then-differ-clause-some : goal.returns-then-differ-clause-some
returns-then-differ-clause-some c =
    let q = asked_of c.args.question.now in
    let n = c.loop-number.number in
    let env = c.loop-number.env in
    let filled : c.fill.new.env ≡ put_in (valued (free_variables q) n) env = c.fill.ensures ∙ ap (λ free. put_in (valued free n) env) c.requires.free in
    let below = subst (λ m. n < m) (count_is c.args.bits c.requires.few ∙ ap (λ b. 2 ^ b) c.requires.sum) c.loop-number-test.true in
    let true_is = c.if-differ.true in
    let met = subst (λ e. Meets (tables_of q.sig) (reverse e) q.conditions) filled (c.differ.ensures.met true_is) in
    let differ = subst (λ e. AgreeOn q e → ⊥) filled (c.differ.ensures.differ true_is) in
    subst (λ free. DifferFirstAt q (valued free n)) (sym c.requires.free)
    (differ_at q env n c.loop-number.invariant.binders below met differ c.loop-number.invariant.agree)

pub loop-number-preserved : goal.loop-number-preserved
loop-number-preserved c =
    let q = asked_of c.args.question.now in
    let n = c.loop-number.number in
    let env = c.loop-number.env in
    let filled : c.fill.new.env ≡ put_in (valued (free_variables q) n) env = c.fill.ensures ∙ ap (λ free. put_in (valued free n) env) c.requires.free in
    let told = subst (λ e. Meets (tables_of q.sig) (reverse e) q.conditions → AgreeOn q e) filled (c.differ.ensures.agree c.if-differ.false) in
    record {
      binders = ap length filled ∙ binders_after q env n c.loop-number.invariant.binders;
      agree = agree_below_next q env n c.loop-number.invariant.binders told c.loop-number.invariant.agree;
    }

pub returns-clause-none : goal.returns-clause-none
returns-clause-none c =
    let q = asked_of c.args.question.now in
    let n = c.loop-number.number in
    let past = subst (λ m. m ≤ n) (count_is c.args.bits c.requires.few ∙ ap (λ b. 2 ^ b) c.requires.sum) c.loop-number-test.false in
    agree_everywhere q (λ others allowed less. c.loop-number.invariant.agree others allowed (before (reading (valuation_of q others)) (2 ^ free_bits q) n less past))
