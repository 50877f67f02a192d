-- The answers to the worked questions.
use Rattle.std.proofs.Common.{◌≡◌, ◌<◌, Bool, true, false, List, [], ◌∷◌, refl, arith, subst, sym}
use Rattle.ipdl_base.specs.Bits.{number_of}
use Rattle.ipdl_term.specs.Surroundings.{FitWidths}
use Rattle.ipdl_term.specs.Terms.{Value, variable, literal}
use Rattle.ipdl_truth.specs.Agreement.{IsAllowed, AgreeOn, AgreeEverywhere, DifferFirstAt}
use Rattle.ipdl_truth.specs.FreeVariables.{reading}
use Rattle.ipdl_truth.specs.Questions.{valuation_of}
use Rattle.ipdl_truth.specs.Worked.{asked, zero_bit, cancelled, has_value}

-- one binder of one bit
one_bit : (env : List Value) → FitWidths (1 ∷ []) env → (b : Bool) × ((b ∷ []) ∷ [] ≡ env)
one_bit [] h = absurd h
one_bit ([] ∷ []) h = absurd (omega (arith, h.0))
one_bit ((b ∷ []) ∷ []) h = (b, refl)
one_bit ((b ∷ c ∷ bits) ∷ []) h = absurd (omega (arith, h.0))
one_bit (v ∷ u ∷ env) h = absurd h.1

cancelled_at : (b : Bool) → AgreeOn (asked cancelled zero_bit []) ((b ∷ []) ∷ [])
cancelled_at true = refl
cancelled_at false = refl

pub cancelled_everywhere : AgreeEverywhere (asked cancelled zero_bit [])
cancelled_everywhere env allowed =
    let b = one_bit env allowed.widths in
    subst (AgreeOn (asked cancelled zero_bit [])) b.1 (cancelled_at b.0)

zero_at : (b : Bool) → IsAllowed (asked (variable 0) zero_bit (has_value false ∷ [])) ((b ∷ []) ∷ []) → AgreeOn (asked (variable 0) zero_bit (has_value false ∷ [])) ((b ∷ []) ∷ [])
zero_at b allowed = allowed.conditions.0

pub zero_where_asked : AgreeEverywhere (asked (variable 0) zero_bit (has_value false ∷ []))
zero_where_asked env allowed =
    let q = asked (variable 0) zero_bit (has_value false ∷ []) in
    let b = one_bit env allowed.widths in
    subst (AgreeOn q) b.1 (zero_at b.0 (subst (IsAllowed q) (sym b.1) allowed))

-- below the bit 1 there is the bit 0 alone
below_one : (b : Bool) → number_of ((b ∷ [])) < number_of (true ∷ []) → b ≡ false
unfolding number_of
below_one true less = absurd (omega arith)
below_one false less = refl

bit_first : (b : Bool) → reading (valuation_of (asked (variable 0) zero_bit []) ((b ∷ []) ∷ [])) < reading ((0, true ∷ []) ∷ []) → AgreeOn (asked (variable 0) zero_bit []) ((b ∷ []) ∷ [])
bit_first b less = let e = below_one b less in subst (λ x. AgreeOn (asked (variable 0) zero_bit []) ((x ∷ []) ∷ [])) (sym e) refl

pub bit_differs : DifferFirstAt (asked (variable 0) zero_bit []) ((0, true ∷ []) ∷ [])
bit_differs =
    let q = asked (variable 0) zero_bit [] in
    record {
      env = (true ∷ []) ∷ [];
      allowed = record { widths = (refl, tt); conditions = tt };
      values = refl;
      differ = λ e. cc;
      first = λ others allowed less.
          let b = one_bit others allowed.widths in
          let P : List Value → Type 0 = λ env. reading (valuation_of q env) < reading ((0, true ∷ []) ∷ []) in
          subst (AgreeOn q) b.1 (bit_first b.0 (subst P (sym b.1) less));
    }

pub width_differs : DifferFirstAt (asked (variable 0) (literal []) (has_value true ∷ [])) ((0, true ∷ []) ∷ [])
width_differs =
    let q = asked (variable 0) (literal []) (has_value true ∷ []) in
    record {
      env = (true ∷ []) ∷ [];
      allowed = record { widths = (refl, tt); conditions = (refl, tt) };
      values = refl;
      differ = λ e. cc;
      first = λ others allowed less.
          let b = one_bit others allowed.widths in
          let P : List Value → Type 0 = λ env. reading (valuation_of q env) < reading ((0, true ∷ []) ∷ []) in
          let zero_bit_is = below_one b.0 (subst P (sym b.1) less) in
          let told = subst (IsAllowed q) (sym b.1) allowed in
          let one_is = told.conditions.0 in
          absurd (cc);
    }
