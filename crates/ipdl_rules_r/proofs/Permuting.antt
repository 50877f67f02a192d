-- The rule `perm`: a table with a value for each argument, all of them different, permutes the values of its width.
use Rattle.std.proofs.Common.{◌≡◌, ℕ, zero, suc, ◌+◌, ◌-◌, ◌*◌, ◌^◌, ◌<◌, ◌≤◌, Bool, true, false, List, [], ◌∷◌, ◌++◌, length, Some, refl, sym, ap, ap₂, ◌∙◌, subst, arith, one-add}
use Rattle.std.proofs.lemmas.Bool.Decides.{nat_tests}
use Rattle.std.specs.Prelude.{nat_eq, slice_get, IfSome}
use Rattle.ipdl_base.proofs.BitsNumbers.{bits_of-one}
use Rattle.ipdl_base.proofs.BitsRanges.{bits_of-joined, joined_below}
use Rattle.ipdl_base.specs.Bits.{bits_of, bit_value, number_of, same_bits}
use Rattle.ipdl_base.specs.BitsLaws.{same_bits-Decides, number_of-bits_of_below}
use Rattle.ipdl_laws.proofs.Sets.{by_test, if-true, if-false, not_both}
use Rattle.ipdl_laws.proofs.Totals.{total_equal}
use Rattle.ipdl_laws.proofs.Widths.{length-evaluation}
use Rattle.ipdl_laws.specs.ReactionTotals.{reaction_total}
use Rattle.ipdl_rules_r.proofs.Flips.{same_behind_flip}
use Rattle.ipdl_rules_r.proofs.InjectiveMaps.{injective_maps_keep_sums}
use Rattle.ipdl_laws.proofs.Rewritten.{outcome_of_replaced}
use Rattle.ipdl_rules_r.proofs.SameOutcomes.{totals_of_same_outcomes}
use Rattle.ipdl_rules_r.specs.SameTotals.{HaveSameTotals}
use Rattle.ipdl_rules_r.specs.Tables.{IsTableOn, AreDifferent}
use Rattle.ipdl_term.specs.Interpretations.{SymbolShape, Signature, Function, Interpretation, IsFunctionOf, Interprets, table_entries, zeros, entry_value, function_value, symbol_value}
use Rattle.ipdl_term.specs.Rewriting.{replaced_reaction}
use Rattle.ipdl_term.specs.Terms.{Value, literal, variable, application, Reaction, flipping, binding}
use Rattle.ipdl_term.specs.Valuations.{Valuation}

-- ---- bits and the numbers that they spell

number_of_below : (u : List Bool) → number_of u < 2 ^ length u
unfolding number_of
number_of_below [] = omega arith
number_of_below (b ∷ u) = rw (← one-add (length u)) (joined_below (bit_value b) 1 (number_of u) (length u) (one b) (number_of_below u))
  where
    one : (b : Bool) → bit_value b < 2 ^ 1
    one true = omega arith
    one false = omega arith

bits_of-number_of : (u : List Bool) → bits_of (length u) (number_of u) ≡ u
unfolding bits_of number_of
bits_of-number_of [] = refl
bits_of-number_of (b ∷ u) =
    ap (λ n. bits_of n (bit_value b * 2 ^ length u + number_of u)) (sym (one-add (length u))) ∙
    bits_of-joined 1 (length u) (bit_value b) (number_of u) (number_of_below u) ∙
    ap₂ ◌++◌ (bits_of-one b (bit_value b) refl) (bits_of-number_of u)

-- ---- tables

-- the value at an argument stands in the table at the argument's number
entry_value-table : (w i : ℕ) (values : List Value) (a default : Value) → length a ≡ w → i ≤ number_of a → number_of a < i + length values → i + length values ≤ 2 ^ w → slice_get values (number_of a - i) ≡ Some (entry_value (table_entries w i values) a default)
entry_value-table w i [] a default h from to fits = absurd (omega (arith, from, to))
entry_value-table w i (v ∷ values) a default h from to fits = by_test (same_bits (bits_of w i) a)
    (λ e. let here : number_of a ≡ i = ap number_of (sym ((same_bits-Decides (bits_of w i) a).0 e)) ∙ number_of-bits_of_below w i (omega (arith, fits)) in
    let z : number_of a - i ≡ 0 = omega (arith, here) in
    rw z (ap Some (sym (if-true (same_bits (bits_of w i) a) _ _ e))))
    (λ e. let elsewhere : number_of a ≡ i → ⊥ = λ x. not_both (same_bits (bits_of w i) a) ((same_bits-Decides (bits_of w i) a).1 (ap₂ bits_of (sym h) (sym x) ∙ bits_of-number_of a)) e in
    let past : suc i ≤ number_of a = omega (arith, from, elsewhere) in
    let z : number_of a - i ≡ suc (number_of a - suc i) = omega (arith, past) in
    rw z (entry_value-table w (suc i) values a default h past (omega (arith, to)) (omega (arith, fits)) ∙ ap Some (sym (if-false (same_bits (bits_of w i) a) _ _ e))))

-- a function of a table at an argument of its width
function_value-table : (s : SymbolShape) (g : Function) (values : List Value) (a : Value) → IsFunctionOf s g → s.values ≡ Some values → length a ≡ s.from → function_value g a ≡ entry_value (table_entries s.from 0 values) a (zeros s.to)
function_value-table s g values a h is k =
    let at_width : length a ≡ g.from = k ∙ sym h.from in
    let e : nat_eq (length a) g.from ≡ true = grind (arith, nat_tests) in
    let table : g.entries ≡ table_entries s.from 0 values = subst (λ o. IfSome o (λ values. g.entries ≡ table_entries s.from 0 values)) is h.table in
    rw e (ap₂ (λ entries n. entry_value entries a (zeros n)) table h.to)

-- a symbol of a table at an argument of its width
symbol_value-table : (sig : Signature) (J : Interpretation) (f : ℕ) (s : SymbolShape) (values : List Value) (a : Value) → Interprets sig J → slice_get sig f ≡ Some s → s.values ≡ Some values → length a ≡ s.from → symbol_value J f a ≡ entry_value (table_entries s.from 0 values) a (zeros s.to)
symbol_value-table [] [] f s values a h i is k = cc
symbol_value-table [] (g ∷ J) f s values a h i is k = absurd h
symbol_value-table (u ∷ sig) [] f s values a h i is k = absurd h
symbol_value-table (u ∷ sig) (g ∷ J) zero s values a h i is k = let e : u ≡ s = cc in function_value-table s g values a (subst (λ x. IsFunctionOf x g) e h.0) is k
symbol_value-table (u ∷ sig) (g ∷ J) (suc f) s values a h i is k = symbol_value-table sig J f s values a h.1 i is k

-- ---- the rule

module _ (sig : Signature) (J : Interpretation) (interprets : Interprets sig J) (f w : ℕ) (values : List Value) (table : IsTableOn sig f w values) (whole : length values ≡ 2 ^ w) (different : AreDifferent values) where
  -- the symbol's value at an argument stands in the table
  value_in_table : (u : Value) → length u ≡ w → slice_get values (number_of u) ≡ Some (symbol_value J f u)
  value_in_table u h =
      let below : number_of u < 0 + length values = rw (whole, ← h) (omega (arith, number_of_below u)) in
      let fits : 0 + length values ≤ 2 ^ w = omega (arith, whole) in
      let z : number_of u - 0 ≡ number_of u = omega arith in
      ap (slice_get values) (sym z) ∙
      entry_value-table w 0 values u (zeros w) h (omega arith) below fits ∙
      ap Some (sym (symbol_value-table sig J f _ values u interprets table refl h))

  symbol_value-injective : (u v : Value) → length u ≡ w → length v ≡ w → symbol_value J f u ≡ symbol_value J f v → u ≡ v
  symbol_value-injective u v hu hv e =
      let n : number_of u ≡ number_of v = different (number_of u) (number_of v) (symbol_value J f u) (value_in_table u hu) (value_in_table v hv ∙ ap Some (sym e)) in
      sym (bits_of-number_of u) ∙ ap₂ bits_of (hu ∙ sym hv) n ∙ bits_of-number_of v

  length-symbol_value : (u : Value) → length u ≡ w → length (symbol_value J f u) ≡ w
  length-symbol_value u h = length-evaluation sig J interprets [] [] (application f (literal u)) w tt (_, table, h, refl)

  pub perm_is_as_likely : (env : List Value) (inputs : Valuation) (s : Reaction) → HaveSameTotals J env inputs (binding w (flipping w) s) (binding w (flipping w) (replaced_reaction s (application f (variable 0))))
  perm_is_as_likely env inputs s = same_behind_flip J env inputs w w s (replaced_reaction s (application f (variable 0))) (λ weight m.
      sym (injective_maps_keep_sums w (symbol_value J f) length-symbol_value symbol_value-injective (λ u. reaction_total J s (u ∷ env) inputs m weight)) ∙
      total_equal w _ _ (λ u e. totals_of_same_outcomes J s (replaced_reaction s (application f (variable 0))) (symbol_value J f u ∷ env) (u ∷ env) inputs m weight (λ t. sym (outcome_of_replaced J env u s (application f (variable 0)) inputs t))))
