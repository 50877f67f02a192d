-- The tests of tables find what they are tests of.
use Rattle.std.proofs.Common.{◌≡◌, ◌^◌, length, ℕ, zero, suc, Bool, true, false, ◌&&◌, ◌||◌, List, [], ◌∷◌, Option, Some, None, refl, sym, ap, ◌∙◌, arith, subst}
use Rattle.std.proofs.lemmas.Bool.{and_parts, and_from}
use Rattle.std.specs.Prelude.{IfSome, not, nat_eq, is_some, slice_get, option_and_then, if◌then◌else◌}
use Rattle.std.proofs.lemmas.List.Elements.{All-get_or}
use Rattle.std.proofs.lemmas.Option.{get_or_from_slice_get, slice_get_within}
use Rattle.std.specs.Cmp.{unsigned_Decides}
use Rattle.ipdl_base.specs.Bits.{same_bits}
use Rattle.ipdl_base.specs.BitsLaws.{same_bits-Decides}
use Rattle.ipdl_laws.proofs.Sets.{by_test, not_both, if-true, if-false}
use Rattle.ipdl_rules_r.specs.Matching.{all_different_in}
use Rattle.ipdl_rules_r.specs.Tables.{IsTableOn, AreDifferent, TablesAreWhole, table_on, has_value, all_different}
use Rattle.ipdl_term.specs.Interpretations.{SymbolShape, Signature}
use Rattle.ipdl_term.specs.Terms.{Value}

pub not_false : (b : Bool) → not b ≡ true → b ≡ false
not_false true h = cc
not_false false h = refl

-- ---- a table on the values of a width

-- a symbol's shape, from its values on
shape_from : (w : ℕ) (s : SymbolShape) (values : List Value) → (if nat_eq s.from w && nat_eq s.to w then s.values else None) ≡ Some values → s ≡ record { from = w; to = w; values = Some values }
shape_from w s values h = by_test (nat_eq s.from w && nat_eq s.to w)
    (λ e. let both = and_parts (nat_eq s.from w) (nat_eq s.to w) e in
    let from : s.from ≡ w = (unsigned_Decides s.from w).0 both.0 in
    let to : s.to ≡ w = (unsigned_Decides s.to w).0 both.1 in
    let is : s.values ≡ Some values = sym (if-true (nat_eq s.from w && nat_eq s.to w) _ _ e) ∙ h in
    all_three from to is)
    (λ e. let none : None ≡ Some values = sym (if-false (nat_eq s.from w && nat_eq s.to w) _ _ e) ∙ h in cc)
  where
    all_three : s.from ≡ w → s.to ≡ w → s.values ≡ Some values → s ≡ record { from = w; to = w; values = Some values }
    all_three from to is =
        ap (λ n. record { from = n; to = s.to; values = s.values }) from ∙
        ap (λ n. record { from = w; to = n; values = s.values }) to ∙
        ap (λ v. record { from = w; to = w; values = v }) is

pub table_is_there : (sig : Signature) (f w : ℕ) (values : List Value) → table_on sig f w ≡ Some values → IsTableOn sig f w values
table_is_there sig f w values h = go (slice_get sig f) h
  where
    go : (o : Option SymbolShape) → option_and_then (λ s. if nat_eq s.from w && nat_eq s.to w then s.values else None) o ≡ Some values → o ≡ Some (record { from = w; to = w; values = Some values })
    go None k = cc
    go (Some s) k = ap Some (shape_from w s values k)

pub table_is_found : (sig : Signature) (f w : ℕ) (values : List Value) → IsTableOn sig f w values → table_on sig f w ≡ Some values
table_is_found sig f w values h = rw h (if-true (nat_eq w w && nat_eq w w) (Some values) None (and_from (nat_eq w w) (nat_eq w w) ((unsigned_Decides w w).1 refl) ((unsigned_Decides w w).1 refl)))

-- where each table is whole, it has a value for each argument
pub whole_table : (sig : Signature) (f w : ℕ) (values : List Value) → TablesAreWhole sig → IsTableOn sig f w values → length values ≡ 2 ^ w
whole_table sig f w values whole table =
    let shape : SymbolShape = record { from = w; to = w; values = Some values } in
    subst IsWhole (get_or_from_slice_get sig f shape shape table) (All-get_or IsWhole sig f shape (slice_get_within sig f shape table) whole)
  where
    IsWhole : SymbolShape → Type 0
    IsWhole = λ s. IfSome s.values (λ values. length values ≡ 2 ^ s.from)

-- ---- different values

-- a value that is found stands at a place
found_at : (values : List Value) (v : Value) → has_value values v ≡ true → (i : ℕ) × (slice_get values i ≡ Some v)
found_at [] v h = cc
found_at (u ∷ values) v h = by_test (same_bits u v)
    (λ e. (zero, ap Some ((same_bits-Decides u v).0 e)))
    (λ e. let rest = found_at values v (sym (ap (λ b. b || has_value values v) e) ∙ h) in (suc rest.0, rest.1))

-- and what stands at a place is found
at_is_found : (values : List Value) (v : Value) (i : ℕ) → slice_get values i ≡ Some v → has_value values v ≡ true
at_is_found [] v i h = cc
at_is_found (u ∷ values) v zero h =
    let e : u ≡ v = cc in
    let t : same_bits u v ≡ true = (same_bits-Decides u v).1 e in
    ap (λ b. b || has_value values v) t
at_is_found (u ∷ values) v (suc i) h = by_test (same_bits u v)
    (λ e. ap (λ b. b || has_value values v) e)
    (λ e. ap (λ b. b || has_value values v) e ∙ at_is_found values v i h)

pub different_are_told : (values : List Value) → AreDifferent values → all_different values ≡ true
different_are_told [] h = refl
different_are_told (v ∷ values) h = and_from (not (has_value values v)) (all_different values)
    (by_test (has_value values v) (λ e. let x = found_at values v e in let no : zero ≡ suc x.0 = h zero (suc x.0) v refl x.1 in absurd (omega arith)) (λ e. ap not e))
    (different_are_told values (λ i j u k l. let e : suc i ≡ suc j = h (suc i) (suc j) u k l in omega arith))

pub told_are_different : (values : List Value) → all_different values ≡ true → AreDifferent values
told_are_different [] h i j u k l = cc
told_are_different (v ∷ values) h zero zero u k l = refl
told_are_different (v ∷ values) h zero (suc j) u k l =
    let e : v ≡ u = cc in
    not_both (has_value values v) (at_is_found values v j (l ∙ ap Some (sym e))) (not_false (has_value values v) (and_parts (not (has_value values v)) (all_different values) h).0)
told_are_different (v ∷ values) h (suc i) zero u k l =
    let e : v ≡ u = cc in
    not_both (has_value values v) (at_is_found values v i (k ∙ ap Some (sym e))) (not_false (has_value values v) (and_parts (not (has_value values v)) (all_different values) h).0)
told_are_different (v ∷ values) h (suc i) (suc j) u k l =
    ap suc (told_are_different values (and_parts (not (has_value values v)) (all_different values) h).1 i j u k l)

-- ---- both

-- a table of different values passes both tests
pub table_passes : (sig : Signature) (f w : ℕ) → ((values : List Value) × IsTableOn sig f w values × AreDifferent values) → (is_some (table_on sig f w) ≡ true) × (all_different_in (table_on sig f w) ≡ true)
table_passes sig f w t =
    let e = table_is_found sig f w t.0 t.1 in
    (ap is_some e, ap all_different_in e ∙ different_are_told t.0 t.2)

-- and a symbol that passes them is one
pub passing_is_table : (sig : Signature) (f w : ℕ) → all_different_in (table_on sig f w) ≡ true → (values : List Value) × IsTableOn sig f w values × AreDifferent values
passing_is_table sig f w h = go (table_on sig f w) refl h
  where
    go : (o : Option (List Value)) → table_on sig f w ≡ o → all_different_in o ≡ true → (values : List Value) × IsTableOn sig f w values × AreDifferent values
    go None e k = cc
    go (Some values) e k = (values, table_is_there sig f w values e, told_are_different values k)
