-- The faults of a symbol, whatever its name.
use Rattle.std.proofs.Common.{IfSome, Option, [], ◌≡◌, ℕ, ◌*◌, ◌%◌, ◌^◌, ◌<◌, ◌≤◌, ◌⊎◌, inl, inr, length, Bool, List, ◌++◌, map, min, slice_get, refl, sym, ap, ◌∙◌, arith, None, Some, Result, Ok, Err}
use Rattle.std.specs.Result.{OkIff, result_unwrap_or}
use Rattle.std.proofs.lemmas.Bool.{cases_lt, eq-eqb, ne_eqb}
use Rattle.std.proofs.Math.Pow.{pow_mono}
use Rattle.ipdl_sig.specs.declared.fault.SigFault.{SigFault}
use Rattle.ipdl_sig.specs.declared.fault.SigFault.TheVariants.{Width, TableLength}
use Rattle.ipdl_sig.specs.declared.symbol.Symbol.{Symbol}
use Rattle.ipdl_sig.specs.Symbols.{IsTable, IsSymbol, first_bad_width, length_faults, shape_faults}
use Rattle.ipdl_sig.proofs.Widths.{bad_widths-formed, bad_widths-none, HasWidths-none, IsSymbol-table}

-- a symbol with no bad width has no fault but that of its number of values
shape_faults-widths : (s : Symbol) → first_bad_width s.from s.to s.values ≡ None → shape_faults s ≡ length_faults s.from s.values
shape_faults-widths s none =
    ap (λ widths. map Width widths ++ length_faults s.from s.values) (bad_widths-none s.from s.to s.values none)

-- the number of values, as it is counted
counted : {E : Type 0} (r : Result ℕ E) (n : ℕ) → OkIff r (n < 4294967296) n → result_unwrap_or r 4294967295 ≡ min n 4294967295
counted (Ok x) n h = omega (arith, h.0, h.1)
counted (Err e) n h = let past : 4294967296 ≤ n = by (cases_lt n 4294967296) in omega arith
  where
    by : (n < 4294967296) ⊎ (4294967296 ≤ n) → 4294967296 ≤ n
    by (inl below) = absurd (h below)
    by (inr past) = past

-- the number of arguments, as it is counted
arguments : (from : ℕ) → from ≤ 12 → (1 * 2 ^ from % 4294967296 ≡ 2 ^ from) × (2 ^ from ≤ 4096)
arguments from within =
    let few : 2 ^ from ≤ 2 ^ 12 = pow_mono within in
    (omega arith, few)

-- a table whose numbers of arguments and of values are counted as equal has no fault
pub shape_faults-table : {E : Type 0} (s : Symbol) (values : List (List Bool)) (r : Result ℕ E) → first_bad_width s.from s.to s.values ≡ None → s.values ≡ Some values → OkIff r (length values < 4294967296) (length values) → result_unwrap_or r 4294967295 ≡ 1 * 2 ^ s.from % 4294967296 → (IsSymbol s) × (None ≡ slice_get (shape_faults s) 0)
shape_faults-table s values r none is count same =
    let widths = HasWidths-none s.from s.to s.values none in
    let within : s.from ≤ 12 = rw is at widths.argument in
    let number : length values ≡ 2 ^ s.from = omega (arith, counted r (length values) count, arguments s.from within) in (
      IsSymbol-table s values is none number,
      sym (ap (λ faults. slice_get faults 0) (shape_faults-widths s none) ∙ (rw (is, eq-eqb (length values) (2 ^ s.from) number) refl)),
    )

-- a table whose numbers of arguments and of values are counted as different has the fault that tells them
pub shape_faults-table_length : {E : Type 0} (s : Symbol) (values : List (List Bool)) (r : Result ℕ E) → first_bad_width s.from s.to s.values ≡ None → s.values ≡ Some values → OkIff r (length values < 4294967296) (length values) → (result_unwrap_or r 4294967295 ≡ 1 * 2 ^ s.from % 4294967296 → ⊥) → Some (TableLength (1 * 2 ^ s.from % 4294967296) (result_unwrap_or r 4294967295)) ≡ slice_get (shape_faults s) 0
shape_faults-table_length s values r none is count other =
    let widths = HasWidths-none s.from s.to s.values none in
    let within : s.from ≤ 12 = rw is at widths.argument in
    let want = arguments s.from within in
    let got = counted r (length values) count in
    let differ : length values ≡ 2 ^ s.from → ⊥ = λ e. other (omega arith) in
    sym (ap (λ faults. slice_get faults 0) (shape_faults-widths s none) ∙ (rw (is, ne_eqb (length values) (2 ^ s.from) differ, want.0, got) refl))

-- the other faults of a symbol that a signature may have
length_faults-formed : (from to : ℕ) (values : Option (List (List Bool))) → IfSome values (IsTable from to) → length_faults from values ≡ []
length_faults-formed from to None table = refl
length_faults-formed from to (Some values) table = rw (eq-eqb (length values) (2 ^ from) table.count) refl

-- such a symbol has no fault
shape_faults-formed : (s : Symbol) → IsSymbol s → shape_faults s ≡ []
shape_faults-formed s formed =
    ap (λ widths. map Width widths ++ length_faults s.from s.values) (bad_widths-formed s.from s.to s.values formed.argument formed.result_width formed.table) ∙ length_faults-formed s.from s.to s.values formed.table

-- so none is found
pub shape_faults-none : (s : Symbol) (found : Option SigFault) → found ≡ slice_get (shape_faults s) 0 → IsSymbol s → found ≡ None
shape_faults-none s found first formed =
    first ∙ ap (λ faults. slice_get faults 0) (shape_faults-formed s formed)
