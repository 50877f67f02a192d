-- The names that terms are printed with: those of binders by their depth, and those of symbols.
use Rattle.std.proofs.Common.{◌≡◌, ℕ, zero, suc, ◌+◌, ◌<◌, ◌≤◌, ◌^◌, Bool, true, false, if◌then◌else◌, List, [], ◌∷◌, length, slice_get, Option, Some, None, is_none, is_some, ⊎_elim, refl, ap, ◌∙◌, arith}
use Rattle.std.specs.Prelude.{bytes_eq, option_map}
use Rattle.std.specs.Fmt.{decimal}
use Rattle.std.proofs.lemmas.Bool.{false_from_ne_true}
use Rattle.std.proofs.lemmas.Fmt.{decimal_injective}
use Rattle.std.proofs.lemmas.Option.{slice_get-map, slice_get_cases}
use Rattle.std.proofs.lemmas.Slice.Eq.{bytes_eq-Decides}
use Rattle.ipdl_term.specs.Sizes.{greatest_printed_depth}
use Rattle.ipdl_sig.specs.declared.symbol.Symbol.{Symbol}
use Rattle.ipdl_sig.specs.Symbols.{names_of, AreNumbered}
use Rattle.ipdl_forms.specs.Expressions.{symbol_named}
use Rattle.ipdl_forms.specs.Operators.{Operand, operator_operands}
use Rattle.ipdl_printing.specs.Printing.{binder_name, name_or_nothing, symbol_name}
use Rattle.ipdl_forms.specs.Scopes.{NameScope, binder_among}
use Rattle.ipdl_roundtrip.specs.Shown.{AreNoOperators}

-- ---- binders

-- the names of so many binders, the innermost first
abbrev pub binders_to : ℕ → List (List ℕ)
binders_to zero = []
binders_to (suc d) = binder_name d ∷ binders_to d

-- where terms are printed, under so many binders
abbrev pub printed_scope : List Symbol → ℕ → NameScope
printed_scope symbols d = record { symbols = names_of symbols; binders = binders_to d; in_step = false }

binder_name-injective : (m n : ℕ) → m < 2 ^ 64 → n < 2 ^ 64 → binder_name m ≡ binder_name n → m ≡ n
binder_name-injective m n small little same =
    let digits : decimal m ≡ decimal n = cc in decimal_injective m n small little digits

name_found : (b : Bool) (rest : Option ℕ) → b ≡ true → (if b then Some 0 else rest) ≡ Some 0
name_found true rest e = refl
name_found false rest e = cc

name_passed : (b : Bool) (n : ℕ) (rest : Option ℕ) → b ≡ false → rest ≡ Some n → (if b then Some 0 else option_map suc rest) ≡ Some (suc n)
name_passed true n rest e f = cc
name_passed false n rest e f = ap (option_map suc) f

-- the name of a binder is found at the number of its variable
pub binder_among-binders_to : (d n k : ℕ) → suc (n + k) ≡ d → d ≤ greatest_printed_depth → binder_among (binders_to d) (binder_name k) ≡ Some n
binder_among-binders_to zero n k at few = absurd (omega arith)
binder_among-binders_to (suc d) zero k at few =
    let same : d ≡ k = omega arith in
    name_found (bytes_eq (binder_name d) (binder_name k)) (option_map suc (binder_among (binders_to d) (binder_name k)))
    ((bytes_eq-Decides (binder_name d) (binder_name k)).1 (ap binder_name same))
binder_among-binders_to (suc d) (suc n) k at few =
    name_passed (bytes_eq (binder_name d) (binder_name k)) n (binder_among (binders_to d) (binder_name k))
    (false_from_ne_true _ (λ equal.
    let same : d ≡ k = binder_name-injective d k (omega arith) (omega arith) ((bytes_eq-Decides (binder_name d) (binder_name k)).0 equal) in
    absurd (omega arith)))
    (binder_among-binders_to d n k (omega arith) (omega arith))

-- ---- symbols

-- there is a symbol of each number
pub symbol_there : (symbols : List Symbol) (f : ℕ) → f < length symbols → (s : Symbol) × (slice_get symbols f ≡ Some s)
symbol_there symbols f below =
    ⊎_elim (λ here. (here.0, here.2)) (λ past. absurd (omega (arith, past.0))) (slice_get_cases symbols f).1

-- it is printed with its name
pub symbol_name-there : (symbols : List Symbol) (f : ℕ) (s : Symbol) → slice_get symbols f ≡ Some s → symbol_name symbols f ≡ s.name
symbol_name-there symbols f s there =
    ap name_or_nothing (slice_get-map (λ (t : Symbol). t.name) symbols f ∙ ap (option_map (λ (t : Symbol). t.name)) there)

no_operator : (o : Option (List Operand)) (n : Option ℕ) → is_some o ≡ false → (if is_none o then n else None) ≡ n
no_operator None n e = refl
no_operator (Some parts) n e = cc

-- the first symbols of some are these
pub record AreFirst (symbols all : List Symbol) : Type 0 where
  pub each : (f : ℕ) → f < length symbols → slice_get all f ≡ slice_get symbols f

-- its name, printed with others after it, is that of its number
pub symbol_named-printed : (all symbols : List Symbol) (d f : ℕ) → AreFirst symbols all → f < length symbols → AreNoOperators symbols → AreNumbered symbols → symbol_named (printed_scope symbols d) (Some (symbol_name all f)) ≡ Some f
symbol_named-printed all symbols d f first below names distinct =
    let there = symbol_there symbols f below in
    ap (λ (name : List ℕ). symbol_named (printed_scope symbols d) (Some name)) (symbol_name-there all f there.0 (first.each f below ∙ there.1))
    ∙ no_operator (operator_operands (there.0).name) _ (names f there.0 there.1) ∙ distinct f there.0 there.1
