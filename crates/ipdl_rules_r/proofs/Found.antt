-- What the calls that look at a left side find there.
use Rattle.std.proofs.Common.{◌≡◌, ◌≢◌, ℕ, zero, suc, true, false, ◌&&◌, List, [], ◌∷◌, Some, refl, arith}
use Rattle.std.proofs.lemmas.Option.{slice_get-map}
use Rattle.std.specs.Cmp.{unsigned_Decides}
use Rattle.std.specs.List.{list_any}
use Rattle.std.specs.Prelude.{drop, length, not, slice_get, option_map, nat_eq}
use Rattle.ipdl_base.specs.Bits.{same_bits, number_of}
use Rattle.ipdl_rules_r.specs.Matching.{answer, other_shape}
use Rattle.ipdl_rules_r.specs.Tables.{all_different, has_value}
use Rattle.ipdl_sig.specs.declared.symbol.Symbol.{Symbol as Declared}
use Rattle.ipdl_term.specs.Interpretations.{Signature}
use Rattle.ipdl_term.specs.Rules as R
use Rattle.ipdl_term.specs.Terms.{Value, Reaction, literal, variable, returning, flipping, branching, binding}
use Rattle.ipdl_typing.specs.Signatures.{signature_of, symbol_of}

-- ---- tables

pub has_value-any : (values : List Value) (v : Value) → list_any (λ u. same_bits u v) values ≡ has_value values v
has_value-any [] v = refl
has_value-any (u ∷ values) v = rw (has_value-any values v)

-- from a place on
pub all_different-from : (values : List Value) (i : ℕ) (v : Value) → slice_get values i ≡ Some v → all_different (drop i values) ≡ (not (has_value (drop (suc i) values) v) && all_different (drop (suc i) values))
all_different-from [] i v h = cc
all_different-from (u ∷ values) zero v h = let e : u ≡ v = cc in rw e
all_different-from (u ∷ values) (suc i) v h = all_different-from values i v h

pub symbol_at : (symbols : List Declared) (f : ℕ) → slice_get (signature_of symbols) f ≡ option_map symbol_of (slice_get symbols f)
symbol_at symbols f = slice_get-map symbol_of symbols f

pub ruleset tables = (has_value-any, all_different-from, symbol_at)

-- ---- single bits

pub is_one : (bits : Value) (n : ℕ) → length bits ≡ 1 → n ≡ number_of bits → (nat_eq n 1 ≡ true → bits ≡ true ∷ []) × (bits ≡ true ∷ [] → nat_eq n 1 ≡ true)
unfolding number_of
is_one [] n h k = cc
is_one (true ∷ []) n h k = ((λ e. refl), (λ e. (unsigned_Decides n 1).1 k))
is_one (false ∷ []) n h k = ((λ e. let one : n ≡ 1 = (unsigned_Decides n 1).0 e in absurd (omega (arith, k))), (λ e. cc))
is_one (a ∷ b ∷ bits) n h k = absurd (omega (arith, h))

pub is_zero : (bits : Value) (n : ℕ) → length bits ≡ 1 → n ≡ number_of bits → (nat_eq n 0 ≡ true → bits ≡ false ∷ []) × (bits ≡ false ∷ [] → nat_eq n 0 ≡ true)
unfolding number_of
is_zero [] n h k = cc
is_zero (true ∷ []) n h k = ((λ e. let none : n ≡ 0 = (unsigned_Decides n 0).0 e in absurd (omega (arith, k))), (λ e. cc))
is_zero (false ∷ []) n h k = ((λ e. refl), (λ e. (unsigned_Decides n 0).1 k))
is_zero (a ∷ b ∷ bits) n h k = absurd (omega (arith, h))

-- ---- shapes

pub eta_other : (sig : Signature) (w : ℕ) (r : Reaction) (n : ℕ) → n ≢ 0 → answer sig R.eta (binding w r (returning (variable n))) ≡ other_shape
eta_other sig w r zero h = absurd (h refl)
eta_other sig w r (suc n) h = refl

pub flip0_other : (sig : Signature) (n : ℕ) → n ≢ 0 → answer sig R.flip0 (flipping n) ≡ other_shape
flip0_other sig zero h = absurd (h refl)
flip0_other sig (suc n) h = refl

pub iftrue_other : (sig : Signature) (bits : Value) (r s : Reaction) → bits ≢ true ∷ [] → answer sig R.iftrue (branching (literal bits) r s) ≡ other_shape
iftrue_other sig [] r s h = refl
iftrue_other sig (true ∷ []) r s h = absurd (h refl)
iftrue_other sig (false ∷ []) r s h = refl
iftrue_other sig (true ∷ b ∷ bits) r s h = refl
iftrue_other sig (false ∷ b ∷ bits) r s h = refl

pub iffalse_other : (sig : Signature) (bits : Value) (r s : Reaction) → bits ≢ false ∷ [] → answer sig R.iffalse (branching (literal bits) r s) ≡ other_shape
iffalse_other sig [] r s h = refl
iffalse_other sig (false ∷ []) r s h = absurd (h refl)
iffalse_other sig (true ∷ []) r s h = refl
iffalse_other sig (true ∷ b ∷ bits) r s h = refl
iffalse_other sig (false ∷ b ∷ bits) r s h = refl

pub ruleset shapes = (eta_other, flip0_other, iftrue_other, iffalse_other)
