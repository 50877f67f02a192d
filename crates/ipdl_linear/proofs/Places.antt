-- The forms of bits, and of the places of a variable or of a symbol's value.
use Rattle.std.proofs.Common.{◌≡◌, ℕ, zero, suc, ◌+◌, ◌<◌, Bool, true, false, List, [], ◌∷◌, ◌++◌, Some, length, take, drop, map, refl, sym, ap, ◌∙◌, subst, arith}
use Rattle.std.specs.Prelude.{slice_get, unwrap_or}
use Rattle.ipdl_base.specs.Bits.{number_of}
use Rattle.ipdl_linear.proofs.FormLists.{AllStand-kept, AllStand-append}
use Rattle.ipdl_linear.proofs.Growing.{IsGrowth-then, FormStands-single, FormStands-nothing, FormStands-one}
use Rattle.ipdl_linear.proofs.Standing.{FormsStand-kept}
use Rattle.ipdl_linear.specs.Entries.{Entry, sum_entry, AtomStands, AllStand, IsNumbering, Keeps, IsGrowth, IsSingle}
use Rattle.ipdl_linear.specs.LinearForms.{Atom, variable_bit, single, places, constant}
use Rattle.ipdl_linear.specs.Operations.{constant_number, IsSource, entry_at, forms_of_leaf}
use Rattle.ipdl_linear.specs.declared.leaves.Source.{Source}
use Rattle.ipdl_linear.specs.declared.leaves.Source.TheVariants.{Variable, Symbol}
use Rattle.ipdl_term.specs.Views.{expression_of}
use Rattle.ipdl_term.specs.declared.expression.Expr.{Expr, Lit, Var}

-- ---- bits

bit_taken : (bits : List Bool) (i : ℕ) (b : Bool) → slice_get bits i ≡ Some b → take 1 (drop i bits) ≡ b ∷ []
bit_taken [] i b h = cc
bit_taken (x ∷ bits) zero b h = let same : x ≡ b = cc in ap (λ y. y ∷ []) same
bit_taken (x ∷ bits) (suc i) b h = bit_taken bits i b h

pub bit_within : (bits : List Bool) (i : ℕ) (b : Bool) → slice_get bits i ≡ Some b → i < length bits
bit_within [] i b h = cc
bit_within (x ∷ bits) zero b h = omega arith
bit_within (x ∷ bits) (suc i) b h = let rest = bit_within bits i b h in omega arith

number_of-one : number_of (true ∷ []) ≡ 1
unfolding number_of
number_of-one = refl

number_of-zero : number_of (false ∷ []) ≡ 0
unfolding number_of
number_of-zero = refl

-- by the number that one bit spells
pub bit_is_one : (bits bit : List Bool) (i n : ℕ) → bit ≡ take 1 (drop i bits) → n ≡ number_of bit → n ≡ 1 → (b : Bool) → slice_get bits i ≡ Some b → 2 ≡ constant_number b
bit_is_one bits bit i n taken is one true h = refl
bit_is_one bits bit i n taken is one false h =
    let no = sym one ∙ is ∙ ap number_of (taken ∙ bit_taken bits i false h) ∙ number_of-zero in absurd (omega arith)

pub bit_is_zero : (bits bit : List Bool) (i n : ℕ) → bit ≡ take 1 (drop i bits) → n ≡ number_of bit → (n ≡ 1 → ⊥) → (b : Bool) → slice_get bits i ≡ Some b → 0 ≡ constant_number b
bit_is_zero bits bit i n taken is other true h = absurd (other (is ∙ ap number_of (taken ∙ bit_taken bits i true h) ∙ number_of-one))
bit_is_zero bits bit i n taken is other false h = refl

-- one bit more
constants_more : (bits : List Bool) (i n : ℕ) → i < length bits → ((b : Bool) → slice_get bits i ≡ Some b → n ≡ constant_number b) → map constant_number (take i bits) ++ n ∷ [] ≡ map constant_number (take (suc i) bits)
constants_more [] i n within is = absurd (omega arith)
constants_more (x ∷ bits) zero n within is = ap (λ m. m ∷ []) (is x refl)
constants_more (x ∷ bits) (suc i) n within is = ap (λ ms. constant_number x ∷ ms) (constants_more bits i n (omega arith) is)

pub constants_next : (bits : List Bool) (ns : List ℕ) (i n : ℕ) → i < length bits → ns ≡ map constant_number (take i bits) → ((b : Bool) → slice_get bits i ≡ Some b → n ≡ constant_number b) → ns ++ n ∷ [] ≡ map constant_number (take (i + 1) bits)
constants_next bits ns i n within so_far is =
    let next : suc i ≡ i + 1 = omega arith in
    ap (λ ms. ms ++ n ∷ []) so_far ∙ constants_more bits i n within is ∙ ap (λ k. map constant_number (take k bits)) next

pub AllStand-constants : (t : List Entry) → IsNumbering t → (bits : List Bool) → AllStand t (map constant_number bits) (map constant bits)
AllStand-constants t numbers [] = tt
AllStand-constants t numbers (true ∷ bits) = (FormStands-one t numbers, AllStand-constants t numbers bits)
AllStand-constants t numbers (false ∷ bits) = (FormStands-nothing t numbers, AllStand-constants t numbers bits)

-- ---- places

IsSource-kept : (t u : List Entry) (source : Source) (atom : ℕ → Atom) → Keeps t u → IsSource t source atom → IsSource u source atom
IsSource-kept t u (Variable n) atom keeps h = h
IsSource-kept t u (Symbol f ns) atom keeps h = (h.0, FormsStand-kept t u keeps h.0 ns.items h.1, h.2)

AtomStands-source : (t : List Entry) (source : Source) (atom : ℕ → Atom) (i k : ℕ) → IsSource t source atom → slice_get t k ≡ Some (entry_at source i) → AtomStands t k (atom i)
AtomStands-source t (Variable n) atom i k is there = subst (λ (a : ℕ → Atom). AtomStands t k (a i)) (sym is) there
AtomStands-source t (Symbol f ns) atom i k is there = subst (λ (a : ℕ → Atom). AtomStands t k (a i)) (sym is.2) (ns.items, there, is.1)

entry_at-no_sum : (source : Source) (i : ℕ) (ks : List ℕ) → entry_at source i ≡ sum_entry ks → ⊥
entry_at-no_sum (Variable n) i ks h = cc
entry_at-no_sum (Symbol f ns) i ks h = cc

places-suc : (atom : ℕ → Atom) (s w : ℕ) → places atom s (suc w) ≡ places atom s w ++ single (atom (s + w)) ∷ []
places-suc atom s zero = let same : s ≡ s + 0 = omega arith in ap (λ k. single (atom k) ∷ []) same
places-suc atom s (suc w) =
    let same : suc s + w ≡ s + suc w = omega arith in
    ap (λ fs. single (atom s) ∷ fs) (places-suc atom (suc s) w ∙ ap (λ k. places atom (suc s) w ++ single (atom k) ∷ []) same)

-- the first places are made
pub record IsPlacesUpTo (t u : List Entry) (source : Source) (ns : List ℕ) (i : ℕ) : Type 0 where
  pub growth : IsGrowth t u
  pub stand : (atom : ℕ → Atom) → IsNumbering t → IsSource t source atom → AllStand u ns (places atom 0 i)

pub IsPlacesUpTo-start : (t : List Entry) (source : Source) → IsPlacesUpTo t t source [] 0
IsPlacesUpTo-start t source = record {
  growth = record { numbering = λ (numbers : IsNumbering t). numbers; keeps = λ k e h. h };
  stand = λ atom numbers is. tt;
}

pub IsPlacesUpTo-next : (t u v : List Entry) (source : Source) (ns : List ℕ) (i n : ℕ) (e : Entry) → e ≡ entry_at source i → IsPlacesUpTo t u source ns i → IsSingle u v n e → IsPlacesUpTo t v source (ns ++ n ∷ []) (i + 1)
IsPlacesUpTo-next t u v source ns i n e is so_far made =
    let growth = made.growth (λ ks h. entry_at-no_sum source i ks (sym is ∙ h)) in
    record {
      growth = IsGrowth-then t u v so_far.growth growth;
      stand = λ atom numbers from.
          let next : suc i ≡ i + 1 = omega arith in
          let at_zero : 0 + i ≡ i = omega arith in
          let stands = AtomStands-source v source atom i made.atom (IsSource-kept u v source atom growth.keeps (IsSource-kept t u source atom so_far.growth.keeps from)) (made.there ∙ ap Some is) in
          subst (AllStand v (ns ++ n ∷ [])) (ap (λ k. places atom 0 i ++ single (atom k) ∷ []) (sym at_zero) ∙ sym (places-suc atom 0 i) ∙ ap (places atom 0) next)
          (AllStand-append v ns (n ∷ []) (places atom 0 i) (single (atom i) ∷ []) (AllStand-kept u v ns (places atom 0 i) growth.keeps (so_far.stand atom numbers from))
          (FormStands-single v (atom i) made.atom n stands made.form, tt));
    }

-- ---- leaves

pub leaf-literal : (t : List Entry) (widths ns : List ℕ) (term : Expr) (bits : List Bool) → term ≡ Lit bits → ns ≡ map constant_number bits → IsNumbering t → AllStand t ns (forms_of_leaf widths (expression_of term))
leaf-literal t widths ns term bits is are numbers =
    subst (λ e. AllStand t ns (forms_of_leaf widths (expression_of e))) (sym is) (subst (λ ms. AllStand t ms (map constant bits)) (sym are) (AllStand-constants t numbers bits))

pub leaf-variable : (t u : List Entry) (widths ns : List ℕ) (term : Expr) (n w : ℕ) → term ≡ Var n → w ≡ unwrap_or (slice_get widths n) 0 →
    ((atom : ℕ → Atom) → IsNumbering t → atom ≡ variable_bit n → AllStand u ns (places atom 0 w)) → IsNumbering t → AllStand u ns (forms_of_leaf widths (expression_of term))
leaf-variable t u widths ns term n w is width made numbers =
    subst (λ e. AllStand u ns (forms_of_leaf widths (expression_of e))) (sym is)
    (subst (λ v. AllStand u ns (places (variable_bit n) 0 v)) width (made (variable_bit n) numbers refl))
