-- Laws of sums over all tapes of one length.
use Rattle.std.proofs.Common.{◌≡◌, ℕ, zero, suc, ◌+◌, ◌*◌, ◌^◌, ◌/◌, ◌<◌, Bool, true, false, List, [], ◌∷◌, ◌++◌, length, take, drop, refl, sym, ap, ap₂, ◌∙◌, arith, pow-suc}
use Rattle.std.proofs.Math.Nat.{mul-div_cancel_left}
use Rattle.std.proofs.lemmas.List.{take_at, drop_at}
use Rattle.ipdl_term.specs.Counts.{total}

-- functions that are equal on lists of the length have one sum
pub total_equal : (n : ℕ) (f g : List Bool → ℕ) → ((t : List Bool) → length t ≡ n → f t ≡ g t) → total n f ≡ total n g
total_equal zero f g h = h [] refl
total_equal (suc n) f g h =
    ap₂ ◌+◌ (total_equal n (λ t. f (false ∷ t)) (λ t. g (false ∷ t)) (λ t e. h (false ∷ t) (ap suc e)))
    (total_equal n (λ t. f (true ∷ t)) (λ t. g (true ∷ t)) (λ t e. h (true ∷ t) (ap suc e)))

-- a sum of sums
pub total-add : (n : ℕ) (f g : List Bool → ℕ) → total n (λ t. f t + g t) ≡ total n f + total n g
total-add zero f g = refl
total-add (suc n) f g =
    omega (arith, total-add n (λ t. f (false ∷ t)) (λ t. g (false ∷ t)), total-add n (λ t. f (true ∷ t)) (λ t. g (true ∷ t)))

-- a sum of multiples
pub total-scale : (n k : ℕ) (f : List Bool → ℕ) → total n (λ t. k * f t) ≡ k * total n f
total-scale zero k f = refl
total-scale (suc n) k f = omega (arith, total-scale n k (λ t. f (false ∷ t)), total-scale n k (λ t. f (true ∷ t)))

-- a sum of multiples, the factor behind
pub total-scale_right : (n k : ℕ) (f : List Bool → ℕ) → total n (λ t. f t * k) ≡ total n f * k
total-scale_right zero k f = refl
total-scale_right (suc n) k f = omega (arith, total-scale_right n k (λ t. f (false ∷ t)), total-scale_right n k (λ t. f (true ∷ t)))

-- a sum of one number
pub total-const : (n k : ℕ) → total n (λ t. k) ≡ 2 ^ n * k
total-const zero k = omega arith
total-const (suc n) k = rw (pow-suc 2 n) (omega (arith, total-const n k))

-- the first m bits, and then the rest
pub total_append : (m n : ℕ) (f : List Bool → ℕ) → total (m + n) f ≡ total m (λ u. total n (λ t. f (u ++ t)))
total_append zero n f = let e : zero + n ≡ n = omega arith in rw e
total_append (suc m) n f =
    let e : suc m + n ≡ suc (m + n) = omega arith in
    rw e (ap₂ ◌+◌ (total_append m n (λ t. f (false ∷ t))) (total_append m n (λ t. f (true ∷ t))))

-- the order of two sums
pub total-total : (m n : ℕ) (f : List Bool → List Bool → ℕ) → total m (λ u. total n (λ t. f u t)) ≡ total n (λ t. total m (λ u. f u t))
total-total zero n f = refl
total-total (suc m) n f =
    ap₂ ◌+◌ (total-total m n (λ u. f (false ∷ u))) (total-total m n (λ u. f (true ∷ u))) ∙
    sym (total-add n (λ t. total m (λ u. f (false ∷ u) t)) (λ t. total m (λ u. f (true ∷ u) t)))

-- a function of the first m bits and of the rest
pub total_split : (m n : ℕ) (f : List Bool → List Bool → ℕ) → total (m + n) (λ t. f (take m t) (drop m t)) ≡ total m (λ u. total n (λ t. f u t))
total_split m n f =
    total_append m n (λ t. f (take m t) (drop m t)) ∙
    total_equal m _ _ (λ u e. total_equal n _ _ (λ t k. ap₂ f (take_at u t m e) (drop_at u t m e)))

-- a positive factor cancelled
pub cancelled : (k x y : ℕ) → 0 < k → k * x ≡ k * y → x ≡ y
cancelled k x y h e = sym (mul-div_cancel_left x h) ∙ ap (λ z. z / k) e ∙ mul-div_cancel_left y h
