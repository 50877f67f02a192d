-- Two optional values that depend on one another: the least ones.
use Rattle.std.proofs.Common.{◌≡◌, Option, Some, None, refl, sym, ap, ◌∙◌}
use Rattle.ipdl_term.specs.Terms.{Value}

-- a value that is given where the other one is not there is given whatever the other one is
abbrev pub IsKept : (Option Value → Option Value) → Type 0
IsKept f = (v : Value) → f None ≡ Some v → (o : Option Value) → f o ≡ Some v

-- the value of the first, if there is one, is that of the second
abbrev pub IsBelow : Option Value → Option Value → Type 0
IsBelow o o' = (v : Value) → o ≡ Some v → o' ≡ Some v

-- a kept function of a value that grows
kept_grows : (f : Option Value → Option Value) → IsKept f → (x y : Option Value) → IsBelow x y → IsBelow (f x) (f y)
kept_grows f keeps None y h v e = keeps v e y
kept_grows f keeps (Some u) y h v e = ap f (h u refl) ∙ e

-- f (g None) and g (f None) are the least values of which each is what the other one makes it
module _ (f g : Option Value → Option Value) (keeps_f : IsKept f) (keeps_g : IsKept g) where
  pub least_value-fixed : f (g (f None)) ≡ f (g None)
  least_value-fixed = go (f None) refl
    where
      go : (o : Option Value) → f None ≡ o → f (g o) ≡ f (g None)
      go None e = refl
      go (Some v) e = keeps_f v e (g (Some v)) ∙ sym (keeps_f v e (g None))

  pub least_value-below : (x y : Option Value) → IsBelow (f y) x → IsBelow (g x) y → IsBelow (f (g None)) x
  least_value-below x y h k v e = h v (kept_grows f keeps_f (g None) y (λ u l. k u (keeps_g u l x)) v e)
