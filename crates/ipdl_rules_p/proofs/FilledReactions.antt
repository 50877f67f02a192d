-- A reaction with another one at a place of it.
use Rattle.std.proofs.Common.{◌≡◌, ◌≢◌, ℕ, zero, suc, List, [], ◌∷◌, refl, ap}
use Rattle.ipdl_rules_p.specs.Instances.{reaction_with}
use Rattle.ipdl_term.specs.Places.{expression_or, term_with}
use Rattle.ipdl_term.specs.Terms.{Expression, application, exclusive, conjunction, negation, concatenation, segment, equality, selection, Reaction, returning, branching, binding, reaction_term, expression_term}

-- an expression has no place for a reaction
expression_stays : (e : Expression) (place : List ℕ) (r : Reaction) → expression_or e (term_with (expression_term e) place (reaction_term r)) ≡ e
expression_stays e [] r = refl
expression_stays (application f a) (zero ∷ place) r = ap (λ x. application f x) (expression_stays a place r)
expression_stays (exclusive a b) (zero ∷ place) r = ap (λ x. exclusive x b) (expression_stays a place r)
expression_stays (exclusive a b) (suc zero ∷ place) r = ap (λ x. exclusive a x) (expression_stays b place r)
expression_stays (conjunction a b) (zero ∷ place) r = ap (λ x. conjunction x b) (expression_stays a place r)
expression_stays (conjunction a b) (suc zero ∷ place) r = ap (λ x. conjunction a x) (expression_stays b place r)
expression_stays (negation a) (zero ∷ place) r = ap negation (expression_stays a place r)
expression_stays (concatenation a b) (zero ∷ place) r = ap (λ x. concatenation x b) (expression_stays a place r)
expression_stays (concatenation a b) (suc zero ∷ place) r = ap (λ x. concatenation a x) (expression_stays b place r)
expression_stays (segment i n a) (zero ∷ place) r = ap (λ x. segment i n x) (expression_stays a place r)
expression_stays (equality a b) (zero ∷ place) r = ap (λ x. equality x b) (expression_stays a place r)
expression_stays (equality a b) (suc zero ∷ place) r = ap (λ x. equality a x) (expression_stays b place r)
expression_stays (selection c a b) (zero ∷ place) r = ap (λ x. selection x a b) (expression_stays c place r)
expression_stays (selection c a b) (suc zero ∷ place) r = ap (λ x. selection c x b) (expression_stays a place r)
expression_stays (selection c a b) (suc (suc zero) ∷ place) r = ap (λ x. selection c a x) (expression_stays b place r)
expression_stays _ _ r = refl

pub returning_stays : (e : Expression) (n : ℕ) (place : List ℕ) (r : Reaction) → reaction_with (returning e) (n ∷ place) r ≡ returning e
returning_stays e zero place r = ap returning (expression_stays e place r)
returning_stays e (suc n) place r = refl

pub stays_beside_arms : (e : Expression) (k l : Reaction) (n : ℕ) (place : List ℕ) (r : Reaction) → n ≢ 1 → n ≢ 2 → reaction_with (branching e k l) (n ∷ place) r ≡ branching e k l
stays_beside_arms e k l zero place r h i = ap (λ x. branching x k l) (expression_stays e place r)
stays_beside_arms e k l (suc zero) place r h i = absurd (h refl)
stays_beside_arms e k l (suc (suc zero)) place r h i = absurd (i refl)
stays_beside_arms e k l (suc (suc (suc n))) place r h i = refl

pub stays_beside_parts : (w : ℕ) (k l : Reaction) (n : ℕ) (place : List ℕ) (r : Reaction) → n ≢ 0 → n ≢ 1 → reaction_with (binding w k l) (n ∷ place) r ≡ binding w k l
stays_beside_parts w k l zero place r h i = absurd (h refl)
stays_beside_parts w k l (suc zero) place r h i = absurd (i refl)
stays_beside_parts w k l (suc (suc n)) place r h i = refl

pub ruleset filled = (returning_stays, stays_beside_arms, stays_beside_parts)
