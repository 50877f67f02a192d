-- The first place where two terms differ, as it is found, is that of the relation.
use Rattle.std.proofs.Common.{◌≡◌, ◌≢◌, ℕ, zero, suc, ◌<◌, ◌⊎◌, inl, inr, Bool, true, false, List, [], ◌∷◌, nat_eq, Option, Some, None, refl, sym, ap, ap₂, ◌∙◌, subst, arith}
use Rattle.std.specs.Prelude.{◌↔◌, bytes_eq, Decides}
use Rattle.std.specs.Option.{option_or}
use Rattle.std.specs.Cmp.{unsigned_Decides}
use Rattle.std.proofs.lemmas.Bool.{cases_order}
use Rattle.std.proofs.lemmas.Slice.Eq.{bytes_eq-Decides}
use Rattle.ipdl_base.specs.Bits.{same_bits}
use Rattle.ipdl_base.specs.BitsLaws.{same_bits-Decides}
use Rattle.ipdl_term.specs.Terms.{Expression, literal, variable, outer, application, exclusive, conjunction, negation, concatenation, segment, equality, selection, Reaction, returning, flipping, reading, branching, binding, Protocol, nil, assignment, parallel, hiding, Term, protocol_term, reaction_term, expression_term}
use Rattle.ipdl_script.specs.Differences.{head_of, DifferAt, IsBefore, DifferFirstAt}
use Rattle.ipdl_script.specs.EndPlaces.{below, here_unless, differing_in_expression, differing_in_reaction, differing_place}
use Rattle.ipdl_term.specs.Places.{term_at}

-- what is found: no place of equal terms, and else the first one where they differ
abbrev Finds : Term → Term → Option (List ℕ) → Type 0
Finds t u None = t ≡ u
Finds t u (Some place) = DifferFirstAt t u place

-- the term of this number in the first is a
abbrev Has : Term → ℕ → Term → Type 0
Has t n a = (place : List ℕ) → term_at t (n ∷ place) ≡ term_at a place

some_injective : (a b : Term) → Some a ≡ Some b → a ≡ b
some_injective a b e = cc

-- ---- the whole

differ_here : (t u : Term) → head_of t ≢ head_of u → DifferFirstAt t u []
differ_here t u h = record {
  differ = record { left = t; right = u; in_left = refl; in_right = refl; heads = h };
  first = λ earlier before d. absurd before;
}

not_here : (t u : Term) → head_of t ≡ head_of u → DifferAt t u [] → ⊥
not_here t u h d = d.heads (ap head_of (sym (some_injective t d.left d.in_left)) ∙ h ∙ ap head_of (some_injective u d.right d.in_right))

-- equal terms differ nowhere
same_nowhere : (a b : Term) → a ≡ b → (place : List ℕ) → DifferAt a b place → ⊥
same_nowhere a b e place d =
    d.heads (ap head_of (some_injective d.left d.right (sym d.in_left ∙ ap (λ t. term_at t place) e ∙ d.in_right)))

finds_unless : (t u : Term) (b : Bool) (later : Option (List ℕ)) → (b ≡ true → Finds t u later) → (b ≡ false → head_of t ≢ head_of u) → Finds t u (here_unless b later)
finds_unless t u true later h k = h refl
finds_unless t u false later h k = differ_here t u (k refl)

-- a test that is false, of what the heads hold
fails_test : {X : Type 0} (b : Bool) (x y : X) → Decides b (x ≡ y) → b ≡ false → x ≢ y
fails_test true x y d h = cc
fails_test false x y d h = λ e. let k = d.1 e in cc

-- ---- children

up : (t u a b : Term) (n : ℕ) (place : List ℕ) → Has t n a → Has u n b → DifferAt a b place → DifferAt t u (n ∷ place)
up t u a b n place h k d = record { left = d.left; right = d.right; in_left = h place ∙ d.in_left; in_right = k place ∙ d.in_right; heads = d.heads }

down : (t u a b : Term) (n : ℕ) (place : List ℕ) → Has t n a → Has u n b → DifferAt t u (n ∷ place) → DifferAt a b place
down t u a b n place h k d = record { left = d.left; right = d.right; in_left = sym (h place) ∙ d.in_left; in_right = sym (k place) ∙ d.in_right; heads = d.heads }

-- in a child, where they differ in none before
in_child : (t u a b : Term) (n : ℕ) (place : List ℕ) → head_of t ≡ head_of u → Has t n a → Has u n b → ((m : ℕ) → m < n → (q : List ℕ) → DifferAt t u (m ∷ q) → ⊥) → DifferFirstAt a b place → DifferFirstAt t u (n ∷ place)
in_child t u a b n place heads h k before d = record { differ = up t u a b n place h k d.differ; first = earliest }
  where
    earliest : (earlier : List ℕ) → IsBefore earlier (n ∷ place) → DifferAt t u earlier → ⊥
    earliest [] is differ = not_here t u heads differ
    earliest (m ∷ q) (inl less) differ = before m less q differ
    earliest (m ∷ q) (inr same) differ = d.first q same.1 (down t u a b n q h k (subst (λ i. DifferAt t u (i ∷ q)) same.0 differ))

nowhere_in : (t u a b : Term) (n : ℕ) → Has t n a → Has u n b → a ≡ b → (q : List ℕ) → DifferAt t u (n ∷ q) → ⊥
nowhere_in t u a b n h k e q d = same_nowhere a b e q (down t u a b n q h k d)

-- one child
finds_one : (t u a b : Term) (x : Option (List ℕ)) → head_of t ≡ head_of u → Has t 0 a → Has u 0 b → (a ≡ b → t ≡ u) → Finds a b x → Finds t u (below 0 x)
finds_one t u a b None heads h k e f = e f
finds_one t u a b (Some place) heads h k e f = in_child t u a b 0 place heads h k (λ m less. absurd (omega (arith, less))) f

-- two
finds_two : (t u a b c d : Term) (x y : Option (List ℕ)) → head_of t ≡ head_of u → Has t 0 a → Has u 0 b → Has t 1 c → Has u 1 d → (a ≡ b → c ≡ d → t ≡ u) → Finds a b x → Finds c d y → Finds t u (option_or (below 0 x) (below 1 y))
finds_two t u a b c d (Some place) y heads h k h' k' e f g = in_child t u a b 0 place heads h k (λ m less. absurd (omega (arith, less))) f
finds_two t u a b c d None None heads h k h' k' e f g = e f g
finds_two t u a b c d None (Some place) heads h k h' k' e f g = in_child t u c d 1 place heads h' k' before g
  where
    before : (m : ℕ) → m < 1 → (q : List ℕ) → DifferAt t u (m ∷ q) → ⊥
    before zero less = nowhere_in t u a b 0 h k f
    before (suc m) less = absurd (omega (arith, less))

-- three
finds_three : (t u a b c d v w : Term) (x y z : Option (List ℕ)) → head_of t ≡ head_of u → Has t 0 a → Has u 0 b → Has t 1 c → Has u 1 d → Has t 2 v → Has u 2 w → (a ≡ b → c ≡ d → v ≡ w → t ≡ u) → Finds a b x → Finds c d y → Finds v w z →
    Finds t u (option_or (below 0 x) (option_or (below 1 y) (below 2 z)))
finds_three t u a b c d v w (Some place) y z heads h k h' k' i j e f g l = in_child t u a b 0 place heads h k (λ m less. absurd (omega (arith, less))) f
finds_three t u a b c d v w None (Some place) z heads h k h' k' i j e f g l = in_child t u c d 1 place heads h' k' before g
  where
    before : (m : ℕ) → m < 1 → (q : List ℕ) → DifferAt t u (m ∷ q) → ⊥
    before zero less = nowhere_in t u a b 0 h k f
    before (suc m) less = absurd (omega (arith, less))
finds_three t u a b c d v w None None (Some place) heads h k h' k' i j e f g l = in_child t u v w 2 place heads i j before l
  where
    before : (m : ℕ) → m < 2 → (q : List ℕ) → DifferAt t u (m ∷ q) → ⊥
    before zero less = nowhere_in t u a b 0 h k f
    before (suc zero) less = nowhere_in t u c d 1 h' k' g
    before (suc (suc m)) less = absurd (omega (arith, less))
finds_three t u a b c d v w None None None heads h k h' k' i j e f g l = e f g l

-- ---- heads that hold names and numbers

abbrev expression_in : Term → Expression
expression_in (expression_term e) = e
expression_in _ = literal []

abbrev reaction_in : Term → Reaction
reaction_in (reaction_term r) = r
reaction_in _ = flipping 0

abbrev protocol_in : Term → Protocol
protocol_in (protocol_term p) = p
protocol_in _ = nil

-- ---- the three kinds

found_in_expression : (a b : Expression) → Finds (expression_term a) (expression_term b) (differing_in_expression a b)
found_in_expression (literal v) (literal w) = finds_unless _ _ (same_bits v w) None (λ h. ap (λ x. expression_term (literal x)) ((same_bits-Decides v w).0 h)) (λ h e. fails_test _ v w (same_bits-Decides v w) h cc)
found_in_expression (variable m) (variable n) = finds_unless _ _ (nat_eq m n) None (λ h. ap (λ x. expression_term (variable x)) ((unsigned_Decides m n).0 h)) (λ h e. fails_test _ m n (unsigned_Decides m n) h cc)
found_in_expression (outer m) (outer n) = finds_unless _ _ (nat_eq m n) None (λ h. ap (λ x. expression_term (outer x)) ((unsigned_Decides m n).0 h)) (λ h e. fails_test _ m n (unsigned_Decides m n) h cc)
found_in_expression (application f a) (application g b) = finds_unless _ _ (nat_eq f g) _
    (λ h. let e : f ≡ g = (unsigned_Decides f g).0 h in finds_one _ _ (expression_term a) (expression_term b) _ (ap (λ x. expression_term (application x (literal []))) e) (λ p. refl) (λ p. refl) (λ k. cc) (found_in_expression a b))
    (λ h e. fails_test _ f g (unsigned_Decides f g) h cc)
found_in_expression (exclusive a b) (exclusive c d) = finds_two _ _ (expression_term a) (expression_term c) (expression_term b) (expression_term d) _ _ refl (λ p. refl) (λ p. refl) (λ p. refl) (λ p. refl) (λ h k. cc) (found_in_expression a c) (found_in_expression b d)
found_in_expression (conjunction a b) (conjunction c d) = finds_two _ _ (expression_term a) (expression_term c) (expression_term b) (expression_term d) _ _ refl (λ p. refl) (λ p. refl) (λ p. refl) (λ p. refl) (λ h k. cc) (found_in_expression a c) (found_in_expression b d)
found_in_expression (negation a) (negation b) = finds_one _ _ (expression_term a) (expression_term b) _ refl (λ p. refl) (λ p. refl) (λ k. cc) (found_in_expression a b)
found_in_expression (concatenation a b) (concatenation c d) = finds_two _ _ (expression_term a) (expression_term c) (expression_term b) (expression_term d) _ _ refl (λ p. refl) (λ p. refl) (λ p. refl) (λ p. refl) (λ h k. cc) (found_in_expression a c) (found_in_expression b d)
found_in_expression (segment i m a) (segment j n b) = finds_unless _ _ (nat_eq i j) _
    (λ h. finds_unless _ _ (nat_eq m n) _
    (λ h'. let e : i ≡ j = (unsigned_Decides i j).0 h in let e' : m ≡ n = (unsigned_Decides m n).0 h' in finds_one _ _ (expression_term a) (expression_term b) _ (ap₂ (λ x y. expression_term (segment x y (literal []))) e e') (λ p. refl) (λ p. refl) (λ k. cc) (found_in_expression a b))
    (λ h' e. fails_test _ m n (unsigned_Decides m n) h' cc))
    (λ h e. fails_test _ i j (unsigned_Decides i j) h cc)
found_in_expression (equality a b) (equality c d) = finds_two _ _ (expression_term a) (expression_term c) (expression_term b) (expression_term d) _ _ refl (λ p. refl) (λ p. refl) (λ p. refl) (λ p. refl) (λ h k. cc) (found_in_expression a c) (found_in_expression b d)
found_in_expression (selection a b c) (selection d e f) = finds_three _ _ (expression_term a) (expression_term d) (expression_term b) (expression_term e) (expression_term c) (expression_term f) _ _ _ refl (λ p. refl) (λ p. refl) (λ p. refl) (λ p. refl) (λ p. refl) (λ p. refl) (λ h k l. cc) (found_in_expression a d) (found_in_expression b e) (found_in_expression c f)
found_in_expression _ _ = differ_here _ _ (λ e. cc)

found_in_reaction : (r s : Reaction) → Finds (reaction_term r) (reaction_term s) (differing_in_reaction r s)
found_in_reaction (returning a) (returning b) = finds_one _ _ (expression_term a) (expression_term b) _ refl (λ p. refl) (λ p. refl) (λ k. cc) (found_in_expression a b)
found_in_reaction (flipping v) (flipping w) = finds_unless _ _ (nat_eq v w) None (λ h. ap (λ x. reaction_term (flipping x)) ((unsigned_Decides v w).0 h)) (λ h e. fails_test _ v w (unsigned_Decides v w) h cc)
found_in_reaction (reading c) (reading d) = finds_unless _ _ (bytes_eq c d) None (λ h. ap (λ x. reaction_term (reading x)) ((bytes_eq-Decides c d).0 h)) (λ h e. fails_test _ c d (bytes_eq-Decides c d) h cc)
found_in_reaction (branching a r s) (branching b t u) = finds_three _ _ (expression_term a) (expression_term b) (reaction_term r) (reaction_term t) (reaction_term s) (reaction_term u) _ _ _ refl (λ p. refl) (λ p. refl) (λ p. refl) (λ p. refl) (λ p. refl) (λ p. refl) (λ h k l. cc) (found_in_expression a b) (found_in_reaction r t) (found_in_reaction s u)
found_in_reaction (binding v r s) (binding w t u) = finds_unless _ _ (nat_eq v w) _
    (λ h. let e : v ≡ w = (unsigned_Decides v w).0 h in finds_two _ _ (reaction_term r) (reaction_term t) (reaction_term s) (reaction_term u) _ _ (ap (λ x. reaction_term (binding x (flipping 0) (flipping 0))) e) (λ p. refl) (λ p. refl) (λ p. refl) (λ p. refl) (λ k l. cc) (found_in_reaction r t) (found_in_reaction s u))
    (λ h e. fails_test _ v w (unsigned_Decides v w) h cc)
found_in_reaction _ _ = differ_here _ _ (λ e. cc)

pub found_in_protocol : (p q : Protocol) → Finds (protocol_term p) (protocol_term q) (differing_place p q)
found_in_protocol nil nil = refl
found_in_protocol (assignment c r) (assignment d s) = finds_unless _ _ (bytes_eq c d) _
    (λ h. let e : c ≡ d = (bytes_eq-Decides c d).0 h in finds_one _ _ (reaction_term r) (reaction_term s) _ (ap (λ x. protocol_term (assignment x (flipping 0))) e) (λ p. refl) (λ p. refl) (λ k. cc) (found_in_reaction r s))
    (λ h e. fails_test _ c d (bytes_eq-Decides c d) h cc)
found_in_protocol (parallel p q) (parallel r s) = finds_two _ _ (protocol_term p) (protocol_term r) (protocol_term q) (protocol_term s) _ _ refl (λ p. refl) (λ p. refl) (λ p. refl) (λ p. refl) (λ h k. cc) (found_in_protocol p r) (found_in_protocol q s)
found_in_protocol (hiding c v p) (hiding d w q) = finds_unless _ _ (bytes_eq c d) _
    (λ h. finds_unless _ _ (nat_eq v w) _
    (λ h'. let e : c ≡ d = (bytes_eq-Decides c d).0 h in let e' : v ≡ w = (unsigned_Decides v w).0 h' in finds_one _ _ (protocol_term p) (protocol_term q) _ (ap₂ (λ x y. protocol_term (hiding x y nil)) e e') (λ p. refl) (λ p. refl) (λ k. cc) (found_in_protocol p q))
    (λ h' e. fails_test _ v w (unsigned_Decides v w) h' cc))
    (λ h e. fails_test _ c d (bytes_eq-Decides c d) h cc)
found_in_protocol _ _ = differ_here _ _ (λ e. cc)

-- ---- as laws

from_none : (p q : Protocol) (o : Option (List ℕ)) → Finds (protocol_term p) (protocol_term q) o → o ≡ None → p ≡ q
from_none p q None f h = ap protocol_in f
from_none p q (Some place) f h = cc

to_none : (p q : Protocol) (o : Option (List ℕ)) → Finds (protocol_term p) (protocol_term q) o → p ≡ q → o ≡ None
to_none p q None f h = refl
to_none p q (Some place) f h = absurd (same_nowhere (protocol_term p) (protocol_term q) (ap protocol_term h) place f.differ)

pub differing_place-none : (p q : Protocol) → differing_place p q ≡ None → p ≡ q
differing_place-none p q h = from_none p q (differing_place p q) (found_in_protocol p q) h

pub differing_place-same : (p q : Protocol) → p ≡ q → differing_place p q ≡ None
differing_place-same p q h = to_none p q (differing_place p q) (found_in_protocol p q) h

pub differ_first : (p q : Protocol) (place : List ℕ) → differing_place p q ≡ Some place → DifferFirstAt (protocol_term p) (protocol_term q) place
differ_first p q place h = subst (Finds (protocol_term p) (protocol_term q)) h (found_in_protocol p q)

-- one of two places comes before the other, or they are the same
below_both : (m n : ℕ) (place other : List ℕ) → m ≡ n → IsBefore place other ⊎ (IsBefore other place ⊎ (place ≡ other)) →
    IsBefore (m ∷ place) (n ∷ other) ⊎ (IsBefore (n ∷ other) (m ∷ place) ⊎ ((m ∷ place) ≡ (n ∷ other)))
below_both m n place other e (inl h) = inl (inr (e, h))
below_both m n place other e (inr (inl h)) = inr (inl (inr (sym e, h)))
below_both m n place other e (inr (inr h)) = inr (inr (ap₂ (λ i p. i ∷ p) e h))

by_number : (m n : ℕ) (place other : List ℕ) → IsBefore place other ⊎ (IsBefore other place ⊎ (place ≡ other)) → (m ≡ n) ⊎ ((m < n) ⊎ (n < m)) →
    IsBefore (m ∷ place) (n ∷ other) ⊎ (IsBefore (n ∷ other) (m ∷ place) ⊎ ((m ∷ place) ≡ (n ∷ other)))
by_number m n place other rest (inl h) = below_both m n place other h rest
by_number m n place other rest (inr (inl h)) = inl (inl h)
by_number m n place other rest (inr (inr h)) = inr (inl (inl h))

in_order : (place other : List ℕ) → IsBefore place other ⊎ (IsBefore other place ⊎ (place ≡ other))
in_order [] [] = inr (inr refl)
in_order [] (n ∷ other) = inl tt
in_order (m ∷ place) [] = inr (inl tt)
in_order (m ∷ place) (n ∷ other) = by_number m n place other (in_order place other) (cases_order m n)

-- two terms differ first at one place
pub one_first : (t u : Term) (place other : List ℕ) → DifferFirstAt t u place → DifferFirstAt t u other → place ≡ other
one_first t u place other d e = by_cases (in_order place other)
  where
    by_cases : IsBefore place other ⊎ (IsBefore other place ⊎ (place ≡ other)) → place ≡ other
    by_cases (inl h) = absurd (e.first place h d.differ)
    by_cases (inr (inl h)) = absurd (d.first other h e.differ)
    by_cases (inr (inr h)) = h

pub differs_nowhere_exactly : (p q : Protocol) → (differing_place p q ≡ None) ↔ (p ≡ q)
differs_nowhere_exactly p q = (differing_place-none p q, differing_place-same p q)

-- the place that is found is the one where they differ first
from_some : (p q : Protocol) (place : List ℕ) (o : Option (List ℕ)) → Finds (protocol_term p) (protocol_term q) o → DifferFirstAt (protocol_term p) (protocol_term q) place → o ≡ Some place
from_some p q place None f d = absurd (same_nowhere (protocol_term p) (protocol_term q) f place d.differ)
from_some p q place (Some other) f d = ap Some (one_first (protocol_term p) (protocol_term q) other place f d)

pub differs_first_exactly : (p q : Protocol) (place : List ℕ) → (differing_place p q ≡ Some place) ↔ DifferFirstAt (protocol_term p) (protocol_term q) place
differs_first_exactly p q place =
    (differ_first p q place, from_some p q place (differing_place p q) (found_in_protocol p q))
