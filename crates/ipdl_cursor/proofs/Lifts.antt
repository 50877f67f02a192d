-- Lifts of conditions over several binders, one after the other.
use Rattle.std.proofs.Common.{◌≡◌, ℕ, suc, ◌+◌, List, [], ◌∷◌, map, refl, ap, ap₂, arith}
use Rattle.std.proofs.lemmas.Bool.Decides.{nat_tests}
use Rattle.ipdl_term.specs.Surroundings.{Condition, lifted_condition}
use Rattle.ipdl_term.specs.Terms.{Expression, literal, variable, outer, application, exclusive, conjunction, negation, concatenation, segment, equality, selection}
use Rattle.ipdl_term.specs.Variables.{lifted_number, lifted_expression}

-- the condition under so many binders more
abbrev pub lifted_by : ℕ → Condition → Condition
lifted_by n c = record { test = lifted_expression c.test 0 n; value = c.value }

lifted_number-zero : (n by : ℕ) → lifted_number 0 by n ≡ n + by
lifted_number-zero n by = grind (arith, nat_tests)

lifted_expression-none : (e : Expression) → lifted_expression e 0 0 ≡ e
lifted_expression-none (literal v) = refl
lifted_expression-none (variable n) = let e = lifted_number-zero n 0 in ap variable (omega arith)
lifted_expression-none (outer n) = refl
lifted_expression-none (application f a) = rw (lifted_expression-none a)
lifted_expression-none (exclusive a b) = rw (lifted_expression-none a, lifted_expression-none b)
lifted_expression-none (conjunction a b) = rw (lifted_expression-none a, lifted_expression-none b)
lifted_expression-none (negation a) = rw (lifted_expression-none a)
lifted_expression-none (concatenation a b) = rw (lifted_expression-none a, lifted_expression-none b)
lifted_expression-none (segment i n a) = rw (lifted_expression-none a)
lifted_expression-none (equality a b) = rw (lifted_expression-none a, lifted_expression-none b)
lifted_expression-none (selection a b c) = rw (lifted_expression-none a, lifted_expression-none b, lifted_expression-none c)

lifted_expression-more : (e : Expression) (m : ℕ) → lifted_expression (lifted_expression e 0 1) 0 m ≡ lifted_expression e 0 (suc m)
lifted_expression-more (literal v) m = refl
lifted_expression-more (variable n) m =
    let e = lifted_number-zero n 1 in
    let f = lifted_number-zero (lifted_number 0 1 n) m in
    let g = lifted_number-zero n (suc m) in
    ap variable (omega arith)
lifted_expression-more (outer n) m = refl
lifted_expression-more (application f a) m = rw (lifted_expression-more a m)
lifted_expression-more (exclusive a b) m = rw (lifted_expression-more a m, lifted_expression-more b m)
lifted_expression-more (conjunction a b) m = rw (lifted_expression-more a m, lifted_expression-more b m)
lifted_expression-more (negation a) m = rw (lifted_expression-more a m)
lifted_expression-more (concatenation a b) m = rw (lifted_expression-more a m, lifted_expression-more b m)
lifted_expression-more (segment i n a) m = rw (lifted_expression-more a m)
lifted_expression-more (equality a b) m = rw (lifted_expression-more a m, lifted_expression-more b m)
lifted_expression-more (selection a b c) m = rw (lifted_expression-more a m, lifted_expression-more b m, lifted_expression-more c m)

-- a lift by nothing
pub map_lifted-none : (cs : List Condition) → map (lifted_by 0) cs ≡ cs
map_lifted-none [] = refl
map_lifted-none (c ∷ cs) = ap₂ (λ (e : Expression) (ds : List Condition). record { test = e; value = c.value } ∷ ds) (lifted_expression-none c.test) (map_lifted-none cs)

-- a lift by one, and then by further ones
pub map_lifted-more : (m : ℕ) (cs : List Condition) → map (lifted_by m) (map lifted_condition cs) ≡ map (lifted_by (suc m)) cs
map_lifted-more m [] = refl
map_lifted-more m (c ∷ cs) = ap₂ (λ (e : Expression) (ds : List Condition). record { test = e; value = c.value } ∷ ds) (lifted_expression-more c.test m) (map_lifted-more m cs)
