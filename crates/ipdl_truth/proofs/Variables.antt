-- The values of variables, and an expression's value by them.
use Rattle.std.proofs.Common.{◌≡◌, ℕ, zero, suc, ◌-◌, ◌<◌, ◌≤◌, Bool, true, false, ◌||◌, List, [], ◌∷◌, length, reverse, get_or, refl, ap, ◌∙◌, arith}
use Rattle.std.proofs.lemmas.List.{get_or-reverse, length-reverse}
use Rattle.ipdl_term.specs.Interpretations.{Interpretation, variable_value, symbol_value, evaluation}
use Rattle.ipdl_term.specs.Terms.{Value, Expression, literal, variable, outer, application, exclusive, conjunction, negation, concatenation, segment, equality, selection}
use Rattle.ipdl_term.specs.Variables.{expression_uses}
use Rattle.std.specs.Prelude.{nat_eq}
use Rattle.std.proofs.lemmas.Bool.Decides.{nat_tests}

-- a variable's value is that of its place
pub variable_value-get_or : (env : List Value) (n : ℕ) → variable_value env n ≡ get_or env n []
variable_value-get_or [] n = refl
variable_value-get_or (v ∷ env) zero = refl
variable_value-get_or (v ∷ env) (suc n) = variable_value-get_or env n

-- where the values stand from the outermost, it is that of the place from the end
pub variable_value-reverse : (env : List Value) (n : ℕ) → n < length env → variable_value (reverse env) n ≡ get_or env (length env - 1 - n) []
variable_value-reverse env n within = variable_value-get_or (reverse env) n ∙ get_or-reverse env n [] within

-- past the outermost one there is none
variable_value-past : (env : List Value) (n : ℕ) → length env ≤ n → variable_value env n ≡ []
variable_value-past [] n past = refl
variable_value-past (v ∷ env) zero past = absurd (omega arith)
variable_value-past (v ∷ env) (suc n) past = variable_value-past env n (omega arith)

pub variable_value-none : (env : List Value) (n : ℕ) → length env ≤ n → variable_value (reverse env) n ≡ []
variable_value-none env n past = variable_value-past (reverse env) n (omega (arith, length-reverse env))

-- a test of two that is true where the first is, and where the second is
pub or-left : (a b : Bool) → a ≡ true → (a || b) ≡ true
or-left true b e = refl
or-left false b e = cc

pub or-right : (a b : Bool) → b ≡ true → (a || b) ≡ true
or-right true b e = refl
or-right false b e = e

-- the variables of an expression have the same values
abbrev pub SameVariables : List Value → List Value → Expression → Type 0
SameVariables env others e = (n : ℕ) → expression_uses e n ≡ true → variable_value env n ≡ variable_value others n

-- the two parts of such a test
left_of : (env others : List Value) (f g : ℕ → Bool) → ((n : ℕ) → (f n || g n) ≡ true → variable_value env n ≡ variable_value others n) → (n : ℕ) → f n ≡ true → variable_value env n ≡ variable_value others n
left_of env others f g same n uses = same n (or-left (f n) (g n) uses)

right_of : (env others : List Value) (f g : ℕ → Bool) → ((n : ℕ) → (f n || g n) ≡ true → variable_value env n ≡ variable_value others n) → (n : ℕ) → g n ≡ true → variable_value env n ≡ variable_value others n
right_of env others f g same n uses = same n (or-right (f n) (g n) uses)

itself : (n : ℕ) → nat_eq n n ≡ true
itself n = grind (arith, nat_tests)

-- an expression's value depends on its own variables alone
pub evaluation_by_variables : (J : Interpretation) (env others : List Value) (e : Expression) → SameVariables env others e → evaluation J env e ≡ evaluation J others e
evaluation_by_variables J env others (literal bits) same = refl
evaluation_by_variables J env others (variable n) same = same n (itself n)
evaluation_by_variables J env others (outer n) same = refl
evaluation_by_variables J env others (application f e) same = ap (symbol_value J f) (evaluation_by_variables J env others e same)
evaluation_by_variables J env others (exclusive a b) same =
    let x = evaluation_by_variables J env others a (left_of env others (expression_uses a) (expression_uses b) same) in
    let y = evaluation_by_variables J env others b (right_of env others (expression_uses a) (expression_uses b) same) in
    rw (x, y) refl
evaluation_by_variables J env others (conjunction a b) same =
    let x = evaluation_by_variables J env others a (left_of env others (expression_uses a) (expression_uses b) same) in
    let y = evaluation_by_variables J env others b (right_of env others (expression_uses a) (expression_uses b) same) in
    rw (x, y) refl
evaluation_by_variables J env others (negation a) same =
    let x = evaluation_by_variables J env others a same in
    rw x refl
evaluation_by_variables J env others (concatenation a b) same =
    let x = evaluation_by_variables J env others a (left_of env others (expression_uses a) (expression_uses b) same) in
    let y = evaluation_by_variables J env others b (right_of env others (expression_uses a) (expression_uses b) same) in
    rw (x, y) refl
evaluation_by_variables J env others (segment i n a) same =
    let x = evaluation_by_variables J env others a same in
    rw x refl
evaluation_by_variables J env others (equality a b) same =
    let x = evaluation_by_variables J env others a (left_of env others (expression_uses a) (expression_uses b) same) in
    let y = evaluation_by_variables J env others b (right_of env others (expression_uses a) (expression_uses b) same) in
    rw (x, y) refl
evaluation_by_variables J env others (selection c a b) same =
    let rest = right_of env others (expression_uses c) (λ n. expression_uses a n || expression_uses b n) same in
    let x = evaluation_by_variables J env others c (left_of env others (expression_uses c) (λ n. expression_uses a n || expression_uses b n) same) in
    let y = evaluation_by_variables J env others a (left_of env others (expression_uses a) (expression_uses b) rest) in
    let z = evaluation_by_variables J env others b (right_of env others (expression_uses a) (expression_uses b) rest) in
    rw (x, y, z) refl
