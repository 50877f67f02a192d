-- Characters by what they begin, and what that tells of them.
use Rattle.std.proofs.Common.{◌≡◌, ℕ, Bool, true, false, if◌then◌else◌, eqb, refl, subst}
use Rattle.ipdl_base.specs.Names.{starts_name}
use Rattle.ipdl_tree.specs.declared.character.Beginning.{Beginning}
use Rattle.ipdl_tree.specs.declared.character.Beginning.TheVariants.{Blank, Comment, Opening, Closing, Number, Literal, Word, Nothing}
use Rattle.ipdl_tree.specs.Characters.{is_digit, beginning_of}
use Rattle.ipdl_tree.specs.Spelling.{is_blank}

-- what begins, by the tests in their order
abbrev pub by_tests : Bool → Bool → Bool → Bool → Bool → Bool → Bool → Beginning
by_tests blank semicolon opening closing digit sharp start =
    if blank then Blank
    else (if semicolon then Comment
    else (if opening then Opening
    else (if closing then Closing
    else (if digit then Number
    else (if sharp then Literal
    else (if start then Word else Nothing))))))

abbrev MeansByTests : Beginning → Bool → Bool → Bool → Bool → Bool → Bool → Bool → Type 0
MeansByTests Blank b s o c d h n = b ≡ true
MeansByTests Comment b s o c d h n = s ≡ true
MeansByTests Opening b s o c d h n = o ≡ true
MeansByTests Closing b s o c d h n = c ≡ true
MeansByTests Number b s o c d h n = d ≡ true
MeansByTests Literal b s o c d h n = h ≡ true
MeansByTests Word b s o c d h n = n ≡ true
MeansByTests Nothing b s o c d h n = Unit {0}

by_tests-means : (b s o c d h n : Bool) → MeansByTests (by_tests b s o c d h n) b s o c d h n
by_tests-means true s o c d h n = refl
by_tests-means false true o c d h n = refl
by_tests-means false false true c d h n = refl
by_tests-means false false false true d h n = refl
by_tests-means false false false false true h n = refl
by_tests-means false false false false false true n = refl
by_tests-means false false false false false false true = refl
by_tests-means false false false false false false false = tt

abbrev pub Means : Beginning → ℕ → Type 0
Means b c = MeansByTests b (is_blank c) (eqb c 59) (eqb c 40) (eqb c 41) (is_digit c) (eqb c 35) (starts_name c)

-- the test of what a character begins holds of it
pub beginning-means : (c : ℕ) → Means (beginning_of c) c
beginning-means c = by_tests-means (is_blank c) (eqb c 59) (eqb c 40) (eqb c 41) (is_digit c) (eqb c 35) (starts_name c)

-- a character that begins a word may be the first of a name
pub starts_name-Word : (c : ℕ) → beginning_of c ≡ Word → starts_name c ≡ true
starts_name-Word c e = let P : Beginning → Type 0 = λ b. Means b c in subst P e (beginning-means c)
