-- Whether two terms are the same, as a test, and that the test is an equivalence.
use Rattle.std.specs.Prelude.{◌≡◌, ℕ, Bool, true, false, ◌&&◌, nat_eq, bytes_eq}
use Rattle.std.specs.Bool.{Decides}
use Rattle.std.specs.Cmp.{IsEquivalence, decided, unsigned_Decides}
use Rattle.std.proofs.Common.{refl, ◌∙◌, ap, ap₂, subst}
use Rattle.std.proofs.lemmas.Bool.{false≢true, and_parts, and_from}
use Rattle.std.proofs.lemmas.Slice.Eq.{bytes_eq-Decides}
use Rattle.ipdl_base.specs.Bits.{same_bits}
use Rattle.ipdl_base.specs.BitsLaws.{same_bits-Decides}
use Rattle.ipdl_term.specs.Terms.{Channel, Expression, literal, variable, outer, application, exclusive, conjunction, negation, concatenation, segment, equality, selection, Reaction, returning, flipping, reading, branching, binding, Protocol, nil, assignment, parallel, hiding, Term, protocol_term, reaction_term, expression_term}

-- ---- the tests

abbrev pub same_expression : Expression → Expression → Bool
same_expression (literal v) (literal w) = same_bits v w
same_expression (variable m) (variable n) = nat_eq m n
same_expression (outer m) (outer n) = nat_eq m n
same_expression (application f a) (application g b) = nat_eq f g && same_expression a b
same_expression (exclusive a b) (exclusive c d) = same_expression a c && same_expression b d
same_expression (conjunction a b) (conjunction c d) = same_expression a c && same_expression b d
same_expression (negation a) (negation b) = same_expression a b
same_expression (concatenation a b) (concatenation c d) = same_expression a c && same_expression b d
same_expression (segment i m a) (segment j n b) = nat_eq i j && (nat_eq m n && same_expression a b)
same_expression (equality a b) (equality c d) = same_expression a c && same_expression b d
same_expression (selection a b c) (selection d e f) =
    same_expression a d && (same_expression b e && same_expression c f)
same_expression _ _ = false

abbrev pub same_reaction : Reaction → Reaction → Bool
same_reaction (returning a) (returning b) = same_expression a b
same_reaction (flipping v) (flipping w) = nat_eq v w
same_reaction (reading c) (reading d) = bytes_eq c d
same_reaction (branching a r s) (branching b t u) = same_expression a b && (same_reaction r t && same_reaction s u)
same_reaction (binding v r s) (binding w t u) = nat_eq v w && (same_reaction r t && same_reaction s u)
same_reaction _ _ = false

abbrev pub same_protocol : Protocol → Protocol → Bool
same_protocol nil nil = true
same_protocol (assignment c r) (assignment d s) = bytes_eq c d && same_reaction r s
same_protocol (parallel p q) (parallel r s) = same_protocol p r && same_protocol q s
same_protocol (hiding c v p) (hiding d w q) = bytes_eq c d && (nat_eq v w && same_protocol p q)
same_protocol _ _ = false

abbrev pub same_term : Term → Term → Bool
same_term (protocol_term p) (protocol_term q) = same_protocol p q
same_term (reaction_term r) (reaction_term s) = same_reaction r s
same_term (expression_term a) (expression_term b) = same_expression a b
same_term _ _ = false

-- ---- each test is true of equal terms alone

-- the terms of a form with two parts are equal where the parts are
two_parts : {A B X : Type 0} (make : A → B → X) {a c : A} {b d : B} (s t : Bool) → (s ≡ true → a ≡ c) → (t ≡ true → b ≡ d) → (s && t) ≡ true → make a b ≡ make c d
two_parts make s t first second both =
    let parts = and_parts s t both in ap₂ make (first parts.0) (second parts.1)

-- the same of three parts
three_parts : {A B C X : Type 0} (make : A → B → C → X) {a d : A} {b e : B} {c f : C} (s t u : Bool) → (s ≡ true → a ≡ d) → (t ≡ true → b ≡ e) → (u ≡ true → c ≡ f) → (s && (t && u)) ≡ true → make a b c ≡ make d e f
three_parts make {a} {d} {b} {e} {c} {f} s t u first second third all =
    let parts = and_parts s (t && u) all in
    let rest = and_parts t u parts.1 in
    ap (λ x. make x b c) (first parts.0) ∙ ap₂ (make d) (second rest.0) (third rest.1)

pub same_expression-sound : (a b : Expression) → same_expression a b ≡ true → a ≡ b
same_expression-sound (literal v) (literal w) is = ap literal ((same_bits-Decides v w).0 is)
same_expression-sound (variable m) (variable n) is = ap variable ((unsigned_Decides m n).0 is)
same_expression-sound (outer m) (outer n) is = ap outer ((unsigned_Decides m n).0 is)
same_expression-sound (application f a) (application g b) is =
    two_parts application (nat_eq f g) (same_expression a b) (unsigned_Decides f g).0 (same_expression-sound a b) is
same_expression-sound (exclusive a b) (exclusive c d) is =
    two_parts exclusive (same_expression a c) (same_expression b d) (same_expression-sound a c) (same_expression-sound b d) is
same_expression-sound (conjunction a b) (conjunction c d) is =
    two_parts conjunction (same_expression a c) (same_expression b d) (same_expression-sound a c) (same_expression-sound b d) is
same_expression-sound (negation a) (negation b) is = ap negation (same_expression-sound a b is)
same_expression-sound (concatenation a b) (concatenation c d) is =
    two_parts concatenation (same_expression a c) (same_expression b d) (same_expression-sound a c) (same_expression-sound b d) is
same_expression-sound (segment i m a) (segment j n b) is =
    three_parts segment (nat_eq i j) (nat_eq m n) (same_expression a b) (unsigned_Decides i j).0 (unsigned_Decides m n).0 (same_expression-sound a b) is
same_expression-sound (equality a b) (equality c d) is =
    two_parts equality (same_expression a c) (same_expression b d) (same_expression-sound a c) (same_expression-sound b d) is
same_expression-sound (selection a b c) (selection d e f) is =
    three_parts selection (same_expression a d) (same_expression b e) (same_expression c f) (same_expression-sound a d) (same_expression-sound b e) (same_expression-sound c f) is
same_expression-sound _ _ is = absurd (false≢true is)

pub same_reaction-sound : (r s : Reaction) → same_reaction r s ≡ true → r ≡ s
same_reaction-sound (returning a) (returning b) is = ap returning (same_expression-sound a b is)
same_reaction-sound (flipping v) (flipping w) is = ap flipping ((unsigned_Decides v w).0 is)
same_reaction-sound (reading c) (reading d) is = ap reading ((bytes_eq-Decides c d).0 is)
same_reaction-sound (branching a r s) (branching b t u) is =
    three_parts branching (same_expression a b) (same_reaction r t) (same_reaction s u) (same_expression-sound a b) (same_reaction-sound r t) (same_reaction-sound s u) is
same_reaction-sound (binding v r s) (binding w t u) is =
    three_parts binding (nat_eq v w) (same_reaction r t) (same_reaction s u) (unsigned_Decides v w).0 (same_reaction-sound r t) (same_reaction-sound s u) is
same_reaction-sound _ _ is = absurd (false≢true is)

pub same_protocol-sound : (p q : Protocol) → same_protocol p q ≡ true → p ≡ q
same_protocol-sound nil nil is = refl
same_protocol-sound (assignment c r) (assignment d s) is =
    two_parts assignment (bytes_eq c d) (same_reaction r s) (bytes_eq-Decides c d).0 (same_reaction-sound r s) is
same_protocol-sound (parallel p q) (parallel r s) is =
    two_parts parallel (same_protocol p r) (same_protocol q s) (same_protocol-sound p r) (same_protocol-sound q s) is
same_protocol-sound (hiding c v p) (hiding d w q) is =
    three_parts hiding (bytes_eq c d) (nat_eq v w) (same_protocol p q) (bytes_eq-Decides c d).0 (unsigned_Decides v w).0 (same_protocol-sound p q) is
same_protocol-sound _ _ is = absurd (false≢true is)

pub same_term-sound : (t u : Term) → same_term t u ≡ true → t ≡ u
same_term-sound (protocol_term p) (protocol_term q) is = ap protocol_term (same_protocol-sound p q is)
same_term-sound (reaction_term r) (reaction_term s) is = ap reaction_term (same_reaction-sound r s is)
same_term-sound (expression_term a) (expression_term b) is = ap expression_term (same_expression-sound a b is)
same_term-sound _ _ is = absurd (false≢true is)

-- ---- each test is true of a term and itself

same_number : (n : ℕ) → nat_eq n n ≡ true
same_number n = (unsigned_Decides n n).1 refl

same_name : (c : Channel) → bytes_eq c c ≡ true
same_name c = (bytes_eq-Decides c c).1 refl

pub same_expression-itself : (a : Expression) → same_expression a a ≡ true
same_expression-itself (literal v) = (same_bits-Decides v v).1 refl
same_expression-itself (variable n) = same_number n
same_expression-itself (outer n) = same_number n
same_expression-itself (application f a) = and_from (nat_eq f f) (same_expression a a) (same_number f) (same_expression-itself a)
same_expression-itself (exclusive a b) =
    and_from (same_expression a a) (same_expression b b) (same_expression-itself a) (same_expression-itself b)
same_expression-itself (conjunction a b) =
    and_from (same_expression a a) (same_expression b b) (same_expression-itself a) (same_expression-itself b)
same_expression-itself (negation a) = same_expression-itself a
same_expression-itself (concatenation a b) =
    and_from (same_expression a a) (same_expression b b) (same_expression-itself a) (same_expression-itself b)
same_expression-itself (segment i n a) =
    and_from (nat_eq i i) (nat_eq n n && same_expression a a) (same_number i) (and_from (nat_eq n n) (same_expression a a) (same_number n) (same_expression-itself a))
same_expression-itself (equality a b) =
    and_from (same_expression a a) (same_expression b b) (same_expression-itself a) (same_expression-itself b)
same_expression-itself (selection a b c) =
    and_from (same_expression a a) (same_expression b b && same_expression c c) (same_expression-itself a) (and_from (same_expression b b) (same_expression c c) (same_expression-itself b) (same_expression-itself c))

pub same_reaction-itself : (r : Reaction) → same_reaction r r ≡ true
same_reaction-itself (returning a) = same_expression-itself a
same_reaction-itself (flipping w) = same_number w
same_reaction-itself (reading c) = same_name c
same_reaction-itself (branching a r s) =
    and_from (same_expression a a) (same_reaction r r && same_reaction s s) (same_expression-itself a) (and_from (same_reaction r r) (same_reaction s s) (same_reaction-itself r) (same_reaction-itself s))
same_reaction-itself (binding w r s) =
    and_from (nat_eq w w) (same_reaction r r && same_reaction s s) (same_number w) (and_from (same_reaction r r) (same_reaction s s) (same_reaction-itself r) (same_reaction-itself s))

pub same_protocol-itself : (p : Protocol) → same_protocol p p ≡ true
same_protocol-itself nil = refl
same_protocol-itself (assignment c r) = and_from (bytes_eq c c) (same_reaction r r) (same_name c) (same_reaction-itself r)
same_protocol-itself (parallel p q) =
    and_from (same_protocol p p) (same_protocol q q) (same_protocol-itself p) (same_protocol-itself q)
same_protocol-itself (hiding c w p) =
    and_from (bytes_eq c c) (nat_eq w w && same_protocol p p) (same_name c) (and_from (nat_eq w w) (same_protocol p p) (same_number w) (same_protocol-itself p))

pub same_term-itself : (t : Term) → same_term t t ≡ true
same_term-itself (protocol_term p) = same_protocol-itself p
same_term-itself (reaction_term r) = same_reaction-itself r
same_term-itself (expression_term a) = same_expression-itself a

-- ---- so each test decides equality, and is an equivalence

pub same_expression-Decides : (a b : Expression) → Decides (same_expression a b) (a ≡ b)
same_expression-Decides a b =
    (same_expression-sound a b, λ is. subst (λ x. same_expression a x ≡ true) is (same_expression-itself a))

pub same_reaction-Decides : (r s : Reaction) → Decides (same_reaction r s) (r ≡ s)
same_reaction-Decides r s =
    (same_reaction-sound r s, λ is. subst (λ x. same_reaction r x ≡ true) is (same_reaction-itself r))

pub same_protocol-Decides : (p q : Protocol) → Decides (same_protocol p q) (p ≡ q)
same_protocol-Decides p q =
    (same_protocol-sound p q, λ is. subst (λ x. same_protocol p x ≡ true) is (same_protocol-itself p))

pub same_term-Decides : (t u : Term) → Decides (same_term t u) (t ≡ u)
same_term-Decides t u = (same_term-sound t u, λ is. subst (λ x. same_term t x ≡ true) is (same_term-itself t))

pub same_expression-equivalence : IsEquivalence same_expression
same_expression-equivalence = decided same_expression same_expression-Decides

pub same_reaction-equivalence : IsEquivalence same_reaction
same_reaction-equivalence = decided same_reaction same_reaction-Decides

pub same_protocol-equivalence : IsEquivalence same_protocol
same_protocol-equivalence = decided same_protocol same_protocol-Decides

pub same_term-equivalence : IsEquivalence same_term
same_term-equivalence = decided same_term same_term-Decides
