-- The failures of an expression, by those of its parts. `Q` is what is said of a list of failures: that it is empty, or
-- which is the first.
use Rattle.std.proofs.Common.{◌≡◌, ℕ, ◌+◌, ◌==◌, nat_le, List, [], ◌++◌, append_assoc, slice_get, Option, Some, None, ◌⊎◌, inl, inr, sym, ap, ap₂, ◌∙◌, subst}
use Rattle.std.specs.Option.{option_map}
use Rattle.std.specs.Prelude.{is_some}
use Rattle.std.proofs.lemmas.Option.{slice_get-map}
use Rattle.ipdl_sig.specs.declared.symbol.Symbol.{Symbol as Declared}
use Rattle.ipdl_term.specs.Interpretations.{SymbolShape, Signature}
use Rattle.ipdl_term.specs.Terms.{Expression, application, exclusive, conjunction, concatenation, segment, selection}
use Rattle.ipdl_typing.specs.Answers.{TellsFirstFailure}
use Rattle.ipdl_typing.specs.Checks.{Failure, width, no_symbol, checked, child, symbol_to, symbol_from, has_width, expression_width, expression_failures, wanted_failures}
use Rattle.ipdl_typing.specs.Signatures.{symbol_of, signature_of}
use Rattle.ipdl_typing.specs.declared.fault.TypeFault.{TypeFault}
use Rattle.ipdl_typing.proofs.First.{TellsFirstFailure-in_front, after-clean, clean-append}

-- what is said of the failures of a term, which is written so
abbrev Says : (List Failure → Type 0) → Signature → List ℕ → List ℕ → Expression → Type 0
Says Q sig widths path t = Q (expression_failures sig widths path t)

-- ---- symbols

-- a symbol that the signature has
pub symbol_at : (symbols : List Declared) (f : ℕ) (s : Declared) → Some s ≡ slice_get symbols f → slice_get (signature_of symbols) f ≡ Some (symbol_of s)
symbol_at symbols f s is = slice_get-map symbol_of symbols f ∙ ap (option_map symbol_of) (sym is)

-- a symbol that it does not have
pub symbol_missing : (symbols : List Declared) (f : ℕ) → None ≡ slice_get symbols f → slice_get (signature_of symbols) f ≡ None
symbol_missing symbols f is = slice_get-map symbol_of symbols f ∙ ap (option_map symbol_of) (sym is)

-- the symbol is missing
pub application_unknown : (fault : TypeFault) (sig : Signature) (widths path : List ℕ) (t : Expression) (f : ℕ) (e : Expression) → t ≡ application f e → TellsFirstFailure fault (checked (is_some (slice_get sig f)) path (no_symbol f)) → TellsFirstFailure fault (expression_failures sig widths path t)
application_unknown fault sig widths path t f e is first =
    let known = checked (is_some (slice_get sig f)) path (no_symbol f) in
    let inner = expression_failures sig widths (child path 0) e in
    let last = has_width sig widths (child path 0) e (symbol_from (slice_get sig f)) in
    subst (Says (TellsFirstFailure fault) sig widths path) (sym is) (TellsFirstFailure-in_front fault (known ++ inner) last (TellsFirstFailure-in_front fault known inner first))

-- the argument is left
pub application_rest : (Q : List Failure → Type 0) (sig : Signature) (widths path : List ℕ) (t : Expression) (f : ℕ) (e : Expression) (s : SymbolShape) → t ≡ application f e → slice_get sig f ≡ Some s → Q (wanted_failures sig widths (child path 0) e s.from) → Q (expression_failures sig widths path t)
application_rest Q sig widths path t f e s is at later =
    let known = checked (is_some (slice_get sig f)) path (no_symbol f) in
    let inner = expression_failures sig widths (child path 0) e in
    let last = has_width sig widths (child path 0) e (symbol_from (slice_get sig f)) in
    let same : wanted_failures sig widths (child path 0) e s.from ≡ inner ++ last = ap (λ (o : Option SymbolShape). wanted_failures sig widths (child path 0) e (symbol_from o)) (sym at) in
    subst (Says Q sig widths path) (sym is) (subst Q (sym (append_assoc known inner last)) (after-clean Q known (inner ++ last) (ap (λ o. checked (is_some o) path (no_symbol f)) at) (subst Q same later)))

-- the width of a symbol's result
pub application_width : (sig : Signature) (widths : List ℕ) (t : Expression) (f : ℕ) (e : Expression) (s : SymbolShape) → t ≡ application f e → slice_get sig f ≡ Some s → s.to ≡ expression_width sig widths t
application_width sig widths t f e s is at =
    sym (ap (expression_width sig widths) is ∙ ap symbol_to at)

-- ---- an expression of a wanted width

-- the width is left
pub wanted_last : (Q : List Failure → Type 0) (sig : Signature) (widths path : List ℕ) (e : Expression) (want got : ℕ) → (got ≡ expression_width sig widths e) × (expression_failures sig widths path e ≡ []) → Q (checked (got == want) path (width want got)) → Q (wanted_failures sig widths path e want)
wanted_last Q sig widths path e want got clean later =
    after-clean Q (expression_failures sig widths path e) (has_width sig widths path e want) clean.1 (subst (λ g. Q (checked (g == want) path (width want g))) clean.0 later)

-- ---- two operands of one width

-- the failures of two operands, the children of these numbers
abbrev pub operand_failures : Signature → List ℕ → List ℕ → ℕ → ℕ → Expression → Expression → List Failure
operand_failures sig widths path i k a b =
    expression_failures sig widths (child path i) a ++ expression_failures sig widths (child path k) b
    ++ has_width sig widths (child path k) b (expression_width sig widths a)

-- the first operand fails
pub operand_first : (fault : TypeFault) (sig : Signature) (widths path : List ℕ) (i k : ℕ) (a b : Expression) → TellsFirstFailure fault (expression_failures sig widths (child path i) a) → TellsFirstFailure fault (operand_failures sig widths path i k a b)
operand_first fault sig widths path i k a b first =
    let left = expression_failures sig widths (child path i) a in
    let right = expression_failures sig widths (child path k) b in
    let last = has_width sig widths (child path k) b (expression_width sig widths a) in
    TellsFirstFailure-in_front fault (left ++ right) last (TellsFirstFailure-in_front fault left right first)

-- the second operand is left
pub operand_rest : (Q : List Failure → Type 0) (sig : Signature) (widths path : List ℕ) (i k : ℕ) (a b : Expression) (want : ℕ) → (want ≡ expression_width sig widths a) × (expression_failures sig widths (child path i) a ≡ []) → Q (wanted_failures sig widths (child path k) b want) → Q (operand_failures sig widths path i k a b)
operand_rest Q sig widths path i k a b want clean later =
    let left = expression_failures sig widths (child path i) a in
    let right = expression_failures sig widths (child path k) b in
    let last = has_width sig widths (child path k) b (expression_width sig widths a) in
    subst Q (sym (append_assoc left right last)) (after-clean Q left (right ++ last) clean.1 (subst (λ w. Q (wanted_failures sig widths (child path k) b w)) clean.0 later))

-- the two operators with such operands
pub operands_of : (sig : Signature) (widths path : List ℕ) (t a b : Expression) → (t ≡ exclusive a b) ⊎ (t ≡ conjunction a b) → (expression_failures sig widths path t ≡ operand_failures sig widths path 0 1 a b) × (expression_width sig widths t ≡ expression_width sig widths a)
operands_of sig widths path t a b (inl is) =
    (ap (expression_failures sig widths path) is, ap (expression_width sig widths) is)
operands_of sig widths path t a b (inr is) =
    (ap (expression_failures sig widths path) is, ap (expression_width sig widths) is)

-- ---- concatenations and segments

-- the left part fails
pub concatenation_first : (fault : TypeFault) (sig : Signature) (widths path : List ℕ) (t a b : Expression) → t ≡ concatenation a b → TellsFirstFailure fault (expression_failures sig widths (child path 0) a) → TellsFirstFailure fault (expression_failures sig widths path t)
concatenation_first fault sig widths path t a b is first =
    let left = expression_failures sig widths (child path 0) a in
    let right = expression_failures sig widths (child path 1) b in
    let sum = expression_width sig widths a + expression_width sig widths b in
    subst (Says (TellsFirstFailure fault) sig widths path) (sym is) (TellsFirstFailure-in_front fault (left ++ right) (checked (nat_le sum 128) path (width 128 sum)) (TellsFirstFailure-in_front fault left right first))

-- the right part fails
pub concatenation_second : (fault : TypeFault) (sig : Signature) (widths path : List ℕ) (t a b : Expression) → t ≡ concatenation a b → expression_failures sig widths (child path 0) a ≡ [] → TellsFirstFailure fault (expression_failures sig widths (child path 1) b) → TellsFirstFailure fault (expression_failures sig widths path t)
concatenation_second fault sig widths path t a b is clean first =
    let left = expression_failures sig widths (child path 0) a in
    let right = expression_failures sig widths (child path 1) b in
    let sum = expression_width sig widths a + expression_width sig widths b in
    subst (Says (TellsFirstFailure fault) sig widths path) (sym is) (TellsFirstFailure-in_front fault (left ++ right) (checked (nat_le sum 128) path (width 128 sum)) (after-clean (TellsFirstFailure fault) left right clean first))

-- the sum of the widths is left
pub concatenation_last : (Q : List Failure → Type 0) (sig : Signature) (widths path : List ℕ) (t a b : Expression) (v w : ℕ) → t ≡ concatenation a b → (v ≡ expression_width sig widths a) × (expression_failures sig widths (child path 0) a ≡ []) → (w ≡ expression_width sig widths b) × (expression_failures sig widths (child path 1) b ≡ []) → Q (checked (nat_le (v + w) 128) path (width 128 (v + w))) → Q (expression_failures sig widths path t)
concatenation_last Q sig widths path t a b v w is one two later =
    let left = expression_failures sig widths (child path 0) a in
    let right = expression_failures sig widths (child path 1) b in
    let sum = expression_width sig widths a + expression_width sig widths b in
    let same : checked (nat_le (v + w) 128) path (width 128 (v + w)) ≡ checked (nat_le sum 128) path (width 128 sum) = ap₂ (λ x y. checked (nat_le (x + y) 128) path (width 128 (x + y))) one.0 two.0 in
    subst (Says Q sig widths path) (sym is) (after-clean Q (left ++ right) (checked (nat_le sum 128) path (width 128 sum)) (clean-append left right one.1 two.1) (subst Q same later))

-- the expression that is cut fails
pub segment_inner : (fault : TypeFault) (sig : Signature) (widths path : List ℕ) (t a : Expression) (i n : ℕ) → t ≡ segment i n a → TellsFirstFailure fault (expression_failures sig widths (child path 0) a) → TellsFirstFailure fault (expression_failures sig widths path t)
segment_inner fault sig widths path t a i n is first =
    let inner = expression_failures sig widths (child path 0) a in
    let got = expression_width sig widths a in
    subst (Says (TellsFirstFailure fault) sig widths path) (sym is) (TellsFirstFailure-in_front fault inner (checked (nat_le (i + n) got) (child path 0) (width (i + n) got)) first)

-- its width is left
pub segment_last : (Q : List Failure → Type 0) (sig : Signature) (widths path : List ℕ) (t a : Expression) (i n got : ℕ) → t ≡ segment i n a → (got ≡ expression_width sig widths a) × (expression_failures sig widths (child path 0) a ≡ []) → Q (checked (nat_le (i + n) got) (child path 0) (width (i + n) got)) → Q (expression_failures sig widths path t)
segment_last Q sig widths path t a i n got is clean later =
    let inner = expression_failures sig widths (child path 0) a in
    let wide = expression_width sig widths a in
    let same : checked (nat_le (i + n) got) (child path 0) (width (i + n) got) ≡ checked (nat_le (i + n) wide) (child path 0) (width (i + n) wide) = ap (λ g. checked (nat_le (i + n) g) (child path 0) (width (i + n) g)) clean.0 in
    subst (Says Q sig widths path) (sym is) (after-clean Q inner (checked (nat_le (i + n) wide) (child path 0) (width (i + n) wide)) clean.1 (subst Q same later))

-- ---- selections

-- the test comes before the operands
selection_parts : (sig : Signature) (widths path : List ℕ) (c a b : Expression) → expression_failures sig widths path (selection c a b) ≡ wanted_failures sig widths (child path 0) c 1 ++ operand_failures sig widths path 1 2 a b
selection_parts sig widths path c a b =
    let test = wanted_failures sig widths (child path 0) c 1 in
    let left = expression_failures sig widths (child path 1) a in
    let right = expression_failures sig widths (child path 2) b in
    let last = has_width sig widths (child path 2) b (expression_width sig widths a) in
    ap (λ l. l ++ last) (append_assoc test left right) ∙ append_assoc test (left ++ right) last

-- the test fails
pub selection_test : (fault : TypeFault) (sig : Signature) (widths path : List ℕ) (t c a b : Expression) → t ≡ selection c a b → TellsFirstFailure fault (wanted_failures sig widths (child path 0) c 1) → TellsFirstFailure fault (expression_failures sig widths path t)
selection_test fault sig widths path t c a b is first =
    subst (TellsFirstFailure fault) (sym (ap (expression_failures sig widths path) is ∙ selection_parts sig widths path c a b)) (TellsFirstFailure-in_front fault (wanted_failures sig widths (child path 0) c 1) (operand_failures sig widths path 1 2 a b) first)

-- the operands are left
pub selection_rest : (Q : List Failure → Type 0) (sig : Signature) (widths path : List ℕ) (t c a b : Expression) → t ≡ selection c a b → wanted_failures sig widths (child path 0) c 1 ≡ [] → Q (operand_failures sig widths path 1 2 a b) → Q (expression_failures sig widths path t)
selection_rest Q sig widths path t c a b is clean later =
    subst Q (sym (ap (expression_failures sig widths path) is ∙ selection_parts sig widths path c a b)) (after-clean Q (wanted_failures sig widths (child path 0) c 1) (operand_failures sig widths path 1 2 a b) clean later)
