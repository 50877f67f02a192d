-- The failures of a reaction, by those of its parts. `Q` is what is said of a list of failures: that it is empty, or which
-- is the first.
use Rattle.std.proofs.Common.{◌≡◌, ℕ, ◌==◌, List, [], ◌∷◌, ◌++◌, sym, ap, ap₂, ◌∙◌, subst}
use Rattle.ipdl_term.specs.Interpretations.{Signature}
use Rattle.ipdl_term.specs.Terms.{Expression, Reaction, branching, binding}
use Rattle.ipdl_term.specs.Typing.{Scope}
use Rattle.ipdl_typing.specs.Answers.{TellsFirstFailure}
use Rattle.ipdl_typing.specs.Checks.{Failure, width, checked, child, has_width, expression_width, expression_failures, gives_width, reaction_width, reaction_failures}
use Rattle.ipdl_typing.specs.declared.fault.TypeFault.{TypeFault}
use Rattle.ipdl_typing.proofs.First.{TellsFirstFailure-in_front, after-clean, clean-append}

-- no failure, and this width
abbrev pub IsExpression : Signature → List ℕ → List ℕ → Expression → ℕ → Type 0
IsExpression sig widths path e w = (w ≡ expression_width sig widths e) × (expression_failures sig widths path e ≡ [])

abbrev pub IsReaction : Signature → Scope → List ℕ → List ℕ → Reaction → ℕ → Type 0
IsReaction sig scope widths path r w =
    (w ≡ reaction_width sig scope widths r) × (reaction_failures sig scope widths path r ≡ [])

-- what is said of the failures of a reaction
abbrev Says : (List Failure → Type 0) → Signature → Scope → List ℕ → List ℕ → Reaction → Type 0
Says Q sig scope widths path t = Q (reaction_failures sig scope widths path t)

-- ---- branches

-- the test fails
pub branching_test : (fault : TypeFault) (sig : Signature) (scope : Scope) (widths path : List ℕ) (t : Reaction) (e : Expression) (r s : Reaction) → t ≡ branching e r s → TellsFirstFailure fault (expression_failures sig widths (child path 0) e) → TellsFirstFailure fault (reaction_failures sig scope widths path t)
branching_test fault sig scope widths path t e r s is first =
    let test = expression_failures sig widths (child path 0) e in
    let bit = has_width sig widths (child path 0) e 1 in
    let left = reaction_failures sig scope widths (child path 1) r in
    let right = reaction_failures sig scope widths (child path 2) s in
    let last = gives_width sig scope widths (child path 2) s (reaction_width sig scope widths r) in
    let F = TellsFirstFailure-in_front fault in
    subst (Says (TellsFirstFailure fault) sig scope widths path) (sym is) (F (test ++ bit ++ left ++ right) last (F (test ++ bit ++ left) right (F (test ++ bit) left (F test bit first))))

-- a test that is a single bit has no failure
bit-clean : (sig : Signature) (widths path : List ℕ) (e : Expression) (got : ℕ) → IsExpression sig widths path e got → checked (got == 1) path (width 1 got) ≡ [] → has_width sig widths path e 1 ≡ []
bit-clean sig widths path e got clean one = sym (ap (λ g. checked (g == 1) path (width 1 g)) clean.0) ∙ one

-- the test is no single bit
pub branching_bit : (fault : TypeFault) (sig : Signature) (scope : Scope) (widths path : List ℕ) (t : Reaction) (e : Expression) (r s : Reaction) (got : ℕ) → t ≡ branching e r s → IsExpression sig widths (child path 0) e got → TellsFirstFailure fault (checked (got == 1) (child path 0) (width 1 got)) → TellsFirstFailure fault (reaction_failures sig scope widths path t)
branching_bit fault sig scope widths path t e r s got is clean first =
    let test = expression_failures sig widths (child path 0) e in
    let bit = has_width sig widths (child path 0) e 1 in
    let left = reaction_failures sig scope widths (child path 1) r in
    let right = reaction_failures sig scope widths (child path 2) s in
    let last = gives_width sig scope widths (child path 2) s (reaction_width sig scope widths r) in
    let here = subst (λ g. TellsFirstFailure fault (checked (g == 1) (child path 0) (width 1 g))) clean.0 first in
    let F = TellsFirstFailure-in_front fault in
    subst (Says (TellsFirstFailure fault) sig scope widths path) (sym is) (F (test ++ bit ++ left ++ right) last (F (test ++ bit ++ left) right (F (test ++ bit) left (after-clean (TellsFirstFailure fault) test bit clean.1 here))))

-- the left branch fails
pub branching_left : (fault : TypeFault) (sig : Signature) (scope : Scope) (widths path : List ℕ) (t : Reaction) (e : Expression) (r s : Reaction) (got : ℕ) → t ≡ branching e r s → IsExpression sig widths (child path 0) e got → checked (got == 1) (child path 0) (width 1 got) ≡ [] → TellsFirstFailure fault (reaction_failures sig scope widths (child path 1) r) → TellsFirstFailure fault (reaction_failures sig scope widths path t)
branching_left fault sig scope widths path t e r s got is clean one first =
    let test = expression_failures sig widths (child path 0) e in
    let bit = has_width sig widths (child path 0) e 1 in
    let left = reaction_failures sig scope widths (child path 1) r in
    let right = reaction_failures sig scope widths (child path 2) s in
    let last = gives_width sig scope widths (child path 2) s (reaction_width sig scope widths r) in
    let front = clean-append test bit clean.1 (bit-clean sig widths (child path 0) e got clean one) in
    let F = TellsFirstFailure-in_front fault in
    subst (Says (TellsFirstFailure fault) sig scope widths path) (sym is) (F (test ++ bit ++ left ++ right) last (F (test ++ bit ++ left) right (after-clean (TellsFirstFailure fault) (test ++ bit) left front first)))

-- the right branch fails
pub branching_right : (fault : TypeFault) (sig : Signature) (scope : Scope) (widths path : List ℕ) (t : Reaction) (e : Expression) (r s : Reaction) (got : ℕ) → t ≡ branching e r s → IsExpression sig widths (child path 0) e got → checked (got == 1) (child path 0) (width 1 got) ≡ [] → reaction_failures sig scope widths (child path 1) r ≡ [] → TellsFirstFailure fault (reaction_failures sig scope widths (child path 2) s) → TellsFirstFailure fault (reaction_failures sig scope widths path t)
branching_right fault sig scope widths path t e r s got is clean one none first =
    let test = expression_failures sig widths (child path 0) e in
    let bit = has_width sig widths (child path 0) e 1 in
    let left = reaction_failures sig scope widths (child path 1) r in
    let right = reaction_failures sig scope widths (child path 2) s in
    let last = gives_width sig scope widths (child path 2) s (reaction_width sig scope widths r) in
    let front = clean-append test bit clean.1 (bit-clean sig widths (child path 0) e got clean one) in
    let F = TellsFirstFailure-in_front fault in
    subst (Says (TellsFirstFailure fault) sig scope widths path) (sym is) (F (test ++ bit ++ left ++ right) last (after-clean (TellsFirstFailure fault) (test ++ bit ++ left) right (clean-append (test ++ bit) left front none) first))

-- the branches' widths are left
pub branching_last : (Q : List Failure → Type 0) (sig : Signature) (scope : Scope) (widths path : List ℕ) (t : Reaction) (e : Expression) (r s : Reaction) (test_got want got : ℕ) → t ≡ branching e r s → IsExpression sig widths (child path 0) e test_got → checked (test_got == 1) (child path 0) (width 1 test_got) ≡ [] → IsReaction sig scope widths (child path 1) r want → IsReaction sig scope widths (child path 2) s got → Q (checked (got == want) (child path 2) (width want got)) → Q (reaction_failures sig scope widths path t)
branching_last Q sig scope widths path t e r s test_got want got is clean one two three later =
    let test = expression_failures sig widths (child path 0) e in
    let bit = has_width sig widths (child path 0) e 1 in
    let left = reaction_failures sig scope widths (child path 1) r in
    let right = reaction_failures sig scope widths (child path 2) s in
    let last = gives_width sig scope widths (child path 2) s (reaction_width sig scope widths r) in
    let front = clean-append test bit clean.1 (bit-clean sig widths (child path 0) e test_got clean one) in
    let same : checked (got == want) (child path 2) (width want got) ≡ last = ap₂ (λ g w. checked (g == w) (child path 2) (width w g)) three.0 two.0 in
    subst (Says Q sig scope widths path) (sym is) (after-clean Q (test ++ bit ++ left ++ right) last (clean-append (test ++ bit ++ left) right (clean-append (test ++ bit) left front two.1) three.1) (subst Q same later))

-- ---- bindings

-- the first part fails
pub binding_first : (fault : TypeFault) (sig : Signature) (scope : Scope) (widths path : List ℕ) (t : Reaction) (w : ℕ) (r s : Reaction) → t ≡ binding w r s → TellsFirstFailure fault (reaction_failures sig scope widths (child path 0) r) → TellsFirstFailure fault (reaction_failures sig scope widths path t)
binding_first fault sig scope widths path t w r s is first =
    let left = reaction_failures sig scope widths (child path 0) r in
    let bound = gives_width sig scope widths (child path 0) r w in
    let right = reaction_failures sig scope (w ∷ widths) (child path 1) s in
    let F = TellsFirstFailure-in_front fault in
    subst (Says (TellsFirstFailure fault) sig scope widths path) (sym is) (F (left ++ bound) right (F left bound first))

-- the first part gives another width
pub binding_width : (fault : TypeFault) (sig : Signature) (scope : Scope) (widths path : List ℕ) (t : Reaction) (w got : ℕ) (r s : Reaction) → t ≡ binding w r s → IsReaction sig scope widths (child path 0) r got → TellsFirstFailure fault (checked (got == w) (child path 0) (width w got)) → TellsFirstFailure fault (reaction_failures sig scope widths path t)
binding_width fault sig scope widths path t w got r s is clean first =
    let left = reaction_failures sig scope widths (child path 0) r in
    let bound = gives_width sig scope widths (child path 0) r w in
    let right = reaction_failures sig scope (w ∷ widths) (child path 1) s in
    let here = subst (λ g. TellsFirstFailure fault (checked (g == w) (child path 0) (width w g))) clean.0 first in
    subst (Says (TellsFirstFailure fault) sig scope widths path) (sym is) (TellsFirstFailure-in_front fault (left ++ bound) right (after-clean (TellsFirstFailure fault) left bound clean.1 here))

-- the second part is left
pub binding_last : (Q : List Failure → Type 0) (sig : Signature) (scope : Scope) (widths path : List ℕ) (t : Reaction) (w got : ℕ) (r s : Reaction) → t ≡ binding w r s → IsReaction sig scope widths (child path 0) r got → checked (got == w) (child path 0) (width w got) ≡ [] → Q (reaction_failures sig scope (w ∷ widths) (child path 1) s) → Q (reaction_failures sig scope widths path t)
binding_last Q sig scope widths path t w got r s is clean one later =
    let left = reaction_failures sig scope widths (child path 0) r in
    let bound = gives_width sig scope widths (child path 0) r w in
    let right = reaction_failures sig scope (w ∷ widths) (child path 1) s in
    let none : bound ≡ [] = sym (ap (λ g. checked (g == w) (child path 0) (width w g)) clean.0) ∙ one in
    subst (Says Q sig scope widths path) (sym is) (after-clean Q (left ++ bound) right (clean-append left bound clean.1 none) later)
