-- What is spelled may be printed: its symbols are declared, and each variable has a binder.
use Rattle.std.proofs.Common.{◌≡◌, ℕ, suc, ◌+◌, ◌<◌, ◌≤◌, Bool, true, false, List, [], ◌∷◌, ◌++◌, length, Option, Some, None, refl, sym, ap, subst, add-one, length-append, arith}
use Rattle.std.specs.Prelude.{bytes_eq, is_none, option_map, if◌then◌else◌}
use Rattle.std.proofs.lemmas.List.Quantifiers.{position-Some}
use Rattle.ipdl_term.specs.Terms.{Expression, literal, variable, outer, application, exclusive, conjunction, negation, concatenation, segment, equality, selection, Reaction, returning, flipping, reading, branching, binding, Protocol, nil, assignment, parallel, hiding}
use Rattle.ipdl_tree.specs.Trees.{Located, Forest, no_trees, tree}
use Rattle.ipdl_tree.specs.Trees as Trees
use Rattle.ipdl_forms.specs.Documents.{Document, Entry, symbol_entry, protocol_entry, assumption_entry, theorem_entry, symbols_in}
use Rattle.ipdl_forms.specs.Expressions.{SpellsExpression, symbol_named}
use Rattle.ipdl_forms.specs.Items.{SpellsDocument, AreEntries, body_scope, earlier_with, nothing_earlier}
use Rattle.ipdl_forms.specs.Lists.{name_in, operand, head_of}
use Rattle.ipdl_forms.specs.Operators.{operator_operands}
use Rattle.ipdl_forms.specs.Protocols.{SpellsProtocol, beside_first, under_first}
use Rattle.ipdl_forms.specs.Reactions.{SpellsReaction}
use Rattle.ipdl_forms.specs.Scopes.{NameScope, under_binder, binder_among, symbol_number, bound_variable}
use Rattle.ipdl_forms.specs.Steps.{Earlier}
use Rattle.ipdl_term.specs.Within.{IsExpressionWithin, IsReactionWithin, IsProtocolWithin}
use Rattle.ipdl_commands.specs.Lookups.{HasBodiesWithin}

-- ---- names

-- a name that stands among others stands at a place below their number
binder_among-below : (names : List (List ℕ)) (name : List ℕ) (n : ℕ) → binder_among names name ≡ Some n → n < length names
binder_among-below [] name n e = cc
binder_among-below (other ∷ names) name n e = by_test (bytes_eq other name) (binder_among names name) (binder_among-below names name) e
  where
    by_test : (b : Bool) (found : Option ℕ) → ((m : ℕ) → found ≡ Some m → m < length names) → (if b then Some 0 else option_map suc found) ≡ Some n → n < suc (length names)
    by_test true found ih e = let zero : 0 ≡ n = cc in omega arith
    by_test false None ih e = cc
    by_test false (Some m) ih e = let below : m < length names = ih m refl in let more : suc m ≡ n = cc in omega arith

bound_variable-below : (scope : NameScope) (t : Located) (n : ℕ) → bound_variable scope t ≡ Some n → n < length scope.binders
bound_variable-below scope (Trees.word pos name) n e = binder_among-below scope.binders name n e
bound_variable-below scope (Trees.number pos k) n e = cc
bound_variable-below scope (Trees.literal pos bits) n e = cc
bound_variable-below scope (Trees.group pos ts) n e = cc

symbol_number-below : (scope : NameScope) (name : List ℕ) (f : ℕ) → symbol_number scope name ≡ Some f → f < length scope.symbols
symbol_number-below scope name f e = (position-Some (bytes_eq name) scope.symbols f name e).0

symbol_named-below : (scope : NameScope) (head : Option (List ℕ)) (f : ℕ) → symbol_named scope head ≡ Some f → f < length scope.symbols
symbol_named-below scope None f e = cc
symbol_named-below scope (Some name) f e = by_test (is_none (operator_operands name)) e
  where
    by_test : (b : Bool) → (if b then symbol_number scope name else None) ≡ Some f → f < length scope.symbols
    by_test true e = symbol_number-below scope name f e
    by_test false e = cc

-- ---- terms

pub IsExpressionWithin-spelled : (scope : NameScope) (e : Expression) (t : Located) → SpellsExpression scope e t → IsExpressionWithin (length scope.symbols) (length scope.binders) e
IsExpressionWithin-spelled scope (literal bits) t spells = tt
IsExpressionWithin-spelled scope (variable n) t spells = bound_variable-below scope t n spells
IsExpressionWithin-spelled scope (outer n) t spells = tt
IsExpressionWithin-spelled scope (application f e) t spells =
    (symbol_named-below scope (head_of t) f spells.0, IsExpressionWithin-spelled scope e (operand 0 t) spells.2)
IsExpressionWithin-spelled scope (exclusive a b) t spells =
    (IsExpressionWithin-spelled scope a (operand 0 t) spells.1, IsExpressionWithin-spelled scope b (operand 1 t) spells.2)
IsExpressionWithin-spelled scope (conjunction a b) t spells =
    (IsExpressionWithin-spelled scope a (operand 0 t) spells.1, IsExpressionWithin-spelled scope b (operand 1 t) spells.2)
IsExpressionWithin-spelled scope (negation a) t spells = IsExpressionWithin-spelled scope a (operand 0 t) spells.1
IsExpressionWithin-spelled scope (concatenation a b) t spells =
    (IsExpressionWithin-spelled scope a (operand 0 t) spells.1, IsExpressionWithin-spelled scope b (operand 1 t) spells.2)
IsExpressionWithin-spelled scope (segment i n a) t spells = IsExpressionWithin-spelled scope a (operand 2 t) spells.3
IsExpressionWithin-spelled scope (equality a b) t spells =
    (IsExpressionWithin-spelled scope a (operand 0 t) spells.1, IsExpressionWithin-spelled scope b (operand 1 t) spells.2)
IsExpressionWithin-spelled scope (selection c a b) t spells = (
  IsExpressionWithin-spelled scope c (operand 0 t) spells.1,
  IsExpressionWithin-spelled scope a (operand 1 t) spells.2,
  IsExpressionWithin-spelled scope b (operand 2 t) spells.3,
)

pub IsReactionWithin-spelled : (scope : NameScope) (r : Reaction) (t : Located) → SpellsReaction scope r t → IsReactionWithin (length scope.symbols) (length scope.binders) r
IsReactionWithin-spelled scope (returning e) t spells = IsExpressionWithin-spelled scope e (operand 0 t) spells.1
IsReactionWithin-spelled scope (flipping w) t spells = tt
IsReactionWithin-spelled scope (reading c) t spells = tt
IsReactionWithin-spelled scope (branching e r s) t spells = (
  IsExpressionWithin-spelled scope e (operand 0 t) spells.1,
  IsReactionWithin-spelled scope r (operand 1 t) spells.2,
  IsReactionWithin-spelled scope s (operand 2 t) spells.3,
)
IsReactionWithin-spelled scope (binding w r s) t spells = (
  IsReactionWithin-spelled scope r (operand 2 t) spells.3,
  subst (λ depth. IsReactionWithin (length scope.symbols) depth s) (sym (add-one (length scope.binders)))
      (IsReactionWithin-spelled (under_binder (name_in (operand 0 t)) scope) s (operand 3 t) spells.4),
)

-- a protocol that is spelled where no binder is around may be printed
pub IsProtocolWithin-spelled : (scope : NameScope) (p : Protocol) (t : Located) → scope.binders ≡ [] → SpellsProtocol scope p t → IsProtocolWithin (length scope.symbols) p
IsProtocolWithin-spelled scope nil t none spells = tt
IsProtocolWithin-spelled scope (assignment c r) t none spells =
    subst (λ (binders : List (List ℕ)). IsReactionWithin (length scope.symbols) (length binders) r) none
    (IsReactionWithin-spelled scope r (operand 1 t) spells.2)
IsProtocolWithin-spelled scope (parallel p q) t none spells =
    (IsProtocolWithin-spelled scope p (operand 0 t) none spells.1, IsProtocolWithin-spelled scope q (beside_first t) none spells.2)
IsProtocolWithin-spelled scope (hiding c w p) t none spells = IsProtocolWithin-spelled scope p (under_first t) none spells.2

-- ---- more symbols do no harm

IsExpressionWithin-more : (m n depth : ℕ) (e : Expression) → m ≤ n → IsExpressionWithin m depth e → IsExpressionWithin n depth e
IsExpressionWithin-more m n depth (literal bits) le within = tt
IsExpressionWithin-more m n depth (variable k) le within = within
IsExpressionWithin-more m n depth (outer k) le within = tt
IsExpressionWithin-more m n depth (application f e) le within =
    (let below : f < m = within.0 in omega arith, IsExpressionWithin-more m n depth e le within.1)
IsExpressionWithin-more m n depth (exclusive a b) le within =
    (IsExpressionWithin-more m n depth a le within.0, IsExpressionWithin-more m n depth b le within.1)
IsExpressionWithin-more m n depth (conjunction a b) le within =
    (IsExpressionWithin-more m n depth a le within.0, IsExpressionWithin-more m n depth b le within.1)
IsExpressionWithin-more m n depth (negation a) le within = IsExpressionWithin-more m n depth a le within
IsExpressionWithin-more m n depth (concatenation a b) le within =
    (IsExpressionWithin-more m n depth a le within.0, IsExpressionWithin-more m n depth b le within.1)
IsExpressionWithin-more m n depth (segment i k a) le within = IsExpressionWithin-more m n depth a le within
IsExpressionWithin-more m n depth (equality a b) le within =
    (IsExpressionWithin-more m n depth a le within.0, IsExpressionWithin-more m n depth b le within.1)
IsExpressionWithin-more m n depth (selection c a b) le within = (
  IsExpressionWithin-more m n depth c le within.0,
  IsExpressionWithin-more m n depth a le within.1,
  IsExpressionWithin-more m n depth b le within.2,
)

IsReactionWithin-more : (m n depth : ℕ) (r : Reaction) → m ≤ n → IsReactionWithin m depth r → IsReactionWithin n depth r
IsReactionWithin-more m n depth (returning e) le within = IsExpressionWithin-more m n depth e le within
IsReactionWithin-more m n depth (flipping w) le within = tt
IsReactionWithin-more m n depth (reading c) le within = tt
IsReactionWithin-more m n depth (branching e r s) le within = (
  IsExpressionWithin-more m n depth e le within.0,
  IsReactionWithin-more m n depth r le within.1,
  IsReactionWithin-more m n depth s le within.2,
)
IsReactionWithin-more m n depth (binding w r s) le within =
    (IsReactionWithin-more m n depth r le within.0, IsReactionWithin-more m n (depth + 1) s le within.1)

IsProtocolWithin-more : (m n : ℕ) (p : Protocol) → m ≤ n → IsProtocolWithin m p → IsProtocolWithin n p
IsProtocolWithin-more m n nil le within = tt
IsProtocolWithin-more m n (assignment c r) le within = IsReactionWithin-more m n 0 r le within
IsProtocolWithin-more m n (parallel p q) le within =
    (IsProtocolWithin-more m n p le within.0, IsProtocolWithin-more m n q le within.1)
IsProtocolWithin-more m n (hiding c w p) le within = IsProtocolWithin-more m n p le within

-- ---- documents

HasBodiesWithin-entries : (earlier : Earlier) (entries : List Entry) (ts : Forest) → AreEntries earlier entries ts → HasBodiesWithin (length earlier.symbols + length (symbols_in entries)) entries
HasBodiesWithin-entries earlier [] ts spelled = tt
HasBodiesWithin-entries earlier (e ∷ entries) no_trees spelled = absurd spelled
HasBodiesWithin-entries earlier (symbol_entry n s ∷ entries) (tree t ts) spelled =
    let one_more : length (earlier.symbols ++ s.name ∷ []) + length (symbols_in entries) ≡ length earlier.symbols + suc (length (symbols_in entries)) =
    omega (arith, length-append earlier.symbols (s.name ∷ [])) in
    subst (λ count. HasBodiesWithin count entries) one_more
    (HasBodiesWithin-entries (earlier_with (symbol_entry n s) earlier) entries ts spelled.1)
HasBodiesWithin-entries earlier (protocol_entry name interface body ∷ entries) (tree t ts) spelled = (
  IsProtocolWithin-more (length earlier.symbols) (length earlier.symbols + length (symbols_in entries)) body (omega arith)
      (IsProtocolWithin-spelled (body_scope earlier) body (operand 3 t) refl spelled.0.3),
  HasBodiesWithin-entries (earlier_with (protocol_entry name interface body) earlier) entries ts spelled.1,
)
HasBodiesWithin-entries earlier (assumption_entry name left right ∷ entries) (tree t ts) spelled =
    HasBodiesWithin-entries (earlier_with (assumption_entry name left right) earlier) entries ts spelled.1
HasBodiesWithin-entries earlier (theorem_entry name left right lefts rights ∷ entries) (tree t ts) spelled =
    HasBodiesWithin-entries (earlier_with (theorem_entry name left right lefts rights) earlier) entries ts spelled.1

-- the bodies of a document that is spelled may be printed
pub HasBodiesWithin-spelled : (d : Document) (t : Located) → SpellsDocument d t → HasBodiesWithin (length d.symbols) d.entries
HasBodiesWithin-spelled d t spelled =
    let count : 0 + length (symbols_in d.entries) ≡ length d.symbols = omega (arith, ap length spelled.4) in
    subst (λ count. HasBodiesWithin count d.entries) count (HasBodiesWithin-entries nothing_earlier d.entries _ spelled.3)
