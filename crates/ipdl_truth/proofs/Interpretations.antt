-- The tables as an interpretation of their signature.
use Rattle.std.proofs.Common.{◌≡◌, ℕ, zero, suc, List, [], ◌∷◌, ◌++◌, Bool, true, false, Option, Some, None, length, reverse, refl, sym, ap, ◌∙◌, subst, arith}
use Rattle.std.specs.Prelude.{All, IfSome, find, slice_get, is_none, if◌then◌else◌}
use Rattle.std.specs.Option.{option_or}
use Rattle.std.proofs.lemmas.List.Folds.{find-append}
use Rattle.ipdl_base.specs.BitsLaws.{length-bits_of}
use Rattle.ipdl_sig.specs.Symbols.{IsSymbol, IsTable}
use Rattle.ipdl_sig.specs.declared.symbol.Symbol.{Symbol}
use Rattle.ipdl_term.specs.Interpretations.{SymbolShape, Signature, Function, Interpretation, HaveWidths, table_entries, IsFunctionOf, Interprets, function_value, symbol_value, evaluation}
use Rattle.ipdl_term.specs.Surroundings.{Condition, FitWidths, Meets}
use Rattle.ipdl_term.specs.Terms.{Value, Expression, literal, variable, outer, application, exclusive, conjunction, negation, concatenation, segment, equality, selection}
use Rattle.ipdl_truth.specs.Abstract.{is_abstract, symbols_in, symbols_in_all, HasTablesOnly}
use Rattle.ipdl_truth.specs.Agreement.{IsAllowed, AgreeEverywhere}
use Rattle.ipdl_truth.specs.Questions.{Question, tests_of, first_abstract}
use Rattle.ipdl_truth.specs.Tables.{entries_of, function_of, tables_of}
use Rattle.ipdl_typing.specs.Signatures.{symbol_of, signature_of}

-- ---- the function of a symbol

-- the symbol of the number, as the tables have it
pub tables-symbol_value : (symbols : List Symbol) (f : ℕ) (s : Symbol) (a : Value) → slice_get symbols f ≡ Some s → symbol_value (tables_of (signature_of symbols)) f a ≡ function_value (function_of (symbol_of s)) a
tables-symbol_value [] f s a is = cc
tables-symbol_value (t ∷ symbols) zero s a is = let e : t ≡ s = cc in ap (λ x. function_value (function_of (symbol_of x)) a) e
tables-symbol_value (t ∷ symbols) (suc f) s a is = tables-symbol_value symbols f s a is

pub tables-symbol_value_none : (symbols : List Symbol) (f : ℕ) (a : Value) → slice_get symbols f ≡ None → symbol_value (tables_of (signature_of symbols)) f a ≡ []
tables-symbol_value_none [] f a is = refl
tables-symbol_value_none (t ∷ symbols) zero a is = cc
tables-symbol_value_none (t ∷ symbols) (suc f) a is = tables-symbol_value_none symbols f a is

-- ---- an interpretation

-- what holds of each holds of the first and of the rest
all_first : {X : Type 0} (P : X → Type 0) (x : X) (xs : List X) → All P (x ∷ xs) → P x
all_first P x xs all = all 0 x (omega arith)

all_rest : {X : Type 0} (P : X → Type 0) (x : X) (xs : List X) → All P (x ∷ xs) → All P xs
all_rest P x xs all = λ k d within. all (suc k) d (omega arith)

table_widths : (from to i : ℕ) (values : List Value) → All (λ v. length v ≡ to) values → HaveWidths from to (table_entries from i values)
table_widths from to i [] all = tt
table_widths from to i (v ∷ values) all = (length-bits_of from i, all_first (λ u. length u ≡ to) v values all, table_widths from to (suc i) values (all_rest (λ u. length u ≡ to) v values all))

symbol_function : (s : Symbol) → IsSymbol s → IsFunctionOf (symbol_of s) (function_of (symbol_of s))
symbol_function s h = record { from = refl; to = refl; entries = entries s.values h.table; table = table s.values }
  where
    entries : (o : Option (List Value)) → IfSome o (IsTable s.from s.to) → HaveWidths s.from s.to (entries_of s.from o)
    entries None t = tt
    entries (Some values) t = table_widths s.from s.to 0 values t.widths

    table : (o : Option (List Value)) → IfSome o (λ values. entries_of s.from o ≡ table_entries s.from 0 values)
    table None = tt
    table (Some values) = refl

pub tables-Interprets : (symbols : List Symbol) → All IsSymbol symbols → Interprets (signature_of symbols) (tables_of (signature_of symbols))
tables-Interprets [] all = tt
tables-Interprets (s ∷ symbols) all = (symbol_function s (all_first IsSymbol s symbols all), tables-Interprets symbols (all_rest IsSymbol s symbols all))

-- ---- every interpretation, where no abstract symbol occurs

made_of : ℕ → ℕ → List (Value × Value) → Function
made_of a b es = record { from = a; to = b; entries = es }

-- the function of a table is the table
table_is : (s : SymbolShape) (g : Function) (values : List Value) → s.values ≡ Some values → IsFunctionOf s g → g ≡ function_of s
unfolding made_of
table_is s g values is h =
    let told : g.entries ≡ table_entries s.from 0 values = subst (λ o. IfSome o (λ vs. g.entries ≡ table_entries s.from 0 vs)) is h.table in
    let entries : g.entries ≡ entries_of s.from s.values = told ∙ sym (ap (entries_of s.from) is) in
    ap (λ a. made_of a g.to g.entries) h.from
    ∙ ap (λ b. made_of s.from b g.entries) h.to
    ∙ ap (made_of s.from s.to) entries

some_values : (o : Option (List Value)) → is_none o ≡ false → (values : List Value) × (o ≡ Some values)
some_values None e = cc
some_values (Some values) e = (values, refl)

symbol_value-tables : (sig : Signature) (J : Interpretation) (f : ℕ) (a : Value) → Interprets sig J → is_abstract sig f ≡ false → symbol_value J f a ≡ symbol_value (tables_of sig) f a
symbol_value-tables [] [] f a h e = refl
symbol_value-tables [] (g ∷ J) f a h e = absurd h
symbol_value-tables (s ∷ sig) [] f a h e = absurd h
symbol_value-tables (s ∷ sig) (g ∷ J) zero a h e =
    let v = some_values s.values e in
    ap (λ x. function_value x a) (table_is s g v.0 v.1 h.0)
symbol_value-tables (s ∷ sig) (g ∷ J) (suc f) a h e = symbol_value-tables sig J f a h.1 e

-- the parts of a search that finds nothing
none_first : (p : ℕ → Bool) (x : ℕ) (xs : List ℕ) → find p (x ∷ xs) ≡ None → p x ≡ false
none_first p x xs none = go (p x) refl none
  where
    go : (b : Bool) → p x ≡ b → (if b then Some x else find p xs) ≡ None → p x ≡ false
    go false e n = e
    go true e n = cc

none_rest : (p : ℕ → Bool) (x : ℕ) (xs : List ℕ) → find p (x ∷ xs) ≡ None → find p xs ≡ None
none_rest p x xs none = go (p x) none
  where
    go : (b : Bool) → (if b then Some x else find p xs) ≡ None → find p xs ≡ None
    go false n = n
    go true n = cc

neither : (o u : Option ℕ) → option_or o u ≡ None → (o ≡ None) × (u ≡ None)
neither None u e = (refl, e)
neither (Some x) u e = cc

pub none_both : (p : ℕ → Bool) (xs ys : List ℕ) → find p (xs ++ ys) ≡ None → (find p xs ≡ None) × (find p ys ≡ None)
none_both p xs ys none = neither (find p xs) (find p ys) (sym (find-append p xs ys) ∙ none)

pub evaluation-tables : (sig : Signature) (J : Interpretation) (env : List Value) (e : Expression) → Interprets sig J → HasTablesOnly sig e → evaluation J env e ≡ evaluation (tables_of sig) env e
evaluation-tables sig J env (literal bits) h t = refl
evaluation-tables sig J env (variable n) h t = refl
evaluation-tables sig J env (outer n) h t = refl
evaluation-tables sig J env (application f e) h t =
    let x = evaluation-tables sig J env e h (none_rest (is_abstract sig) f (symbols_in e) t) in
    ap (symbol_value J f) x ∙ symbol_value-tables sig J f (evaluation (tables_of sig) env e) h (none_first (is_abstract sig) f (symbols_in e) t)
evaluation-tables sig J env (exclusive a b) h t =
    let u = none_both (is_abstract sig) (symbols_in a) (symbols_in b) t in
    let x = evaluation-tables sig J env a h u.0 in
    let y = evaluation-tables sig J env b h u.1 in
    rw (x, y) refl
evaluation-tables sig J env (conjunction a b) h t =
    let u = none_both (is_abstract sig) (symbols_in a) (symbols_in b) t in
    let x = evaluation-tables sig J env a h u.0 in
    let y = evaluation-tables sig J env b h u.1 in
    rw (x, y) refl
evaluation-tables sig J env (negation a) h t =
    let x = evaluation-tables sig J env a h t in
    rw x refl
evaluation-tables sig J env (concatenation a b) h t =
    let u = none_both (is_abstract sig) (symbols_in a) (symbols_in b) t in
    let x = evaluation-tables sig J env a h u.0 in
    let y = evaluation-tables sig J env b h u.1 in
    rw (x, y) refl
evaluation-tables sig J env (segment i n a) h t =
    let x = evaluation-tables sig J env a h t in
    rw x refl
evaluation-tables sig J env (equality a b) h t =
    let u = none_both (is_abstract sig) (symbols_in a) (symbols_in b) t in
    let x = evaluation-tables sig J env a h u.0 in
    let y = evaluation-tables sig J env b h u.1 in
    rw (x, y) refl
evaluation-tables sig J env (selection c a b) h t =
    let u = none_both (is_abstract sig) (symbols_in c) (symbols_in a ++ symbols_in b) t in
    let v = none_both (is_abstract sig) (symbols_in a) (symbols_in b) u.1 in
    let x = evaluation-tables sig J env c h u.0 in
    let y = evaluation-tables sig J env a h v.0 in
    let z = evaluation-tables sig J env b h v.1 in
    rw (x, y, z) refl

-- conditions with no abstract symbol are met alike
Meets-tables : (sig : Signature) (J : Interpretation) (env : List Value) (conditions : List Condition) → Interprets sig J → find (is_abstract sig) (symbols_in_all (tests_of conditions)) ≡ None → Meets J env conditions → Meets (tables_of sig) env conditions
Meets-tables sig J env [] h t met = tt
Meets-tables sig J env (c ∷ conditions) h t met =
    let u = none_both (is_abstract sig) (symbols_in c.test) (symbols_in_all (tests_of conditions)) t in
    (sym (evaluation-tables sig J env c.test h u.0) ∙ met.0, Meets-tables sig J env conditions h u.1 met.1)

-- what agrees everywhere under the tables agrees under each interpretation
pub agree-everywhere_under_all : (q : Question) (J : Interpretation) (env : List Value) → first_abstract q ≡ None → AgreeEverywhere q → Interprets q.sig J → FitWidths q.widths env → Meets J (reverse env) q.conditions → evaluation J (reverse env) q.left ≡ evaluation J (reverse env) q.right
agree-everywhere_under_all q J env t agree h fits met =
    let u = none_both (is_abstract q.sig) (symbols_in q.left) (symbols_in_all (q.right ∷ tests_of q.conditions)) t in
    let v = none_both (is_abstract q.sig) (symbols_in q.right) (symbols_in_all (tests_of q.conditions)) u.1 in
    let allowed : IsAllowed q env = record { widths = fits; conditions = Meets-tables q.sig J (reverse env) q.conditions h v.1 met } in
    evaluation-tables q.sig J (reverse env) q.left h u.0
    ∙ agree env allowed
    ∙ sym (evaluation-tables q.sig J (reverse env) q.right h v.0)
