-- The rule `mask` where its right side is typed: where the variable of the flip occurs, what masks it has the flip's width.
use Rattle.std.proofs.Common.{◌≡◌, inl, inr, ℕ, suc, ◌+◌, Bool, true, false, ◌||◌, List, [], ◌∷◌, ◌++◌, length, Some, sym, ap, ◌∙◌, subst, arith, add-zero, add-suc, eqb-true}
use Rattle.std.proofs.lemmas.Bool.{or_cases}
use Rattle.std.proofs.lemmas.Bool.Decides.{nat_tests}
use Rattle.std.specs.Prelude.{nat_eq, nat_lt, slice_get}
use Rattle.ipdl_laws.proofs.Substitution.{lifted_number-all}
use Rattle.ipdl_laws.proofs.Widths.{length-zeros, length-evaluation}
use Rattle.ipdl_rules_r.proofs.Flips.{mask_by_width}
use Rattle.ipdl_laws.proofs.Rewritten.{evaluation_of_lowered}
use Rattle.ipdl_rules_r.specs.SameTotals.{HaveSameTotals}
use Rattle.ipdl_term.specs.Interpretations.{Signature, Interpretation, Interprets, zeros}
use Rattle.ipdl_term.specs.Rewriting.{replaced_reaction}
use Rattle.ipdl_term.specs.Surroundings.{FitWidths}
use Rattle.ipdl_term.specs.Terms.{Value, Expression, literal, variable, outer, application, exclusive, conjunction, negation, concatenation, segment, equality, selection, Reaction, returning, flipping, reading, branching, binding}
use Rattle.ipdl_term.specs.Typing.{Scope, HasWidth, GivesWidth}
use Rattle.ipdl_term.specs.Valuations.{Valuation}
use Rattle.ipdl_term.specs.Variables.{expression_uses, reaction_uses, lifted_number, lifted_expression, lifted_reaction, put_number, put_expression, put_reaction}

-- by which of two tests is true
by_either : {P : Type 0} (a b : Bool) → (a || b) ≡ true → (a ≡ true → P) → (b ≡ true → P) → P
by_either a b h f g = elim (or_cases a b h) [ inl e ↦ f e | inr e ↦ g e ]

-- the width of a variable behind extra binders
slice_get_past : (extra widths : List ℕ) (n : ℕ) → slice_get (extra ++ widths) (n + length extra) ≡ slice_get widths n
slice_get_past [] widths n = rw add-zero
slice_get_past (v ∷ extra) widths n = rw (add-suc n (length extra)) (slice_get_past extra widths n)

-- under so many binders, what is put for the variable that is meant
put_number-at : (depth : ℕ) (x : Expression) (n : ℕ) → nat_eq n depth ≡ true → put_number depth x (lifted_number (suc depth) 1 n) ≡ lifted_expression x 0 depth
put_number-at depth x n h =
    let e : n ≡ depth = eqb-true n depth h in
    let stays : lifted_number (suc depth) 1 n ≡ n = grind (arith, nat_tests) in
    let not_near : nat_lt n depth ≡ false = grind (arith, nat_tests) in
    rw (stays, not_near, h)

module _ (sig : Signature) where
  -- an expression that is typed when lifted is typed
  HasWidth_of_lifted : (extra widths : List ℕ) (e : Expression) (w : ℕ) → HasWidth sig (extra ++ widths) (lifted_expression e 0 (length extra)) w → HasWidth sig widths e w
  HasWidth_of_lifted extra widths (literal bits) w h = h
  HasWidth_of_lifted extra widths (variable n) w h = sym (ap (slice_get (extra ++ widths)) (lifted_number-all (length extra) n) ∙ slice_get_past extra widths n) ∙ h
  HasWidth_of_lifted extra widths (outer n) w h = h
  HasWidth_of_lifted extra widths (application f e) w h = (h.0, h.1, HasWidth_of_lifted extra widths e h.0.from h.2, h.3)
  HasWidth_of_lifted extra widths (exclusive a b) w h = (HasWidth_of_lifted extra widths a w h.0, HasWidth_of_lifted extra widths b w h.1)
  HasWidth_of_lifted extra widths (conjunction a b) w h = (HasWidth_of_lifted extra widths a w h.0, HasWidth_of_lifted extra widths b w h.1)
  HasWidth_of_lifted extra widths (negation a) w h = HasWidth_of_lifted extra widths a w h
  HasWidth_of_lifted extra widths (concatenation a b) w h = (h.0, h.1, HasWidth_of_lifted extra widths a h.0 h.2, HasWidth_of_lifted extra widths b h.1 h.3, h.4, h.5)
  HasWidth_of_lifted extra widths (segment i n a) w h = (h.0, HasWidth_of_lifted extra widths a h.0 h.1, h.2, h.3)
  HasWidth_of_lifted extra widths (equality a b) w h = (h.0, HasWidth_of_lifted extra widths a h.0 h.1, HasWidth_of_lifted extra widths b h.0 h.2, h.3)
  HasWidth_of_lifted extra widths (selection c a b) w h = (HasWidth_of_lifted extra widths c 1 h.0, HasWidth_of_lifted extra widths a w h.1, HasWidth_of_lifted extra widths b w h.2)

  abbrev HasSomeWidth : List ℕ → Expression → Type 0
  HasSomeWidth widths x = (v : ℕ) × HasWidth sig widths x v

  -- an expression in the place of a variable that occurs, where the whole is typed
  module _ (x : Expression) (widths : List ℕ) where
    typed_in_expression : (near : List ℕ) (e : Expression) (w : ℕ) → expression_uses e (length near) ≡ true → HasWidth sig (near ++ widths) (put_expression (length near) (lifted_expression e (suc (length near)) 1) x) w → HasSomeWidth widths x
    typed_in_expression near (literal bits) w used h = cc
    typed_in_expression near (variable n) w used h = (w, HasWidth_of_lifted near widths x w (subst (λ y. HasWidth sig (near ++ widths) y w) (put_number-at (length near) x n used) h))
    typed_in_expression near (outer n) w used h = cc
    typed_in_expression near (application f e) w used h = typed_in_expression near e h.0.from used h.2
    typed_in_expression near (exclusive a b) w used h = by_either (expression_uses a (length near)) _ used (λ u. typed_in_expression near a w u h.0) (λ u. typed_in_expression near b w u h.1)
    typed_in_expression near (conjunction a b) w used h = by_either (expression_uses a (length near)) _ used (λ u. typed_in_expression near a w u h.0) (λ u. typed_in_expression near b w u h.1)
    typed_in_expression near (negation a) w used h = typed_in_expression near a w used h
    typed_in_expression near (concatenation a b) w used h = by_either (expression_uses a (length near)) _ used (λ u. typed_in_expression near a h.0 u h.2) (λ u. typed_in_expression near b h.1 u h.3)
    typed_in_expression near (segment i n a) w used h = typed_in_expression near a h.0 used h.1
    typed_in_expression near (equality a b) w used h = by_either (expression_uses a (length near)) _ used (λ u. typed_in_expression near a h.0 u h.1) (λ u. typed_in_expression near b h.0 u h.2)
    typed_in_expression near (selection c a b) w used h =
        by_either (expression_uses c (length near)) _ used (λ u. typed_in_expression near c 1 u h.0)
        (λ k. by_either (expression_uses a (length near)) _ k (λ u. typed_in_expression near a w u h.1) (λ u. typed_in_expression near b w u h.2))

    typed_in_reaction : (scope : Scope) (near : List ℕ) (r : Reaction) (w : ℕ) → reaction_uses r (length near) ≡ true → GivesWidth sig scope (near ++ widths) (put_reaction (length near) (lifted_reaction r (suc (length near)) 1) x) w → HasSomeWidth widths x
    typed_in_reaction scope near (returning e) w used h = typed_in_expression near e w used h
    typed_in_reaction scope near (flipping n) w used h = cc
    typed_in_reaction scope near (reading c) w used h = cc
    typed_in_reaction scope near (branching e r s) w used h =
        by_either (expression_uses e (length near)) _ used (λ u. typed_in_expression near e 1 u h.0)
        (λ k. by_either (reaction_uses r (length near)) _ k (λ u. typed_in_reaction scope near r w u h.1) (λ u. typed_in_reaction scope near s w u h.2))
    typed_in_reaction scope near (binding n r s) w used h =
        by_either (reaction_uses r (length near)) _ used (λ u. typed_in_reaction scope near r n u h.0) (λ u. typed_in_reaction scope (n ∷ near) s w u h.1)

pub mask_is_as_likely : (sig : Signature) (J : Interpretation) → Interprets sig J → (scope : Scope) (widths : List ℕ) (env : List Value) (inputs : Valuation) → FitWidths widths env → (w : ℕ) (s : Reaction) (e : Expression) (v : ℕ) → expression_uses e 0 ≡ false →
    GivesWidth sig scope widths (binding w (flipping w) (replaced_reaction s (exclusive (variable 0) e))) v →
    HaveSameTotals J env inputs (binding w (flipping w) s) (binding w (flipping w) (replaced_reaction s (exclusive (variable 0) e)))
mask_is_as_likely sig J interprets scope widths env inputs fits w s e v unused typed = mask_by_width J env inputs w s e unused (λ used.
    let there = typed_in_reaction sig (exclusive (variable 0) e) (w ∷ widths) scope [] s v used typed.1 in
    let first : Some w ≡ Some there.0 = there.1.0 in
    let same : w ≡ there.0 = cc in
    ap length (evaluation_of_lowered J env (zeros w) e unused) ∙
    length-evaluation sig J interprets (w ∷ widths) (zeros w ∷ env) e there.0 (length-zeros w, fits) there.1.1 ∙
    sym same)
