-- Typed reactions with their variables changed are typed.
use Rattle.std.proofs.Common.{◌≡◌, ℕ, zero, suc, ◌+◌, ◌-◌, ◌<◌, Bool, true, false, List, [], ◌∷◌, ◌++◌, length, Some, refl, sym, ap, ◌∙◌, subst, arith}
use Rattle.std.proofs.lemmas.Bool.{or_left, or_right}
use Rattle.std.proofs.lemmas.Bool.Decides.{nat_tests}
use Rattle.std.specs.Prelude.{nat_eq, nat_lt, slice_get, if◌then◌else◌}
use Rattle.ipdl_laws.proofs.Sets.{not_both}
use Rattle.ipdl_laws.proofs.TypedParts.{HasWidth-lifted}
use Rattle.ipdl_term.specs.Interpretations.{Signature}
use Rattle.ipdl_term.specs.Rewriting.{lowered_reaction, exchanged_reaction, replaced_reaction, joined_reaction}
use Rattle.ipdl_term.specs.Terms.{Expression, literal, variable, outer, application, exclusive, conjunction, negation, concatenation, segment, equality, selection, Reaction, returning, flipping, reading, branching, binding}
use Rattle.ipdl_term.specs.Typing.{Scope, HasWidth, GivesWidth}
use Rattle.ipdl_term.specs.Variables.{expression_uses, reaction_uses, lifted_expression, lifted_reaction, put_expression, put_reaction}

-- ---- widths of variables

-- a near one, whatever stands behind
slice_get_near : (near rest rest' : List ℕ) (n : ℕ) → n < length near → slice_get (near ++ rest) n ≡ slice_get (near ++ rest') n
slice_get_near [] rest rest' n h = absurd (omega arith)
slice_get_near (x ∷ near) rest rest' zero h = refl
slice_get_near (x ∷ near) rest rest' (suc n) h = slice_get_near near rest rest' n (omega arith)

-- the first one behind the near ones
slice_get_first : (near rest : List ℕ) (v : ℕ) → slice_get (near ++ (v ∷ rest)) (length near) ≡ Some v
slice_get_first [] rest v = refl
slice_get_first (x ∷ near) rest v = slice_get_first near rest v

-- one behind that, which is left out
slice_get_behind : (near rest : List ℕ) (v n : ℕ) → length near < n → slice_get (near ++ rest) (n - 1) ≡ slice_get (near ++ (v ∷ rest)) n
slice_get_behind [] rest v zero h = absurd (omega arith)
slice_get_behind [] rest v (suc n) h = let e : suc n - 1 ≡ n = omega arith in rw e
slice_get_behind (x ∷ near) rest v zero h = absurd (omega arith)
slice_get_behind (x ∷ near) rest v (suc zero) h = absurd (omega arith)
slice_get_behind (x ∷ near) rest v (suc (suc n)) h =
    let e : suc (suc n) - 1 ≡ suc n = omega arith in
    let e' : suc n - 1 ≡ n = omega arith in
    let ih = slice_get_behind near rest v (suc n) (omega arith) in
    rw e (rw e' at ih)

module _ (sig : Signature) where
  -- ---- an expression put for a variable, typed where that variable is used

  HasWidth-put_number : (near rest : List ℕ) (x : Expression) (v n w : ℕ) (below is : Bool) → nat_lt n (length near) ≡ below → nat_eq n (length near) ≡ is →
      (is ≡ true → HasWidth sig rest x v) → slice_get (near ++ (v ∷ rest)) n ≡ Some w →
      HasWidth sig (near ++ rest) (if below then variable n else (if is then lifted_expression x 0 (length near) else variable (n - 1))) w
  HasWidth-put_number near rest x v n w true is p q fits h = slice_get_near near rest (v ∷ rest) n (grind (arith, nat_tests)) ∙ h
  HasWidth-put_number near rest x v n w false true p q fits h =
      let e : n ≡ length near = grind (arith, nat_tests) in
      let first : Some v ≡ Some w = sym (slice_get_first near rest v) ∙ ap (slice_get (near ++ (v ∷ rest))) (sym e) ∙ h in
      let same : v ≡ w = cc in
      subst (HasWidth sig (near ++ rest) (lifted_expression x 0 (length near))) same (HasWidth-lifted sig [] near rest x v (fits refl))
  HasWidth-put_number near rest x v n w false false p q fits h = slice_get_behind near rest v n (grind (arith, nat_tests)) ∙ h

  HasWidth-put : (near rest : List ℕ) (x : Expression) (v : ℕ) (e : Expression) (w : ℕ) → (expression_uses e (length near) ≡ true → HasWidth sig rest x v) → HasWidth sig (near ++ (v ∷ rest)) e w → HasWidth sig (near ++ rest) (put_expression (length near) e x) w
  HasWidth-put near rest x v (literal bits) w fits h = h
  HasWidth-put near rest x v (variable n) w fits h = HasWidth-put_number near rest x v n w _ _ refl refl fits h
  HasWidth-put near rest x v (outer n) w fits h = h
  HasWidth-put near rest x v (application f e) w fits h = (h.0, h.1, HasWidth-put near rest x v e h.0.from fits h.2, h.3)
  HasWidth-put near rest x v (exclusive a b) w fits h = (HasWidth-put near rest x v a w (λ u. fits (or_left _ _ u)) h.0, HasWidth-put near rest x v b w (λ u. fits (or_right (expression_uses a (length near)) _ u)) h.1)
  HasWidth-put near rest x v (conjunction a b) w fits h = (HasWidth-put near rest x v a w (λ u. fits (or_left _ _ u)) h.0, HasWidth-put near rest x v b w (λ u. fits (or_right (expression_uses a (length near)) _ u)) h.1)
  HasWidth-put near rest x v (negation a) w fits h = HasWidth-put near rest x v a w fits h
  HasWidth-put near rest x v (concatenation a b) w fits h = (h.0, h.1, HasWidth-put near rest x v a h.0 (λ u. fits (or_left _ _ u)) h.2, HasWidth-put near rest x v b h.1 (λ u. fits (or_right (expression_uses a (length near)) _ u)) h.3, h.4, h.5)
  HasWidth-put near rest x v (segment i n a) w fits h = (h.0, HasWidth-put near rest x v a h.0 fits h.1, h.2, h.3)
  HasWidth-put near rest x v (equality a b) w fits h = (h.0, HasWidth-put near rest x v a h.0 (λ u. fits (or_left _ _ u)) h.1, HasWidth-put near rest x v b h.0 (λ u. fits (or_right (expression_uses a (length near)) _ u)) h.2, h.3)
  HasWidth-put near rest x v (selection c a b) w fits h = (
    HasWidth-put near rest x v c 1 (λ u. fits (or_left _ _ u)) h.0,
    HasWidth-put near rest x v a w (λ u. fits (or_right (expression_uses c (length near)) _ (or_left _ _ u))) h.1,
    HasWidth-put near rest x v b w (λ u. fits (or_right (expression_uses c (length near)) _ (or_right (expression_uses a (length near)) _ u))) h.2,
  )

  module _ (scope : Scope) where
    GivesWidth-put_behind : (near rest : List ℕ) (x : Expression) (v : ℕ) (r : Reaction) (w : ℕ) → (reaction_uses r (length near) ≡ true → HasWidth sig rest x v) → GivesWidth sig scope (near ++ (v ∷ rest)) r w → GivesWidth sig scope (near ++ rest) (put_reaction (length near) r x) w
    GivesWidth-put_behind near rest x v (returning e) w fits h = HasWidth-put near rest x v e w fits h
    GivesWidth-put_behind near rest x v (flipping n) w fits h = h
    GivesWidth-put_behind near rest x v (reading c) w fits h = h
    GivesWidth-put_behind near rest x v (branching e r s) w fits h = (
      HasWidth-put near rest x v e 1 (λ u. fits (or_left _ _ u)) h.0,
      GivesWidth-put_behind near rest x v r w (λ u. fits (or_right (expression_uses e (length near)) _ (or_left _ _ u))) h.1,
      GivesWidth-put_behind near rest x v s w (λ u. fits (or_right (expression_uses e (length near)) _ (or_right (reaction_uses r (length near)) _ u))) h.2,
    )
    GivesWidth-put_behind near rest x v (binding n r s) w fits h = (
      GivesWidth-put_behind near rest x v r n (λ u. fits (or_left _ _ u)) h.0,
      GivesWidth-put_behind (n ∷ near) rest x v s w (λ u. fits (or_right (reaction_uses r (length near)) _ u)) h.1,
    )

    -- for variable 0
    pub GivesWidth-put : (widths : List ℕ) (x : Expression) (v : ℕ) (r : Reaction) (w : ℕ) → HasWidth sig widths x v → GivesWidth sig scope (v ∷ widths) r w → GivesWidth sig scope widths (put_reaction 0 r x) w
    GivesWidth-put widths x v r w fits h = GivesWidth-put_behind [] widths x v r w (λ u. fits) h

    -- ---- lifted past extra binders

    pub GivesWidth-lifted : (near extra widths : List ℕ) (r : Reaction) (w : ℕ) → GivesWidth sig scope (near ++ widths) r w → GivesWidth sig scope (near ++ (extra ++ widths)) (lifted_reaction r (length near) (length extra)) w
    GivesWidth-lifted near extra widths (returning e) w h = HasWidth-lifted sig near extra widths e w h
    GivesWidth-lifted near extra widths (flipping n) w h = h
    GivesWidth-lifted near extra widths (reading c) w h = h
    GivesWidth-lifted near extra widths (branching e r s) w h = (HasWidth-lifted sig near extra widths e 1 h.0, GivesWidth-lifted near extra widths r w h.1, GivesWidth-lifted near extra widths s w h.2)
    GivesWidth-lifted near extra widths (binding n r s) w h = (GivesWidth-lifted near extra widths r n h.0, GivesWidth-lifted (n ∷ near) extra widths s w h.1)

    -- ---- lowered, exchanged, replaced, joined

    pub GivesWidth-lowered : (widths : List ℕ) (v : ℕ) (r : Reaction) (w : ℕ) → reaction_uses r 0 ≡ false → GivesWidth sig scope (v ∷ widths) r w → GivesWidth sig scope widths (lowered_reaction r) w
    GivesWidth-lowered widths v r w unused h = GivesWidth-put_behind [] widths (literal []) v r w (λ u. not_both (reaction_uses r 0) u unused) h

    pub GivesWidth-exchanged : (widths : List ℕ) (u v : ℕ) (r : Reaction) (w : ℕ) → GivesWidth sig scope (u ∷ v ∷ widths) r w → GivesWidth sig scope (v ∷ u ∷ widths) (exchanged_reaction r) w
    GivesWidth-exchanged widths u v r w h =
        GivesWidth-put (v ∷ u ∷ widths) (variable 1) u (lifted_reaction r 2 1) w refl (GivesWidth-lifted (u ∷ v ∷ []) (u ∷ []) widths r w h)

    pub GivesWidth-replaced : (widths : List ℕ) (v : ℕ) (e : Expression) (r : Reaction) (w : ℕ) → HasWidth sig (v ∷ widths) e v → GivesWidth sig scope (v ∷ widths) r w → GivesWidth sig scope (v ∷ widths) (replaced_reaction r e) w
    GivesWidth-replaced widths v e r w fits h =
        GivesWidth-put (v ∷ widths) e v (lifted_reaction r 1 1) w fits (GivesWidth-lifted (v ∷ []) (v ∷ []) widths r w h)

    pub GivesWidth-joined : (widths : List ℕ) (v u : ℕ) (r : Reaction) (w : ℕ) → GivesWidth sig scope (u ∷ v ∷ widths) r w → GivesWidth sig scope ((v + u) ∷ widths) (joined_reaction v u r) w
    GivesWidth-joined widths v u r w h =
        let second : HasWidth sig (v ∷ (v + u) ∷ widths) (segment v u (variable 1)) u = (v + u, refl, omega arith, refl) in
        let first : HasWidth sig ((v + u) ∷ widths) (segment 0 v (variable 0)) v = (v + u, refl, omega arith, refl) in
        GivesWidth-put ((v + u) ∷ widths) (segment 0 v (variable 0)) v (put_reaction 0 (lifted_reaction r 2 1) (segment v u (variable 1))) w first
        (GivesWidth-put (v ∷ (v + u) ∷ widths) (segment v u (variable 1)) u (lifted_reaction r 2 1) w second (GivesWidth-lifted (u ∷ v ∷ []) ((v + u) ∷ []) widths r w h))
