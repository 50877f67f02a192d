-- What is listed for the free variables: their widths, their values, and the numbers that stand for these.
use Rattle.std.proofs.Common.{◌≡◌, ℕ, zero, suc, ◌+◌, ◌/◌, ◌^◌, ◌<◌, Bool, true, false, List, [], ◌∷◌, ◌++◌, length, take, drop, refl, sym, ap, ap₂, ◌∙◌, subst, arith, append_assoc, length-append}
use Rattle.std.proofs.Math.ListN.{set}
use Rattle.std.proofs.Math.Seq.{set-append_seam, take-append_seam, drop-append_seam}
use Rattle.std.proofs.lemmas.List.{take-append-drop}
use Rattle.std.specs.Prelude.{All, if◌then◌else◌}
use Rattle.ipdl_base.proofs.BitsRanges.{drop-bits_of, take-bits_of}
use Rattle.ipdl_base.specs.Bits.{bits_of, number_of}
use Rattle.ipdl_base.specs.BitsLaws.{length-bits_of, number_of-bits_of_below}
use Rattle.ipdl_term.specs.Interpretations.{zeros}
use Rattle.ipdl_term.specs.Surroundings.{FitWidths}
use Rattle.ipdl_term.specs.Terms.{Value, Expression}
use Rattle.ipdl_truth.proofs.Bits.{bits_of-number_of, number_of-below}
use Rattle.ipdl_truth.specs.FreeVariables.{occurs, free_of, total_width, bits_in, reading}
use Rattle.ipdl_truth.specs.Valuations.{valued, put_in}

-- ---- one binder more

-- either its variable occurs or not
pub by_test : {P : Type 0} (b : Bool) → (b ≡ true → P) → (b ≡ false → P) → P
by_test true h k = h refl
by_test false h k = k refl

module _ {X : Type 0} (es : List Expression) (depth : ℕ) (x : X) (xs : List X) where
  pub free_of-here : occurs es (length xs) ≡ true → free_of es depth (x ∷ xs) ≡ (depth, x) ∷ free_of es (suc depth) xs
  free_of-here used = rw used refl

  pub free_of-other : occurs es (length xs) ≡ false → free_of es depth (x ∷ xs) ≡ free_of es (suc depth) xs
  free_of-other unused = rw unused refl

-- values of widths are as many as these
pub length-FitWidths : (widths : List ℕ) (env : List Value) → FitWidths widths env → length env ≡ length widths
length-FitWidths [] [] fits = refl
length-FitWidths [] (v ∷ env) fits = absurd fits
length-FitWidths (w ∷ widths) [] fits = absurd fits
length-FitWidths (w ∷ widths) (v ∷ env) fits = ap suc (length-FitWidths widths env fits.1)

-- ---- numbers and bits

-- bits, cut into the values of the free variables
pub cut_up : List (ℕ × ℕ) → List Bool → List (ℕ × Value)
cut_up [] bits = []
cut_up (v ∷ free) bits = (v.0, take v.1 bits) ∷ cut_up free (drop v.1 bits)

-- the values that a number stands for are its bits, cut up
valued-cut_up : (free : List (ℕ × ℕ)) (n : ℕ) → valued free n ≡ cut_up free (bits_of (total_width free) n)
unfolding cut_up
valued-cut_up [] n = refl
valued-cut_up (v ∷ free) n =
    ap₂ (λ x rest. (v.0, x) ∷ rest) (sym (take-bits_of v.1 (total_width free) n))
    (valued-cut_up free n ∙ ap (cut_up free) (sym (drop-bits_of v.1 (total_width free) n)))

-- one after the other they are those bits
bits_in-valued : (free : List (ℕ × ℕ)) (n : ℕ) → bits_in (valued free n) ≡ bits_of (total_width free) n
unfolding bits_of
bits_in-valued [] n = refl
bits_in-valued (v ∷ free) n =
    ap₂ (λ x rest. x ++ rest) (sym (take-bits_of v.1 (total_width free) n)) (bits_in-valued free n ∙ sym (drop-bits_of v.1 (total_width free) n))
    ∙ take-append-drop v.1 (bits_of (v.1 + total_width free) n)

-- so they are read as the number
pub reading-valued : (free : List (ℕ × ℕ)) (n : ℕ) → n < 2 ^ total_width free → reading (valued free n) ≡ n
reading-valued free n below = ap number_of (bits_in-valued free n) ∙ number_of-bits_of_below (total_width free) n below

take_front : (w : ℕ) (v rest : List Bool) → length v ≡ w → take w (v ++ rest) ≡ v
take_front w v rest e = ap (λ k. take k (v ++ rest)) (sym e) ∙ take-append_seam v rest

drop_front : (w : ℕ) (v rest : List Bool) → length v ≡ w → drop w (v ++ rest) ≡ rest
drop_front w v rest e = ap (λ k. drop k (v ++ rest)) (sym e) ∙ drop-append_seam v rest

-- values of the binders' widths: those of the free variables are as many bits as their widths say, and come back from these
module _ (es : List Expression) where
  length-bits_in : (depth : ℕ) (widths : List ℕ) (env : List Value) → FitWidths widths env → length (bits_in (free_of es depth env)) ≡ total_width (free_of es depth widths)
  length-bits_in depth [] [] fits = refl
  length-bits_in depth [] (v ∷ env) fits = absurd fits
  length-bits_in depth (w ∷ widths) [] fits = absurd fits
  length-bits_in depth (w ∷ widths) (v ∷ env) fits =
      let same = length-FitWidths widths env fits.1 in
      let rest = length-bits_in (suc depth) widths env fits.1 in
      by_test (occurs es (length widths))
      (λ used.
      ap (λ l. length (bits_in l)) (free_of-here es depth v env (ap (occurs es) same ∙ used))
      ∙ length-append v (bits_in (free_of es (suc depth) env))
      ∙ ap₂ (λ m n. m + n) fits.0 rest
      ∙ sym (ap total_width (free_of-here es depth w widths used)))
      (λ unused.
      ap (λ l. length (bits_in l)) (free_of-other es depth v env (ap (occurs es) same ∙ unused))
      ∙ rest
      ∙ sym (ap total_width (free_of-other es depth w widths unused)))

  cut_up-bits_in : (depth : ℕ) (widths : List ℕ) (env : List Value) → FitWidths widths env → cut_up (free_of es depth widths) (bits_in (free_of es depth env)) ≡ free_of es depth env
  unfolding cut_up
  cut_up-bits_in depth [] [] fits = refl
  cut_up-bits_in depth [] (v ∷ env) fits = absurd fits
  cut_up-bits_in depth (w ∷ widths) [] fits = absurd fits
  cut_up-bits_in depth (w ∷ widths) (v ∷ env) fits =
      let same = length-FitWidths widths env fits.1 in
      let rest = cut_up-bits_in (suc depth) widths env fits.1 in
      let bits = bits_in (free_of es (suc depth) env) in
      by_test (occurs es (length widths))
      (λ used.
      let here = free_of-here es depth v env (ap (occurs es) same ∙ used) in
      ap₂ (λ l m. cut_up l (bits_in m)) (free_of-here es depth w widths used) here
      ∙ ap₂ (λ x l. (depth, x) ∷ cut_up (free_of es (suc depth) widths) l) (take_front w v bits fits.0) (drop_front w v bits fits.0)
      ∙ ap (λ l. (depth, v) ∷ l) rest
      ∙ sym here)
      (λ unused.
      let other = free_of-other es depth v env (ap (occurs es) same ∙ unused) in
      ap₂ (λ l m. cut_up l (bits_in m)) (free_of-other es depth w widths unused) other
      ∙ rest
      ∙ sym other)

  -- they are the values that their reading stands for
  pub valued-reading : (widths : List ℕ) (env : List Value) → FitWidths widths env → valued (free_of es 0 widths) (reading (free_of es 0 env)) ≡ free_of es 0 env
  valued-reading widths env fits =
      let bits = bits_in (free_of es 0 env) in
      let free = free_of es 0 widths in
      valued-cut_up free (number_of bits)
      ∙ ap (λ w. cut_up free (bits_of w (number_of bits))) (sym (length-bits_in 0 widths env fits))
      ∙ ap (cut_up free) (bits_of-number_of bits)
      ∙ cut_up-bits_in 0 widths env fits

  -- which is below the number of all
  pub reading-below : (widths : List ℕ) (env : List Value) → FitWidths widths env → reading (free_of es 0 env) < 2 ^ total_width (free_of es 0 widths)
  reading-below widths env fits =
      let P : ℕ → Type 0 = λ w. reading (free_of es 0 env) < 2 ^ w in
      subst P (length-bits_in 0 widths env fits) (number_of-below (bits_in (free_of es 0 env)))

  -- ---- values of all binders

  -- values of the binders' widths, where those of the free variables are the number's
  pub all_values : ℕ → List ℕ → ℕ → List Value
  all_values depth [] n = []
  all_values depth (w ∷ widths) n =
      (if occurs es (length widths) then bits_of w (n / 2 ^ total_width (free_of es (suc depth) widths)) else zeros w)
      ∷ all_values (suc depth) widths n

  length_of_choice : (b : Bool) (w : ℕ) (x y : Value) → length x ≡ w → length y ≡ w → length (if b then x else y) ≡ w
  length_of_choice true w x y e k = e
  length_of_choice false w x y e k = k

  length-zeros : (n : ℕ) → length (zeros n) ≡ n
  length-zeros zero = refl
  length-zeros (suc n) = ap suc (length-zeros n)

  pub FitWidths-all_values : (depth : ℕ) (widths : List ℕ) (n : ℕ) → FitWidths widths (all_values depth widths n)
  unfolding all_values
  FitWidths-all_values depth [] n = tt
  FitWidths-all_values depth (w ∷ widths) n = (
    length_of_choice (occurs es (length widths)) w _ _ (length-bits_of w (n / 2 ^ total_width (free_of es (suc depth) widths))) (length-zeros w),
    FitWidths-all_values (suc depth) widths n,
  )

  pub free_of-all_values : (depth : ℕ) (widths : List ℕ) (n : ℕ) → free_of es depth (all_values depth widths n) ≡ valued (free_of es depth widths) n
  unfolding all_values
  free_of-all_values depth [] n = refl
  free_of-all_values depth (w ∷ widths) n =
      let rest = free_of-all_values (suc depth) widths n in
      let same = length-FitWidths widths (all_values (suc depth) widths n) (FitWidths-all_values (suc depth) widths n) in
      let x = bits_of w (n / 2 ^ total_width (free_of es (suc depth) widths)) in
      let first : Bool → Value = λ b. if b then x else zeros w in
      by_test (occurs es (length widths))
      (λ used.
      free_of-here es depth (first (occurs es (length widths))) (all_values (suc depth) widths n) (ap (occurs es) same ∙ used)
      ∙ ap₂ (λ b l. (depth, first b) ∷ l) used rest
      ∙ sym (ap (λ l. valued l n) (free_of-here es depth w widths used)))
      (λ unused.
      free_of-other es depth (first (occurs es (length widths))) (all_values (suc depth) widths n) (ap (occurs es) same ∙ unused)
      ∙ rest
      ∙ sym (ap (λ l. valued l n) (free_of-other es depth w widths unused)))

  -- ---- putting values in

  -- after the values of the binders before this depth, the free variables have theirs
  put_behind : (depth : ℕ) (before : List Value) (widths : List ℕ) (env : List Value) (n : ℕ) → length before ≡ depth → length env ≡ length widths →
      (after : List Value) × (length after ≡ length widths) × (put_in (valued (free_of es depth widths) n) (before ++ env) ≡ before ++ after)
      × (free_of es depth after ≡ valued (free_of es depth widths) n)
  put_behind depth before [] [] n at same = ([], refl, refl, refl)
  put_behind depth before [] (v ∷ env) n at same = absurd (omega arith)
  put_behind depth before (w ∷ widths) [] n at same = absurd (omega arith)
  put_behind depth before (w ∷ widths) (v ∷ env) n at same =
      by_test (occurs es (length widths))
      (λ used.
      let x = bits_of w (n / 2 ^ total_width (free_of es (suc depth) widths)) in
      let free = free_of-here es depth w widths used in
      let next : length (before ++ x ∷ []) ≡ suc depth = omega (arith, length-append before (x ∷ [])) in
      let r = put_behind (suc depth) (before ++ x ∷ []) widths env n next (omega arith) in
      let values = valued (free_of es (suc depth) widths) n in (
        x ∷ r.0,
        ap suc r.1,
        ap (λ l. put_in (valued l n) (before ++ v ∷ env)) free
            ∙ ap (λ d. put_in values (set (before ++ v ∷ env) d x)) (sym at)
            ∙ ap (put_in values) (set-append_seam before v env x ∙ sym (append_assoc before (x ∷ []) env))
            ∙ r.2
            ∙ append_assoc before (x ∷ []) r.0,
        free_of-here es depth x r.0 (ap (occurs es) r.1 ∙ used)
            ∙ ap (λ l. (depth, x) ∷ l) r.3
            ∙ sym (ap (λ l. valued l n) free),
      ))
      (λ unused.
      let free = free_of-other es depth w widths unused in
      let next : length (before ++ v ∷ []) ≡ suc depth = omega (arith, length-append before (v ∷ [])) in
      let r = put_behind (suc depth) (before ++ v ∷ []) widths env n next (omega arith) in
      let values = valued (free_of es (suc depth) widths) n in (
        v ∷ r.0,
        ap suc r.1,
        ap (λ l. put_in (valued l n) (before ++ v ∷ env)) free
            ∙ ap (put_in values) (sym (append_assoc before (v ∷ []) env))
            ∙ r.2
            ∙ append_assoc before (v ∷ []) r.0,
        free_of-other es depth v r.0 (ap (occurs es) r.1 ∙ unused)
            ∙ r.3
            ∙ sym (ap (λ l. valued l n) free),
      ))

  pub free_of-put_in : (widths : List ℕ) (env : List Value) (n : ℕ) → length env ≡ length widths →
      (length (put_in (valued (free_of es 0 widths) n) env) ≡ length widths)
      × (free_of es 0 (put_in (valued (free_of es 0 widths) n) env) ≡ valued (free_of es 0 widths) n)
  free_of-put_in widths env n same =
      let r = put_behind 0 [] widths env n refl same in
      (ap length r.2 ∙ r.1, ap (free_of es 0) r.2 ∙ r.3)

  -- the depths are those of binders
  all_cons : (P : ℕ × ℕ → Type 0) (x : ℕ × ℕ) (xs : List (ℕ × ℕ)) → P x → All P xs → All P (x ∷ xs)
  all_cons P x xs first rest zero d within = first
  all_cons P x xs first rest (suc k) d within = rest k d (omega arith)

  depths-below : (depth most : ℕ) (widths : List ℕ) → depth + length widths ≡ most → All (λ v. v.0 < most) (free_of es depth widths)
  depths-below depth most [] all = λ k d within. absurd (omega arith)
  depths-below depth most (w ∷ widths) all =
      let P : ℕ × ℕ → Type 0 = λ v. v.0 < most in
      let rest = depths-below (suc depth) most widths (omega arith) in
      by_test (occurs es (length widths))
      (λ used. subst (All P) (sym (free_of-here es depth w widths used)) (all_cons P (depth, w) (free_of es (suc depth) widths) (omega arith) rest))
      (λ unused. subst (All P) (sym (free_of-other es depth w widths unused)) rest)

  pub free_of-below : (widths : List ℕ) → All (λ v. v.0 < length widths) (free_of es 0 widths)
  free_of-below widths = depths-below 0 (length widths) widths (omega arith)
