-- The rounds of a monotone step reach its least fixed point.
use Rattle.std.proofs.Common.{◌≡◌, ℕ, zero, suc, ◌≤◌, ◌⊎◌, inl, inr, Bool, true, false, List, length, refl, sym, ap, ◌∙◌, arith}
use mathlib.Core.Path.{fun_ext}
use native.Mathlib.Decide.{dec_le}
use Rattle.ipdl_term.specs.Channels.{has}
use Rattle.ipdl_term.specs.Protocols.{after_rounds, solution}
use Rattle.ipdl_term.specs.Terms.{Channel}
use Rattle.ipdl_term.specs.Valuations.{Valuation, nothing, only, LiesWithin}
use Rattle.ipdl_laws.specs.Alike.{IsMonotone}
use Rattle.ipdl_laws.proofs.Order.{LiesWithin_equal, LiesWithin-trans, LiesWithin-nothing, LiesWithin-antisym, WritesOnly, written_count, written_count_le, value_same_of_written_count}

-- the rounds write no channels that the step does not write
pub WritesOnly-after_rounds : (cs : List Channel) (F : Valuation → Valuation) → ((p : Valuation) → WritesOnly cs (F p)) → (n : ℕ) → WritesOnly cs (after_rounds n F)
WritesOnly-after_rounds cs F only zero = λ c h. refl
WritesOnly-after_rounds cs F only (suc n) = only (after_rounds n F)

-- a larger step has larger rounds
pub LiesWithin-after_rounds : (F G : Valuation → Valuation) → ((p q : Valuation) → LiesWithin p q → LiesWithin (F p) (G q)) → (n : ℕ) → LiesWithin (after_rounds n F) (after_rounds n G)
LiesWithin-after_rounds F G h zero = LiesWithin-nothing nothing
LiesWithin-after_rounds F G h (suc n) = h _ _ (LiesWithin-after_rounds F G h n)

module _ (cs : List Channel) (F : Valuation → Valuation) (mono : IsMonotone F) (only : (p : Valuation) → WritesOnly cs (F p)) where
  -- each round has more than the one before
  pub after_rounds_grow : (n : ℕ) → LiesWithin (after_rounds n F) (after_rounds (suc n) F)
  after_rounds_grow zero = LiesWithin-nothing (F nothing)
  after_rounds_grow (suc n) = mono _ _ (after_rounds_grow n)

  -- no more written channels in the next round: the same valuation
  after_rounds_same_of_count : (n : ℕ) → written_count cs (after_rounds (suc n) F) ≤ written_count cs (after_rounds n F) → after_rounds n F ≡ after_rounds (suc n) F
  after_rounds_same_of_count n h = fun_ext (λ c. go c (has cs c) refl)
    where
      go : (c : Channel) (b : Bool) → has cs c ≡ b → after_rounds n F c ≡ after_rounds (suc n) F c
      go c true e = value_same_of_written_count cs (after_rounds n F) (after_rounds (suc n) F) (after_rounds_grow n) h c e
      go c false e = WritesOnly-after_rounds cs F only n c e ∙ sym (WritesOnly-after_rounds cs F only (suc n) c e)

  -- either a round changes nothing or there are as many written channels as there were rounds
  after_rounds_stable_or_more : (n : ℕ) → (after_rounds n F ≡ after_rounds (suc n) F) ⊎ (n ≤ written_count cs (after_rounds n F))
  after_rounds_stable_or_more zero = inr (omega arith)
  after_rounds_stable_or_more (suc n) = go (after_rounds_stable_or_more n) (dec_le (written_count cs (after_rounds (suc n) F)) (written_count cs (after_rounds n F)))
    where
      go : (after_rounds n F ≡ after_rounds (suc n) F) ⊎ (n ≤ written_count cs (after_rounds n F)) → Dec (written_count cs (after_rounds (suc n) F) ≤ written_count cs (after_rounds n F)) → (after_rounds (suc n) F ≡ after_rounds (suc (suc n)) F) ⊎ (suc n ≤ written_count cs (after_rounds (suc n) F))
      go (inl e) d = inl (ap F e)
      go (inr h) (yes k) = inl (ap F (after_rounds_same_of_count n k))
      go (inr h) (no k) = inr (omega arith)

  -- the solution is a fixed point of the step
  pub solution-fixed : F (solution cs F) ≡ solution cs F
  solution-fixed = go (after_rounds_stable_or_more (suc (length cs)))
    where
      go : (after_rounds (suc (length cs)) F ≡ after_rounds (suc (suc (length cs))) F) ⊎ (suc (length cs) ≤ written_count cs (after_rounds (suc (length cs)) F)) → F (solution cs F) ≡ solution cs F
      go (inl e) = sym e
      go (inr h) = absurd (omega (arith, written_count_le cs (after_rounds (suc (length cs)) F)))

  -- the rounds lie within each valuation that the step does not leave
  pub after_rounds_least : (x : Valuation) → LiesWithin (F x) x → (n : ℕ) → LiesWithin (after_rounds n F) x
  after_rounds_least x h zero = LiesWithin-nothing x
  after_rounds_least x h (suc n) = LiesWithin-trans _ _ _ (mono _ _ (after_rounds_least x h n)) h

  -- and so the solution is the least such
  pub solution-least : (x : Valuation) → LiesWithin (F x) x → LiesWithin (solution cs F) x
  solution-least x h = after_rounds_least x h (suc (length cs))

  -- the solution writes no other channels
  pub WritesOnly-solution : WritesOnly cs (solution cs F)
  WritesOnly-solution = WritesOnly-after_rounds cs F only (suc (length cs))

-- the length of the list of channels makes no difference
pub solution_same : (cs ds : List Channel) (F : Valuation → Valuation) → IsMonotone F → ((p : Valuation) → WritesOnly cs (F p)) → ((p : Valuation) → WritesOnly ds (F p)) → solution cs F ≡ solution ds F
solution_same cs ds F mono only_cs only_ds =
    LiesWithin-antisym _ _
    (solution-least cs F mono only_cs (solution ds F) (LiesWithin_equal _ _ (solution-fixed ds F mono only_ds)))
    (solution-least ds F mono only_ds (solution cs F) (LiesWithin_equal _ _ (solution-fixed cs F mono only_cs)))

-- the solution of two steps one after the other, begun with the other one
pub solution_rolled : (cs ds : List Channel) (h k : Valuation → Valuation) → IsMonotone h → IsMonotone k → ((s : Valuation) → WritesOnly cs (h (k s))) → ((s : Valuation) → WritesOnly ds (k s)) → solution cs (λ s. h (k s)) ≡ h (solution ds (λ s. k (h s)))
solution_rolled cs ds h k mono_h mono_k only_h only_k =
    let mono_hk : IsMonotone (λ s. h (k s)) = λ p q l. mono_h _ _ (mono_k _ _ l) in
    let mono_kh : IsMonotone (λ s. k (h s)) = λ p q l. mono_k _ _ (mono_h _ _ l) in
    let a = solution cs (λ s. h (k s)) in
    let b = solution ds (λ s. k (h s)) in
    let a_fixed : h (k a) ≡ a = solution-fixed cs (λ s. h (k s)) mono_hk only_h in
    let b_fixed : k (h b) ≡ b = solution-fixed ds (λ s. k (h s)) mono_kh (λ s. only_k (h s)) in
    let below : LiesWithin b (k a) = solution-least ds (λ s. k (h s)) mono_kh (λ s. only_k (h s)) (k a) (LiesWithin_equal _ _ (ap k a_fixed)) in
    LiesWithin-antisym a (h b)
    (solution-least cs (λ s. h (k s)) mono_hk only_h (h b) (LiesWithin_equal _ _ (ap h b_fixed)))
    (LiesWithin-trans _ _ _ (mono_h _ _ below) (LiesWithin_equal _ _ a_fixed))

-- the solution of a step whose outcome is changed in what it does not look at
pub solution_behind : (cs ds : List Channel) (h k : Valuation → Valuation) → IsMonotone h → IsMonotone k → ((s : Valuation) → WritesOnly cs (h (k s))) → ((s : Valuation) → WritesOnly ds (k s)) → ((s : Valuation) → k (h s) ≡ k s) → solution cs (λ s. h (k s)) ≡ h (solution ds k)
solution_behind cs ds h k mono_h mono_k only_h only_k unseen =
    solution_rolled cs ds h k mono_h mono_k only_h only_k ∙ ap (λ F. h (solution ds F)) (fun_ext unseen)
