-- What a reaction reads: it must have what it reads on each way, it is not stuck with all that it reads, and nothing
-- else makes a difference.
use Rattle.std.proofs.Common.{◌≡◌, ℕ, zero, suc, ◌+◌, ◌-◌, ◌≤◌, max, Bool, true, false, List, [], ◌∷◌, length, Option, Some, None, is_some, take, drop, refl, sym, ap, ap₂, ◌∙◌, arith}
use Rattle.std.proofs.lemmas.List.{length-drop, drop-drop}
use mathlib.Core.Path.{fun_ext}
use Rattle.ipdl_term.specs.Channels.{same_channel, has, without, reads, must_reads, outputs, free_channels}
use Rattle.ipdl_term.specs.Interpretations.{Interpretation, chosen, evaluation}
use Rattle.ipdl_term.specs.Protocols.{coins, written, solution, protocol_valuation}
use Rattle.ipdl_term.specs.Reactions.{Outcome, with_bit, first_bits, with_tape, continued, reaction_outcome, reaction_coins}
use Rattle.ipdl_term.specs.Terms.{Value, Channel, Reaction, returning, flipping, reading, branching, binding, Protocol, nil, assignment, parallel, hiding}
use Rattle.ipdl_term.specs.Valuations.{Valuation, combined, taken_out, all_taken_out}
use Rattle.ipdl_term.proofs.ChannelSets.{same_channel-itself}
use Rattle.ipdl_laws.proofs.Sets.{by_test, if_same, not_both, at_same_channel, has-single, in_union_left, in_union_right, in_second, has-intersection, has-without, has-without_same}

-- ---- what must be written

-- a choice that is there is a first or a second that is there
chosen_is_some : (v : Value) (a b : Outcome) → is_some (chosen v a b b) ≡ true → (P : Type 0) → (is_some a ≡ true → P) → (is_some b ≡ true → P) → P
chosen_is_some [] a b h P f g = g h
chosen_is_some (true ∷ []) a b h P f g = f h
chosen_is_some (false ∷ []) a b h P f g = g h
chosen_is_some (c ∷ d ∷ bits) a b h P f g = g h

-- a value with a tape is a value
with_tape_is_some : (o : Option Value) (t : List Bool) → is_some (with_tape o t) ≡ true → is_some o ≡ true
with_tape_is_some None t h = h
with_tape_is_some (Some v) t h = refl

module _ (J : Interpretation) where
  -- a reaction that is not stuck has all that it must read
  must_reads_written : (r : Reaction) (env : List Value) (inputs : Valuation) (t : List Bool) (c : Channel) → is_some (reaction_outcome J r env inputs t) ≡ true → has (must_reads r) c ≡ true → is_some (inputs c) ≡ true
  must_reads_written (returning e) env inputs t c h m = cc
  must_reads_written (flipping w) env inputs t c h m = cc
  must_reads_written (reading d) env inputs t c h m =
      at_same_channel (λ x. is_some (inputs x) ≡ true) d c (sym (has-single d c) ∙ m) (with_tape_is_some (inputs d) t h)
  must_reads_written (branching e r s) env inputs t c h m =
      let both = has-intersection (must_reads r) (must_reads s) c m in
      chosen_is_some (evaluation J env e) (reaction_outcome J r env inputs t) (reaction_outcome J s env inputs t) h (is_some (inputs c) ≡ true)
      (λ k. must_reads_written r env inputs t c k both.0)
      (λ k. must_reads_written s env inputs t c k both.1)
  must_reads_written (binding w r s) env inputs t c h m =
      go (reaction_outcome J r env inputs t) refl h (must_reads_written r env inputs t c) (λ v rest k l. must_reads_written s (v ∷ env) inputs rest c k l)
    where
      go : (o : Outcome) → reaction_outcome J r env inputs t ≡ o → is_some (continued o (λ v rest. reaction_outcome J s (v ∷ env) inputs rest)) ≡ true →
          (is_some (reaction_outcome J r env inputs t) ≡ true → has (must_reads r) c ≡ true → is_some (inputs c) ≡ true) → ((v : Value) (rest : List Bool) → is_some (reaction_outcome J s (v ∷ env) inputs rest) ≡ true → has (must_reads s) c ≡ true → is_some (inputs c) ≡ true) →
          is_some (inputs c) ≡ true
      go None e k f g = cc
      go (Some x) e k f g = by_test (has (must_reads r) c)
          (λ l. f (rw e) l)
          (λ l. g x.0 x.1 k (in_second (must_reads r) (must_reads s) c m l))

  -- the same, with the outcome
  pub must_be_written : (r : Reaction) (env : List Value) (inputs : Valuation) (t : List Bool) (o : Value × List Bool) → reaction_outcome J r env inputs t ≡ Some o → (c : Channel) → has (must_reads r) c ≡ true → is_some (inputs c) ≡ true
  must_be_written r env inputs t o e c m = must_reads_written r env inputs t c (ap is_some e) m

-- ---- what is enough

-- not stuck, with at most so many bits of the tape taken
abbrev TakesBits : ℕ → List Bool → Outcome → Type 0
TakesBits n t outcome = (o : Value × List Bool) × (taken : ℕ) × (outcome ≡ Some o) × (taken ≤ n) × (o.1 ≡ drop taken t)

-- a tape with so many bits has its first ones
pub first_bits_enough : (w : ℕ) (t : List Bool) → w ≤ length t → first_bits w t ≡ Some (take w t, drop w t)
first_bits_enough zero t h = refl
first_bits_enough (suc w) [] h = absurd (omega arith)
first_bits_enough (suc w) (b ∷ t) h = ap (with_bit b) (first_bits_enough w t (omega arith))

-- a value that is there, with its tape
TakesBits-with_tape : (o : Option Value) (t : List Bool) → is_some o ≡ true → TakesBits 0 t (with_tape o t)
TakesBits-with_tape None t h = cc
TakesBits-with_tape (Some v) t h = ((v, t), 0, refl, omega arith, refl)

-- one of two outcomes
TakesBits-chosen : (v : Value) (m n k : ℕ) (t : List Bool) (a b : Outcome) → m ≤ k → n ≤ k → TakesBits m t a → TakesBits n t b → TakesBits k t (chosen v a b b)
TakesBits-chosen [] m n k t a b h i x y = (y.0, y.1, y.2, omega (arith, y.3), y.4)
TakesBits-chosen (true ∷ []) m n k t a b h i x y = (x.0, x.1, x.2, omega (arith, x.3), x.4)
TakesBits-chosen (false ∷ []) m n k t a b h i x y = (y.0, y.1, y.2, omega (arith, y.3), y.4)
TakesBits-chosen (c ∷ d ∷ bits) m n k t a b h i x y = (y.0, y.1, y.2, omega (arith, y.3), y.4)

-- an outcome that goes on
TakesBits-continued : (m n : ℕ) (t : List Bool) (outcome : Outcome) (next : Value → List Bool → Outcome) → m + n ≤ length t → TakesBits m t outcome → ((v : Value) (rest : List Bool) → n ≤ length rest → TakesBits n rest (next v rest)) → TakesBits (m + n) t (continued outcome next)
TakesBits-continued m n t outcome next enough x then =
    let rest : length x.0.1 ≡ length t - x.1 = ap length x.4 ∙ length-drop x.1 t in
    let y = then x.0.0 x.0.1 (omega (arith, rest, x.3)) in
    (y.0, x.1 + y.1, ap (λ o. continued o next) x.2 ∙ y.2, omega (arith, x.3, y.3), y.4 ∙ ap (drop y.1) x.4 ∙ drop-drop y.1 x.1 t)

module _ (J : Interpretation) where
  -- with all that it reads and as many bits as its coins a reaction is not stuck
  reads_enough : (r : Reaction) (env : List Value) (inputs : Valuation) (t : List Bool) → ((c : Channel) → has (reads r) c ≡ true → is_some (inputs c) ≡ true) → reaction_coins r ≤ length t → TakesBits (reaction_coins r) t (reaction_outcome J r env inputs t)
  reads_enough (returning e) env inputs t h k = ((evaluation J env e, t), 0, refl, omega arith, refl)
  reads_enough (flipping w) env inputs t h k = ((take w t, drop w t), w, first_bits_enough w t k, omega arith, refl)
  reads_enough (reading c) env inputs t h k = TakesBits-with_tape (inputs c) t (h c (has-single c c ∙ same_channel-itself c))
  reads_enough (branching e r s) env inputs t h k =
      TakesBits-chosen (evaluation J env e) (reaction_coins r) (reaction_coins s) (max (reaction_coins r) (reaction_coins s)) t _ _ (omega arith) (omega arith)
      (reads_enough r env inputs t (λ c l. h c (in_union_left (reads r) (reads s) c l)) (omega arith))
      (reads_enough s env inputs t (λ c l. h c (in_union_right (reads r) (reads s) c l)) (omega arith))
  reads_enough (binding w r s) env inputs t h k =
      TakesBits-continued (reaction_coins r) (reaction_coins s) t (reaction_outcome J r env inputs t) (λ v rest. reaction_outcome J s (v ∷ env) inputs rest) k
      (reads_enough r env inputs t (λ c l. h c (in_union_left (reads r) (reads s) c l)) (omega arith))
      (λ v rest enough. reads_enough s (v ∷ env) inputs rest (λ c l. h c (in_union_right (reads r) (reads s) c l)) enough)

  -- the same, with the number of bits that are left
  pub not_stuck : (r : Reaction) (env : List Value) (inputs : Valuation) (t : List Bool) → ((c : Channel) → has (reads r) c ≡ true → is_some (inputs c) ≡ true) → reaction_coins r ≤ length t →
      (o : Value × List Bool) × (taken : ℕ) × (reaction_outcome J r env inputs t ≡ Some o) × (taken ≤ reaction_coins r) × (o.1 ≡ drop taken t) × (length t ≤ length o.1 + reaction_coins r)
  not_stuck r env inputs t h k =
      let x = reads_enough r env inputs t h k in
      let rest : length x.0.1 ≡ length t - x.1 = ap length x.4 ∙ length-drop x.1 t in
      (x.0, x.1, x.2, x.3, x.4, omega (arith, rest, x.3))

-- ---- nothing else

module _ (J : Interpretation) where
  -- inputs that agree where a reaction reads
  pub reaction_outcome_agree : (r : Reaction) (env : List Value) (inputs inputs' : Valuation) (t : List Bool) → ((d : Channel) → has (reads r) d ≡ true → inputs d ≡ inputs' d) → reaction_outcome J r env inputs t ≡ reaction_outcome J r env inputs' t
  reaction_outcome_agree (returning e) env inputs inputs' t h = refl
  reaction_outcome_agree (flipping w) env inputs inputs' t h = refl
  reaction_outcome_agree (reading c) env inputs inputs' t h = ap (λ o. with_tape o t) (h c (has-single c c ∙ same_channel-itself c))
  reaction_outcome_agree (branching e r s) env inputs inputs' t h =
      rw (
        reaction_outcome_agree r env inputs inputs' t (λ d k. h d (in_union_left (reads r) (reads s) d k)),
        reaction_outcome_agree s env inputs inputs' t (λ d k. h d (in_union_right (reads r) (reads s) d k)),
      )
  reaction_outcome_agree (binding w r s) env inputs inputs' t h =
      ap (λ o. continued o (λ v rest. reaction_outcome J s (v ∷ env) inputs rest)) (reaction_outcome_agree r env inputs inputs' t (λ d k. h d (in_union_left (reads r) (reads s) d k))) ∙
      ap (continued (reaction_outcome J r env inputs' t)) (fun_ext (λ v. fun_ext (λ rest. reaction_outcome_agree s (v ∷ env) inputs inputs' rest (λ d k. h d (in_union_right (reads r) (reads s) d k)))))

  -- inputs that agree at the free channels of a protocol
  pub protocol_valuation_agree : (p : Protocol) (t : List Bool) (inputs inputs' : Valuation) → ((d : Channel) → has (free_channels p) d ≡ true → inputs d ≡ inputs' d) → protocol_valuation J p t inputs ≡ protocol_valuation J p t inputs'
  protocol_valuation_agree nil t inputs inputs' h = refl
  protocol_valuation_agree (assignment c r) t inputs inputs' h =
      ap (written c) (reaction_outcome_agree r [] _ _ t (λ d k. if_same (has (c ∷ []) d) None None (inputs d) (inputs' d) (λ e. refl) (λ e. h d (in_union_right (c ∷ []) (reads r) d k))))
  protocol_valuation_agree (parallel p q) t inputs inputs' h =
      let js = outputs (parallel p q) in
      let around : (cs : List Channel) (s : Valuation) (d : Channel) → has (free_channels (parallel p q)) d ≡ true → combined cs s (all_taken_out js inputs) d ≡ combined cs s (all_taken_out js inputs') d =
      λ cs s d k. if_same (has cs d) (s d) (s d) _ _ (λ e. refl) (λ e. if_same (has js d) None None (inputs d) (inputs' d) (λ l. refl) (λ l. h d k)) in
      ap (solution js) (fun_ext (λ s. ap₂ (combined (outputs p))
      (protocol_valuation_agree p (take (coins p) t) _ _ (λ d k. around (outputs q) s d (in_union_left (free_channels p) (free_channels q) d k)))
      (protocol_valuation_agree q (drop (coins p) t) _ _ (λ d k. around (outputs p) s d (in_union_right (free_channels p) (free_channels q) d k)))))
  protocol_valuation_agree (hiding c w p) t inputs inputs' h =
      ap (taken_out c) (protocol_valuation_agree p t _ _ (λ d k. if_same (same_channel c d) None None _ _ (λ e. refl) (λ e. if_same (has (outputs (hiding c w p)) d) None None (inputs d) (inputs' d) (λ l. refl) (λ l. h d (has-without c (free_channels p) d e ∙ k)))))

-- what is written is free
pub free_channels-outputs : (p : Protocol) (c : Channel) → has (outputs p) c ≡ true → has (free_channels p) c ≡ true
free_channels-outputs nil c h = cc
free_channels-outputs (assignment d r) c h = in_union_left (d ∷ []) (reads r) c h
free_channels-outputs (parallel p q) c h = by_test (has (outputs p) c)
    (λ e. in_union_left (free_channels p) (free_channels q) c (free_channels-outputs p c e))
    (λ e. in_union_right (free_channels p) (free_channels q) c (free_channels-outputs q c (in_second (outputs p) (outputs q) c h e)))
free_channels-outputs (hiding d w p) c h = by_test (same_channel d c)
    (λ e. not_both (has (without d (outputs p)) c) h (has-without_same d (outputs p) c e))
    (λ e. has-without d (free_channels p) c e ∙ free_channels-outputs p c (sym (has-without d (outputs p) c e) ∙ h))
