-- What protocols write in surroundings that respond: their loops.
use Rattle.std.proofs.Common.{◌≡◌, ℕ, ◌+◌, ◌*◌, ◌^◌, Bool, List, [], ◌∷◌, Some, None, take, drop, refl, sym, ap, ◌∙◌}
use Rattle.ipdl_term.specs.Channels.{without, AreDisjoint, outputs}
use Rattle.ipdl_term.specs.Counts.{total}
use Rattle.ipdl_term.specs.Interpretations.{Interpretation}
use Rattle.ipdl_term.specs.Protocols.{coins, written, solution, round, protocol_valuation}
use Rattle.ipdl_term.specs.Reactions.{Outcome, reaction_outcome}
use Rattle.ipdl_term.specs.Terms.{Channel, Reaction, Protocol, assignment, parallel, hiding}
use Rattle.ipdl_term.specs.Valuations.{Valuation, nothing, only, combined, taken_out, all_taken_out}
use Rattle.ipdl_laws.specs.Alike.{IsMonotone, loop_valuation, loop_total}
use Rattle.ipdl_laws.proofs.FurtherBits.{total-protocol_valuation}
use Rattle.ipdl_laws.proofs.Monotone.{WritesOnly-taken_out, WritesOnly-round, WritesOnly-protocol_valuation, LiesWithin-round, IsMonotone-protocol_valuation, reaction_is_monotone}
use Rattle.ipdl_laws.proofs.Nested.{IsMonotoneInBoth, solution-solution, partner_valuation, partner_response, solution-joint_round}
use Rattle.ipdl_laws.proofs.Order.{LiesWithin-nothing, LiesWithin-taken_out, LiesWithin-all_taken_out, WritesOnly}
use Rattle.ipdl_laws.proofs.Solutions.{solution_rolled}
use Rattle.ipdl_laws.proofs.Totals.{total_equal, total-scale, total-total, total_split}

module _ (J : Interpretation) where
  -- a protocol beside a partner is the protocol alone against the partner's response, and the partner then
  pub loop_valuation-parallel : (p r : Protocol) → AreDisjoint (outputs p) (outputs r) → (response : Valuation → Valuation) → IsMonotone response → (tape : List Bool) →
      loop_valuation J (parallel p r) tape response ≡
      (let beside = combined (outputs p) in
      let outside = λ (s : Valuation). all_taken_out (outputs (parallel p r)) (response s) in
      let g = protocol_valuation J r (drop (coins p) tape) in
      let x = loop_valuation J p (take (coins p) tape) (partner_response (outputs r) beside g outside) in
      beside x (partner_valuation (outputs r) beside g outside x))
  loop_valuation-parallel p r apart response mono tape =
      let js = outputs (parallel p r) in
      let f = protocol_valuation J p (take (coins p) tape) in
      let g = protocol_valuation J r (drop (coins p) tape) in
      let outside : Valuation → Valuation = λ s. all_taken_out js (response s) in
      let mono_outside : IsMonotone outside = λ s s' h. LiesWithin-all_taken_out js _ _ (mono s s' h) in
      let mono_f = IsMonotone-protocol_valuation J p (take (coins p) tape) in
      let mono_g = IsMonotone-protocol_valuation J r (drop (coins p) tape) in
      let only_f = WritesOnly-protocol_valuation J p (take (coins p) tape) in
      let only_g = WritesOnly-protocol_valuation J r (drop (coins p) tape) in
      let step : Valuation → Valuation → Valuation = λ s u. round (outputs p) (outputs r) f g (outside s) u in
      let mono_step : IsMonotoneInBoth step = λ s s' u u' h k. LiesWithin-round J (outputs p) (outputs r) f g mono_f mono_g _ _ u u' (mono_outside s s' h) k in
      let only_step : (s u : Valuation) → WritesOnly js (step s u) = λ s u. WritesOnly-round J (outputs p) (outputs r) f g (outside s) only_g u in
      solution-solution js step mono_step only_step ∙ solution-joint_round (outputs p) (outputs r) apart f g outside mono_f mono_g mono_outside only_f only_g

  -- a hidden channel is not seen outside, nor is one of its name outside seen within
  pub loop_valuation-hiding : (c : Channel) (w : ℕ) (p : Protocol) (response : Valuation → Valuation) → IsMonotone response → (tape : List Bool) →
      loop_valuation J (hiding c w p) tape response ≡ taken_out c (loop_valuation J p tape (λ s. taken_out c (all_taken_out (without c (outputs p)) (response (taken_out c s)))))
  loop_valuation-hiding c w p response mono tape =
      let seen : Valuation → Valuation = λ s. taken_out c (all_taken_out (without c (outputs p)) (response s)) in
      let step : Valuation → Valuation = λ s. protocol_valuation J p tape (seen s) in
      let mono_step : IsMonotone step = λ s s' h. IsMonotone-protocol_valuation J p tape _ _ (LiesWithin-taken_out c _ _ (LiesWithin-all_taken_out _ _ _ (mono s s' h))) in
      solution_rolled (without c (outputs p)) (outputs p) (taken_out c) step (LiesWithin-taken_out c) mono_step (λ s. WritesOnly-taken_out c (outputs p) _ (WritesOnly-protocol_valuation J p tape (seen s))) (λ s. WritesOnly-protocol_valuation J p tape (seen s))

  -- an assignment sees what is around it before it writes
  pub loop_valuation-assignment : (c : Channel) (r : Reaction) (response : Valuation → Valuation) → IsMonotone response → (tape : List Bool) →
      loop_valuation J (assignment c r) tape response ≡ written c (reaction_outcome J r [] (all_taken_out (c ∷ []) (response nothing)) tape)
  loop_valuation-assignment c r response mono tape = twice (reaction_outcome J r [] (all_taken_out (c ∷ []) (response nothing)) tape) refl
    where
      twice : (o : Outcome) → reaction_outcome J r [] (all_taken_out (c ∷ []) (response nothing)) tape ≡ o → written c (reaction_outcome J r [] (all_taken_out (c ∷ []) (response (written c o))) tape) ≡ written c o
      twice None e = ap (written c) e
      twice (Some o) e = ap (written c) (reaction_is_monotone J r [] _ _ tape (LiesWithin-all_taken_out (c ∷ []) _ _ (mono _ _ (LiesWithin-nothing (only c o.0)))) o e)

  -- more bits for the protocol alone
  loop_total_more : (p : Protocol) (j : ℕ) (response : Valuation → Valuation) (weight : Valuation → ℕ) → loop_total J p (coins p + j) response weight ≡ 2 ^ j * loop_total J p (coins p) response weight
  loop_total_more p j response weight = total-protocol_valuation J p j (λ f. weight (solution (outputs p) (λ s. f (response s))))

  -- the total of a protocol beside a partner, summed over the partner's tape first
  pub loop_total-parallel : (p r : Protocol) → AreDisjoint (outputs p) (outputs r) → (response : Valuation → Valuation) → IsMonotone response → (weight : Valuation → ℕ) (j : ℕ) →
      loop_total J (parallel p r) (coins p + (coins r + j)) response weight ≡
      total (coins r) (λ t.
      let beside = combined (outputs p) in
      let outside = λ (s : Valuation). all_taken_out (outputs (parallel p r)) (response s) in
      let g = protocol_valuation J r t in
      loop_total J p (coins p + j) (partner_response (outputs r) beside g outside) (λ x. weight (beside x (partner_valuation (outputs r) beside g outside x))))
  loop_total-parallel p r apart response mono weight j =
      let beside = combined (outputs p) in
      let outside : Valuation → Valuation = λ s. all_taken_out (outputs (parallel p r)) (response s) in
      let after : (Valuation → Valuation) → Valuation → ℕ = λ g x. weight (beside x (partner_valuation (outputs r) beside g outside x)) in
      let both : List Bool → (Valuation → Valuation) → ℕ = λ u g. after g (loop_valuation J p u (partner_response (outputs r) beside g outside)) in
      let own : (Valuation → Valuation) → ℕ = λ g. total (coins p) (λ u. both u g) in
      total_equal (coins p + (coins r + j)) _ (λ t. both (take (coins p) t) (protocol_valuation J r (drop (coins p) t))) (λ t e. ap weight (loop_valuation-parallel p r apart response mono t)) ∙
      total_split (coins p) (coins r + j) (λ u t. both u (protocol_valuation J r t)) ∙
      total-total (coins p) (coins r + j) (λ u t. both u (protocol_valuation J r t)) ∙
      total-protocol_valuation J r j own ∙
      sym (total-scale (coins r) (2 ^ j) (λ t. own (protocol_valuation J r t))) ∙
      total_equal (coins r) _ _ (λ t e. sym (loop_total_more p j (partner_response (outputs r) beside (protocol_valuation J r t) outside) (after (protocol_valuation J r t))))
