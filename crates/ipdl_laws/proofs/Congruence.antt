-- Alike is an equivalence, and alike parts make alike wholes.
use Rattle.std.proofs.Common.{◌≡◌, ℕ, suc, ◌+◌, ◌-◌, ◌*◌, ◌^◌, ◌≤◌, Bool, List, length, refl, sym, ap, ap₂, ◌∙◌, arith, pow_pos}
use mathlib.Core.Path.{fun_ext}
use Rattle.ipdl_term.specs.Channels.{without, union, AreDisjoint, outputs}
use Rattle.ipdl_term.specs.Counts.{total}
use Rattle.ipdl_term.specs.Interpretations.{Interpretation}
use Rattle.ipdl_term.specs.Protocols.{coins, solution, round, protocol_valuation}
use Rattle.ipdl_term.specs.Terms.{Channel, Protocol, parallel, hiding}
use Rattle.ipdl_term.specs.Typing.{Scope, scope_with}
use Rattle.ipdl_term.specs.Valuations.{Valuation, nothing, combined, taken_out, all_taken_out}
use Rattle.ipdl_laws.specs.Alike.{FitsScope, KeepsScope, IsMonotone, IsResponse, loop_total, Alike}
use Rattle.ipdl_laws.proofs.Combinations.{combined_swap, combined_same, all_taken_out_same}
use Rattle.ipdl_laws.proofs.FurtherBits.{total-protocol_valuation, total_more}
use Rattle.ipdl_laws.proofs.Loops.{loop_valuation-hiding, loop_total-parallel}
use Rattle.ipdl_laws.proofs.Monotone.{WritesOnly-round, WritesOnly-protocol_valuation, LiesWithin-round, IsMonotone-protocol_valuation}
use Rattle.ipdl_laws.proofs.Nested.{solution-solution, partner_valuation, partner_response, IsMonotone-answer}
use Rattle.ipdl_laws.proofs.Order.{LiesWithin-refl, LiesWithin-taken_out, LiesWithin-all_taken_out, WritesOnly}
use Rattle.ipdl_laws.proofs.Sets.{union_same_left, union_comm, without_same, AreDisjoint_same, AreDisjoint_swap}
use Rattle.ipdl_laws.proofs.Solutions.{solution_same}
use Rattle.ipdl_laws.proofs.Totals.{total_equal, total-scale, total-total, total_split, cancelled}
use Rattle.ipdl_laws.proofs.Widths.{FitsScope-combined, FitsScope-all_taken_out, FitsScope-after_rounds, FitsScope_hidden, FitsScope_shown}

-- ---- an equivalence

module _ (J : Interpretation) (scope : Scope) where
  -- each protocol is alike itself
  pub alike_refl : (p : Protocol) → Alike J scope p p
  alike_refl p = record { same_outputs = λ c. refl; totals = λ response is_response weight n hp hq. refl }

  -- in the other order
  pub alike_sym : (p q : Protocol) → Alike J scope p q → Alike J scope q p
  alike_sym p q alike = record {
    same_outputs = λ c. sym (alike.same_outputs c);
    totals = λ response is_response weight n hq hp. sym (alike.totals response is_response weight n hp hq);
  }

  -- tapes that are long enough for the middle one too, and the powers of two cancelled again
  pub alike_trans : (p q r : Protocol) → Alike J scope p q → Alike J scope q r → Alike J scope p r
  alike_trans p q r alike further = record {
    same_outputs = λ c. alike.same_outputs c ∙ further.same_outputs c;
    totals = λ response is_response weight n hp hr.
        let k = coins q in
        let of : (s : Protocol) → coins s ≤ n → loop_total J s (n + k) response weight ≡ 2 ^ k * loop_total J s n response weight =
        λ s h. total_more J s n k (λ f. weight (solution (outputs s) (λ before. f (response before)))) h in
        cancelled (2 ^ k) _ _ (pow_pos k) (
        sym (of p hp) ∙
        alike.totals response is_response weight (n + k) (omega arith) (omega arith) ∙
        further.totals response is_response weight (n + k) (omega arith) (omega arith) ∙
        of r hr);
  }

-- ---- beside a partner

-- the partner's response is one
IsResponse-partner_response : (scope : Scope) (cs ds : List Channel) (g outside : Valuation → Valuation) → AreDisjoint cs ds → IsMonotone g → IsMonotone outside → ((p : Valuation) → WritesOnly ds (g p)) → KeepsScope scope g → KeepsScope scope outside → IsResponse scope (partner_response ds (combined cs) g outside)
IsResponse-partner_response scope cs ds g outside apart mono_g mono_outside only_g keeps_g keeps_outside = record {
  monotone = IsMonotone-answer cs ds apart (λ p. nothing) g outside (λ p q h. LiesWithin-refl nothing) mono_g mono_outside (λ p c h. refl) only_g;
  keeps = λ p h.
      let k : FitsScope scope (partner_valuation ds (combined cs) g outside p) = FitsScope-after_rounds scope (λ s. g (combined cs p (outside (combined cs p s)))) (λ s i. keeps_g _ (FitsScope-combined scope cs _ _ h (keeps_outside _ (FitsScope-combined scope cs _ _ h i)))) (suc (length ds)) in
      FitsScope-combined scope ds _ _ k (keeps_outside _ (FitsScope-combined scope cs _ _ h k));
}

module _ (J : Interpretation) (scope : Scope) where
  -- alike on the left of a partner that keeps the widths of the scope
  pub alike_beside_left : (p q r : Protocol) → Alike J scope p q → AreDisjoint (outputs p) (outputs r) → ((t : List Bool) → KeepsScope scope (protocol_valuation J r t)) → Alike J scope (parallel p r) (parallel q r)
  alike_beside_left p q r alike apart keeps = record {
    same_outputs = union_same_left (outputs p) (outputs q) (outputs r) alike.same_outputs;
    totals = λ response is_response weight n hp hq.
        let apart_q = AreDisjoint_same (outputs p) (outputs q) (outputs r) alike.same_outputs apart in
        let i = n - (coins p + coins r) in
        let j = n - (coins q + coins r) in
        let bits_p : n ≡ coins p + (coins r + i) = omega arith in
        let bits_q : n ≡ coins q + (coins r + j) = omega arith in
        let bits : coins p + i ≡ coins q + j = omega arith in
        let same_beside = combined_same (outputs p) (outputs q) alike.same_outputs in
        let same_out = all_taken_out_same (union (outputs p) (outputs r)) (union (outputs q) (outputs r)) (union_same_left (outputs p) (outputs q) (outputs r) alike.same_outputs) in
        let after : (Valuation → Valuation) → (Valuation → Valuation → Valuation) → (Valuation → Valuation) → Valuation → ℕ = λ g beside outside x. weight (beside x (partner_valuation (outputs r) beside g outside x)) in
        let own : List Bool → (Valuation → Valuation → Valuation) → (Valuation → Valuation) → ℕ = λ t beside out. loop_total J p (coins p + i) (partner_response (outputs r) beside (protocol_valuation J r t) (λ s. out (response s))) (after (protocol_valuation J r t) beside (λ s. out (response s))) in
        let outside : Valuation → Valuation = λ s. all_taken_out (union (outputs q) (outputs r)) (response s) in
        let one : (t : List Bool) → own t (combined (outputs p)) (all_taken_out (union (outputs p) (outputs r))) ≡ loop_total J q (coins q + j) (partner_response (outputs r) (combined (outputs q)) (protocol_valuation J r t) outside) (after (protocol_valuation J r t) (combined (outputs q)) outside) =
        λ t. ap₂ (own t) same_beside same_out ∙
        alike.totals _ (IsResponse-partner_response scope (outputs q) (outputs r) (protocol_valuation J r t) outside apart_q (IsMonotone-protocol_valuation J r t) (λ s s' h. LiesWithin-all_taken_out _ _ _ (is_response.monotone s s' h)) (WritesOnly-protocol_valuation J r t) (keeps t) (λ s h. FitsScope-all_taken_out scope _ _ (is_response.keeps s h))) (after (protocol_valuation J r t) (combined (outputs q)) outside) (coins p + i) (omega arith) (omega arith) ∙
        ap (λ k. loop_total J q k (partner_response (outputs r) (combined (outputs q)) (protocol_valuation J r t) outside) (after (protocol_valuation J r t) (combined (outputs q)) outside)) bits in
        ap (λ k. loop_total J (parallel p r) k response weight) bits_p ∙
        loop_total-parallel J p r apart response is_response.monotone weight i ∙
        total_equal (coins r) _ _ (λ t e. one t) ∙
        sym (loop_total-parallel J q r apart_q response is_response.monotone weight j) ∙
        sym (ap (λ k. loop_total J (parallel q r) k response weight) bits_q);
  }

-- ---- the order of two parts

-- two parts in surroundings that respond
abbrev pub pair_valuation : List Channel → List Channel → (Valuation → Valuation) → (Valuation → Valuation) → (Valuation → Valuation) → Valuation
pair_valuation cs ds f g response = solution (union cs ds) (λ s. solution (union cs ds) (round cs ds f g (all_taken_out (union cs ds) (response s))))

module _ (J : Interpretation) where
  -- the two solutions as one
  pub pair_valuation_at_once : (cs ds : List Channel) (f g response : Valuation → Valuation) → IsMonotone f → IsMonotone g → IsMonotone response → ((p : Valuation) → WritesOnly cs (f p)) → ((p : Valuation) → WritesOnly ds (g p)) →
      pair_valuation cs ds f g response ≡ solution (union cs ds) (λ s. round cs ds f g (all_taken_out (union cs ds) (response s)) s)
  pair_valuation_at_once cs ds f g response mono_f mono_g mono_response only_f only_g =
      solution-solution (union cs ds) (λ s u. round cs ds f g (all_taken_out (union cs ds) (response s)) u)
      (λ s s' u u' h k. LiesWithin-round J cs ds f g mono_f mono_g _ _ u u' (LiesWithin-all_taken_out _ _ _ (mono_response s s' h)) k)
      (λ s u. WritesOnly-round J cs ds f g _ only_g u)

  -- the two parts in the other order
  pair_valuation_swap : (cs ds : List Channel) (f g response : Valuation → Valuation) → AreDisjoint cs ds → IsMonotone f → IsMonotone g → IsMonotone response → ((p : Valuation) → WritesOnly cs (f p)) → ((p : Valuation) → WritesOnly ds (g p)) → pair_valuation cs ds f g response ≡ pair_valuation ds cs g f response
  pair_valuation_swap cs ds f g response apart mono_f mono_g mono_response only_f only_g =
      let same_out = all_taken_out_same (union cs ds) (union ds cs) (union_comm cs ds) in
      let step : (Valuation → Valuation) → Valuation → Valuation = λ out s. round cs ds f g (out (response s)) s in
      let swapped : Valuation → Valuation = λ s. round ds cs g f (all_taken_out (union ds cs) (response s)) s in
      let same_step : step (all_taken_out (union ds cs)) ≡ swapped = fun_ext (λ s. combined_swap cs ds _ _ apart (only_f _) (only_g _)) in
      let mono_swapped : IsMonotone swapped = λ s s' h. LiesWithin-round J ds cs g f mono_g mono_f _ _ s s' (LiesWithin-all_taken_out _ _ _ (mono_response s s' h)) h in
      let only_swapped : (s : Valuation) → WritesOnly (union ds cs) (swapped s) = λ s. WritesOnly-round J ds cs g f _ only_f s in
      let only_too : (s : Valuation) → WritesOnly (union cs ds) (swapped s) = λ s c h. only_swapped s c (sym (union_comm cs ds c) ∙ h) in
      pair_valuation_at_once cs ds f g response mono_f mono_g mono_response only_f only_g ∙
      ap (λ out. solution (union cs ds) (step out)) same_out ∙
      ap (solution (union cs ds)) same_step ∙
      solution_same (union cs ds) (union ds cs) swapped mono_swapped only_too only_swapped ∙
      sym (pair_valuation_at_once ds cs g f response mono_g mono_f mono_response only_g only_f)

  -- the total of two parts, over the tape of each
  loop_total_pair : (p r : Protocol) (response : Valuation → Valuation) (weight : Valuation → ℕ) (j : ℕ) → loop_total J (parallel p r) (coins p + (coins r + j)) response weight ≡ 2 ^ j * total (coins p) (λ u. total (coins r) (λ t. weight (pair_valuation (outputs p) (outputs r) (protocol_valuation J p u) (protocol_valuation J r t) response)))
  loop_total_pair p r response weight j =
      let both : List Bool → (Valuation → Valuation) → ℕ = λ u g. weight (pair_valuation (outputs p) (outputs r) (protocol_valuation J p u) g response) in
      total_split (coins p) (coins r + j) (λ u t. both u (protocol_valuation J r t)) ∙
      total_equal (coins p) _ (λ u. 2 ^ j * total (coins r) (λ t. both u (protocol_valuation J r t))) (λ u e. total-protocol_valuation J r j (both u)) ∙
      total-scale (coins p) (2 ^ j) (λ u. total (coins r) (λ t. both u (protocol_valuation J r t)))

  -- two parts in the other order
  pub alike_comm : (scope : Scope) (p r : Protocol) → AreDisjoint (outputs p) (outputs r) → Alike J scope (parallel p r) (parallel r p)
  alike_comm scope p r apart = record {
    same_outputs = union_comm (outputs p) (outputs r);
    totals = λ response is_response weight n hp hq.
        let j = n - (coins p + coins r) in
        let bits : n ≡ coins p + (coins r + j) = omega arith in
        let bits_swapped : n ≡ coins r + (coins p + j) = omega arith in
        ap (λ m. loop_total J (parallel p r) m response weight) bits ∙
        loop_total_pair p r response weight j ∙
        ap (λ x. 2 ^ j * x) (
        total-total (coins p) (coins r) (λ u t. weight (pair_valuation (outputs p) (outputs r) (protocol_valuation J p u) (protocol_valuation J r t) response)) ∙
        total_equal (coins r) _ _ (λ t k. total_equal (coins p) _ _ (λ u l. ap weight (pair_valuation_swap (outputs p) (outputs r) (protocol_valuation J p u) (protocol_valuation J r t) response apart (IsMonotone-protocol_valuation J p u) (IsMonotone-protocol_valuation J r t) is_response.monotone (WritesOnly-protocol_valuation J p u) (WritesOnly-protocol_valuation J r t))))) ∙
        sym (loop_total_pair r p response weight j) ∙
        sym (ap (λ m. loop_total J (parallel r p) m response weight) bits_swapped);
  }

  -- alike on the right of a partner that keeps the widths of the scope
  pub alike_beside_right : (scope : Scope) (p q r : Protocol) → Alike J scope p q → AreDisjoint (outputs r) (outputs p) → ((t : List Bool) → KeepsScope scope (protocol_valuation J r t)) → Alike J scope (parallel r p) (parallel r q)
  alike_beside_right scope p q r alike apart keeps =
      let apart_p = AreDisjoint_swap (outputs r) (outputs p) apart in
      let apart_q = AreDisjoint_same (outputs p) (outputs q) (outputs r) alike.same_outputs apart_p in
      let before = alike_comm scope r p apart in
      let swapped = alike_beside_left J scope p q r alike apart_p keeps in
      let behind = alike_comm scope q r apart_q in
      record {
        same_outputs = λ c. before.same_outputs c ∙ swapped.same_outputs c ∙ behind.same_outputs c;
        totals = λ response is_response weight n hp hq.
            before.totals response is_response weight n hp (omega arith) ∙
            swapped.totals response is_response weight n (omega arith) (omega arith) ∙
            behind.totals response is_response weight n (omega arith) hq;
      }

  -- ---- under a hidden channel

  -- alike below a hidden channel
  pub alike_under_hiding : (scope : Scope) (c : Channel) (w : ℕ) (p q : Protocol) → Alike J (scope_with c w scope) p q → Alike J scope (hiding c w p) (hiding c w q)
  alike_under_hiding scope c w p q alike = record {
    same_outputs = without_same c (outputs p) (outputs q) alike.same_outputs;
    totals = λ response is_response weight n hp hq.
        let seen : (Valuation → Valuation) → Valuation → Valuation = λ out s. taken_out c (out (response (taken_out c s))) in
        let same_out = all_taken_out_same (without c (outputs p)) (without c (outputs q)) (without_same c (outputs p) (outputs q) alike.same_outputs) in
        let is_seen : IsResponse (scope_with c w scope) (seen (all_taken_out (without c (outputs q)))) = record {
          monotone = λ s s' h. LiesWithin-taken_out c _ _ (LiesWithin-all_taken_out _ _ _ (is_response.monotone _ _ (LiesWithin-taken_out c _ _ h)));
          keeps = λ s h. FitsScope_shown scope c w _ (FitsScope-all_taken_out scope _ _ (is_response.keeps _ (FitsScope_hidden scope c w s h)));
        } in
        total_equal n _ _ (λ t e. ap weight (loop_valuation-hiding J c w p response is_response.monotone t)) ∙
        ap (λ out. loop_total J p n (seen out) (λ s. weight (taken_out c s))) same_out ∙
        alike.totals (seen (all_taken_out (without c (outputs q)))) is_seen (λ s. weight (taken_out c s)) n hp hq ∙
        sym (total_equal n _ _ (λ t e. ap weight (loop_valuation-hiding J c w q response is_response.monotone t)));
  }
