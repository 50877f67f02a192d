-- Alike protocols are alike in every typed context, and so they are equal.
use Rattle.std.proofs.Common.{List, sym, ap, ◌∙◌}
use Rattle.ipdl_term.specs.Channels.{SameSet, outputs}
use Rattle.ipdl_term.specs.Contexts.{plugged, context_outputs, IsTypedContext}
use Rattle.ipdl_term.specs.Counts.{one_if, is_history}
use Rattle.ipdl_term.specs.Equality.{Equal}
use Rattle.ipdl_term.specs.Interpretations.{Signature, Interpretation, Interprets}
use Rattle.ipdl_term.specs.Protocols.{written}
use Rattle.ipdl_term.specs.Terms.{Channel, Protocol, Context, hole, in_left, in_right, in_hiding}
use Rattle.ipdl_term.specs.Typing.{Scope, scope_with, IsTyped, Typed}
use Rattle.ipdl_term.specs.Valuations.{nothing}
use Rattle.ipdl_laws.specs.Alike.{IsResponse, loop_valuation, Alike}
use Rattle.ipdl_laws.proofs.Congruence.{alike_beside_left, alike_beside_right, alike_under_hiding}
use Rattle.ipdl_laws.proofs.Contexts.{outputs-plugged}
use Rattle.ipdl_laws.proofs.Histories.{is_history_same}
use Rattle.ipdl_laws.proofs.Order.{LiesWithin-refl}
use Rattle.ipdl_laws.proofs.Sets.{AreDisjoint_same, AreDisjoint_swap}
use Rattle.ipdl_laws.proofs.Totals.{total_equal}
use Rattle.ipdl_laws.proofs.Visible.{free_channels_visible, alike_in_larger_scope}
use Rattle.ipdl_laws.proofs.Widths.{FitsScope-nothing, KeepsScope-protocol_valuation}

module _ (sig : Signature) (J : Interpretation) (interprets : Interprets sig J) where
  -- alike in each typed context around them
  pub alike_in_context : (inner : Scope) (written : List Channel) (p q : Protocol) → IsTyped sig inner p → IsTyped sig inner q → SameSet (outputs p) written → Alike J inner p q → (C : Context) (scope : Scope) → IsTypedContext sig inner written scope C → Alike J scope (plugged C p) (plugged C q)
  alike_in_context inner written p q typed_p typed_q same alike hole scope h =
      alike_in_larger_scope J inner scope h p q (free_channels_visible sig p inner typed_p) (free_channels_visible sig q inner typed_q) alike
  alike_in_context inner written p q typed_p typed_q same alike (in_left C r) scope h =
      let apart = AreDisjoint_same (context_outputs C written) (outputs (plugged C p)) (outputs r) (λ c. sym (outputs-plugged C p written same c)) h.2 in
      alike_beside_left J scope (plugged C p) (plugged C q) r (alike_in_context inner written p q typed_p typed_q same alike C scope h.0) apart (KeepsScope-protocol_valuation sig J interprets r scope h.1)
  alike_in_context inner written p q typed_p typed_q same alike (in_right r C) scope h =
      let apart = AreDisjoint_same (context_outputs C written) (outputs (plugged C p)) (outputs r) (λ c. sym (outputs-plugged C p written same c)) (AreDisjoint_swap (outputs r) (context_outputs C written) h.2) in
      alike_beside_right J scope (plugged C p) (plugged C q) r (alike_in_context inner written p q typed_p typed_q same alike C scope h.1) (AreDisjoint_swap (outputs (plugged C p)) (outputs r) apart) (KeepsScope-protocol_valuation sig J interprets r scope h.0)
  alike_in_context inner written p q typed_p typed_q same alike (in_hiding c w C) scope h =
      alike_under_hiding J scope c w (plugged C p) (plugged C q) (alike_in_context inner written p q typed_p typed_q same alike C (scope_with c w scope) h.1)

-- ---- equal protocols

-- protocols that are typed, and alike under every interpretation, are equal
pub alike_is_equal : (sig : Signature) (scope : Scope) (written : List Channel) (p q : Protocol) → Typed sig scope p written → Typed sig scope q written → ((J : Interpretation) → Interprets sig J → Alike J scope p q) → Equal sig scope written p q
alike_is_equal sig scope written p q typed_p typed_q alike = record {
  left = typed_p;
  right = typed_q;
  counts = λ J interprets C closes n hp hq h.
      let whole = alike_in_context sig J interprets scope written p q typed_p.typed typed_q.typed typed_p.writes (alike J interprets) C closes.0 closes.1 in
      let silent : IsResponse closes.0 (λ s. nothing) = record { monotone = λ s s' k. LiesWithin-refl nothing; keeps = λ s k. FitsScope-nothing closes.0 } in
      whole.totals (λ s. nothing) silent (λ s. one_if (is_history (outputs (plugged C p)) h s)) n hp hq ∙
      total_equal n _ _ (λ t e. ap one_if (is_history_same (outputs (plugged C p)) (outputs (plugged C q)) h (loop_valuation J (plugged C q) t (λ s. nothing)) whole.same_outputs));
}
