-- Different constants are not equal, at any interface.
use Rattle.std.proofs.Common.{◌≡◌, ◌≢◌, ℕ, Bool, true, false, List, [], ◌∷◌, ◌++◌, Option, Some, None, refl, sym, ap, ◌∙◌, arith}
use Rattle.std.specs.Prelude.{if◌then◌else◌}
use Rattle.ipdl_term.specs.Channels.{has, outputs}
use Rattle.ipdl_term.specs.Contexts.{plugged, context_outputs}
use Rattle.ipdl_term.specs.Counts.{one_if, is_history, history_valuation}
use Rattle.ipdl_term.specs.Equality.{Equal}
use Rattle.ipdl_term.specs.Interpretations.{Signature, Interpretation}
use Rattle.ipdl_term.specs.Protocols.{coins, protocol_valuation}
use Rattle.ipdl_term.specs.Terms.{Value, Channel, literal, returning, Protocol, assignment, Context, hole, in_left}
use Rattle.ipdl_term.specs.Typing.{Scope, scope_of, port_names}
use Rattle.ipdl_term.specs.Valuations.{Valuation, nothing}
use Rattle.ipdl_term.specs.declared.interface.Interface.{Interface}
use Rattle.ipdl_laws.specs.Closings.{TablesHaveWidths, zero_interpretation, zero_feed, feeding, feeding_all, fed_interface}
use Rattle.ipdl_term.proofs.ChannelSets.{same_channel-itself}
use Rattle.ipdl_laws.proofs.ClosingContexts.{signature_has_interpretation, closed_by_zeros}
use Rattle.ipdl_laws.proofs.Histories.{history_at, history_valuation-history_at, history_of_protocol}
use Rattle.ipdl_laws.proofs.Monotone.{WritesOnly-protocol_valuation, rounds_reach_the_least}
use Rattle.ipdl_laws.proofs.Sets.{by_test, if-true, has-single, in_union_left}

-- the assignment of a constant
abbrev constant : Channel → Value → Protocol
constant c v = assignment c (returning (literal v))

-- the protocol writes the value on the channel, on each tape and whatever is written around it, and takes no bits
record SurelyWrites (J : Interpretation) (p : Protocol) (c : Channel) (v : Value) : Type 0 where
  pub output : has (outputs p) c ≡ true
  pub value : (t : List Bool) (inputs : Valuation) → protocol_valuation J p t inputs c ≡ Some v
  pub no_coins : coins p ≡ 0

module _ (J : Interpretation) (c : Channel) (v : Value) where
  -- a constant does
  constant_writes : SurelyWrites J (constant c v) c v
  constant_writes = record {
    output = has-single c c ∙ same_channel-itself c;
    value = λ t inputs. if-true _ _ _ (same_channel-itself c);
    no_coins = refl;
  }

  -- and still does beside zeros on another channel
  beside_zeros : (p : Protocol) (d : Channel) (w : ℕ) → SurelyWrites J p c v → SurelyWrites J (plugged (in_left hole (assignment d (zero_feed d w))) p) c v
  beside_zeros p d w h = record {
    output = in_union_left (outputs p) (d ∷ []) c h.output;
    value = λ t inputs.
        sym (ap (λ s. s c) (rounds_reach_the_least J p (assignment d (zero_feed d w)) t inputs).0) ∙
        if-true (has (outputs p) c) _ _ h.output ∙
        h.value _ _;
    no_coins = let e = h.no_coins in omega arith;
  }

  module _ (p : Protocol) (h : SurelyWrites J p c v) (scope : Scope) (written : List Channel) where
    fed_writes : (C : Context) (d : Channel) (w : ℕ) (b : Bool) → SurelyWrites J (plugged C p) c v → SurelyWrites J (plugged (if b then C else in_left C (assignment d (zero_feed d w))) p) c v
    fed_writes C d w true k = k
    fed_writes C d w false k = beside_zeros (plugged C p) d w k

    feeding_writes : (C : Context) (d : Channel) (o : Option ℕ) → SurelyWrites J (plugged C p) c v → SurelyWrites J (plugged (feeding zero_feed d o written C) p) c v
    feeding_writes C d None k = k
    feeding_writes C d (Some w) k = fed_writes C d w (has (context_outputs C written) d) k

    -- in the context that feeds zeros
    feeding_all_writes : (cs : List Channel) → SurelyWrites J (plugged (feeding_all zero_feed cs scope written) p) c v
    feeding_all_writes [] = h
    feeding_all_writes (d ∷ cs) = feeding_writes (feeding_all zero_feed cs scope written) d (scope d) (feeding_all_writes cs)

-- protocols that surely write different values have different histories
different_histories : (J : Interpretation) (p q : Protocol) (c : Channel) (v u : Value) → v ≢ u → SurelyWrites J p c v → SurelyWrites J q c u →
    let h = history_at (outputs p) (protocol_valuation J p [] nothing) in
    one_if (is_history (outputs p) h (protocol_valuation J p [] nothing)) ≡ one_if (is_history (outputs q) h (protocol_valuation J q [] nothing)) → ⊥
different_histories J p q c v u differ writes_p writes_q same =
    let x = protocol_valuation J p [] nothing in
    let y = protocol_valuation J q [] nothing in
    let h = history_at (outputs p) x in
    let is_x : x ≡ history_valuation h = history_valuation-history_at (outputs p) x (WritesOnly-protocol_valuation J p [] nothing) in
    let first : is_history (outputs p) h x ≡ true = (history_of_protocol J p [] nothing h).1 is_x in
    by_test (is_history (outputs q) h y)
    (λ e.
    let same_value : Some v ≡ Some u = sym (writes_p.value [] nothing) ∙ ap (λ s. s c) (is_x ∙ sym ((history_of_protocol J q [] nothing h).0 e)) ∙ writes_q.value [] nothing in
    let equal : v ≡ u = cc in differ equal)
    (λ e. let l : 1 ≡ 0 = sym (ap one_if first) ∙ same ∙ ap one_if e in absurd (omega arith))

pub constants_not_equal : (sig : Signature) → TablesHaveWidths sig → (i : Interface) (c : Channel) (v u : Value) → v ≢ u →
    Equal sig (scope_of (i.inputs ++ i.outputs)) (port_names i.outputs) (constant c v) (constant c u) → ⊥
constants_not_equal sig tables i c v u differ equal =
    let J = zero_interpretation sig in
    let C = fed_interface zero_feed i in
    let scope = scope_of (i.inputs ++ i.outputs) in
    let writes : (x : Value) → SurelyWrites J (plugged C (constant c x)) c x = λ x. feeding_all_writes J c x (constant c x) (constant_writes J c x) scope (port_names i.outputs) (port_names (i.inputs ++ i.outputs)) in
    let of_v = (writes v).no_coins in
    let of_u = (writes u).no_coins in
    different_histories J (plugged C (constant c v)) (plugged C (constant c u)) c v u differ (writes v) (writes u)
    (equal.counts J (signature_has_interpretation sig tables) C (closed_by_zeros sig i) 0 (omega arith) (omega arith) (history_at (outputs (plugged C (constant c v))) (protocol_valuation J (plugged C (constant c v)) [] nothing)))
