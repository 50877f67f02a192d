-- Protocols that are told apart by a history that has another count in some context.
use Rattle.std.proofs.Common.{◌≡◌, ◌≢◌, ℕ, ◌≤◌, false, List, [], ◌∷◌, ◌++◌, ◌∙◌}
use Rattle.std.specs.Prelude.{nat_eq}
use Rattle.ipdl_term.specs.Channels.{same_channel, has, AreDisjoint}
use Rattle.ipdl_term.specs.Contexts.{Closes, plugged}
use Rattle.ipdl_term.specs.Counts.{History, history_count}
use Rattle.ipdl_term.specs.Interpretations.{Signature, Interpretation, Interprets}
use Rattle.ipdl_term.specs.Protocols.{coins}
use Rattle.ipdl_term.specs.Terms.{Channel, Protocol, Context, hole}
use Rattle.ipdl_term.specs.Typing.{scope_of, port_names, HasInterface}
use Rattle.ipdl_term.specs.declared.interface.Interface.{Interface}
use Rattle.ipdl_term.specs.declared.interface.Port.{Port}
use Rattle.ipdl_laws.specs.Closings.{fed_interface, silent_feed, zero_feed}
use Rattle.ipdl_laws.specs.Refutations.{AreToldApart, closed_interface}
use Rattle.ipdl_laws.proofs.ClosingContexts.{closed_by_silence, closed_by_zeros, scope_of_names}
use Rattle.ipdl_laws.proofs.FixedInputLaws.{unequal}
use Rattle.ipdl_laws.proofs.Sets.{by_test, not_both, at_same_channel, has-single}

-- two different channels
pub single_apart : (x y : Channel) → has (y ∷ []) x ≡ false → AreDisjoint (x ∷ []) (y ∷ [])
single_apart x y e d h = by_test (same_channel x d)
    (λ l. at_same_channel (λ z. has (y ∷ []) z ≡ false) x d l e)
    (λ l. not_both (has (x ∷ []) d) h (has-single x d ∙ l))

-- the context that is the hole alone closes an interface that has outputs alone
pub hole_closes : (sig : Signature) (outs : List Port) → Closes sig (scope_of outs) (port_names outs) hole
hole_closes sig outs = (scope_of outs, λ d v e. e, scope_of_names outs)

module _ (sig : Signature) (J : Interpretation) (interprets : Interprets sig J) where
  module _ (i : Interface) (p q : Protocol) (typed_p : HasInterface sig i p) (typed_q : HasInterface sig i q) where
    pub told_apart_by_counts : (C : Context) → Closes sig (scope_of (i.inputs ++ i.outputs)) (port_names i.outputs) C → (n : ℕ) → coins (plugged C p) ≤ n → coins (plugged C q) ≤ n →
        (h : History) → history_count J (plugged C p) n h ≢ history_count J (plugged C q) n h → AreToldApart sig i p q
    told_apart_by_counts C closes n hp hq h differ =
        record { left = typed_p; right = typed_q; unequal = λ equal. differ (equal.counts J interprets C closes n hp hq h) }

    -- by counts that are computed to be two numbers
    counted_apart : (C : Context) → Closes sig (scope_of (i.inputs ++ i.outputs)) (port_names i.outputs) C → (n : ℕ) (h : History) (x y : ℕ) → coins (plugged C p) ≤ n → coins (plugged C q) ≤ n →
        history_count J (plugged C p) n h ≡ x → history_count J (plugged C q) n h ≡ y → nat_eq x y ≡ false → AreToldApart sig i p q
    counted_apart C closes n h x y hp hq e k differ =
        told_apart_by_counts C closes n hp hq h (λ same. unequal _ _ x y same e k differ)

    -- where the inputs are never written
    pub apart_in_silence : (n : ℕ) (h : History) (x y : ℕ) → coins (plugged (fed_interface silent_feed i) p) ≤ n → coins (plugged (fed_interface silent_feed i) q) ≤ n →
        history_count J (plugged (fed_interface silent_feed i) p) n h ≡ x → history_count J (plugged (fed_interface silent_feed i) q) n h ≡ y → nat_eq x y ≡ false → AreToldApart sig i p q
    apart_in_silence = counted_apart (fed_interface silent_feed i) (closed_by_silence sig i)

    -- where zeros are written on them
    pub apart_with_zeros : (n : ℕ) (h : History) (x y : ℕ) → coins (plugged (fed_interface zero_feed i) p) ≤ n → coins (plugged (fed_interface zero_feed i) q) ≤ n →
        history_count J (plugged (fed_interface zero_feed i) p) n h ≡ x → history_count J (plugged (fed_interface zero_feed i) q) n h ≡ y → nat_eq x y ≡ false → AreToldApart sig i p q
    apart_with_zeros = counted_apart (fed_interface zero_feed i) (closed_by_zeros sig i)

  -- two that have no inputs, each by itself
  pub closed_apart : (outs : List Port) (p q : Protocol) → HasInterface sig (closed_interface outs) p → HasInterface sig (closed_interface outs) q → (n : ℕ) → coins p ≤ n → coins q ≤ n →
      (h : History) → history_count J p n h ≢ history_count J q n h → AreToldApart sig (closed_interface outs) p q
  closed_apart outs p q typed_p typed_q = told_apart_by_counts (closed_interface outs) p q typed_p typed_q hole (hole_closes sig outs)
