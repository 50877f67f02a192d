-- More inputs keep what is written, and only outputs are written.
use Rattle.std.proofs.Common.{◌≡◌, suc, Bool, true, false, List, [], ◌∷◌, length, Option, Some, None, take, drop, refl, sym, ◌∙◌}
use Rattle.std.proofs.lemmas.Bool.{or_parts}
use Rattle.ipdl_term.specs.Channels.{same_channel, has, without, union, outputs}
use Rattle.ipdl_term.specs.Interpretations.{Interpretation, chosen, evaluation}
use Rattle.ipdl_term.specs.Protocols.{coins, written, round, protocol_valuation}
use Rattle.ipdl_term.specs.Reactions.{Outcome, with_tape, continued, reaction_outcome}
use Rattle.ipdl_term.specs.Terms.{Value, Channel, Reaction, returning, flipping, reading, branching, binding, Protocol, nil, assignment, parallel, hiding}
use Rattle.ipdl_term.specs.Valuations.{Valuation, nothing, taken_out, all_taken_out, LiesWithin}
use Rattle.ipdl_laws.specs.Alike.{IsMonotone}
use Rattle.ipdl_laws.proofs.Order.{LiesWithin-refl, LiesWithin-nothing, LiesWithin-combined, LiesWithin-taken_out, LiesWithin-all_taken_out, WritesOnly}
use Rattle.ipdl_term.proofs.ChannelSets.{has-union}
use Rattle.ipdl_laws.proofs.Sets.{by_test, if-true, if-false, has-without}
use Rattle.ipdl_laws.proofs.Solutions.{WritesOnly-after_rounds, LiesWithin-after_rounds, solution-fixed, solution-least}

-- the second result is the first one, unless the first is stuck
abbrev pub Extends : Outcome → Outcome → Type 0
Extends o o' = (x : Value × List Bool) → o ≡ Some x → o' ≡ Some x

-- a value that grows, with its tape
Extends-with_tape : (o o' : Option Value) (tape : List Bool) → ((v : Value) → o ≡ Some v → o' ≡ Some v) → Extends (with_tape o tape) (with_tape o' tape)
Extends-with_tape None o' tape h x e = cc
Extends-with_tape (Some v) o' tape h x e = rw (h v refl) e

-- one of outcomes that each extend another
Extends-chosen : (v : Value) (x y z x' y' z' : Outcome) → Extends x x' → Extends y y' → Extends z z' → Extends (chosen v x y z) (chosen v x' y' z')
Extends-chosen [] x y z x' y' z' h i j = j
Extends-chosen (true ∷ []) x y z x' y' z' h i j = h
Extends-chosen (false ∷ []) x y z x' y' z' h i j = i
Extends-chosen (b ∷ c ∷ bits) x y z x' y' z' h i j = j

-- an outcome that extends another and goes on with outcomes that do
Extends-continued : (o o' : Outcome) (f g : Value → List Bool → Outcome) → Extends o o' → ((v : Value) (rest : List Bool) → Extends (f v rest) (g v rest)) → Extends (continued o f) (continued o' g)
Extends-continued None o' f g h k x e = cc
Extends-continued (Some r) o' f g h k x e = rw (h r refl) (k r.0 r.1 x e)

-- more is written where the outcome is extended
LiesWithin-written : (c : Channel) (o o' : Outcome) → Extends o o' → LiesWithin (written c o) (written c o')
LiesWithin-written c None o' h d v e = cc
LiesWithin-written c (Some r) o' h d v e = rw (h r refl) e

-- an assignment writes its channel alone
pub WritesOnly-written : (c : Channel) (o : Outcome) → WritesOnly (c ∷ []) (written c o)
WritesOnly-written c None d h = refl
WritesOnly-written c (Some r) d h = let e = (or_parts (same_channel c d) false h).0 in rw e

-- one channel more taken out
pub WritesOnly-taken_out : (c : Channel) (cs : List Channel) (p : Valuation) → WritesOnly cs p → WritesOnly (without c cs) (taken_out c p)
WritesOnly-taken_out c cs p h d e = by_test (same_channel c d)
    (λ k. if-true (same_channel c d) _ _ k)
    (λ k. if-false (same_channel c d) _ _ k ∙ h d (sym (has-without c cs d k) ∙ e))

module _ (J : Interpretation) where
  -- with more inputs a reaction has the outcome that it has, unless it was stuck
  pub Extends-reaction_outcome : (r : Reaction) (env : List Value) (inputs inputs' : Valuation) (tape : List Bool) → LiesWithin inputs inputs' → Extends (reaction_outcome J r env inputs tape) (reaction_outcome J r env inputs' tape)
  Extends-reaction_outcome (returning e) env inputs inputs' tape h = λ x k. k
  Extends-reaction_outcome (flipping w) env inputs inputs' tape h = λ x k. k
  Extends-reaction_outcome (reading c) env inputs inputs' tape h = Extends-with_tape (inputs c) (inputs' c) tape (h c)
  Extends-reaction_outcome (branching e r s) env inputs inputs' tape h = Extends-chosen (evaluation J env e) _ _ _ _ _ _ (Extends-reaction_outcome r env inputs inputs' tape h) (Extends-reaction_outcome s env inputs inputs' tape h) (Extends-reaction_outcome s env inputs inputs' tape h)
  Extends-reaction_outcome (binding w r s) env inputs inputs' tape h = Extends-continued _ _ _ _ (Extends-reaction_outcome r env inputs inputs' tape h) (λ v rest. Extends-reaction_outcome s (v ∷ env) inputs inputs' rest h)

  -- a round writes the channels of the two parts alone
  pub WritesOnly-round : (cs ds : List Channel) (f g : Valuation → Valuation) (inputs : Valuation) → ((p : Valuation) → WritesOnly ds (g p)) → (s : Valuation) → WritesOnly (union cs ds) (round cs ds f g inputs s)
  WritesOnly-round cs ds f g inputs k s c h =
      let e = or_parts (has cs c) (has ds c) (sym (has-union cs ds c) ∙ h) in
      rw (e.0) (k _ c e.1)

  -- a protocol writes its outputs alone
  pub WritesOnly-protocol_valuation : (p : Protocol) (tape : List Bool) (inputs : Valuation) → WritesOnly (outputs p) (protocol_valuation J p tape inputs)
  WritesOnly-protocol_valuation nil tape inputs = λ c h. refl
  WritesOnly-protocol_valuation (assignment c r) tape inputs = WritesOnly-written c _
  WritesOnly-protocol_valuation (parallel p q) tape inputs = WritesOnly-after_rounds (outputs (parallel p q)) _ (WritesOnly-round (outputs p) (outputs q) (protocol_valuation J p (take (coins p) tape)) _ (all_taken_out (outputs (parallel p q)) inputs) (WritesOnly-protocol_valuation q (drop (coins p) tape))) (suc (length (outputs (parallel p q))))
  WritesOnly-protocol_valuation (hiding c w p) tape inputs = WritesOnly-taken_out c (outputs p) _ (WritesOnly-protocol_valuation p tape _)

  -- a round from more, with more inputs
  pub LiesWithin-round : (cs ds : List Channel) (f g : Valuation → Valuation) → IsMonotone f → IsMonotone g → (inputs inputs' s s' : Valuation) → LiesWithin inputs inputs' → LiesWithin s s' → LiesWithin (round cs ds f g inputs s) (round cs ds f g inputs' s')
  LiesWithin-round cs ds f g mono_f mono_g inputs inputs' s s' h k =
      LiesWithin-combined cs _ _ _ _ (mono_f _ _ (LiesWithin-combined ds _ _ _ _ k h)) (mono_g _ _ (LiesWithin-combined cs _ _ _ _ k h))

  -- with more inputs a protocol writes more
  pub IsMonotone-protocol_valuation : (p : Protocol) (tape : List Bool) → IsMonotone (protocol_valuation J p tape)
  IsMonotone-protocol_valuation nil tape inputs inputs' h = LiesWithin-nothing nothing
  IsMonotone-protocol_valuation (assignment c r) tape inputs inputs' h = LiesWithin-written c _ _ (Extends-reaction_outcome r [] _ _ tape (LiesWithin-all_taken_out (c ∷ []) inputs inputs' h))
  IsMonotone-protocol_valuation (parallel p q) tape inputs inputs' h =
      LiesWithin-after_rounds _ _ (λ s s' k. LiesWithin-round (outputs p) (outputs q) _ _ (IsMonotone-protocol_valuation p (take (coins p) tape)) (IsMonotone-protocol_valuation q (drop (coins p) tape)) _ _ s s' (LiesWithin-all_taken_out (outputs (parallel p q)) inputs inputs' h) k) (suc (length (outputs (parallel p q))))
  IsMonotone-protocol_valuation (hiding c w p) tape inputs inputs' h =
      LiesWithin-taken_out c _ _ (IsMonotone-protocol_valuation p tape _ _ (LiesWithin-taken_out c _ _ (LiesWithin-all_taken_out (outputs (hiding c w p)) inputs inputs' h)))

  -- what a reaction does with more inputs
  pub reaction_is_monotone : (r : Reaction) (env : List Value) (inputs inputs' : Valuation) (tape : List Bool) → LiesWithin inputs inputs' → (o : Value × List Bool) → reaction_outcome J r env inputs tape ≡ Some o → reaction_outcome J r env inputs' tape ≡ Some o
  reaction_is_monotone r env inputs inputs' tape h = Extends-reaction_outcome r env inputs inputs' tape h

  -- what a protocol writes with more inputs
  pub protocol_is_monotone : (p : Protocol) (tape : List Bool) (inputs inputs' : Valuation) → LiesWithin inputs inputs' → LiesWithin (protocol_valuation J p tape inputs) (protocol_valuation J p tape inputs')
  protocol_is_monotone = IsMonotone-protocol_valuation

  -- the rounds of two parts reach the least fixed point of the round
  pub rounds_reach_the_least : (p q : Protocol) (tape : List Bool) (inputs : Valuation) →
      let left = protocol_valuation J p (take (coins p) tape) in
      let right = protocol_valuation J q (drop (coins p) tape) in
      let stripped = all_taken_out (outputs (parallel p q)) inputs in
      let step = round (outputs p) (outputs q) left right stripped in
      let result = protocol_valuation J (parallel p q) tape inputs in
      (step result ≡ result) × ((t : Valuation) → LiesWithin (step t) t → LiesWithin result t)
  rounds_reach_the_least p q tape inputs =
      let left = protocol_valuation J p (take (coins p) tape) in
      let right = protocol_valuation J q (drop (coins p) tape) in
      let stripped = all_taken_out (outputs (parallel p q)) inputs in
      let step : Valuation → Valuation = round (outputs p) (outputs q) left right stripped in
      let mono : IsMonotone step = λ s s' k.
      LiesWithin-round (outputs p) (outputs q) left right (IsMonotone-protocol_valuation p (take (coins p) tape)) (IsMonotone-protocol_valuation q (drop (coins p) tape)) stripped stripped s s' (LiesWithin-refl stripped) k in
      let only : (s : Valuation) → WritesOnly (outputs (parallel p q)) (step s) =
      WritesOnly-round (outputs p) (outputs q) left right stripped (WritesOnly-protocol_valuation q (drop (coins p) tape)) in
      (solution-fixed (outputs (parallel p q)) step mono only, solution-least (outputs (parallel p q)) step mono only)
