-- What a protocol writes on a tape.
use Rattle.std.specs.Prelude.{ℕ, zero, suc, ◌+◌, Bool, List, [], Some, None, length, take, drop}
use Rattle.ipdl_term.specs.Terms.{Channel, Protocol, nil, assignment, parallel, hiding}
use Rattle.ipdl_term.specs.Interpretations.{Interpretation}
use Rattle.ipdl_term.specs.Channels.{outputs}
use Rattle.ipdl_term.specs.Valuations.{Valuation, nothing, only, combined, taken_out, all_taken_out}
use Rattle.ipdl_term.specs.Reactions.{Outcome, reaction_outcome, reaction_coins}

-- the bits of a protocol's segment of the tape
abbrev pub coins : Protocol → ℕ
coins nil = 0
coins (assignment c r) = reaction_coins r
coins (parallel p q) = coins p + coins q
coins (hiding c w p) = coins p

-- what an assignment writes
abbrev pub written : Channel → Outcome → Valuation
written c None = nothing
written c (Some o) = only c o.0

-- so many rounds of a step, from where nothing is written
abbrev pub after_rounds : ℕ → (Valuation → Valuation) → Valuation
after_rounds zero step = nothing
after_rounds (suc n) step = step (after_rounds n step)

-- one round more than there are channels
abbrev pub solution : List Channel → (Valuation → Valuation) → Valuation
solution cs step = after_rounds (suc (length cs)) step

-- One round of two parts, which write the channels cs and ds, from what both wrote before: each part's
-- result, with what the other wrote before added to the inputs.
abbrev pub round : List Channel → List Channel → (Valuation → Valuation) → (Valuation → Valuation) → Valuation → Valuation → Valuation
round cs ds left right inputs before =
    combined cs (left (combined ds before inputs)) (right (combined cs before inputs))

-- What a protocol writes, given what is written around it. It does not see the channels that it writes itself
-- there. The parts of a `par` take their segments of the tape from the left.
abbrev pub protocol_valuation : Interpretation → Protocol → List Bool → Valuation → Valuation
protocol_valuation J nil tape inputs = nothing
protocol_valuation J (assignment c r) tape inputs =
    written c (reaction_outcome J r [] (all_taken_out (outputs (assignment c r)) inputs) tape)
protocol_valuation J (parallel p q) tape inputs =
    solution (outputs (parallel p q))
    (round (outputs p) (outputs q) (protocol_valuation J p (take (coins p) tape)) (protocol_valuation J q (drop (coins p) tape))
    (all_taken_out (outputs (parallel p q)) inputs))
protocol_valuation J (hiding c w p) tape inputs =
    taken_out c (protocol_valuation J p tape (taken_out c (all_taken_out (outputs (hiding c w p)) inputs)))
