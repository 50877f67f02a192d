-- The network of a closed protocol: its assignments, numbered from the left, with no nesting left. And what flat rounds
-- over all of them write.
use Rattle.std.specs.Prelude.{◌≡◌, ℕ, zero, suc, ◌+◌, Bool, List, [], ◌∷◌, ◌++◌, Option, Some, None, length, take, drop, nat_eq, slice_get, if◌then◌else◌}
use Rattle.ipdl_term.specs.Terms.{Value, Channel, Reaction, Protocol, nil, assignment, parallel, hiding}
use Rattle.ipdl_term.specs.Variables.{first_number}
use Rattle.ipdl_term.specs.Interpretations.{Interpretation}
use Rattle.ipdl_term.specs.Channels.{same_channel}
use Rattle.ipdl_term.specs.Valuations.{Valuation}
use Rattle.ipdl_term.specs.Reactions.{outcome_value, reaction_outcome, reaction_coins}
use Rattle.ipdl_term.specs.Protocols.{coins}

-- ---- numbers

-- how many assignments there are
abbrev pub assignment_count : Protocol → ℕ
assignment_count nil = 0
assignment_count (assignment c r) = 1
assignment_count (parallel p q) = assignment_count p + assignment_count q
assignment_count (hiding c w p) = assignment_count p

-- the number of the assignment that writes an output, where the protocol's own ones are numbered from this number on
abbrev pub writer_number : Protocol → ℕ → Channel → Option ℕ
writer_number nil number c = None
writer_number (assignment d r) number c = if same_channel d c then Some number else None
writer_number (parallel p q) number c =
    first_number (writer_number p number c) (writer_number q (number + assignment_count p) c)
writer_number (hiding d w p) number c = if same_channel d c then None else writer_number p number c

-- the number of the assignment that writes each channel, if one does
abbrev pub Writers : Type 0
Writers = Channel → Option ℕ

abbrev pub no_writers : Writers
no_writers c = None

-- the writers within a protocol: those of its own outputs first, and else those around it
abbrev pub writers_within : Protocol → ℕ → Writers → Writers
writers_within p number writers c = first_number (writer_number p number c) (writers c)

-- the writers without one channel, which a hidden channel of this name covers
abbrev pub writers_without : Channel → Writers → Writers
writers_without c writers d = if same_channel c d then None else writers d

-- ---- the network

-- an assignment: its channel, its reaction, the number of the first bit of its segment of the tape, and which assignments
-- write the channels that its reaction names
pub record Node : Type 0 where
  pub channel : Channel
  pub reaction : Reaction
  pub first_bit : ℕ
  pub writer : Writers

-- the assignments of a protocol that are numbered from this number on and take the tape from this bit on
abbrev pub nodes_from : Protocol → ℕ → ℕ → Writers → List Node
nodes_from nil number bit writers = []
nodes_from (assignment c r) number bit writers =
    record { channel = c; reaction = r; first_bit = bit; writer = writers_within (assignment c r) number writers } ∷ []
nodes_from (parallel p q) number bit writers =
    nodes_from p number bit (writers_within (parallel p q) number writers) ++
    nodes_from q (number + assignment_count p) (bit + coins p) (writers_within (parallel p q) number writers)
nodes_from (hiding c w p) number bit writers = nodes_from p number bit (writers_without c writers)

-- the network of a closed protocol
abbrev pub network : Protocol → List Node
network p = nodes_from p 0 0 no_writers

-- ---- flat rounds

-- the values of the assignments that have written, by number
abbrev pub Written : Type 0
Written = ℕ → Option Value

-- the value of the assignment that writes a channel, if that is not the one of this number itself
abbrev pub value_of : ℕ → Option ℕ → Written → Option Value
value_of number None before = None
value_of number (Some writer) before = if nat_eq writer number then None else before writer

-- what the assignment of this number writes, from what all wrote before
abbrev pub node_value : Interpretation → List Bool → ℕ → Node → Written → Option Value
node_value J tape number node before =
    outcome_value (reaction_outcome J node.reaction [] (λ c. value_of number (node.writer c) before)
    (take (reaction_coins node.reaction) (drop node.first_bit tape)))

abbrev pub value_at : Interpretation → List Bool → ℕ → Option Node → Written → Option Value
value_at J tape number None before = None
value_at J tape number (Some node) before = node_value J tape number node before

-- each value of the first is one of the second
abbrev pub WrittenWithin : Written → Written → Type 0
WrittenWithin w w' = (number : ℕ) (v : Value) → w number ≡ Some v → w' number ≡ Some v

-- one round of all assignments, from what all wrote before
abbrev pub flat_round : Interpretation → List Node → List Bool → Written → Written
flat_round J nodes tape before number = value_at J tape number (slice_get nodes number) before

-- so many rounds, from where nothing is written
abbrev pub after_flat_rounds : Interpretation → List Node → List Bool → ℕ → Written
after_flat_rounds J nodes tape zero number = None
after_flat_rounds J nodes tape (suc n) number = flat_round J nodes tape (after_flat_rounds J nodes tape n) number

-- one round more than there are assignments
abbrev pub flat_written : Interpretation → List Node → List Bool → Written
flat_written J nodes tape = after_flat_rounds J nodes tape (suc (length nodes))

abbrev pub written_by : Option ℕ → Written → Option Value
written_by None values = None
written_by (Some writer) values = values writer

-- the values at the outputs
abbrev pub flat_valuation : Interpretation → Protocol → List Bool → Valuation
flat_valuation J p tape c = written_by (writer_number p 0 c) (flat_written J (network p) tape)
