-- Which assignments a reaction reads, and the assignments of a network with that.
use Rattle.std.specs.Prelude.{ℕ, ◌+◌, List, [], ◌∷◌, ◌++◌, Option, map, if◌then◌else◌}
use Rattle.ipdl_term.specs.Channels.{same_channel}
use Rattle.ipdl_term.specs.Networks.{assignment_count, writer_number, Writers, Node}
use Rattle.ipdl_term.specs.Protocols.{coins}
use Rattle.ipdl_term.specs.Reactions.{reaction_coins}
use Rattle.ipdl_term.specs.Terms.{Channel, Reaction, returning, flipping, reading, branching, binding, Protocol, nil, assignment, parallel, hiding}

-- the channel of each `read`, from the left
abbrev pub channels_read : Reaction → List Channel
channels_read (returning e) = []
channels_read (flipping w) = []
channels_read (reading c) = c ∷ []
channels_read (branching e r s) = channels_read r ++ channels_read s
channels_read (binding w r s) = channels_read r ++ channels_read s

-- an assignment: its channel, its reaction, its segment of the tape, and for each `read` the number of the assignment
-- that writes the channel
pub record Assignment : Type 0 where
  pub channel : Channel
  pub reaction : Reaction
  pub first_bit : ℕ
  pub coins : ℕ
  pub writers : List (Option ℕ)

abbrev pub assignment_of : Node → Assignment
assignment_of node =
    record {
      channel = node.channel;
      reaction = node.reaction;
      first_bit = node.first_bit;
      coins = reaction_coins node.reaction;
      writers = map node.writer (channels_read node.reaction);
    }

-- the writers with those of a hidden channel
abbrev pub writers_with : Channel → Option ℕ → Writers → Writers
writers_with c number writers d = if same_channel c d then number else writers d

-- the assignments of a protocol that are numbered from this number on and take the tape from this bit on, where the
-- writers of all channels are given, also of those that the protocol writes itself
abbrev pub assignments_from : Protocol → ℕ → ℕ → Writers → List Assignment
assignments_from nil number bit writers = []
assignments_from (assignment c r) number bit writers =
    assignment_of (record { channel = c; reaction = r; first_bit = bit; writer = writers }) ∷ []
assignments_from (parallel p q) number bit writers =
    assignments_from p number bit writers ++ assignments_from q (number + assignment_count p) (bit + coins p) writers
assignments_from (hiding c w p) number bit writers =
    assignments_from p number bit (writers_with c (writer_number p number c) writers)
