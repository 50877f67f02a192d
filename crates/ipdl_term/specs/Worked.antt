-- Worked protocols, whose histories and counts are computed from the definitions.
use Rattle.std.specs.Prelude.{true, false, [], ◌∷◌, codes}
use Rattle.ipdl_term.specs.Terms.{Value, Channel, Expression, literal, variable, exclusive, negation, Reaction, returning, flipping, reading, binding, Protocol, assignment, parallel, hiding}
use Rattle.ipdl_term.specs.Counts.{History}

abbrev pub a : Channel
a = codes "a"

abbrev pub b : Channel
b = codes "b"

abbrev pub c : Channel
c = codes "c"

abbrev pub k : Channel
k = codes "k"

abbrev pub m : Channel
m = codes "m"

abbrev pub s : Channel
s = codes "s"

abbrev pub one : Value
one = true ∷ []

abbrev pub zero_bit : Value
zero_bit = false ∷ []

-- `(bind x 1 (read CHANNEL) (ret EXPRESSION))`
abbrev pub read_then : Channel → Expression → Reaction
read_then channel e = binding 1 (reading channel) (returning e)

-- a fair bit on a, its negation on b, and s, which waits for itself
abbrev pub copy_not : Protocol
copy_not =
    parallel (assignment a (flipping 1))
    (parallel (assignment b (read_then a (negation (variable 0)))) (assignment s (reading s)))

-- the histories of that network on the two tapes
abbrev pub negated : Value → Value → History
negated v w = (a, v) ∷ (b, w) ∷ []

-- the bit 1, padded by a fair bit that is hidden, as the message is
abbrev pub padded : Protocol
padded =
    hiding m 1 (hiding k 1 (parallel (assignment m (returning (literal one)))
    (parallel (assignment k (flipping 1))
    (assignment c (binding 1 (reading m) (read_then k (exclusive (variable 1) (variable 0))))))))

-- a fair bit and itself, bit by bit
abbrev pub cancelled : Protocol
cancelled = assignment c (binding 1 (flipping 1) (returning (exclusive (variable 0) (variable 0))))

-- two channels that wait for each other
abbrev pub waiting : Protocol
waiting = parallel (assignment a (reading b)) (assignment b (reading a))

-- b copies the c that is hidden around it, and a the one outside
abbrev pub shadowed : Protocol
shadowed =
    parallel (assignment a (reading c))
    (parallel (assignment c (returning (literal one)))
    (hiding c 1 (parallel (assignment c (returning (literal zero_bit))) (assignment b (reading c)))))

-- the history of one channel
abbrev pub written_alone : Channel → Value → History
written_alone channel v = (channel, v) ∷ []
