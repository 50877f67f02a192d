-- Worked protocols for the rules.
use Rattle.std.specs.Prelude.{true, [], ◌∷◌, codes}
use Rattle.ipdl_term.specs.Terms.{Channel, literal, variable, Reaction, returning, flipping, reading, branching, binding, Protocol, assignment, parallel}

abbrev pub a : Channel
a = codes "a"

abbrev pub c : Channel
c = codes "c"

abbrev pub d : Channel
d = codes "d"

-- ---- reactions

-- `(read c)`
abbrev pub read_c : Reaction
read_c = reading c

-- `(read d)`
abbrev pub read_d : Reaction
read_d = reading d

-- `(bind x 1 (read c) (ret x))`
abbrev pub value_of_c : Reaction
value_of_c = binding 1 read_c (returning (variable 0))

-- `(if #b1 R (flip 1))`, in which R need not be run
abbrev pub perhaps : Reaction → Reaction
perhaps r = branching (literal (true ∷ [])) r (flipping 1)

-- ---- protocols

-- `(out a (read c))`
abbrev pub copy_of_c : Protocol
copy_of_c = assignment a read_c

-- `(out c (read d))`
abbrev pub c_of_d : Protocol
c_of_d = assignment c read_d

-- `(out c (flip 1))`
abbrev pub coin : Protocol
coin = assignment c (flipping 1)

-- `(out d (flip 2))`
abbrev pub two_coins : Protocol
two_coins = assignment d (flipping 2)

-- `(par (out c (read d)) (out a R))`
abbrev pub beside_c_of_d : Reaction → Protocol
beside_c_of_d r = parallel c_of_d (assignment a r)
