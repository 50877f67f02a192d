-- The setting, the protocols and the steps of the worked rows.
use Rattle.std.specs.Prelude.{ℕ, true, false, List, [], ◌∷◌, codes}
use Rattle.ipdl_chain.specs.Chains.{by_rule, by_assumption}
use Rattle.ipdl_embed.specs.Pairs.{Pairs}
use Rattle.ipdl_forms.specs.Documents.{Entry, protocol_entry, assumption_entry}
use Rattle.ipdl_term.specs.Rules as R
use Rattle.ipdl_term.specs.Steps.{Direction, lr, rl, Step, plain, rev, invoke}
use Rattle.ipdl_term.specs.Terms.{Channel, Expression, literal, outer, Reaction, flipping, reading, returning, branching, binding, Protocol, nil, assignment, parallel, hiding, Context, hole, in_left, in_hiding, protocol_term}
use Rattle.ipdl_term.specs.declared.interface.Interface.{Interface}
use Rattle.ipdl_script.specs.Known.{Proved}
use Rattle.ipdl_script.specs.Scripts.{Theorem}
use Rattle.ipdl_script.specs.Steps.{Setting}

abbrev pub c : Channel
c = codes "c"

abbrev pub d : Channel
d = codes "d"

-- two outputs of one bit
abbrev both_out : Interface
both_out = record { inputs = []; outputs = record { name = c; width = 1 } ∷ record { name = d; width = 1 } ∷ [] }

-- no symbols, and nothing that may be used
abbrev pub two_outputs : Setting
two_outputs = record { sig = []; entries = []; theorems = []; interface = both_out }

-- `(out c (flip 1))`
abbrev pub coin : Protocol
coin = assignment c (flipping 1)

-- `(out d (read c))`
abbrev pub copied : Protocol
copied = assignment d (reading c)

-- `(comm ())`
abbrev pub exchange : Step
exchange = plain [] R.comm

-- `(comm (0 0 0))`: the reaction at (0 0) is a `flip`, which has no children
abbrev pub below_a_flip : Step
below_a_flip = plain (0 ∷ 0 ∷ 0 ∷ []) R.comm

-- `(rev (unit ()) (par (par (out c (flip 1)) (out d (read c))) (nil)))`
abbrev pub add_nothing : Step
add_nothing = rev [] R.unit (protocol_term (parallel (parallel coin copied) nil))

-- `(unit ())`
abbrev pub drop_nothing : Step
drop_nothing = plain [] R.unit

-- `(rev (unit ()) (par (out c (ret x0)) (nil)))`
abbrev pub of_an_unbound_variable : Step
of_an_unbound_variable = rev [] R.unit (protocol_term (parallel (assignment c (returning (outer 0))) nil))

-- `(rev (unit ()) (par (nil) (nil)))`
abbrev pub of_another : Step
of_another = rev [] R.unit (protocol_term (parallel nil nil))

-- `(par (out d (read c)) (new ((c 1)) (out c (flip 1))))`: the channel that is read is another one
abbrev pub beside_its_name : Protocol
beside_its_name = parallel copied (hiding c 1 coin)

-- `#0` and `#1`
abbrev pub zero_bit : Expression
zero_bit = literal (false ∷ [])

abbrev pub one_bit : Expression
one_bit = literal (true ∷ [])

-- `(par (out c (bind x 1 (flip 1) (if T (ret E) (flip 1)))) (out d (read c)))`
abbrev pub tested : (test in_arm : Expression) → Protocol
tested test in_arm = parallel (assignment c (binding 1 (flipping 1) (branching test (returning in_arm) (flipping 1)))) copied

-- `(mask (0 0) #1)`
abbrev pub mask_with_one : Step
mask_with_one = plain (0 ∷ 0 ∷ []) (R.mask one_bit)

-- `(table (0 0 1 1 0) 1 x0)`: in the arm, by its test
abbrev pub see_the_test : Step
see_the_test = plain (0 ∷ 0 ∷ 1 ∷ 1 ∷ 0 ∷ []) (R.table 1 (outer 0))

-- `(table (0 0 1 1 0) 2 x0)`: there are not so many tests
abbrev pub see_two_tests : Step
see_two_tests = plain (0 ∷ 0 ∷ 1 ∷ 1 ∷ 0 ∷ []) (R.table 2 (outer 0))

-- from the coin beside its copy to the same two exchanged
abbrev pub exchanged : (lefts rights : List Step) → Theorem
exchanged lefts rights =
    record { left = parallel coin copied; right = parallel copied coin; lefts = lefts; rights = rights }

-- ---- uses

abbrev pub e : Channel
e = codes "e"

-- one output of one bit
abbrev only : Channel → Interface
only channel = record { inputs = []; outputs = record { name = channel; width = 1 } ∷ [] }

-- `(out c (ret #0))`
abbrev fixed_coin : Protocol
fixed_coin = assignment c (returning zero_bit)

-- `(new ((e 1)) (par (out e (flip 1)) (out c (read e))))`
abbrev fetched_coin : Protocol
fetched_coin = hiding e 1 (parallel (assignment e (flipping 1)) (assignment c (reading e)))

-- A document with the assumption `fixing`, that a coin is a fixed one, and the assumption `fetching`, that it is one fetched
-- from a hidden channel.
abbrev items : List Entry
items =
    protocol_entry (codes "coin") (only c) coin
    ∷ protocol_entry (codes "fixed") (only c) fixed_coin
    ∷ protocol_entry (codes "fetched") (only c) fetched_coin
    ∷ protocol_entry (codes "both") both_out (parallel coin copied)
    ∷ assumption_entry (codes "fixing") (codes "coin") (codes "fixed")
    ∷ assumption_entry (codes "fetching") (codes "coin") (codes "fetched")
    ∷ []

-- the theorem `exchange`, by the rule `comm`
abbrev exchange_proved : Proved
exchange_proved =
    record {
      name = codes "exchange";
      left = codes "both";
      chain = record { first = parallel coin copied; links = record { mark = by_rule lr (codes "comm") []; term = parallel copied coin } ∷ [] };
    }

-- the theorem `again`, that a coin is a coin, from left to right by `fixing` and then back
abbrev again_proved : Proved
again_proved =
    record {
      name = codes "again";
      left = codes "coin";
      chain = record {
        first = coin;
        links =
            record { mark = by_assumption lr (codes "fixing") [] ((c, c) ∷ []) hole; term = fixed_coin }
            ∷ record { mark = by_assumption rl (codes "fixing") [] ((c, c) ∷ []) hole; term = coin }
            ∷ [];
      };
    }

-- all this may be used, at these outputs
abbrev with_items : Interface → Setting
with_items interface = record { sig = []; entries = items; theorems = exchange_proved ∷ again_proved ∷ []; interface = interface }

abbrev pub one_known : Setting
one_known = with_items (only d)

abbrev pub two_known : Setting
two_known = with_items both_out

-- `(new ((e 1)) (par (out e R) (out d (read e))))`
abbrev pub behind : Reaction → Protocol
behind r = hiding e 1 (parallel (assignment e r) (assignment d (reading e)))

-- what is around that part
abbrev pub around_it : Context
around_it = in_hiding e 1 (in_left hole (assignment d (reading e)))

-- the use of what has the name, at the part, with pairs
abbrev pub use_behind : (name : List ℕ) → Direction → Pairs → Step
use_behind name direction pairs = invoke (0 ∷ 0 ∷ []) name direction pairs

-- `(use () exchange rl ())`
abbrev pub exchange_back : Step
exchange_back = invoke [] (codes "exchange") rl []
