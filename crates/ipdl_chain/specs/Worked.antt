-- Worked chains: of two channels of constant value, exchanged, and of a theorem and an assumption that say so.
use Rattle.std.specs.Prelude.{ℕ, Bool, true, false, List, [], ◌∷◌, codes}
use Rattle.ipdl_term.specs.Steps.{lr, rl}
use Rattle.ipdl_term.specs.Terms.{Protocol, literal, returning, assignment, parallel, in_right, hole}
use Rattle.ipdl_chain.specs.Chains.{Chain, Link, by_rule, by_theorem, by_assumption}

-- `(out CHANNEL (ret LITERAL))`, of one bit
abbrev pub bit_assignment : (channel : List ℕ) → Bool → Protocol
bit_assignment channel bit = assignment channel (returning (literal (bit ∷ [])))

abbrev pub worked_chain : Chain
worked_chain =
    let a = bit_assignment (codes "a") false in
    let b = bit_assignment (codes "b") true in
    record { first = parallel a b; links = record { mark = by_rule lr (codes "comm") []; term = parallel b a } ∷ [] }

-- the theorem `swap` for the whole, and the assumption `same`, used back, for the second part
abbrev pub worked_uses : Chain
worked_uses =
    let a = bit_assignment (codes "a") false in
    let b = bit_assignment (codes "b") true in
    let swapped : Link = record {
      mark = by_theorem lr (codes "swap") [] ((codes "x", codes "a") ∷ (codes "y", codes "b") ∷ []);
      term = parallel b a;
    } in
    let assumed : Link = record {
      mark = by_assumption rl (codes "same") (1 ∷ []) ((codes "x", codes "a") ∷ []) (in_right b hole);
      term = parallel b (bit_assignment (codes "a") true);
    } in
    record { first = parallel a b; links = swapped ∷ assumed ∷ [] }
