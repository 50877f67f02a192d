-- Worked examples.
use Rattle.std.specs.Prelude.{ℕ, List, [], ◌∷◌, codes}
use Rattle.ipdl_forms.specs.Networks.{Network}
use Rattle.ipdl_term.specs.Terms.{Protocol, assignment, parallel, hiding, binding, flipping, reading, returning, negation, variable}
use Rattle.ipdl_term.specs.declared.interface.Port.{Port}

abbrev pub bit_port : List ℕ → Port
bit_port name = record { name = name; width = 1 }

-- a random bit, its opposite, and an output that waits for itself:
-- `(par (out a (flip 1)) (out b (bind x 1 (read a) (ret (not x)))) (out s (read s)))`
abbrev pub worked_body : Protocol
worked_body =
    parallel (assignment (codes "a") (flipping 1))
    (parallel (assignment (codes "b") (binding 1 (reading (codes "a")) (returning (negation (variable 0)))))
    (assignment (codes "s") (reading (codes "s"))))

abbrev pub worked_network : Network
worked_network =
    record {
      interface = record { inputs = []; outputs = bit_port (codes "a") ∷ bit_port (codes "b") ∷ bit_port (codes "s") ∷ [] };
      body = worked_body;
    }

-- hidden channels and assignments that are not in the order of their names:
-- `(new ((y 1) (x 1)) (par (out y (read x)) (out b (read y)) (out x (flip 1))))`
abbrev pub turned_body : Protocol
turned_body =
    hiding (codes "y") 1
    (hiding (codes "x") 1
    (parallel (assignment (codes "y") (reading (codes "x")))
    (parallel (assignment (codes "b") (reading (codes "y"))) (assignment (codes "x") (flipping 1)))))

abbrev pub turned_network : Network
turned_network =
    record { interface = record { inputs = []; outputs = bit_port (codes "b") ∷ [] }; body = turned_body }

-- a hidden channel that has the name of an input: `(par (out a (read c)) (new ((c 1)) (out c (flip 1))))`
abbrev pub repeating_body : Protocol
repeating_body =
    parallel (assignment (codes "a") (reading (codes "c")))
    (hiding (codes "c") 1 (assignment (codes "c") (flipping 1)))

abbrev pub repeating_network : Network
repeating_network =
    record {
      interface = record { inputs = bit_port (codes "c") ∷ []; outputs = bit_port (codes "a") ∷ [] };
      body = repeating_body;
    }
