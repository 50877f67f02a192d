-- Worked renamings, computed from the definitions.
use Rattle.std.specs.Prelude.{[], ◌∷◌, codes}
use Rattle.ipdl_term.specs.Terms.{Channel, reading, Protocol, assignment, parallel, hiding}
use Rattle.ipdl_term.specs.declared.interface.Interface.{Interface}
use Rattle.ipdl_embed.specs.Pairs.{Pairs}

abbrev pub a : Channel
a = codes "a"

abbrev pub b : Channel
b = codes "b"

abbrev pub c : Channel
c = codes "c"

abbrev pub x : Channel
x = codes "x"

abbrev pub y : Channel
y = codes "y"

-- input a, and outputs b and c
abbrev pub a_to_b_c : Interface
a_to_b_c = record {
  inputs = record { name = a; width = 1 } ∷ [];
  outputs = record { name = b; width = 1 } ∷ record { name = c; width = 2 } ∷ [];
}

-- a is called x
abbrev pub a_is_x : Pairs
a_is_x = (a, x) ∷ []

-- c is called a, as the input is
abbrev pub c_is_a : Pairs
c_is_a = (c, a) ∷ []

-- b copies a, and the hidden y copies a as well
abbrev pub copies : Protocol
copies = parallel (assignment b (reading a)) (hiding y 1 (assignment y (reading a)))

-- the same in the names x and b
abbrev pub copies_of_x : Protocol
copies_of_x = parallel (assignment b (reading x)) (hiding y 1 (assignment y (reading x)))

-- a is hidden here, so that the copy is of another channel than the free a
abbrev pub hides_a : Protocol
hides_a = hiding a 1 (parallel (assignment a (reading x)) (assignment b (reading a)))
