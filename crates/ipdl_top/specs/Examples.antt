-- The worked example: two channels of constant value, exchanged.
use Rattle.std.specs.Prelude.{ℕ, Bool, true, false, List, [], ◌∷◌, codes}
use Rattle.ipdl_term.specs.declared.interface.Port.{Port}
use Rattle.ipdl_term.specs.Rules.{comm}
use Rattle.ipdl_term.specs.Steps.{plain}
use Rattle.ipdl_term.specs.Terms.{Protocol, literal, returning, assignment, parallel}
use Rattle.ipdl_tree.specs.Trees.{Located, word, number, group, no_trees}
use Rattle.ipdl_forms.specs.Documents.{Document, Entry, protocol_entry, theorem_entry}
use Rattle.ipdl_printing.specs.Printing.{headed, port_tree, protocol_tree}

-- `(out CHANNEL (ret LITERAL))`, of one bit
abbrev pub bit_assignment : List ℕ → Bool → Protocol
bit_assignment channel bit = assignment channel (returning (literal (bit ∷ [])))

abbrev pub bit_port : List ℕ → Port
bit_port name = record { name = name; width = 1 }

abbrev pub bit_protocol : List ℕ → Protocol → Entry
bit_protocol name body =
    protocol_entry name (record { inputs = []; outputs = bit_port (codes "a") ∷ bit_port (codes "b") ∷ [] }) body

-- `(par (out b (ret #1)) (out a (ret #0)))`
abbrev pub worked_body : Protocol
worked_body = parallel (bit_assignment (codes "b") true) (bit_assignment (codes "a") false)

-- `(par (out a (ret #0)) (out b (ret #1)))`
abbrev pub first_body : Protocol
first_body = parallel (bit_assignment (codes "a") false) (bit_assignment (codes "b") true)

abbrev pub worked_document : Document
worked_document = record {
  version = 1;
  symbols = [];
  entries =
      bit_protocol (codes "A") first_body ∷ bit_protocol (codes "B") worked_body
      ∷ theorem_entry (codes "t") (codes "A") (codes "B")
      (plain [] comm ∷ []) [] ∷ [];
}

-- ---- its tree

abbrev pub protocol_item_tree : List ℕ → Protocol → Located
protocol_item_tree name body =
    headed (codes "protocol")
    (word 0 name ∷ headed (codes "inputs") []
    ∷ headed (codes "outputs") (port_tree (codes "a") 1 ∷ port_tree (codes "b") 1 ∷ [])
    ∷ protocol_tree [] body ∷ [])

abbrev pub theorem_tree : Located
theorem_tree =
    headed (codes "theorem")
    (word 0 (codes "t") ∷ word 0 (codes "A") ∷ word 0 (codes "B")
    ∷ headed (codes "left") (headed (codes "comm") (group 0 no_trees ∷ []) ∷ []) ∷ headed (codes "right") [] ∷ [])

abbrev pub worked_tree : Located
worked_tree =
    headed (codes "ipdl")
    (number 0 1 ∷ protocol_item_tree (codes "A") first_body ∷ protocol_item_tree (codes "B") worked_body ∷ theorem_tree ∷ [])
