-- The trees that terms are printed as. What is printed is the tree's one spelling.
use Rattle.std.specs.Prelude.{ℕ, ◌+◌, ◌-◌, List, [], ◌∷◌, ◌++◌, codes, Option, Some, None, slice_get}
use Rattle.std.specs.Fmt.{decimal}
use Rattle.ipdl_sig.specs.declared.symbol.Symbol.{Symbol}
use Rattle.ipdl_sig.specs.Symbols.{names_of}
use Rattle.ipdl_tree.specs.Trees.{Located, word, number, group}
use Rattle.ipdl_tree.specs.Trees as Trees
use Rattle.ipdl_tree.specs.Views.{forest}
use Rattle.ipdl_term.specs.Terms.{Channel, Expression, literal, variable, outer, application, exclusive, conjunction, negation, concatenation, segment, equality, selection, Reaction, returning, flipping, reading, branching, binding, Protocol, nil, assignment, parallel, hiding, Context, hole, in_left, in_right, in_hiding}

-- a list with a word in front
abbrev pub headed : List ℕ → List Located → Located
headed head parts = group 0 (forest (word 0 head ∷ parts))

-- the name of the binder at a depth, counted from the outermost one
abbrev pub binder_name : ℕ → List ℕ
binder_name depth = codes "x" ++ decimal depth

abbrev pub name_or_nothing : Option (List ℕ) → List ℕ
name_or_nothing None = []
name_or_nothing (Some name) = name

-- the name of the symbol of a number
abbrev pub symbol_name : List Symbol → ℕ → List ℕ
symbol_name symbols f = name_or_nothing (slice_get (names_of symbols) f)

-- ---- expressions and reactions, under so many binders

abbrev pub expression_tree : List Symbol → ℕ → Expression → Located
expression_tree symbols depth (literal bits) = Trees.literal 0 bits
expression_tree symbols depth (variable n) = word 0 (binder_name (depth - 1 - n))
expression_tree symbols depth (outer n) = word 0 (binder_name n)
expression_tree symbols depth (application f e) = headed (symbol_name symbols f) (expression_tree symbols depth e ∷ [])
expression_tree symbols depth (exclusive a b) =
    headed (codes "xor") (expression_tree symbols depth a ∷ expression_tree symbols depth b ∷ [])
expression_tree symbols depth (conjunction a b) =
    headed (codes "and") (expression_tree symbols depth a ∷ expression_tree symbols depth b ∷ [])
expression_tree symbols depth (negation a) = headed (codes "not") (expression_tree symbols depth a ∷ [])
expression_tree symbols depth (concatenation a b) =
    headed (codes "cat") (expression_tree symbols depth a ∷ expression_tree symbols depth b ∷ [])
expression_tree symbols depth (segment i n a) =
    headed (codes "cut") (number 0 i ∷ number 0 n ∷ expression_tree symbols depth a ∷ [])
expression_tree symbols depth (equality a b) =
    headed (codes "eq") (expression_tree symbols depth a ∷ expression_tree symbols depth b ∷ [])
expression_tree symbols depth (selection c a b) =
    headed (codes "mux")
    (expression_tree symbols depth c ∷ expression_tree symbols depth a ∷ expression_tree symbols depth b ∷ [])

abbrev pub reaction_tree : List Symbol → ℕ → Reaction → Located
reaction_tree symbols depth (returning e) = headed (codes "ret") (expression_tree symbols depth e ∷ [])
reaction_tree symbols depth (flipping w) = headed (codes "flip") (number 0 w ∷ [])
reaction_tree symbols depth (reading c) = headed (codes "read") (word 0 c ∷ [])
reaction_tree symbols depth (branching e r s) =
    headed (codes "if")
    (expression_tree symbols depth e ∷ reaction_tree symbols depth r ∷ reaction_tree symbols depth s ∷ [])
reaction_tree symbols depth (binding w r s) =
    headed (codes "bind")
    (word 0 (binder_name depth) ∷ number 0 w ∷ reaction_tree symbols depth r ∷ reaction_tree symbols (depth + 1) s ∷ [])

-- ---- protocols and contexts: parts along the right side of a `par`, and ports of one `new` within another, are
-- gathered

-- what a protocol is printed as: alone; as the last parts of a `par`; and as its outer ports and what stands in them
pub record Printed : Type 0 where
  pub whole : Located
  pub parts : List Located
  pub ports : List Located
  pub body : Located

-- what is no `par` and no `new`
abbrev pub alone : Located → Printed
alone t = record { whole = t; parts = t ∷ []; ports = []; body = t }

abbrev pub beside : Printed → Printed → Printed
beside left right =
    let parts = left.whole ∷ right.parts in
    record { whole = headed (codes "par") parts; parts = parts; ports = []; body = headed (codes "par") parts }

abbrev pub port_tree : Channel → ℕ → Located
port_tree c w = group 0 (forest (word 0 c ∷ number 0 w ∷ []))

abbrev pub under : Channel → ℕ → Printed → Printed
under c w inner =
    let ports = port_tree c w ∷ inner.ports in
    let whole = headed (codes "new") (group 0 (forest ports) ∷ inner.body ∷ []) in
    record { whole = whole; parts = whole ∷ []; ports = ports; body = inner.body }

abbrev pub printed_protocol : List Symbol → Protocol → Printed
printed_protocol symbols nil = alone (headed (codes "nil") [])
printed_protocol symbols (assignment c r) = alone (headed (codes "out") (word 0 c ∷ reaction_tree symbols 0 r ∷ []))
printed_protocol symbols (parallel p q) = beside (printed_protocol symbols p) (printed_protocol symbols q)
printed_protocol symbols (hiding c w p) = under c w (printed_protocol symbols p)

abbrev pub printed_context : List Symbol → Context → Printed
printed_context symbols hole = alone (headed (codes "hole") [])
printed_context symbols (in_left rest q) = beside (printed_context symbols rest) (printed_protocol symbols q)
printed_context symbols (in_right p rest) = beside (printed_protocol symbols p) (printed_context symbols rest)
printed_context symbols (in_hiding c w rest) = under c w (printed_context symbols rest)

abbrev pub protocol_tree : List Symbol → Protocol → Located
protocol_tree symbols p = (printed_protocol symbols p).whole

abbrev pub context_tree : List Symbol → Context → Located
context_tree symbols rest = (printed_context symbols rest).whole
