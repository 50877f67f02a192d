-- How large a term is: its nodes, its assignments, its depth in print, its binders and its variables.
use Rattle.std.specs.Prelude.{ℕ, ◌+◌, ◌-◌, ◌^◌, min, max}
use Rattle.ipdl_base.specs.Limits.{limit_number}
use Rattle.ipdl_base.specs.declared.limit.Limit.TheVariants.{Nodes}
use Rattle.ipdl_term.specs.Terms.{Expression, literal, variable, outer, application, exclusive, conjunction, negation, concatenation, segment, equality, selection, Reaction, returning, flipping, reading, branching, binding, Protocol, nil, assignment, parallel, hiding, Term, protocol_term, reaction_term, expression_term}

-- a count in 64 bits: it stands at the last one where it is larger
abbrev pub saturated : ℕ → ℕ
saturated n = min n (2 ^ 64 - 1)

-- the most nodes that a new term may have
abbrev pub most_nodes : ℕ
most_nodes = limit_number Nodes

-- ---- nodes

abbrev pub expression_nodes : Expression → ℕ
expression_nodes (literal bits) = 1
expression_nodes (variable n) = 1
expression_nodes (outer n) = 1
expression_nodes (application f e) = expression_nodes e + 1
expression_nodes (exclusive a b) = expression_nodes a + expression_nodes b + 1
expression_nodes (conjunction a b) = expression_nodes a + expression_nodes b + 1
expression_nodes (negation a) = expression_nodes a + 1
expression_nodes (concatenation a b) = expression_nodes a + expression_nodes b + 1
expression_nodes (segment i n a) = expression_nodes a + 1
expression_nodes (equality a b) = expression_nodes a + expression_nodes b + 1
expression_nodes (selection c a b) = expression_nodes c + expression_nodes a + expression_nodes b + 1

abbrev pub reaction_nodes : Reaction → ℕ
reaction_nodes (returning e) = expression_nodes e + 1
reaction_nodes (flipping w) = 1
reaction_nodes (reading c) = 1
reaction_nodes (branching e r s) = expression_nodes e + reaction_nodes r + reaction_nodes s + 1
reaction_nodes (binding w r s) = reaction_nodes r + reaction_nodes s + 1

abbrev pub protocol_nodes : Protocol → ℕ
protocol_nodes nil = 1
protocol_nodes (assignment c r) = reaction_nodes r + 1
protocol_nodes (parallel p q) = protocol_nodes p + protocol_nodes q + 1
protocol_nodes (hiding c w p) = protocol_nodes p + 1

abbrev pub term_nodes : Term → ℕ
term_nodes (protocol_term p) = protocol_nodes p
term_nodes (reaction_term r) = reaction_nodes r
term_nodes (expression_term e) = expression_nodes e

-- ---- assignments

abbrev pub channel_count : Protocol → ℕ
channel_count nil = 0
channel_count (assignment c r) = 1
channel_count (parallel p q) = channel_count p + channel_count q
channel_count (hiding c w p) = channel_count p

-- ---- the nesting of parentheses in print

abbrev pub expression_depth : Expression → ℕ
expression_depth (literal bits) = 0
expression_depth (variable n) = 0
expression_depth (outer n) = 0
expression_depth (application f e) = expression_depth e + 1
expression_depth (exclusive a b) = max (expression_depth a) (expression_depth b) + 1
expression_depth (conjunction a b) = max (expression_depth a) (expression_depth b) + 1
expression_depth (negation a) = expression_depth a + 1
expression_depth (concatenation a b) = max (expression_depth a) (expression_depth b) + 1
expression_depth (segment i n a) = expression_depth a + 1
expression_depth (equality a b) = max (expression_depth a) (expression_depth b) + 1
expression_depth (selection c a b) = max (expression_depth c) (max (expression_depth a) (expression_depth b)) + 1

abbrev pub reaction_depth : Reaction → ℕ
reaction_depth (returning e) = expression_depth e + 1
reaction_depth (flipping w) = 1
reaction_depth (reading c) = 1
reaction_depth (branching e r s) = max (expression_depth e) (max (reaction_depth r) (reaction_depth s)) + 1
reaction_depth (binding w r s) = max (reaction_depth r) (reaction_depth s) + 1

-- what a protocol stands in: a `par` or a `new` goes on where its right part or its body is another one
pub data Spine : Type 0 where
  no_spine : Spine
  par_spine : Spine
  new_spine : Spine

abbrev pub depth_in : Spine → Protocol → ℕ
depth_in spine nil = 1
depth_in spine (assignment c r) = reaction_depth r + 1
depth_in par_spine (parallel p q) = max (depth_in no_spine p) (depth_in par_spine q)
depth_in spine (parallel p q) = max (depth_in no_spine p) (depth_in par_spine q) + 1
depth_in new_spine (hiding c w p) = depth_in new_spine p
depth_in spine (hiding c w p) = max 2 (depth_in new_spine p) + 1

-- the greatest depth of a protocol in print: less than that of a source, in which the item stands around it
abbrev pub greatest_printed_depth : ℕ
greatest_printed_depth = 190

-- the depth of the printed protocol; the ports of a `new` stand in two parentheses of their own
abbrev pub printed_depth : Protocol → ℕ
printed_depth p = depth_in no_spine p

-- ---- binders and variables

-- the number of all binders
abbrev pub reaction_binders : Reaction → ℕ
reaction_binders (returning e) = 0
reaction_binders (flipping w) = 0
reaction_binders (reading c) = 0
reaction_binders (branching e r s) = reaction_binders r + reaction_binders s
reaction_binders (binding w r s) = reaction_binders r + reaction_binders s + 1

abbrev pub protocol_binders : Protocol → ℕ
protocol_binders nil = 0
protocol_binders (assignment c r) = reaction_binders r
protocol_binders (parallel p q) = protocol_binders p + protocol_binders q
protocol_binders (hiding c w p) = protocol_binders p

abbrev pub term_binders : Term → ℕ
term_binders (protocol_term p) = protocol_binders p
term_binders (reaction_term r) = reaction_binders r
term_binders (expression_term e) = 0

-- the greatest number of a variable, 0 where there is none
abbrev pub greatest_in_expression : Expression → ℕ
greatest_in_expression (literal bits) = 0
greatest_in_expression (variable n) = n
greatest_in_expression (outer n) = 0
greatest_in_expression (application f e) = greatest_in_expression e
greatest_in_expression (exclusive a b) = max (greatest_in_expression a) (greatest_in_expression b)
greatest_in_expression (conjunction a b) = max (greatest_in_expression a) (greatest_in_expression b)
greatest_in_expression (negation a) = greatest_in_expression a
greatest_in_expression (concatenation a b) = max (greatest_in_expression a) (greatest_in_expression b)
greatest_in_expression (segment i n a) = greatest_in_expression a
greatest_in_expression (equality a b) = max (greatest_in_expression a) (greatest_in_expression b)
greatest_in_expression (selection c a b) = max (greatest_in_expression c) (max (greatest_in_expression a) (greatest_in_expression b))

abbrev pub greatest_in_reaction : Reaction → ℕ
greatest_in_reaction (returning e) = greatest_in_expression e
greatest_in_reaction (flipping w) = 0
greatest_in_reaction (reading c) = 0
greatest_in_reaction (branching e r s) = max (greatest_in_expression e) (max (greatest_in_reaction r) (greatest_in_reaction s))
greatest_in_reaction (binding w r s) = max (greatest_in_reaction r) (greatest_in_reaction s)

abbrev pub greatest_in_protocol : Protocol → ℕ
greatest_in_protocol nil = 0
greatest_in_protocol (assignment c r) = greatest_in_reaction r
greatest_in_protocol (parallel p q) = max (greatest_in_protocol p) (greatest_in_protocol q)
greatest_in_protocol (hiding c w p) = greatest_in_protocol p

abbrev pub greatest_in_term : Term → ℕ
greatest_in_term (protocol_term p) = greatest_in_protocol p
greatest_in_term (reaction_term r) = greatest_in_reaction r
greatest_in_term (expression_term e) = greatest_in_expression e
