-- The limits that a document keeps: on its items, on the steps of a theorem, and on the nodes of each body and TERM.
use Rattle.std.specs.Prelude.{◌+◌, ◌≤◌, List, length}
use Rattle.std.specs.List.{AllByRecursion}
use Rattle.ipdl_term.specs.Sizes.{protocol_nodes, term_nodes, most_nodes}
use Rattle.ipdl_term.specs.Steps.{Step, plain, rev, invoke}
use Rattle.ipdl_forms.specs.Documents.{Entry, symbol_entry, protocol_entry, assumption_entry, theorem_entry, Document}
use Rattle.ipdl_forms.specs.Items.{most_items}
use Rattle.ipdl_forms.specs.Steps.{most_steps}

-- the TERM of a step backwards has few nodes
abbrev pub IsStepWithin : Step → Type 0
IsStepWithin (plain place rule) = Unit {0}
IsStepWithin (rev place rule term) = term_nodes term ≤ most_nodes
IsStepWithin (invoke place name direction pairs) = Unit {0}

-- both sides of a theorem have few steps together
abbrev pub AreSidesWithin : (lefts rights : List Step) → Type 0
AreSidesWithin lefts rights =
    (length lefts + length rights ≤ most_steps) × AllByRecursion IsStepWithin lefts × AllByRecursion IsStepWithin rights

abbrev pub IsEntryWithin : Entry → Type 0
IsEntryWithin (symbol_entry n s) = Unit {0}
IsEntryWithin (protocol_entry name interface body) = protocol_nodes body ≤ most_nodes
IsEntryWithin (assumption_entry name left right) = Unit {0}
IsEntryWithin (theorem_entry name left right lefts rights) = AreSidesWithin lefts rights

abbrev pub IsWithinLimits : Document → Type 0
IsWithinLimits d = (length d.entries ≤ most_items) × AllByRecursion IsEntryWithin d.entries
