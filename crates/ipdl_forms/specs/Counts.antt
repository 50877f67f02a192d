-- The limit on the nodes of a term, counted as they are read.
use Rattle.std.specs.Prelude.{ℕ, ◌+◌, ◌≤◌, nat_le, Bool, true, List, Option, Some, None, IfSome}
use Rattle.ipdl_base.specs.declared.limit.Limit.TheVariants.{Nodes}
use Rattle.ipdl_term.specs.Sizes.{most_nodes}
use Rattle.ipdl_forms.specs.declared.fault.DocFault.{DocFault}
use Rattle.ipdl_forms.specs.Faults.{tested, over_fault}

-- A count so far, none where nothing is counted: so many nodes more.
abbrev pub counted : ℕ → Option ℕ → Option ℕ
counted more None = None
counted more (Some count) = Some (count + more)

abbrev pub is_within_nodes : Option ℕ → Bool
is_within_nodes None = true
is_within_nodes (Some count) = nat_le count most_nodes

abbrev pub IsWithinNodes : Option ℕ → Type 0
IsWithinNodes count = IfSome count (λ n. n ≤ most_nodes)

-- the tree at an offset passes the limit with this count
abbrev pub node_faults : Option ℕ → ℕ → List DocFault
node_faults count pos = tested (is_within_nodes count) (over_fault Nodes pos)
