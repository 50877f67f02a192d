-- The assumption of a name among the items of a document, and the theorem of a name among those that were proved.
use Rattle.std.specs.Prelude.{ℕ, List, [], ◌∷◌, bytes_eq, Option, Some, None, if◌then◌else◌}
use Rattle.ipdl_chain.specs.declared.chain.Chain.{Chain as HeldChain}
use Rattle.ipdl_forms.specs.declared.document.AssumeItem.{AssumeItem}
use Rattle.ipdl_forms.specs.declared.document.Item.{Item}
use Rattle.ipdl_forms.specs.declared.document.Item.TheVariants as I

-- the first assumption of the name
abbrev pub assumption_named : List Item → List ℕ → Option AssumeItem
assumption_named [] name = None
assumption_named (I.Symbol n ∷ items) name = assumption_named items name
assumption_named (I.Protocol p ∷ items) name = assumption_named items name
assumption_named (I.Assumption a ∷ items) name = if bytes_eq a.name name then Some a else assumption_named items name
assumption_named (I.Theorem t ∷ items) name = assumption_named items name

-- the first chain of a theorem of the name
abbrev pub chain_named : List HeldChain → List ℕ → Option HeldChain
chain_named [] name = None
chain_named (chain ∷ chains) name = if bytes_eq chain.name name then Some chain else chain_named chains name
