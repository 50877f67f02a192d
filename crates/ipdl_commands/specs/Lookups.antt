-- The protocols of a document that the commands take.
use Rattle.std.specs.Prelude.{ℕ, ◌≤◌, List, [], ◌∷◌}
use Rattle.ipdl_forms.specs.Documents.{Entry, symbol_entry, protocol_entry, assumption_entry, theorem_entry}
use Rattle.ipdl_forms.specs.Networks.{Network}
use Rattle.ipdl_sig.specs.declared.symbol.Symbol.{Symbol}
use Rattle.ipdl_term.specs.Sizes.{most_nodes, protocol_nodes}
use Rattle.ipdl_term.specs.Typing.{HasInterface}
use Rattle.ipdl_term.specs.Within.{IsProtocolWithin}
use Rattle.ipdl_typing.specs.Signatures.{signature_of}

-- the bodies of the protocols name symbols among so many, and each variable in them has a binder
abbrev pub HasBodiesWithin : ℕ → List Entry → Type 0
HasBodiesWithin count [] = Unit {0}
HasBodiesWithin count (symbol_entry n s ∷ entries) = HasBodiesWithin count entries
HasBodiesWithin count (protocol_entry name interface body ∷ entries) =
    IsProtocolWithin count body × HasBodiesWithin count entries
HasBodiesWithin count (assumption_entry name left right ∷ entries) = HasBodiesWithin count entries
HasBodiesWithin count (theorem_entry name left right lefts rights ∷ entries) = HasBodiesWithin count entries

-- typed at its interface, with no more nodes than are allowed
pub record IsTypedNetwork (symbols : List Symbol) (network : Network) : Type 0 where
  pub typed : HasInterface (signature_of symbols) network.interface network.body
  pub small : protocol_nodes network.body ≤ most_nodes
