-- What a context makes of a protocol.
use Rattle.std.proofs.Common.{◌≡◌, List, refl, ap}
use Rattle.ipdl_term.specs.Channels.{SameSet, outputs}
use Rattle.ipdl_term.specs.Contexts.{plugged, nested, context_outputs}
use Rattle.ipdl_term.specs.Protocols.{written}
use Rattle.ipdl_term.specs.Terms.{Channel, Protocol, parallel, hiding, Context, hole, in_left, in_right, in_hiding}
use Rattle.ipdl_laws.proofs.Sets.{union_same_left, union_same_right, without_same}

-- a context in the hole of another
pub plugged-nested : (C E : Context) (p : Protocol) → plugged (nested C E) p ≡ plugged C (plugged E p)
plugged-nested hole E p = refl
plugged-nested (in_left C q) E p = ap (λ x. parallel x q) (plugged-nested C E p)
plugged-nested (in_right q C) E p = ap (λ x. parallel q x) (plugged-nested C E p)
plugged-nested (in_hiding c w C) E p = ap (hiding c w) (plugged-nested C E p)

-- a context writes what it would write of another list of the same channels
pub outputs-plugged : (C : Context) (p : Protocol) (written : List Channel) → SameSet (outputs p) written → SameSet (outputs (plugged C p)) (context_outputs C written)
outputs-plugged hole p written h = h
outputs-plugged (in_left C q) p written h = union_same_left _ _ (outputs q) (outputs-plugged C p written h)
outputs-plugged (in_right q C) p written h = union_same_right (outputs q) _ _ (outputs-plugged C p written h)
outputs-plugged (in_hiding c w C) p written h = without_same c _ _ (outputs-plugged C p written h)
