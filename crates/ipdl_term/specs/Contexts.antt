-- Contexts: what they make of a protocol, and which of them close an interface.
use Rattle.std.specs.Prelude.{◌≡◌, ℕ, ◌≤◌, true, List, Some, is_some}
use Rattle.ipdl_term.specs.Terms.{Channel, Protocol, parallel, hiding, Context, hole, in_left, in_right, in_hiding}
use Rattle.ipdl_term.specs.Interpretations.{Signature}
use Rattle.ipdl_term.specs.Channels.{has, union, without, outputs, AreDisjoint}
use Rattle.ipdl_term.specs.Typing.{Scope, scope_with, IsTyped}

-- the protocol in the hole of the context
abbrev pub plugged : Context → Protocol → Protocol
plugged hole p = p
plugged (in_left C q) p = parallel (plugged C p) q
plugged (in_right q C) p = parallel q (plugged C p)
plugged (in_hiding c w C) p = hiding c w (plugged C p)

-- the inner context in the hole of the outer one
abbrev pub nested : Context → Context → Context
nested hole E = E
nested (in_left C q) E = in_left (nested C E) q
nested (in_right q C) E = in_right q (nested C E)
nested (in_hiding c w C) E = in_hiding c w (nested C E)

-- what a context writes whose hole writes these channels
abbrev pub context_outputs : Context → List Channel → List Channel
context_outputs hole written = written
context_outputs (in_left C q) written = union (context_outputs C written) (outputs q)
context_outputs (in_right q C) written = union (outputs q) (context_outputs C written)
context_outputs (in_hiding c w C) written = without c (context_outputs C written)

-- each channel of the first scope has its width in the second
abbrev pub IsVisibleIn : Scope → Scope → Type 0
IsVisibleIn inner scope = (c : Channel) (w : ℕ) → inner c ≡ Some w → scope c ≡ Some w

-- the context is typed in a scope, where its hole needs the channels of the inner scope and writes these channels
abbrev pub IsTypedContext : Signature → Scope → List Channel → Scope → Context → Type 0
IsTypedContext sig inner written scope hole = IsVisibleIn inner scope
IsTypedContext sig inner written scope (in_left C q) =
    IsTypedContext sig inner written scope C × IsTyped sig scope q × AreDisjoint (context_outputs C written) (outputs q)
IsTypedContext sig inner written scope (in_right q C) =
    IsTyped sig scope q × IsTypedContext sig inner written scope C × AreDisjoint (outputs q) (context_outputs C written)
IsTypedContext sig inner written scope (in_hiding c w C) =
    (w ≤ 128) × IsTypedContext sig inner written (scope_with c w scope) C × (has (context_outputs C written) c ≡ true)

-- typed in a scope whose channels are exactly those that it writes: nothing that is read is left open
abbrev pub Closes : Signature → Scope → List Channel → Context → Type 0
Closes sig inner written C =
    (scope : Scope) × IsTypedContext sig inner written scope C × ((c : Channel) → is_some (scope c) ≡ has (context_outputs C written) c)
