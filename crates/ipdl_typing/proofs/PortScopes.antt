-- The channels that ports make visible.
use Rattle.std.proofs.Common.{◌≡◌, ℕ, Bool, true, false, ◌||◌, if◌then◌else◌, List, [], ◌∷◌, ◌++◌, map, reverse, Option, Some, None, refl, sym, ap, ◌∙◌, append_assoc}
use Rattle.std.specs.Prelude.{is_some}
use Rattle.std.proofs.Math.Bool.{or-false}
use Rattle.std.proofs.lemmas.Bool.{false≢true}
use Rattle.std.proofs.lemmas.List.{map-append, reverse-append, append-nil}
use mathlib.Core.Path.{fun_ext}
use Rattle.ipdl_term.specs.Terms.{Channel}
use Rattle.ipdl_term.specs.Channels.{same_channel, has, without}
use Rattle.ipdl_term.specs.Typing.{scope_of, port_names}
use Rattle.ipdl_term.specs.declared.interface.Port.{Port}
use Rattle.ipdl_typing.specs.Visible.{Entry, port_entry, scope_in, writable_in, earlier_in}
use Rattle.ipdl_typing.proofs.Index.{reverse-cons}

-- the port of an entry
abbrev pub entry_port : Entry → Port
entry_port e = record { name = e.name; width = e.width }

-- a port that was made visible is the same port
entry_port-port_entry : (writable : Bool) (ports : List Port) → map entry_port (map (port_entry writable) ports) ≡ ports
entry_port-port_entry writable [] = refl
entry_port-port_entry writable (p ∷ ports) = ap (λ l. p ∷ l) (entry_port-port_entry writable ports)

-- ---- the scope

-- a channel that is visible in the inner list is the one
scope_in-append_some : (es ds : List Entry) (c : Channel) (w : ℕ) → scope_in es c ≡ Some w → scope_in (es ++ ds) c ≡ Some w
scope_in-append_some [] ds c w some = cc
scope_in-append_some (e ∷ es) ds c w some = go (same_channel e.name c) some (scope_in-append_some es ds c w)
  where
    go : (b : Bool) → (if b then Some e.width else scope_in es c) ≡ Some w → (scope_in es c ≡ Some w → scope_in (es ++ ds) c ≡ Some w) → (if b then Some e.width else scope_in (es ++ ds) c) ≡ Some w
    go true some rest = some
    go false some rest = rest some

-- a channel that is not in the inner list is looked up in the outer one
scope_in-append_none : (es ds : List Entry) (c : Channel) → scope_in es c ≡ None → scope_in (es ++ ds) c ≡ scope_in ds c
scope_in-append_none [] ds c none = refl
scope_in-append_none (e ∷ es) ds c none = go (same_channel e.name c) none (scope_in-append_none es ds c)
  where
    go : (b : Bool) → (if b then Some e.width else scope_in es c) ≡ None → (scope_in es c ≡ None → scope_in (es ++ ds) c ≡ scope_in ds c) → (if b then Some e.width else scope_in (es ++ ds) c) ≡ scope_in ds c
    go true none rest = cc
    go false none rest = rest none

-- the last port of a name counts, as the innermost channel does
scope_in-ports : (es : List Entry) (c : Channel) → scope_in (reverse es) c ≡ scope_of (map entry_port es) c
scope_in-ports [] c = refl
scope_in-ports (e ∷ es) c =
    ap (λ l. scope_in l c) (reverse-cons e es) ∙ go (scope_in (reverse es) c) refl (scope_in-ports es c)
  where
    go : (o : Option ℕ) → scope_in (reverse es) c ≡ o → scope_in (reverse es) c ≡ scope_of (map entry_port es) c → scope_in (reverse es ++ e ∷ []) c ≡ scope_of (entry_port e ∷ map entry_port es) c
    go (Some w) is rest =
        let there : scope_of (map entry_port es) c ≡ Some w = sym rest ∙ is in
        scope_in-append_some (reverse es) (e ∷ []) c w is ∙ rw there refl
    go None is rest =
        let there : scope_of (map entry_port es) c ≡ None = sym rest ∙ is in
        scope_in-append_none (reverse es) (e ∷ []) c is ∙ rw there refl

-- of ports that are made visible
pub scope_in-pushed : (es : List Entry) (ports : List Port) → es ≡ reverse (map (port_entry false) ports) → scope_in es ≡ scope_of ports
scope_in-pushed es ports pushed =
    ap scope_in pushed
    ∙ fun_ext (scope_in-ports (map (port_entry false) ports))
    ∙ ap scope_of (entry_port-port_entry false ports)

-- the ports of an interface, the outputs inside of the inputs
abbrev pub interface_entries : List Port → List Port → List Entry
interface_entries inputs outputs =
    reverse (map (port_entry true) outputs) ++ (reverse (map (port_entry false) inputs) ++ [])

-- of inputs and then outputs
pub scope_in-interface : (inputs outputs : List Port) → scope_in (interface_entries inputs outputs) ≡ scope_of (inputs ++ outputs)
scope_in-interface inputs outputs =
    ap (λ l. scope_in (reverse (map (port_entry true) outputs) ++ l)) (append-nil (reverse (map (port_entry false) inputs)))
    ∙ ap scope_in (sym (reverse-append (map (port_entry false) inputs) (map (port_entry true) outputs)))
    ∙ fun_ext (scope_in-ports (map (port_entry false) inputs ++ map (port_entry true) outputs))
    ∙ ap scope_of (map-append entry_port (map (port_entry false) inputs) (map (port_entry true) outputs) ∙ ap (λ l. l ++ map entry_port (map (port_entry true) outputs)) (entry_port-port_entry false inputs) ∙ ap (λ l. inputs ++ l) (entry_port-port_entry true outputs))

-- ---- what may be written, and what was

-- outputs may be written
pub writable_in-outputs : (ports : List Port) (es : List Entry) (c : Channel) → writable_in (reverse (map (port_entry true) ports) ++ es) c ≡ (has (port_names ports) c || writable_in es c)
writable_in-outputs [] es c = refl
writable_in-outputs (p ∷ ports) es c =
    let e : Entry = port_entry true p in
    ap (λ l. writable_in (l ++ es) c) (reverse-cons e (map (port_entry true) ports))
    ∙ ap (λ l. writable_in l c) (append_assoc (reverse (map (port_entry true) ports)) (e ∷ []) es)
    ∙ writable_in-outputs ports (e ∷ es) c
    ∙ go (same_channel p.name c) (has (port_names ports) c) (writable_in es c)
  where
    go : (a b d : Bool) → (b || (if a then true else d)) ≡ ((a || b) || d)
    go true true d = refl
    go true false d = refl
    go false b d = refl

-- inputs may not be written
pub writable_in-inputs : (ports : List Port) (es : List Entry) (c : Channel) → writable_in es c ≡ false → writable_in (reverse (map (port_entry false) ports) ++ es) c ≡ false
writable_in-inputs [] es c none = none
writable_in-inputs (p ∷ ports) es c none =
    let e : Entry = port_entry false p in
    ap (λ l. writable_in (l ++ es) c) (reverse-cons e (map (port_entry false) ports))
    ∙ ap (λ l. writable_in l c) (append_assoc (reverse (map (port_entry false) ports)) (e ∷ []) es)
    ∙ writable_in-inputs ports (e ∷ es) c (go (same_channel p.name c))
  where
    go : (a : Bool) → (if a then false else writable_in es c) ≡ false
    go true = refl
    go false = none

-- no port is written at first
pub earlier_in-ports : (writable : Bool) (ports : List Port) (es : List Entry) → earlier_in es ≡ [] → earlier_in (reverse (map (port_entry writable) ports) ++ es) ≡ []
earlier_in-ports writable [] es none = none
earlier_in-ports writable (p ∷ ports) es none =
    let e : Entry = port_entry writable p in
    ap (λ l. earlier_in (l ++ es)) (reverse-cons e (map (port_entry writable) ports))
    ∙ ap earlier_in (append_assoc (reverse (map (port_entry writable) ports)) (e ∷ []) es)
    ∙ earlier_in-ports writable ports (e ∷ es) (ap (without p.name) none)

-- ---- the ports of an interface

-- the outputs may be written
pub writable_in-interface : (inputs outputs : List Port) → writable_in (interface_entries inputs outputs) ≡ has (port_names outputs)
writable_in-interface inputs outputs = fun_ext (λ c.
    writable_in-outputs outputs (reverse (map (port_entry false) inputs) ++ []) c
    ∙ ap (λ b. has (port_names outputs) c || b) (writable_in-inputs inputs [] c refl)
    ∙ or-false (has (port_names outputs) c))

-- no port is written at first
pub earlier_in-interface : (inputs outputs : List Port) → earlier_in (interface_entries inputs outputs) ≡ []
earlier_in-interface inputs outputs =
    earlier_in-ports true outputs (reverse (map (port_entry false) inputs) ++ []) (earlier_in-ports false inputs [] refl)

-- ---- an output is visible

-- a channel of the later ports is visible with a port more
scope_of-later : (p : Port) (ports : List Port) (c : Channel) → is_some (scope_of ports c) ≡ true → is_some (scope_of (p ∷ ports) c) ≡ true
scope_of-later p ports c there = go (scope_of ports c) refl there
  where
    go : (o : Option ℕ) → scope_of ports c ≡ o → is_some o ≡ true → is_some (scope_of (p ∷ ports) c) ≡ true
    go None is there = absurd (false≢true there)
    go (Some w) is there = rw is refl

-- a port is visible
pub scope_of-named : (ports : List Port) (c : Channel) → has (port_names ports) c ≡ true → is_some (scope_of ports c) ≡ true
scope_of-named [] c named = absurd (false≢true named)
scope_of-named (p ∷ ports) c named = go (scope_of ports c) refl (same_channel p.name c) refl named (scope_of-named ports c)
  where
    go : (o : Option ℕ) → scope_of ports c ≡ o → (b : Bool) → same_channel p.name c ≡ b → (b || has (port_names ports) c) ≡ true → (has (port_names ports) c ≡ true → is_some (scope_of ports c) ≡ true) → is_some (scope_of (p ∷ ports) c) ≡ true
    go (Some w) is b same named rest = rw is refl
    go None is true same named rest = rw (is, same) refl
    go None is false same named rest = absurd (false≢true (sym (ap is_some is) ∙ rest named))

-- an output is visible behind the inputs
pub scope_of-outputs : (inputs outputs : List Port) (c : Channel) → has (port_names outputs) c ≡ true → is_some (scope_of (inputs ++ outputs) c) ≡ true
scope_of-outputs [] outputs c named = scope_of-named outputs c named
scope_of-outputs (p ∷ inputs) outputs c named =
    scope_of-later p (inputs ++ outputs) c (scope_of-outputs inputs outputs c named)
