-- The visible channels at a place, the innermost one of a name counting, and the index by which the program finds them.
use Rattle.std.specs.Borrow.{Bor}
use Rattle.std.specs.HashMap.{HashMap, get_by}
use Rattle.std.specs.Prelude.{◌≡◌, ℕ, length, Bool, false, ◌||◌, List, [], ◌∷◌, map, reverse, Option, Some, None, if◌then◌else◌, bytes_eq}
use Rattle.ipdl_term.specs.Terms.{Channel}
use Rattle.ipdl_term.specs.Channels.{same_channel, without}
use Rattle.ipdl_term.specs.Typing.{Scope, no_scope, scope_with}
use Rattle.ipdl_term.specs.declared.interface.Port.{Port}
use Rattle.ipdl_typing.specs.Checks.{Writable}
use Rattle.ipdl_typing.specs.declared.visible.Visible.{Visible}

-- a visible channel: whether it may be written, and whether it was
pub record Entry : Type 0 where
  pub name : Channel
  pub width : ℕ
  pub writable : Bool
  pub written : Bool

-- what the program's record of a channel stands for
abbrev pub visible_entry : Visible → Entry
visible_entry v = record { name = v.name.now; width = v.width; writable = v.writable; written = v.written }

-- the program's stack has the innermost one last
abbrev pub entries_of : List Visible → List Entry
entries_of stack = map visible_entry (reverse stack)

-- a channel that was not written
abbrev pub unwritten_entry : Channel → ℕ → Bool → Entry
unwritten_entry c w writable = record { name = c; width = w; writable = writable; written = false }

-- ports, of which none is written
abbrev pub port_entry : Bool → Port → Entry
port_entry writable port = unwritten_entry port.name port.width writable

-- the innermost one of a name
abbrev pub innermost : List Entry → Channel → Option Entry
innermost [] c = None
innermost (e ∷ es) c = if same_channel e.name c then Some e else innermost es c

-- the widths of the visible channels
abbrev pub scope_in : List Entry → Scope
scope_in [] = no_scope
scope_in (e ∷ es) = scope_with e.name e.width (scope_in es)

-- which names may be written
abbrev pub writable_in : List Entry → Writable
writable_in [] = λ c. false
writable_in (e ∷ es) = λ c. if same_channel e.name c then e.writable else writable_in es c

-- the channels that were written
abbrev pub earlier_in : List Entry → List Channel
earlier_in [] = []
earlier_in (e ∷ es) = if e.written then (e.name ∷ earlier_in es) else without e.name (earlier_in es)

-- a set of channels, as a test, without a channel
abbrev pub apart_from : Channel → (Channel → Bool) → Channel → Bool
apart_from c test d = if same_channel c d then false else test d

-- an entry that is written besides, or not
abbrev pub marked_entry : Bool → Entry → Entry
marked_entry b e = record { name = e.name; width = e.width; writable = e.writable; written = e.written || b }

-- the channels of a set are written now, of each name the innermost one
abbrev pub marked : (Channel → Bool) → List Entry → List Entry
marked test [] = []
marked test (e ∷ es) = marked_entry (test e.name) e ∷ marked (apart_from e.name test) es

-- ---- the program's index

-- the index of the innermost one of a name, counted from the outermost channel
abbrev pub index_in : List Visible → Channel → Option ℕ
index_in [] c = None
index_in (v ∷ vs) c = if same_channel v.name.now c then Some (length vs) else index_in vs c

-- each channel knows the index of the next one of its name outside
abbrev pub AreLinked : List Visible → Type 0
AreLinked [] = Unit {0}
AreLinked (v ∷ vs) = (v.outer ≡ index_in vs v.name.now) × AreLinked vs

-- what the map has under a name
abbrev pub found_in : {S : Type 0} → HashMap (Bor (List ℕ)) ℕ S → Channel → Option ℕ
found_in index c = get_by (λ key. bytes_eq c key.now) index

-- the look-up finds the innermost channel of each name in the stack
pub record IsIndexed (stack : List Visible) (found : Channel → Option ℕ) : Type 0 where
  pub linked : AreLinked (reverse stack)
  pub finds : (c : Channel) → found c ≡ index_in (reverse stack) c
