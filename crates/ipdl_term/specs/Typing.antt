-- Typed terms: one condition for each form.
use Rattle.std.specs.Prelude.{◌≡◌, ℕ, ◌+◌, ◌≤◌, true, List, [], ◌∷◌, ◌++◌, Option, Some, None, length, map, slice_get, if◌then◌else◌}
use Rattle.ipdl_term.specs.Terms.{Channel, Expression, literal, variable, outer, application, exclusive, conjunction, negation, concatenation, segment, equality, selection, Reaction, returning, flipping, reading, branching, binding, Protocol, nil, assignment, parallel, hiding}
use Rattle.ipdl_term.specs.Interpretations.{SymbolShape, Signature}
use Rattle.ipdl_term.specs.Channels.{same_channel, has, outputs, SameSet, AreDisjoint}
use Rattle.ipdl_term.specs.declared.interface.Port.{Port}
use Rattle.ipdl_term.specs.declared.interface.Interface.{Interface}

-- which channels are visible, with their widths
abbrev pub Scope : Type 0
Scope = Channel → Option ℕ

abbrev pub no_scope : Scope
no_scope c = None

-- the scope with a channel more, which hides an outer one of its name
abbrev pub scope_with : Channel → ℕ → Scope → Scope
scope_with c w scope = λ d. if same_channel c d then Some w else scope d

-- the expression has the width, the binders' widths being given, that of variable 0 first
abbrev pub HasWidth : Signature → List ℕ → Expression → ℕ → Type 0
HasWidth sig widths (literal bits) w = length bits ≡ w
HasWidth sig widths (variable n) w = slice_get widths n ≡ Some w
HasWidth sig widths (outer n) w = ⊥
HasWidth sig widths (application f e) w =
    (s : SymbolShape) × (slice_get sig f ≡ Some s) × HasWidth sig widths e s.from × (s.to ≡ w)
HasWidth sig widths (exclusive a b) w = HasWidth sig widths a w × HasWidth sig widths b w
HasWidth sig widths (conjunction a b) w = HasWidth sig widths a w × HasWidth sig widths b w
HasWidth sig widths (negation a) w = HasWidth sig widths a w
HasWidth sig widths (concatenation a b) w =
    (v : ℕ) × (u : ℕ) × HasWidth sig widths a v × HasWidth sig widths b u × (v + u ≡ w) × (w ≤ 128)
HasWidth sig widths (segment i n a) w = (v : ℕ) × HasWidth sig widths a v × (i + n ≤ v) × (n ≡ w)
HasWidth sig widths (equality a b) w = (v : ℕ) × HasWidth sig widths a v × HasWidth sig widths b v × (w ≡ 1)
HasWidth sig widths (selection c a b) w = HasWidth sig widths c 1 × HasWidth sig widths a w × HasWidth sig widths b w

-- the reaction gives values of the width
abbrev pub GivesWidth : Signature → Scope → List ℕ → Reaction → ℕ → Type 0
GivesWidth sig scope widths (returning e) w = HasWidth sig widths e w
GivesWidth sig scope widths (flipping n) w = (n ≡ w) × (w ≤ 128)
GivesWidth sig scope widths (reading c) w = scope c ≡ Some w
GivesWidth sig scope widths (branching e r s) w =
    HasWidth sig widths e 1 × GivesWidth sig scope widths r w × GivesWidth sig scope widths s w
GivesWidth sig scope widths (binding v r s) w = GivesWidth sig scope widths r v × GivesWidth sig scope (v ∷ widths) s w

-- the protocol is typed where the channels of the scope are visible
abbrev pub IsTyped : Signature → Scope → Protocol → Type 0
IsTyped sig scope nil = Unit {0}
IsTyped sig scope (assignment c r) = (w : ℕ) × (scope c ≡ Some w) × GivesWidth sig scope [] r w
IsTyped sig scope (parallel p q) = IsTyped sig scope p × IsTyped sig scope q × AreDisjoint (outputs p) (outputs q)
IsTyped sig scope (hiding c w p) = (w ≤ 128) × IsTyped sig (scope_with c w scope) p × (has (outputs p) c ≡ true)

-- typed, and it writes exactly these channels
pub record Typed (sig : Signature) (scope : Scope) (p : Protocol) (written : List Channel) : Type 0 where
  pub typed : IsTyped sig scope p
  pub writes : SameSet (outputs p) written

-- ---- interfaces

-- the scope of ports, of which the last one of a name counts
abbrev pub scope_of : List Port → Scope
scope_of [] = no_scope
scope_of (port ∷ ports) = λ c. later (scope_of ports c) (if same_channel port.name c then Some port.width else None)
  where
    later : Option ℕ → Option ℕ → Option ℕ
    later None w = w
    later (Some v) w = Some v

abbrev pub port_names : List Port → List Channel
port_names ports = map (λ (port : Port). port.name) ports

-- typed where all its ports are visible, and it writes exactly the outputs
abbrev pub HasInterface : Signature → Interface → Protocol → Type 0
HasInterface sig interface p = Typed sig (scope_of (interface.inputs ++ interface.outputs)) p (port_names interface.outputs)
