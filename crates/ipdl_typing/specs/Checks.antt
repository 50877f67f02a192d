-- The typing checks in their order: every check that fails, with its place and values. The first one is the answer.
use Rattle.std.specs.Prelude.{ℕ, ◌+◌, ◌==◌, nat_le, not, Bool, true, false, List, [], ◌∷◌, ◌++◌, length, Option, Some, None, is_some, slice_get, unwrap_or, if◌then◌else◌}
use Rattle.ipdl_term.specs.Terms.{Channel, Expression, literal, variable, outer, application, exclusive, conjunction, negation, concatenation, segment, equality, selection, Reaction, returning, flipping, reading, branching, binding, Protocol, nil, assignment, parallel, hiding}
use Rattle.ipdl_term.specs.Interpretations.{SymbolShape, Signature}
use Rattle.ipdl_term.specs.Channels.{same_channel, has, union, without, outputs}
use Rattle.ipdl_term.specs.Typing.{Scope, scope_with}
use Rattle.ipdl_term.specs.declared.interface.Port.{Port}
use Rattle.ipdl_term.specs.declared.interface.Interface.{Interface}

-- why a term is ill typed
pub data Cause : Type 0 where
  width : (want got : ℕ) → Cause
  unbound : (number : ℕ) → Cause
  no_symbol : (number : ℕ) → Cause
  unwritten : (name : Channel) → Cause
  not_output : (name : Channel) → Cause
  twice : (name : Channel) → Cause
  new_unwritten : (name : Channel) → Cause
  missing : (name : Channel) → Cause
  interface : (name : Channel) → Cause

-- a check that fails, at the place of this path
pub record Failure : Type 0 where
  pub path : List ℕ
  pub cause : Cause

-- the failure at a place, where the check holds or not
abbrev pub checked : Bool → List ℕ → Cause → List Failure
checked true path cause = []
checked false path cause = record { path = path; cause = cause } ∷ []

-- the place of a child
abbrev pub child : List ℕ → ℕ → List ℕ
child path n = path ++ n ∷ []

-- ---- expressions: the widths of the binders are given, that of variable 0 first

-- the width of a symbol's result, 0 where there is no symbol
abbrev pub symbol_to : Option SymbolShape → ℕ
symbol_to None = 0
symbol_to (Some s) = s.to

-- the width of a symbol's argument, 0 where there is no symbol
abbrev pub symbol_from : Option SymbolShape → ℕ
symbol_from None = 0
symbol_from (Some s) = s.from

-- the width that an expression has if all its checks hold
abbrev pub expression_width : Signature → List ℕ → Expression → ℕ
expression_width sig widths (literal bits) = length bits
expression_width sig widths (variable n) = unwrap_or (slice_get widths n) 0
expression_width sig widths (outer n) = 0
expression_width sig widths (application f e) = symbol_to (slice_get sig f)
expression_width sig widths (exclusive a b) = expression_width sig widths a
expression_width sig widths (conjunction a b) = expression_width sig widths a
expression_width sig widths (negation a) = expression_width sig widths a
expression_width sig widths (concatenation a b) = expression_width sig widths a + expression_width sig widths b
expression_width sig widths (segment i n a) = n
expression_width sig widths (equality a b) = 1
expression_width sig widths (selection c a b) = expression_width sig widths a

-- the width of an expression, a child, is the wanted one
abbrev pub has_width : Signature → List ℕ → List ℕ → Expression → ℕ → List Failure
has_width sig widths path e want =
    checked (expression_width sig widths e == want) path (width want (expression_width sig widths e))

-- the failures of an expression at a place
abbrev pub expression_failures : Signature → List ℕ → List ℕ → Expression → List Failure
expression_failures sig widths path (literal bits) = []
expression_failures sig widths path (variable n) = checked (is_some (slice_get widths n)) path (unbound n)
expression_failures sig widths path (outer n) = checked false path (unbound n)
expression_failures sig widths path (application f e) =
    checked (is_some (slice_get sig f)) path (no_symbol f)
    ++ expression_failures sig widths (child path 0) e
    ++ has_width sig widths (child path 0) e (symbol_from (slice_get sig f))
expression_failures sig widths path (exclusive a b) =
    expression_failures sig widths (child path 0) a ++ expression_failures sig widths (child path 1) b
    ++ has_width sig widths (child path 1) b (expression_width sig widths a)
expression_failures sig widths path (conjunction a b) =
    expression_failures sig widths (child path 0) a ++ expression_failures sig widths (child path 1) b
    ++ has_width sig widths (child path 1) b (expression_width sig widths a)
expression_failures sig widths path (negation a) = expression_failures sig widths (child path 0) a
expression_failures sig widths path (concatenation a b) =
    expression_failures sig widths (child path 0) a ++ expression_failures sig widths (child path 1) b
    ++ checked (nat_le (expression_width sig widths a + expression_width sig widths b) 128) path
    (width 128 (expression_width sig widths a + expression_width sig widths b))
expression_failures sig widths path (segment i n a) =
    expression_failures sig widths (child path 0) a
    ++ checked (nat_le (i + n) (expression_width sig widths a)) (child path 0) (width (i + n) (expression_width sig widths a))
expression_failures sig widths path (equality a b) =
    expression_failures sig widths (child path 0) a ++ expression_failures sig widths (child path 1) b
    ++ has_width sig widths (child path 1) b (expression_width sig widths a)
expression_failures sig widths path (selection c a b) =
    expression_failures sig widths (child path 0) c ++ has_width sig widths (child path 0) c 1
    ++ expression_failures sig widths (child path 1) a
    ++ expression_failures sig widths (child path 2) b ++ has_width sig widths (child path 2) b (expression_width sig widths a)

-- the failures of an expression at a place where this width is wanted
abbrev pub wanted_failures : Signature → List ℕ → List ℕ → Expression → ℕ → List Failure
wanted_failures sig widths path e want = expression_failures sig widths path e ++ has_width sig widths path e want

-- ---- reactions, where the channels of the scope are visible

-- the width that a reaction gives if all its checks hold
abbrev pub reaction_width : Signature → Scope → List ℕ → Reaction → ℕ
reaction_width sig scope widths (returning e) = expression_width sig widths e
reaction_width sig scope widths (flipping w) = w
reaction_width sig scope widths (reading c) = unwrap_or (scope c) 0
reaction_width sig scope widths (branching e r s) = reaction_width sig scope widths r
reaction_width sig scope widths (binding w r s) = reaction_width sig scope (w ∷ widths) s

-- the width that a reaction, a child, gives is the wanted one
abbrev pub gives_width : Signature → Scope → List ℕ → List ℕ → Reaction → ℕ → List Failure
gives_width sig scope widths path r want =
    checked (reaction_width sig scope widths r == want) path (width want (reaction_width sig scope widths r))

-- the failures of a reaction at a place
abbrev pub reaction_failures : Signature → Scope → List ℕ → List ℕ → Reaction → List Failure
reaction_failures sig scope widths path (returning e) = expression_failures sig widths (child path 0) e
reaction_failures sig scope widths path (flipping w) = checked (nat_le w 128) path (width 128 w)
reaction_failures sig scope widths path (reading c) = checked (is_some (scope c)) path (unwritten c)
reaction_failures sig scope widths path (branching e r s) =
    expression_failures sig widths (child path 0) e ++ has_width sig widths (child path 0) e 1
    ++ reaction_failures sig scope widths (child path 1) r
    ++ reaction_failures sig scope widths (child path 2) s
    ++ gives_width sig scope widths (child path 2) s (reaction_width sig scope widths r)
reaction_failures sig scope widths path (binding w r s) =
    reaction_failures sig scope widths (child path 0) r ++ gives_width sig scope widths (child path 0) r w
    ++ reaction_failures sig scope (w ∷ widths) (child path 1) s

-- ---- protocols

-- which visible channels may be written: the outputs and the hidden ones
abbrev pub Writable : Type 0
Writable = Channel → Bool

-- the hidden channel may be written besides
abbrev pub writable_with : Channel → Writable → Writable
writable_with c writable d = if same_channel c d then true else writable d

-- The failures of a protocol, the channels that were written at earlier places being given. A hidden channel is
-- another one than that of its name outside.
abbrev pub protocol_failures : Signature → Scope → Writable → List Channel → List ℕ → Protocol → List Failure
protocol_failures sig scope writable earlier path nil = []
protocol_failures sig scope writable earlier path (assignment c r) =
    checked (writable c) path (not_output c)
    ++ checked (not (has earlier c)) path (twice c)
    ++ reaction_failures sig scope [] (child path 0) r
    ++ gives_width sig scope [] (child path 0) r (unwrap_or (scope c) 0)
protocol_failures sig scope writable earlier path (parallel p q) =
    protocol_failures sig scope writable earlier (child path 0) p
    ++ protocol_failures sig scope writable (union earlier (outputs p)) (child path 1) q
protocol_failures sig scope writable earlier path (hiding c w p) =
    checked (nat_le w 128) path (width 128 w)
    ++ protocol_failures sig (scope_with c w scope) (writable_with c writable) (without c earlier) (child path 0) p
    ++ checked (has (outputs p) c) path (new_unwritten c)

-- the declared outputs that are not written, in order
abbrev pub missing_failures : List Channel → Protocol → List Failure
missing_failures [] p = []
missing_failures (c ∷ cs) p = checked (has (outputs p) c) [] (missing c) ++ missing_failures cs p

-- ---- two interfaces

-- whether a list has the port, name and width
abbrev pub has_port : List Port → Port → Bool
has_port [] p = false
has_port (q ∷ qs) p = if same_channel q.name p.name then (if q.width == p.width then true else has_port qs p) else has_port qs p

-- the ports of the first list that the second lacks, in order
abbrev pub lacking : List Port → List Port → List Failure
lacking [] qs = []
lacking (p ∷ ps) qs = checked (has_port qs p) [] (interface p.name) ++ lacking ps qs

-- the channels in which two interfaces differ: those of the left that the right lacks in the same list, inputs first, and
-- then those of the right that the left lacks
abbrev pub side_failures : Interface → Interface → List Failure
side_failures left right =
    lacking left.inputs right.inputs ++ lacking left.outputs right.outputs
    ++ lacking right.inputs left.inputs ++ lacking right.outputs left.outputs

-- ---- the first failure

-- the first of the failures, if there is one
abbrev pub first_failure : List Failure → Option Failure
first_failure [] = None
first_failure (f ∷ fs) = Some f
