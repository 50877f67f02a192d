-- What `run` refuses, cause by cause, and what `shape` does.
use Rattle.std.proofs.Common.{◌≡◌, ℕ, ◌<◌, ◌≤◌, Bool, true, false, List, [], Option, Some, None, refl, length, ltb}
use Rattle.std.proofs.lemmas.Bool.{lt-ltb, le-ltb, ltb-true, ltb-false}
use Rattle.ipdl_commands.specs.Lines.{IfRefused, ItemRefusal, open_input, abstract_symbol, short_tape, names_repeat, item_line}
use Rattle.ipdl_forms.specs.Networks.{Network}
use Rattle.ipdl_commands.specs.Running.{IsRunRefusal, run_refusal}
use Rattle.ipdl_commands.specs.Shapes.{IsShapeRefusal, shape_refusal}
use Rattle.ipdl_commands.specs.declared.fault.CommandFault.{CommandFault}
use Rattle.ipdl_commands.specs.declared.fault.CommandFault.TheVariants.{Refused, Memory}
use Rattle.ipdl_mean.specs.Closed.{Closed, body_of}
use Rattle.ipdl_mean.specs.Refusals.{IsOpen, IsAbstract, IsShort, first_abstract}
use Rattle.ipdl_norm.specs.Repeated.{first_repeated_name}
use Rattle.ipdl_printing.specs.Printing.{symbol_name}
use Rattle.ipdl_sig.specs.declared.symbol.Symbol.{Symbol}
use Rattle.ipdl_term.specs.Protocols.{coins}
use Rattle.ipdl_term.specs.Terms.{Channel}
use Rattle.ipdl_typing.specs.Signatures.{signature_of}

-- the line of the refusal is told
pub IfRefused-refusal : (fault : CommandFault) (symbols : List Symbol) (name : List ℕ) (tape : List Bool) (found : Option Network) (refusal : ItemRefusal) → run_refusal symbols tape found ≡ Some refusal → IfRefused fault (λ text. text ≡ item_line name refusal) → IfRefused fault (IsRunRefusal symbols name tape found)
IfRefused-refusal (Refused text) symbols name tape found refusal refused written =
    record { refusal = refusal; refused = refused; written = written }
IfRefused-refusal Memory symbols name tape found refusal refused written = tt

pub IfRefused-shape : (fault : CommandFault) (name : List ℕ) (found : Option Network) (refusal : ItemRefusal) → shape_refusal found ≡ Some refusal → IfRefused fault (λ text. text ≡ item_line name refusal) → IfRefused fault (IsShapeRefusal name found)
IfRefused-shape (Refused text) name found refusal refused written =
    record { refusal = refusal; refused = refused; written = written }
IfRefused-shape Memory name found refusal refused written = tt

-- an open input, told by its name
pub run_refusal-input : (symbols : List Symbol) (tape : List Bool) (network : Network) (channel shown : Channel) → shown ≡ channel → IsOpen network.interface channel → run_refusal symbols tape (Some network) ≡ Some (open_input shown)
run_refusal-input symbols tape network channel shown same first = rw (same, first) refl

-- no input, and an abstract symbol, told by its name
pub run_refusal-symbol : (symbols : List Symbol) (tape : List Bool) (network : Network) (f : ℕ) (shown : List ℕ) → shown ≡ symbol_name symbols f → IsAbstract (signature_of symbols) network.interface network.body f → run_refusal symbols tape (Some network) ≡ Some (abstract_symbol shown)
run_refusal-symbol symbols tape network f shown same is = rw (same, is.0, is.1) refl

-- neither, and a tape that is too short, told by both numbers
pub run_refusal-tape : (symbols : List Symbol) (tape : List Bool) (network : Network) (want got shown_want shown_got : ℕ) → network.interface.inputs ≡ [] → first_abstract (signature_of symbols) network.body ≡ None → shown_want ≡ want → shown_got ≡ got → (length tape < coins network.body) × (want ≡ coins network.body) × (got ≡ length tape) → run_refusal symbols tape (Some network) ≡ Some (short_tape shown_want shown_got)
run_refusal-tape symbols tape network want got shown_want shown_got closed tables same_want same_got short =
    rw (closed, tables, lt-ltb _ _ short.0, same_want, same_got, short.1, short.2) refl

-- neither, and a tape that is long enough
pub run_refusal-none : (symbols : List Symbol) (tape : List Bool) (network : Network) → network.interface.inputs ≡ [] → first_abstract (signature_of symbols) network.body ≡ None → coins network.body ≤ length tape → run_refusal symbols tape (Some network) ≡ None
run_refusal-none symbols tape network closed tables long = rw (closed, tables, le-ltb _ _ long) refl

-- a tape that is not told as too short is long enough
pub long_enough : (p : Closed) (tape : List Bool) → ((want got : ℕ) → IsShort p tape want got → ⊥) → coins (body_of p) ≤ length tape
long_enough p tape not_short = by (ltb (length tape) (coins (body_of p))) refl
  where
    by : (b : Bool) → ltb (length tape) (coins (body_of p)) ≡ b → coins (body_of p) ≤ length tape
    by true e = absurd (not_short (coins (body_of p)) (length tape) (ltb-true _ _ e, refl, refl))
    by false e = ltb-false _ _ e

-- a name that repeats, told by itself
pub shape_refusal-repeat : (network : Network) (channel shown : Channel) → shown ≡ channel → first_repeated_name network.body ≡ Some channel → shape_refusal (Some network) ≡ Some (names_repeat shown)
shape_refusal-repeat network channel shown same first = rw (same, first) refl
