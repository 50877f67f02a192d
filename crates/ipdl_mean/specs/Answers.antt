-- What a closed protocol writes.
use Rattle.std.specs.Prelude.{◌≡◌, Bool, List, Option, map}
use Rattle.ipdl_mean.specs.Closed.{Closed, signature_in, body_of, outputs_of}
use Rattle.ipdl_term.specs.Interpretations.{Interpretation, Interprets}
use Rattle.ipdl_term.specs.Protocols.{protocol_valuation}
use Rattle.ipdl_term.specs.Terms.{Value}
use Rattle.ipdl_term.specs.Valuations.{nothing}

-- These are the values that the protocol writes at its outputs on the tape, in the order of the outputs, whatever the
-- symbols without values stand for.
abbrev pub Solves : Closed → List Bool → List (Option Value) → Type 0
Solves p tape values =
    (J : Interpretation) → Interprets (signature_in p) J → values ≡ map (protocol_valuation J (body_of p) tape nothing) (outputs_of p)
