-- The values at the outputs, once all that is written is known.
use Rattle.std.proofs.Common.{◌≡◌, ℕ, Bool, List, [], ◌∷◌, Option, None, map, refl, sym, ap, ap₂, ◌∙◌}
use mathlib.Core.Path.{fun_ext}
use Rattle.ipdl_laws.proofs.FlatLaws.{flat_valuation_is_nested}
use Rattle.ipdl_mean.proofs.Tables.{protocol_valuation-tables}
use Rattle.ipdl_mean.specs.Refusals.{first_abstract}
use Rattle.ipdl_mean.specs.Running.{written_in}
use Rattle.ipdl_term.specs.Interpretations.{Signature, Interpretation, Interprets}
use Rattle.ipdl_term.specs.Networks.{flat_written, network, writer_number, written_by}
use Rattle.ipdl_term.specs.Protocols.{protocol_valuation}
use Rattle.ipdl_term.specs.Terms.{Channel, Protocol, Value}
use Rattle.ipdl_term.specs.Typing.{Scope, IsTyped}
use Rattle.ipdl_term.specs.Valuations.{nothing}
use Rattle.ipdl_truth.specs.Tables.{tables_of}

module _ (sig : Signature) (scope : Scope) (p : Protocol) (typed : IsTyped sig scope p) (none : first_abstract sig p ≡ None) (tape : List Bool) (values : List (Option Value)) (all : (k : ℕ) → written_in values k ≡ flat_written (tables_of sig) (network p) tape k) (J : Interpretation) (interprets : Interprets sig J) where
  -- at one output
  value_at_output : (c : Channel) → written_by (writer_number p 0 c) (written_in values) ≡ protocol_valuation J p tape nothing c
  value_at_output c =
      ap (written_by (writer_number p 0 c)) (fun_ext all) ∙
      sym (ap (λ f. f c) (flat_valuation_is_nested (tables_of sig) tape sig scope p typed)) ∙
      sym (ap (λ f. f nothing c) (protocol_valuation-tables sig J interprets p none tape))

  -- at all outputs, in their order
  pub values_at_outputs : (cs : List Channel) → map (λ writer. written_by writer (written_in values)) (map (writer_number p 0) cs) ≡ map (protocol_valuation J p tape nothing) cs
  values_at_outputs [] = refl
  values_at_outputs (c ∷ cs) = ap₂ (λ o os. o ∷ os) (value_at_output c) (values_at_outputs cs)
