-- Where no abstract symbol occurs a protocol writes the same under every interpretation.
use Rattle.std.proofs.Common.{◌≡◌, Bool, List, ◌∷◌, ◌++◌, None, take, drop, refl, ap, ap₂, ◌∙◌}
use Rattle.std.specs.Prelude.{find, Some}
use mathlib.Core.Path.{fun_ext}
use Rattle.ipdl_mean.specs.Refusals.{symbols_in_reaction, symbols_in_protocol, first_abstract}
use Rattle.ipdl_term.specs.Channels.{outputs}
use Rattle.ipdl_term.specs.Interpretations.{Signature, Interpretation, Interprets, chosen, evaluation}
use Rattle.ipdl_term.specs.Protocols.{coins, protocol_valuation, round, solution, written}
use Rattle.ipdl_term.specs.Reactions.{continued, reaction_outcome}
use Rattle.ipdl_term.specs.Terms.{Value, Reaction, returning, flipping, reading, branching, binding, Protocol, nil, assignment, parallel, hiding}
use Rattle.ipdl_term.specs.Valuations.{Valuation, all_taken_out, taken_out}
use Rattle.ipdl_truth.proofs.Interpretations.{evaluation-tables, none_both}
use Rattle.ipdl_truth.specs.Abstract.{is_abstract, symbols_in}
use Rattle.ipdl_truth.specs.Tables.{tables_of}

module _ (sig : Signature) (J : Interpretation) (interprets : Interprets sig J) where
  abbrev T : Interpretation
  T = tables_of sig

  reaction_outcome-tables : (r : Reaction) → find (is_abstract sig) (symbols_in_reaction r) ≡ None → (env : List Value) (inputs : Valuation) (tape : List Bool) → reaction_outcome J r env inputs tape ≡ reaction_outcome T r env inputs tape
  reaction_outcome-tables (returning e) none env inputs tape = ap (λ v. Some (v, tape)) (evaluation-tables sig J env e interprets none)
  reaction_outcome-tables (flipping w) none env inputs tape = refl
  reaction_outcome-tables (reading c) none env inputs tape = refl
  reaction_outcome-tables (branching e r s) none env inputs tape =
      let parts = none_both (is_abstract sig) (symbols_in e) (symbols_in_reaction r ++ symbols_in_reaction s) none in
      let arms = none_both (is_abstract sig) (symbols_in_reaction r) (symbols_in_reaction s) parts.1 in
      let second = reaction_outcome-tables s arms.1 env inputs tape in
      ap (λ v. chosen v (reaction_outcome J r env inputs tape) (reaction_outcome J s env inputs tape) (reaction_outcome J s env inputs tape)) (evaluation-tables sig J env e interprets parts.0) ∙
      ap₂ (λ x y. chosen (evaluation T env e) x y y) (reaction_outcome-tables r arms.0 env inputs tape) second
  reaction_outcome-tables (binding w r s) none env inputs tape =
      let parts = none_both (is_abstract sig) (symbols_in_reaction r) (symbols_in_reaction s) none in
      let next : (λ (v : Value) (rest : List Bool). reaction_outcome J s (v ∷ env) inputs rest) ≡ (λ v rest. reaction_outcome T s (v ∷ env) inputs rest) = fun_ext (λ v. fun_ext (λ rest. reaction_outcome-tables s parts.1 (v ∷ env) inputs rest)) in
      ap₂ continued (reaction_outcome-tables r parts.0 env inputs tape) next

  pub protocol_valuation-tables : (p : Protocol) → first_abstract sig p ≡ None → (tape : List Bool) → protocol_valuation J p tape ≡ protocol_valuation T p tape
  protocol_valuation-tables nil none tape = refl
  protocol_valuation-tables (assignment c r) none tape =
      fun_ext (λ inputs. ap (written c) (reaction_outcome-tables r none _ (all_taken_out (outputs (assignment c r)) inputs) tape))
  protocol_valuation-tables (parallel p q) none tape =
      let parts = none_both (is_abstract sig) (symbols_in_protocol p) (symbols_in_protocol q) none in
      fun_ext (λ inputs. ap₂ (λ f g. solution (outputs (parallel p q)) (round (outputs p) (outputs q) f g (all_taken_out (outputs (parallel p q)) inputs)))
      (protocol_valuation-tables p parts.0 (take (coins p) tape))
      (protocol_valuation-tables q parts.1 (drop (coins p) tape)))
  protocol_valuation-tables (hiding c w p) none tape =
      fun_ext (λ inputs. ap (λ f. taken_out c (f (taken_out c (all_taken_out (outputs (hiding c w p)) inputs)))) (protocol_valuation-tables p none tape))
