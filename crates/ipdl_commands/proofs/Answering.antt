-- What `run` answers.
use Rattle.std.proofs.Common.{◌≡◌, ℕ, ◌≤◌, Bool, List, [], ◌++◌, Option, Some, None, refl, subst, ◌∙◌, length}
use Rattle.ipdl_commands.proofs.Refusing.{run_refusal-none, long_enough}
use Rattle.ipdl_commands.specs.Running.{IsRunAnswer, run_text, coins_line, output_lines}
use Rattle.ipdl_forms.specs.Networks.{network_of}
use Rattle.ipdl_forms.specs.declared.document.ProtocolItem.{ProtocolItem}
use Rattle.ipdl_mean.specs.Answers.{Solves}
use Rattle.ipdl_mean.specs.Closed.{Closed, body_of}
use Rattle.ipdl_mean.specs.Refusals.{IsShort, first_abstract}
use Rattle.ipdl_sig.specs.declared.symbol.Symbol.{Symbol}
use Rattle.ipdl_term.specs.Interpretations.{Interprets}
use Rattle.ipdl_term.specs.Protocols.{coins}
use Rattle.ipdl_term.specs.Terms.{Value}
use Rattle.ipdl_term.specs.Typing.{port_names}
use Rattle.ipdl_term.specs.Views.{protocol_of}
use Rattle.ipdl_term.specs.declared.interface.Port.{Port}
use Rattle.ipdl_truth.specs.Tables.{tables_of}
use Rattle.ipdl_typing.specs.Signatures.{signature_of}

-- the values that the network of the item is solved by are those under the tables
run_text-pieces : (symbols : List Symbol) (name : List ℕ) (tape : List Bool) (item : ProtocolItem) (count : ℕ) (values : List (Option Value)) (text : List ℕ) → Interprets (signature_of symbols) (tables_of (signature_of symbols)) → Solves (record { symbols = symbols; item = item }) tape values → count ≡ coins (protocol_of item.body) → text ≡ coins_line name count ++ output_lines (port_names item.interface.outputs) values → text ≡ run_text symbols name tape (network_of item)
unfolding run_text
run_text-pieces symbols name tape item count values text interprets solves counted written =
    written ∙ rw (counted, solves (tables_of (signature_of symbols)) interprets) refl

-- the text of a network that is solved answers
pub IsRunAnswer-solved : (symbols : List Symbol) (name : List ℕ) (tape : List Bool) (item : ProtocolItem) (net : Closed) (count : ℕ) (outputs : List Port) (values shown : List (Option Value)) (text : List ℕ) → net ≡ record { symbols = symbols; item = item } → item.interface.inputs ≡ [] → first_abstract (signature_of symbols) (protocol_of item.body) ≡ None → Interprets (signature_of symbols) (tables_of (signature_of symbols)) → Solves net tape values → ((want got : ℕ) → IsShort net tape want got → ⊥) → count ≡ coins (body_of net) → outputs ≡ item.interface.outputs → shown ≡ values → text ≡ coins_line name count ++ output_lines (port_names outputs) shown → IsRunAnswer symbols name tape (Some (network_of item)) text
IsRunAnswer-solved symbols name tape item net count outputs values shown text is closed tables interprets solves not_short counted same_outputs same_values written =
    let solved : Solves (record { symbols = symbols; item = item }) tape values = subst (λ p. Solves p tape values) is solves in
    let long : coins (protocol_of item.body) ≤ length tape = subst (λ p. coins (body_of p) ≤ length tape) is (long_enough net tape not_short) in
    record {
      network = network_of item;
      there = refl;
      accepted = run_refusal-none symbols tape (network_of item) closed tables long;
      written = run_text-pieces symbols name tape item count values text interprets solved (subst (λ p. count ≡ coins (body_of p)) is counted)
          (subst (λ os. text ≡ coins_line name count ++ output_lines (port_names os) values) same_outputs
          (subst (λ vs. text ≡ coins_line name count ++ output_lines (port_names outputs) vs) same_values written));
    }
