-- What is answered as a right side makes an instance, and each fault is told where it is the answer.
use Rattle.std.proofs.Common.{◌≡◌, ℕ, ◌<◌, Result, Ok, Err, refl, sym, ap, ◌∙◌, inl, inr, arith}
use Rattle.std.specs.Prelude.{IfOk}
use Rattle.ipdl_rules_p.proofs.InstanceLaws.{gives_injective, answer_is_instance}
use Rattle.ipdl_rules_p.specs.Answers.{Answers, IsToldWhere}
use Rattle.ipdl_rules_p.specs.Instances.{IsProtocolInstance}
use Rattle.ipdl_rules_p.specs.Matching.{Answer, other_shape, failing, gives, answer}
use Rattle.ipdl_rules_p.specs.declared.fault.RuleFault.{RuleFault}
use Rattle.ipdl_rules_p.specs.declared.fault.RuleFault.TheVariants.{NoMatch, Side, Nodes, Memory}
use Rattle.ipdl_term.specs.Rules.{Rule}
use Rattle.ipdl_term.specs.Sizes.{most_nodes, protocol_nodes}
use Rattle.ipdl_term.specs.Terms.{Protocol}
use Rattle.ipdl_term.specs.Views.{protocol_of}
use Rattle.ipdl_term.specs.declared.protocol.Proto.{Proto}

pub answered_instance : (r : Result Proto RuleFault) (rule : Rule) (left : Protocol) → Answers r (answer rule left) → IfOk r (λ new. IsProtocolInstance rule left (protocol_of new))
answered_instance (Ok new) rule left h = answer_is_instance rule left (protocol_of new) h.given
answered_instance (Err e) rule left h = tt

pub no_match_told : (r : Result Proto RuleFault) (answer : Answer) → Answers r answer → IsToldWhere r NoMatch (answer ≡ other_shape)
no_match_told (Ok new) answer h = let given : answer ≡ gives (protocol_of new) = h.given in (λ e. cc, λ e. cc)
no_match_told (Err NoMatch) answer h = (λ e. h, λ e. inl refl)
no_match_told (Err (Side k)) answer h = (λ e. cc, λ e. cc)
no_match_told (Err Nodes) answer h = let given : answer ≡ gives h.0 = h.1 in (λ e. cc, λ e. cc)
no_match_told (Err Memory) answer h = (λ e. cc, λ e. inr refl)

pub side_told : (r : Result Proto RuleFault) (answer : Answer) → Answers r answer → (number : ℕ) → IsToldWhere r (Side number) (answer ≡ failing number)
side_told (Ok new) answer h number = let given : answer ≡ gives (protocol_of new) = h.given in (λ e. cc, λ e. cc)
side_told (Err NoMatch) answer h number = (λ e. cc, λ e. cc)
side_told (Err (Side k)) answer h number = (λ e. cc, λ e. inl cc)
side_told (Err Nodes) answer h number = let given : answer ≡ gives h.0 = h.1 in (λ e. cc, λ e. cc)
side_told (Err Memory) answer h number = (λ e. cc, λ e. inr refl)

pub nodes_told : (r : Result Proto RuleFault) (answer : Answer) → Answers r answer → IsToldWhere r Nodes ((q : Protocol) × (answer ≡ gives q) × (most_nodes < protocol_nodes q))
nodes_told (Ok new) answer h = (
  λ e. cc,
  λ k.
      let given : answer ≡ gives k.0 = k.1 in
      let same : protocol_of new ≡ k.0 = gives_injective (protocol_of new) k.0 (sym h.given ∙ given) in
      let few = h.within in
      let many = k.2 in
      absurd (omega (arith, ap protocol_nodes same)),
)
nodes_told (Err NoMatch) answer h = (λ e. cc, λ k. let given : answer ≡ gives k.0 = k.1 in cc)
nodes_told (Err (Side n)) answer h = (λ e. cc, λ k. let given : answer ≡ gives k.0 = k.1 in cc)
nodes_told (Err Nodes) answer h = (λ e. h, λ k. inl refl)
nodes_told (Err Memory) answer h = (λ e. cc, λ k. inr refl)
