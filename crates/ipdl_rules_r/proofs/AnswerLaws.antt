-- What is answered as a right side makes an instance.
use Rattle.std.proofs.Common.{Result, Ok, Err}
use Rattle.std.specs.Prelude.{IfOk}
use Rattle.ipdl_rules_r.proofs.InstanceLaws.{answer_is_instance}
use Rattle.ipdl_rules_r.specs.Answers.{Answers}
use Rattle.ipdl_rules_r.specs.Instances.{IsReactionInstance}
use Rattle.ipdl_rules_r.specs.Matching.{answer}
use Rattle.ipdl_rules_r.specs.declared.fault.RuleFault.{RuleFault}
use Rattle.ipdl_term.specs.Interpretations.{Signature}
use Rattle.ipdl_term.specs.Rules.{Rule}
use Rattle.ipdl_term.specs.Terms.{Reaction}
use Rattle.ipdl_term.specs.Views.{reaction_of}
use Rattle.ipdl_term.specs.declared.reaction.React.{React}

pub answered_instance : (r : Result React RuleFault) (sig : Signature) (rule : Rule) (left : Reaction) → Answers r (answer sig rule left) → IfOk r (λ new. IsReactionInstance sig rule left (reaction_of new))
answered_instance (Ok new) sig rule left h = answer_is_instance sig rule left (reaction_of new) h.given
answered_instance (Err e) sig rule left h = tt
