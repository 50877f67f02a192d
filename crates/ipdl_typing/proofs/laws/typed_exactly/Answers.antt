use Rattle.ipdl_typing.specs.Checks.{expression_width, reaction_width}
use Rattle.ipdl_typing.proofs.Exactly.{HasWidth-clean, GivesWidth-clean}
use Rattle.ipdl_typing.proofs.ProtocolTyping.{HasInterface-clean}
use Rattle.ipdl_typing.proofs.Typed.{expression-HasWidth, reaction-GivesWidth, interface-HasInterface}
use Rattle.ipdl_typing.proofs.laws.typed_exactly.Goals as goal

pub returns-clause-expressions : goal.returns-clause-expressions
returns-clause-expressions c = λ sig widths path e.
    (HasWidth-clean sig widths path e, λ t. (expression-HasWidth sig widths path e (expression_width sig widths e) t).0)

pub returns-clause-reactions : goal.returns-clause-reactions
returns-clause-reactions c = λ sig scope widths path r.
    (GivesWidth-clean sig scope widths path r, λ t. (reaction-GivesWidth sig scope widths path r (reaction_width sig scope widths r) t).0)

pub returns-clause-protocols : goal.returns-clause-protocols
returns-clause-protocols c = λ sig interface p.
    (HasInterface-clean sig interface p, interface-HasInterface sig interface p)
