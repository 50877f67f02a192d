use Rattle.ipdl_forms.proofs.Clean.{expression_faults-clean}
use Rattle.ipdl_forms.proofs.CleanProtocols.{protocol_faults-clean}
use Rattle.ipdl_forms.proofs.CleanReactions.{reaction_faults-clean}
use Rattle.ipdl_forms.proofs.laws.spelled_is_clean.Goals as goal

pub returns-clause-expressions : goal.returns-clause-expressions
returns-clause-expressions c = λ scope count e t. expression_faults-clean scope e count t

pub returns-clause-reactions : goal.returns-clause-reactions
returns-clause-reactions c = λ scope count r t. reaction_faults-clean scope r count t

pub returns-clause-protocols : goal.returns-clause-protocols
returns-clause-protocols c = λ scope count p t. protocol_faults-clean scope p count t
