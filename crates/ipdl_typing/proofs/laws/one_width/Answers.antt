use Rattle.std.proofs.Common.{[], sym, ◌∙◌}
use Rattle.ipdl_typing.proofs.Typed.{expression-HasWidth, reaction-GivesWidth}
use Rattle.ipdl_typing.proofs.laws.one_width.Goals as goal

pub returns-clause-expressions : goal.returns-clause-expressions
returns-clause-expressions c = λ sig widths e v w first second.
    sym (expression-HasWidth sig widths [] e v first).1 ∙ (expression-HasWidth sig widths [] e w second).1

pub returns-clause-reactions : goal.returns-clause-reactions
returns-clause-reactions c = λ sig scope widths r v w first second.
    sym (reaction-GivesWidth sig scope widths [] r v first).1 ∙ (reaction-GivesWidth sig scope widths [] r w second).1
