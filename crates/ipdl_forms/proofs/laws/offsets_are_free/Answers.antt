use Rattle.ipdl_forms.proofs.Offsetless.{SpellsExpression-offsetless, SpellsReaction-offsetless, SpellsProtocol-offsetless}
use Rattle.ipdl_forms.proofs.OffsetlessItems.{SpellsDocument-offsetless}
use Rattle.ipdl_forms.proofs.laws.offsets_are_free.Goals as goal

pub returns-clause-expressions : goal.returns-clause-expressions
returns-clause-expressions c = SpellsExpression-offsetless

pub returns-clause-reactions : goal.returns-clause-reactions
returns-clause-reactions c = SpellsReaction-offsetless

pub returns-clause-protocols : goal.returns-clause-protocols
returns-clause-protocols c = SpellsProtocol-offsetless

pub returns-clause-documents : goal.returns-clause-documents
returns-clause-documents c = SpellsDocument-offsetless
