use Rattle.ipdl_term.proofs.RuleLemmas.{heading_named-word}
use Rattle.ipdl_term.proofs.laws.heading_of_word.Goals as goal

pub returns : goal.returns
returns c = heading_named-word
