use Rattle.ipdl_term.proofs.RuleLemmas.{same_rule}
use Rattle.ipdl_term.proofs.laws.rule_of_word_and_arguments.Goals as goal

pub returns : goal.returns
returns c = same_rule
