use Rattle.ipdl_top.specs.Scripts.{judged_by_script}
use Rattle.ipdl_top.proofs.Firsts.{first_refused, none_refused}
use Rattle.ipdl_top.proofs.laws.the_first_theorem_is_refused.Goals as goal

pub returns-clause-refused : goal.returns-clause-refused
returns-clause-refused c = λ d r. first_refused (judged_by_script d) d.entries r

pub returns-clause-none : goal.returns-clause-none
returns-clause-none c = λ d. none_refused (judged_by_script d) d.entries
