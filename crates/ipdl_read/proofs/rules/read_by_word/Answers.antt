use Rattle.ipdl_read.proofs.rules.read_by_word.Goals as goal

pub returns-in_ok-path-in-mask-clause-spelled : goal.returns-in_ok-path-in-mask-clause-spelled
returns-in_ok-path-in-mask-clause-spelled c = c.in_ok-path-in-mask.ensures.spelled 1

pub returns-in_ok-path-in-lin-clause-spelled : goal.returns-in_ok-path-in-lin-clause-spelled
returns-in_ok-path-in-lin-clause-spelled c = c.in_ok-path-in-lin.ensures.spelled 0
