use Rattle.ipdl_commands.proofs.Replies.{shape_some_reply, shape_one_answer, shape_one_refusal, shape_not_both}
use Rattle.ipdl_forms.specs.Networks.{network_named}
use Rattle.ipdl_commands.proofs.laws.shape_has_one_reply.Goals as goal

pub returns-clause-some : goal.returns-clause-some
returns-clause-some c = λ d name. shape_some_reply d.symbols name (network_named d.entries name)

pub returns-clause-one_answer : goal.returns-clause-one_answer
returns-clause-one_answer c = λ d name text other a b. shape_one_answer d.symbols name (network_named d.entries name) text other a b

pub returns-clause-one_refusal : goal.returns-clause-one_refusal
returns-clause-one_refusal c = λ d name line other a b. shape_one_refusal d.symbols name (network_named d.entries name) line other a b

pub returns-clause-not_both : goal.returns-clause-not_both
returns-clause-not_both c = λ d name text line a b. shape_not_both d.symbols name (network_named d.entries name) text line a b
