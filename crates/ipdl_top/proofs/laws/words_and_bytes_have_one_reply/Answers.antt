use Rattle.ipdl_top.proofs.Replies.{one_reply}
use Rattle.ipdl_top.proofs.SomeReply.{some_reply}
use Rattle.ipdl_top.proofs.laws.words_and_bytes_have_one_reply.Goals as goal

pub returns-clause-some : goal.returns-clause-some
returns-clause-some c = some_reply

pub returns-clause-one : goal.returns-clause-one
returns-clause-one c = one_reply
