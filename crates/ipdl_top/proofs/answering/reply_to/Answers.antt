use Rattle.std.proofs.Common.{◌≡◌, sym, subst}
use Rattle.std.proofs.lemmas.Result.{IfOk-weaker}
use Rattle.ipdl_top.specs.declared.answering.Answer.{Answer}
use Rattle.ipdl_top.specs.Replies.{IsReplyTo}
use Rattle.ipdl_top.specs.Statuses.{Reply, refused}
use Rattle.ipdl_top.specs.Told.{request_of, told, answered}
use Rattle.ipdl_top.proofs.answering.reply_to.Goals as goal

pub returns-in-Err-Refused : goal.returns-in-Err-Refused
returns-in-Err-Refused c =
    let reply = rw c.in-Err-Refused.field-0-is at c.in-Err-Refused.ensures in
    IfOk-weaker c.refusing_answer.result
    (λ (a : Answer). answered a ≡ refused (told c.in-Err-Refused.refusal))
    (λ (a : Answer). IsReplyTo (request_of c.args.request.now) c.args.bytes.now (answered a))
    (λ a e. subst (λ (r : Reply). IsReplyTo (request_of c.args.request.now) c.args.bytes.now r) (sym e) reply)
    c.refusing_answer.ensures
