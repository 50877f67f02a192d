use Rattle.std.proofs.Common.{sym, ◌∙◌}
use Rattle.ipdl_top.proofs.Requests.{run_request-named}
use Rattle.ipdl_top.proofs.request.run_request.Goals as goal

pub returns-in-Err-Memory-clause-memory : goal.returns-in-Err-Memory-clause-memory
returns-in-Err-Memory-clause-memory c =
    run_request-named c.args.name.now c.args.tape.now c.args.order.now c.in-Some.order (sym c.is_tape.ensures ∙ c.if-not-is_tape.false) (sym c.order_in.ensures ∙ c.in-Some.is)
    (λ e. let bad = c.in-Err-Memory.ensures.bad.1 e in cc)
