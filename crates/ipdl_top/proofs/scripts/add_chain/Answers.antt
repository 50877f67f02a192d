use Rattle.std.proofs.Common.{◌+◌, ◌++◌, ◌∙◌, ap, sym, arith}
use Rattle.ipdl_script.specs.Ready.{neighbours_in}
use Rattle.ipdl_top.proofs.Checked.{checked_ready, wrong_stop, long_stop, short_refusal, neighbours_in-next, theorems_in-next, kept-next}
use Rattle.ipdl_top.proofs.scripts.add_chain.Goals as goal

pub returns-in-Err-clause-tests : goal.returns-in-Err-clause-tests
returns-in-Err-clause-tests c =
    wrong_stop c.args.book.now c.args.theorem.now c.requires.left c.requires.right _ _ c.script_stop.result
    (c.requires.has_left, c.requires.has_right)
    (c.script_stop.ensures _ (c.in-Err.ensures.scripts c.requires.left c.requires.right c.requires.has_left c.requires.has_right))

pub returns-then-len-number-clause-tests : goal.returns-then-len-number-clause-tests
returns-then-len-number-clause-tests c =
    long_stop c.args.book.now c.args.theorem.now _ c.in-Ok.chain _ _ _ c.over_at_theorem.result
    (checked_ready c.args.book.now c.args.theorem.now c.in-Ok.chain c.requires c.in-Ok.ensures.scripts c.in-Ok.ensures.name c.in-Ok.ensures.left c.in-Ok.ensures.right)
    c.in_ok-push_chain.ensures c.number-then-len-number.ensures
    (omega (arith, c.number.ensures, c.number-then-len-number.ensures, c.if-len-number.true, c.len.ensures))
    c.over_at_theorem.ensures

pub returns-clause-tests : goal.returns-clause-tests
returns-clause-tests c =
    short_refusal c.args.book.now c.args.theorem.now _ c.in-Ok.chain _ _ _
    (checked_ready c.args.book.now c.args.theorem.now c.in-Ok.chain c.requires c.in-Ok.ensures.scripts c.in-Ok.ensures.name c.in-Ok.ensures.left c.in-Ok.ensures.right)
    c.in_ok-push_chain.ensures c.number.ensures
    (omega (arith, c.if-len-number.false, c.len.ensures))

pub returns-clause-text : goal.returns-clause-text
returns-clause-text c =
    c.in_ok-push_chain.ensures
    ∙ ap (λ text. c.args.text.now.items ++ text)
    (checked_ready c.args.book.now c.args.theorem.now c.in-Ok.chain c.requires c.in-Ok.ensures.scripts c.in-Ok.ensures.name c.in-Ok.ensures.left c.in-Ok.ensures.right).text

pub returns-clause-count : goal.returns-clause-count
returns-clause-count c =
    c.neighbours-count.ensures
    ∙ (checked_ready c.args.book.now c.args.theorem.now c.in-Ok.chain c.requires c.in-Ok.ensures.scripts c.in-Ok.ensures.name c.in-Ok.ensures.left c.in-Ok.ensures.right).count

pub returns-clause-neighbours : goal.returns-clause-neighbours
returns-clause-neighbours c =
    ap neighbours_in c.in_ok-add.ensures.ok
    ∙ neighbours_in-next c.args.book.now.chains c.in-Ok.chain
    ∙ ap (λ n. neighbours_in c.args.book.now.chains + n) (sym c.neighbours-count.ensures)

pub returns-clause-theorems : goal.returns-clause-theorems
returns-clause-theorems c =
    theorems_in-next c.args.book.now c.args.theorem.now _ c.in-Ok.chain _
    (checked_ready c.args.book.now c.args.theorem.now c.in-Ok.chain c.requires c.in-Ok.ensures.scripts c.in-Ok.ensures.name c.in-Ok.ensures.left c.in-Ok.ensures.right)
    c.in_ok-add.ensures.ok

pub returns-clause-kept : goal.returns-clause-kept
returns-clause-kept c = kept-next _ c.args.book.now.chains c.in-Ok.chain _ c.requires.kept c.in-Ok.ensures.kept c.in_ok-add.ensures.ok
