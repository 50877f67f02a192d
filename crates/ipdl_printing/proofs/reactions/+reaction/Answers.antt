use Rattle.std.proofs.Common.{◌≡◌, ◌+◌, rules}
use Rattle.std.specs.Prelude.{codes}
use Rattle.ipdl_printing.proofs.Forms.{form, and_more}
use Rattle.ipdl_printing.proofs.Words.{is_name-ret, is_name-flip, is_name-read, is_name-if, is_name-bind}
use Rattle.ipdl_printing.proofs.reactions.+reaction.Goals as goal

pub push_react-returns-in_ok-push-in-Ret : goal.push_react-returns-in_ok-push-in-Ret
push_react-returns-in_ok-push-in-Ret t c =
    rw c.in-Ret.is (form _ _ _ _ (codes "ret") _ is_name-ret c.in_ok-extend_from_slice-in-Ret.ensures.items c.in_ok-push_expr_part-in-Ret.ensures c.in_ok-push-in-Ret.ensures.items)

pub push_react-returns-in_ok-push-in-Flip : goal.push_react-returns-in_ok-push-in-Flip
push_react-returns-in_ok-push-in-Flip t c =
    rw (c.in-Flip.is, ← c.from.ensures) (form _ _ _ _ (codes "flip") _ is_name-flip c.in_ok-extend_from_slice-in-Flip.ensures.items c.in_ok-push_number_part-in-Flip.ensures c.in_ok-push-in-Flip.ensures.items)

pub push_react-returns-in_ok-push-in-Read : goal.push_react-returns-in_ok-push-in-Read
push_react-returns-in_ok-push-in-Read t c =
    rw c.in-Read.is (form _ _ _ _ (codes "read") _ is_name-read c.in_ok-extend_from_slice-in-Read.ensures.items c.in_ok-push_name_part-in-Read.ensures c.in_ok-push-in-Read.ensures.items)

pub push_react-returns-in_ok-push-in-Cond : goal.push_react-returns-in_ok-push-in-Cond
push_react-returns-in_ok-push-in-Cond t c =
    rw (c.in-Cond.is, ← c.deref.ensures, ← c.deref-in-Cond.ensures) (form _ _ _ _ (codes "if") _ is_name-if c.in_ok-extend_from_slice-in-Cond.ensures.items (and_more _ _ _ _ _ (and_more _ _ _ _ _ c.in_ok-push_expr_part-in-Cond.ensures c.in_ok-push_react_part-in-Cond.ensures) (c.in_ok-push_react_part-in-Cond-2.ensures)) c.in_ok-push-in-Cond.ensures.items)

pub push_react-returns-in_ok-push-in-Bind : goal.push_react-returns-in_ok-push-in-Bind
push_react-returns-in_ok-push-in-Bind t c =
    let next : c.in-Some.under ≡ c.args.depth + 1 = search rules in
    rw (c.in-Bind.is, ← c.deref-in-Bind.ensures, ← c.deref-in-Bind-2.ensures, ← next) (form _ _ _ _ (codes "bind") _ is_name-bind c.in_ok-extend_from_slice-in-Bind.ensures.items (and_more _ _ _ _ _ (and_more _ _ _ _ _ c.in_ok-push_binder_parts-in-Bind.ensures c.in_ok-push_react_part-in-Bind.ensures) (c.in_ok-push_react_part-in-Bind-2.ensures)) c.in_ok-push-in-Bind.ensures.items)
