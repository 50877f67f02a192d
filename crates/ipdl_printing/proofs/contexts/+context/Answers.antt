use Rattle.std.specs.Prelude.{codes}
use Rattle.ipdl_printing.proofs.Forms.{form_from_tree}
use Rattle.ipdl_printing.proofs.Words.{is_name-hole, is_name-par, is_name-new}
use Rattle.ipdl_printing.proofs.contexts.+context.Goals as goal

pub push_ctx-returns-in_ok-extend_from_slice-in-Hole : goal.push_ctx-returns-in_ok-extend_from_slice-in-Hole
push_ctx-returns-in_ok-extend_from_slice-in-Hole t c =
    rw c.in-Hole.is (record { text = c.in_ok-extend_from_slice-in-Hole.ensures.items; formed = (is_name-hole, tt) })

pub push_ctx-returns-in_ok-push-in-Left : goal.push_ctx-returns-in_ok-push-in-Left
push_ctx-returns-in_ok-push-in-Left t c =
    rw (c.in-Left.is, ← c.deref.ensures) (form_from_tree _ _ _ _ _ (codes "par") _ _ is_name-par c.in_ok-extend_from_slice-in-Left.ensures.items c.in_ok-push_ctx-in-Left.ensures c.in_ok-push_parts-in-Left.ensures c.in_ok-push-in-Left.ensures.items)

pub push_ctx-returns-in_ok-push-in-Right : goal.push_ctx-returns-in_ok-push-in-Right
push_ctx-returns-in_ok-push-in-Right t c =
    rw (c.in-Right.is, ← c.deref-in-Right.ensures) (form_from_tree _ _ _ _ _ (codes "par") _ _ is_name-par c.in_ok-extend_from_slice-in-Right.ensures.items c.in_ok-push_proto-in-Right.ensures c.in_ok-push_ctx_parts-in-Right.ensures c.in_ok-push-in-Right.ensures.items)

pub push_ctx-returns-in_ok-push-in-Hide : goal.push_ctx-returns-in_ok-push-in-Hide
push_ctx-returns-in_ok-push-in-Hide t c =
    rw c.in-Hide.is (form_from_tree _ _ _ _ _ (codes "new") _ _ is_name-new c.in_ok-extend_from_slice-in-Hide.ensures.items (rw c.deref-in-Hide.ensures at c.in_ok-push_ctx_port_list-in-Hide.ensures) (rw c.deref-in-Hide-2.ensures at c.in_ok-push_ctx_body-in-Hide.ensures) c.in_ok-push-in-Hide.ensures.items)
