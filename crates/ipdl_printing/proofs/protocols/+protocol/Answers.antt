use Rattle.std.specs.Prelude.{codes}
use Rattle.ipdl_printing.proofs.Forms.{form, and_more, form_from_tree}
use Rattle.ipdl_printing.proofs.Words.{is_name-nil, is_name-out, is_name-par, is_name-new}
use Rattle.ipdl_printing.proofs.protocols.+protocol.Goals as goal

pub push_proto-returns-in_ok-extend_from_slice-in-Nil : goal.push_proto-returns-in_ok-extend_from_slice-in-Nil
push_proto-returns-in_ok-extend_from_slice-in-Nil t c =
    rw c.in-Nil.is (record { text = c.in_ok-extend_from_slice-in-Nil.ensures.items; formed = (is_name-nil, tt) })

pub push_proto-returns-in_ok-push-in-Out : goal.push_proto-returns-in_ok-push-in-Out
push_proto-returns-in_ok-push-in-Out t c =
    rw c.in-Out.is (form _ _ _ _ (codes "out") _ is_name-out c.in_ok-extend_from_slice-in-Out.ensures.items (and_more _ _ _ _ _ c.in_ok-push_name_part-in-Out.ensures c.in_ok-push_react_part-in-Out.ensures) c.in_ok-push-in-Out.ensures.items)

pub push_proto-returns-in_ok-push-in-Par : goal.push_proto-returns-in_ok-push-in-Par
push_proto-returns-in_ok-push-in-Par t c =
    rw (c.in-Par.is, ← c.deref.ensures, ← c.deref-in-Par.ensures) (form_from_tree _ _ _ _ _ (codes "par") _ _ is_name-par c.in_ok-extend_from_slice-in-Par.ensures.items c.in_ok-push_proto-in-Par.ensures c.in_ok-push_parts-in-Par.ensures c.in_ok-push-in-Par.ensures.items)

pub push_proto-returns-in_ok-push-in-Hide : goal.push_proto-returns-in_ok-push-in-Hide
push_proto-returns-in_ok-push-in-Hide t c =
    rw c.in-Hide.is (form_from_tree _ _ _ _ _ (codes "new") _ _ is_name-new c.in_ok-extend_from_slice-in-Hide.ensures.items (rw c.deref-in-Hide.ensures at c.in_ok-push_port_list-in-Hide.ensures) (rw c.deref-in-Hide-2.ensures at c.in_ok-push_body-in-Hide.ensures) c.in_ok-push-in-Hide.ensures.items)
