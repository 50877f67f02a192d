use Rattle.std.proofs.Common.{rules}
use Rattle.std.specs.Prelude.{codes}
use Rattle.ipdl_printing.proofs.Forms.{form, and_more}
use Rattle.ipdl_printing.proofs.Words.{is_name-xor, is_name-and, is_name-cat, is_name-eq, is_name-not, is_name-cut, is_name-mux}
use Rattle.ipdl_printing.proofs.expressions.+expression.Goals as goal

pub push_expr-push_binary-requires : goal.push_expr-push_binary-requires
push_expr-push_binary-requires t c = search (rules, is_name-xor)

pub push_expr-push_binary-requires-in-And : goal.push_expr-push_binary-requires-in-And
push_expr-push_binary-requires-in-And t c = search (rules, is_name-and)

pub push_expr-push_binary-requires-in-Cat : goal.push_expr-push_binary-requires-in-Cat
push_expr-push_binary-requires-in-Cat t c = search (rules, is_name-cat)

pub push_expr-push_binary-requires-in-Same : goal.push_expr-push_binary-requires-in-Same
push_expr-push_binary-requires-in-Same t c = search (rules, is_name-eq)

pub push_expr-returns-in_ok-push-in-Not : goal.push_expr-returns-in_ok-push-in-Not
push_expr-returns-in_ok-push-in-Not t c =
    rw (c.in-Not.is, ← c.deref-in-Not.ensures) (form _ _ _ _ (codes "not") _ is_name-not c.in_ok-extend_from_slice-in-Not.ensures.items c.in_ok-push_expr_part-in-Not.ensures c.in_ok-push-in-Not.ensures.items)

pub push_expr-returns-in_ok-push-in-Cut : goal.push_expr-returns-in_ok-push-in-Cut
push_expr-returns-in_ok-push-in-Cut t c =
    rw (c.in-Cut.is, ← c.deref-in-Cut.ensures, ← c.from-in-Cut.ensures, ← c.from-in-Cut-2.ensures) (form _ _ _ _ (codes "cut") _ is_name-cut c.in_ok-extend_from_slice-in-Cut.ensures.items (and_more _ _ _ _ _ (and_more _ _ _ _ _ c.in_ok-push_number_part-in-Cut.ensures c.in_ok-push_number_part-in-Cut-2.ensures) (c.in_ok-push_expr_part-in-Cut.ensures)) c.in_ok-push-in-Cut.ensures.items)

pub push_expr-returns-in_ok-push-in-Mux : goal.push_expr-returns-in_ok-push-in-Mux
push_expr-returns-in_ok-push-in-Mux t c =
    rw (c.in-Mux.is, ← c.deref-in-Mux.ensures, ← c.deref-in-Mux-2.ensures, ← c.deref-in-Mux-3.ensures) (form _ _ _ _ (codes "mux") _ is_name-mux c.in_ok-extend_from_slice-in-Mux.ensures.items (and_more _ _ _ _ _ (and_more _ _ _ _ _ c.in_ok-push_expr_part-in-Mux.ensures c.in_ok-push_expr_part-in-Mux-2.ensures) (c.in_ok-push_expr_part-in-Mux-3.ensures)) c.in_ok-push-in-Mux.ensures.items)
