-- What the types of the program stand for.
use Rattle.ipdl_term.specs.Terms.{Term, protocol_term, reaction_term, expression_term}
use Rattle.ipdl_term.specs.Views.{expression_of, reaction_of, protocol_of}
use Rattle.ipdl_cursor.specs.declared.part_ref.PartRef.{PartRef}
use Rattle.ipdl_cursor.specs.declared.part_ref.PartRef.TheVariants as T

-- the part that a reference to it stands for
abbrev pub part_of : PartRef → Term
part_of (T.P p) = protocol_term (protocol_of p.now)
part_of (T.R r) = reaction_term (reaction_of r.now)
part_of (T.E e) = expression_term (expression_of e.now)
