use Rattle.ipdl_tree.proofs.GoingOn.{refused_where_stuck, one_offset}
use Rattle.ipdl_tree.proofs.laws.refused_where_stuck.Goals as goal

pub returns : goal.returns
returns c = record { stuck = refused_where_stuck; one_offset = one_offset }
