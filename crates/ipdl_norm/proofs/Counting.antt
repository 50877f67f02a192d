-- The nodes of an expression do not change where its variables are lifted.
use Rattle.ipdl_term.proofs.SizeLemmas.{expression_nodes-lifted}

pub ruleset lifted_nodes = (expression_nodes-lifted)
