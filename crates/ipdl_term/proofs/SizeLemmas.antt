-- The nodes of terms that are made of others.
use Rattle.std.proofs.Common.{◌≡◌, ℕ, refl}
use Rattle.ipdl_term.specs.Terms.{Expression, literal, variable, outer, application, exclusive, conjunction, negation, concatenation, segment, equality, selection}
use Rattle.ipdl_term.specs.Sizes.{expression_nodes}
use Rattle.ipdl_term.specs.Variables.{lifted_expression}

-- a lift keeps the nodes
pub expression_nodes-lifted : (e : Expression) (from by : ℕ) → expression_nodes (lifted_expression e from by) ≡ expression_nodes e
expression_nodes-lifted (literal bits) from by = refl
expression_nodes-lifted (variable n) from by = refl
expression_nodes-lifted (outer n) from by = refl
expression_nodes-lifted (application f e) from by = rw (expression_nodes-lifted e from by)
expression_nodes-lifted (exclusive a b) from by = rw (expression_nodes-lifted a from by, expression_nodes-lifted b from by)
expression_nodes-lifted (conjunction a b) from by = rw (expression_nodes-lifted a from by, expression_nodes-lifted b from by)
expression_nodes-lifted (negation a) from by = rw (expression_nodes-lifted a from by)
expression_nodes-lifted (concatenation a b) from by = rw (expression_nodes-lifted a from by, expression_nodes-lifted b from by)
expression_nodes-lifted (segment i n a) from by = rw (expression_nodes-lifted a from by)
expression_nodes-lifted (equality a b) from by = rw (expression_nodes-lifted a from by, expression_nodes-lifted b from by)
expression_nodes-lifted (selection c a b) from by =
    rw (expression_nodes-lifted c from by, expression_nodes-lifted a from by, expression_nodes-lifted b from by)

pub ruleset nodes_of_put = (expression_nodes-lifted)
