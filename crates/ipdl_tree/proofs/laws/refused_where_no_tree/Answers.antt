use Rattle.ipdl_tree.proofs.Sources.{spelled-not_refused, not_refused-spelled}
use Rattle.ipdl_tree.proofs.laws.refused_where_no_tree.Goals as goal

pub returns : goal.returns
returns c = λ bytes. (λ none. spelled-not_refused bytes none, λ (t, spells, depth). not_refused-spelled bytes t spells depth)
