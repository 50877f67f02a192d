use Rattle.ipdl_laws.proofs.Products.{reaction_total_doubles}
use Rattle.ipdl_laws.proofs.meaning.reaction_total_doubles.Goals as goal

pub returns : goal.returns
returns c = reaction_total_doubles
