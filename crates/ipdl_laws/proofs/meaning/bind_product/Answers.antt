use Rattle.ipdl_laws.proofs.Products.{reaction_total-binding}
use Rattle.ipdl_laws.proofs.meaning.bind_product.Goals as goal

pub returns : goal.returns
returns c = reaction_total-binding
