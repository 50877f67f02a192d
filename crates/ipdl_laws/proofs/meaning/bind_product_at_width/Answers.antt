use Rattle.ipdl_laws.proofs.Products.{value_count-binding}
use Rattle.ipdl_laws.proofs.meaning.bind_product_at_width.Goals as goal

pub returns : goal.returns
returns c = value_count-binding
