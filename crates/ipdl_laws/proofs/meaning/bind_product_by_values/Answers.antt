use Rattle.ipdl_laws.proofs.Products.{value_count-binding_to}
use Rattle.ipdl_laws.proofs.meaning.bind_product_by_values.Goals as goal

pub returns : goal.returns
returns c = value_count-binding_to
