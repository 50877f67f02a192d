use Rattle.ipdl_laws.proofs.FlatLaws.{flat_valuation_is_nested}
use Rattle.ipdl_laws.proofs.meaning.flat_values.Goals as goal

pub returns : goal.returns
returns c = λ sig scope J p tape typed. flat_valuation_is_nested J tape sig scope p typed
