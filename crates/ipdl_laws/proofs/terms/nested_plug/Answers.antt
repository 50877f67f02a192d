use Rattle.ipdl_laws.proofs.Contexts.{plugged-nested}
use Rattle.ipdl_laws.proofs.terms.nested_plug.Goals as goal

pub returns : goal.returns
returns c = plugged-nested
