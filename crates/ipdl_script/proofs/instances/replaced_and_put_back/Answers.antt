use Rattle.ipdl_script.proofs.PuttingBack.{term_with_back}
use Rattle.ipdl_term.specs.Surroundings.{outermost}
use Rattle.ipdl_term.specs.Typing.{no_scope}
use Rattle.ipdl_script.proofs.instances.replaced_and_put_back.Goals as goal

pub returns : goal.returns
returns c = term_with_back (outermost no_scope)
