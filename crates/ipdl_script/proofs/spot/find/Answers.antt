use Rattle.std.proofs.Common.{arith}
use Rattle.ipdl_script.proofs.Fits.{protocol_binders-few}
use Rattle.ipdl_script.specs.Steps.{scope_in}
use Rattle.ipdl_script.specs.Views.{setting_of}
use Rattle.ipdl_term.specs.Views.{protocol_of}
use Rattle.ipdl_script.proofs.spot.find.Goals as goal

pub overflow_cast-result : goal.overflow_cast-result
overflow_cast-result c = omega (arith, c.in-Some.ensures.few, protocol_binders-few (protocol_of c.args.before.now), c.requires.limits.nodes)

pub returns-in-Some-clause-few : goal.returns-in-Some-clause-few
returns-in-Some-clause-few c = omega (arith, c.in-Some.ensures.few, protocol_binders-few (protocol_of c.args.before.now), c.requires.limits.nodes)

pub returns-in-Some-clause-depth : goal.returns-in-Some-clause-depth
returns-in-Some-clause-depth c = c.in-Some.ensures.depth (scope_in (setting_of c.args._setting.now))
