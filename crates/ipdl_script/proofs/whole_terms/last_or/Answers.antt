use Rattle.ipdl_script.proofs.AddedLists.{last_found}
use Rattle.ipdl_term.specs.Views.{protocol_of}
use Rattle.ipdl_script.proofs.whole_terms.last_or.Goals as goal

pub returns-in-Some : goal.returns-in-Some
returns-in-Some c = last_found (protocol_of c.args.before.now) c.args.terms.now c.in-Some.last.now c.in-Some.ensures.value
