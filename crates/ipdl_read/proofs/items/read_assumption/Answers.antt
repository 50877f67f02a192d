use Rattle.ipdl_read.specs.Earlier.{earlier_of}
use Rattle.ipdl_read_terms.proofs.Lists.{three_items}
use Rattle.ipdl_read.proofs.ReadItems.{assumption_answer}
use Rattle.ipdl_read.proofs.items.read_assumption.Goals as goal

pub returns : goal.returns
returns c =
    let is = three_items c.args.parts.now c.name-item.result c.left-item.result c.right-item.result c.in-len3.len_at_least c.in-len3.len_below c.name-item.is c.left-item.is c.right-item.is in
    assumption_answer (earlier_of c.args.earlier.now) c.args.list.0 c.args.parts.now c.name-item.result c.left-item.result c.right-item.result is c.read_named.result c.read_named.ensures.spelled c.read_named.ensures.clean c.read_named.ensures.first
