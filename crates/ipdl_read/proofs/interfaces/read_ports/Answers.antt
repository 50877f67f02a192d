use Rattle.ipdl_read.proofs.ReadInterfaces.{ports_spelled}
use Rattle.ipdl_read.proofs.interfaces.read_ports.Goals as goal

pub returns-clause-spelled : goal.returns-clause-spelled
returns-clause-spelled c =
    ports_spelled c.args.seen.now c.loop-tree.seen c.loop-tree.ports c.args.trees.now c.loop-tree.tree-index c.loop-tree.invariant.spelled c.loop-tree-test.false
