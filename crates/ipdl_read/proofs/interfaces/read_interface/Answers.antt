use Rattle.ipdl_tree.specs.Views.{located, all_located}
use Rattle.ipdl_read.proofs.ReadInterfaces.{interface_spelled}
use Rattle.ipdl_read.proofs.interfaces.read_interface.Goals as goal

pub returns-clause-spelled : goal.returns-clause-spelled
returns-clause-spelled c =
    interface_spelled (record { inputs = c.in_ok-inputs.inputs; outputs = c.in_ok-outputs.outputs }) (located c.args.inputs.now) (located c.args.outputs.now) (all_located c.in_ok-parts_after.field-0.now) (all_located c.in_ok-parts_after-2.field-0.now) c.empty-seen.result c.read_ports.new.seen c.empty-seen.ensures c.in_ok-parts_after.ensures.head c.in_ok-parts_after.ensures.operands c.in_ok-inputs.ensures.spelled c.in_ok-inputs.ensures.names c.in_ok-parts_after-2.ensures.head c.in_ok-parts_after-2.ensures.operands c.in_ok-outputs.ensures.spelled
