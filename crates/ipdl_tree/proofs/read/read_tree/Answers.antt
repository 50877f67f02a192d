use Rattle.ipdl_tree.proofs.Outcomes.{spelled, shallow, accepted, refused}
use Rattle.ipdl_tree.proofs.read.read_tree.Goals as goal

pub returns : goal.returns
returns c = record {
  spelled = spelled c.read.result c.args.bytes.now c.read.ensures;
  shallow = shallow c.read.result c.args.bytes.now c.read.ensures;
  accepted = accepted c.read.result c.args.bytes.now c.read.ensures;
  refused = refused c.read.result c.args.bytes.now c.read.ensures;
}
