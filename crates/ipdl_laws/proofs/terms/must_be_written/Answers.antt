use Rattle.ipdl_laws.proofs.ReadingLaws.{must_be_written}
use Rattle.ipdl_laws.proofs.terms.must_be_written.Goals as goal

pub returns : goal.returns
returns c = must_be_written
