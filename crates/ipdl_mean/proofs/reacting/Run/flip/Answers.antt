use Rattle.ipdl_mean.proofs.Runs.{first_bits_short, first_bits_cut}
use Rattle.ipdl_mean.proofs.reacting.Run.flip.Goals as goal

pub returns-then-count-self-clause-ends : goal.returns-then-count-self-clause-ends
returns-then-count-self-clause-ends c = λ behind is. first_bits_short c.args.width c.args.self.now.tape.now c.if-count-self.true

pub returns-clause-ends : goal.returns-clause-ends
returns-clause-ends c = λ behind is.
    (first_bits_cut c.args.width c.args.self.now.tape.now c.value_of_bits-value.result c.value_of_bits-value.ensures c.if-count-self.false, is)
