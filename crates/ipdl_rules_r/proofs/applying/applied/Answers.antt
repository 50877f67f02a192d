-- The law of each rule holds of every signature, and so of the one that is given.
use Rattle.ipdl_rules_r.proofs.applying.applied.Goals as goal
use Rattle.ipdl_typing.specs.Signatures.{signature_of}

pub returns-in-Beta : goal.returns-in-Beta
returns-in-Beta c = rw c.in-Beta.is (c.beta.ensures (signature_of c.args.sig.now))

pub returns-in-Eta : goal.returns-in-Eta
returns-in-Eta c = rw c.in-Eta.is (c.eta.ensures (signature_of c.args.sig.now))

pub returns-in-Assoc : goal.returns-in-Assoc
returns-in-Assoc c = rw c.in-Assoc.is (c.assoc.ensures (signature_of c.args.sig.now))

pub returns-in-Swap : goal.returns-in-Swap
returns-in-Swap c = rw c.in-Swap.is (c.swap.ensures (signature_of c.args.sig.now))

pub returns-in-Dropr : goal.returns-in-Dropr
returns-in-Dropr c = rw c.in-Dropr.is (c.dropr.ensures (signature_of c.args.sig.now))

pub returns-in-Again : goal.returns-in-Again
returns-in-Again c = rw c.in-Again.is (c.again.ensures (signature_of c.args.sig.now))

pub returns-in-Iftrue : goal.returns-in-Iftrue
returns-in-Iftrue c = rw c.in-Iftrue.is (c.iftrue.ensures (signature_of c.args.sig.now))

pub returns-in-Iffalse : goal.returns-in-Iffalse
returns-in-Iffalse c = rw c.in-Iffalse.is (c.iffalse.ensures (signature_of c.args.sig.now))

pub returns-in-Ifsame : goal.returns-in-Ifsame
returns-in-Ifsame c = rw c.in-Ifsame.is (c.ifsame.ensures (signature_of c.args.sig.now))

pub returns-in-Ifbind : goal.returns-in-Ifbind
returns-in-Ifbind c = rw c.in-Ifbind.is (c.ifbind.ensures (signature_of c.args.sig.now))

pub returns-in-Mask : goal.returns-in-Mask
returns-in-Mask c = rw c.in-Mask.is (c.mask.ensures (signature_of c.args.sig.now))

pub returns-in-Join : goal.returns-in-Join
returns-in-Join c = rw c.in-Join.is (c.join.ensures (signature_of c.args.sig.now))

pub returns-in-Flip0 : goal.returns-in-Flip0
returns-in-Flip0 c = rw c.in-Flip0.is (c.flip0.ensures (signature_of c.args.sig.now))
