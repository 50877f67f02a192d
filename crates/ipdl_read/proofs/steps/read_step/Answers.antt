use Rattle.std.proofs.Common.{List, sym, subst}
use Rattle.std.specs.Prelude.{IfErr}
use Rattle.ipdl_tree.specs.Views.{located, all_located}
use Rattle.ipdl_forms.specs.declared.fault.DocFault.{DocFault}
use Rattle.ipdl_read.specs.Earlier.{earlier_of}
use Rattle.ipdl_forms.specs.Faults.{TellsFirst}
use Rattle.ipdl_read.proofs.StepReading.{step_faults-list}
use Rattle.ipdl_read.proofs.steps.read_step.Goals as goal

pub returns-clause-first : goal.returns-clause-first
returns-clause-first c =
    let E = earlier_of c.args.earlier.now in
    let e = step_faults-list E (located c.args.tree.now) c.in_ok-word.word.now c.args.tree.now.pos.0 (all_located c.in_ok-word.parts.now) c.in_ok-word.ensures.head c.in_ok-word.ensures.operands c.headed_list.ensures.offset in
    let P : List DocFault → Type 0 = λ fs. IfErr c.read_listed.result (λ fault. TellsFirst fault fs) in
    subst P (sym e) c.read_listed.ensures.first
