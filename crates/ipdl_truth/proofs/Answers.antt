-- What the fault of a question makes of the answer.
use Rattle.std.proofs.Common.{◌≡◌, Some, None, Err, subst}
use Rattle.std.specs.Prelude.{◌↔◌, Result, IfErr}
use Rattle.ipdl_truth.specs.declared.agreement.Agreement.{Agreement}
use Rattle.ipdl_truth.specs.declared.agreement.TruthFault.{TruthFault}
use Rattle.ipdl_truth.specs.declared.agreement.TruthFault.TheVariants.{Memory}

-- the fault is the answer
pub told_fault : {P : Type 0} (answer : Result Agreement TruthFault) (f x : TruthFault) → answer ≡ Err f → (Some f ≡ Some x) ↔ P → (answer ≡ Err x) ↔ P
told_fault answer f x is told = (λ e. told.0 (cc), λ p. let k = told.1 p in cc)

-- there is none, and want of memory is the only error
pub told_none : {P : Type 0} (answer : Result Agreement TruthFault) (x : TruthFault) → IfErr answer (λ f. f ≡ Memory) → (x ≡ Memory → ⊥) → (None ≡ Some x) ↔ P → (answer ≡ Err x) ↔ P
told_none answer x memory other told = (
  λ e. absurd (other (subst (λ r. IfErr r (λ f. f ≡ Memory)) e memory)),
  λ p. let k = told.1 p in cc,
)
