-- What a call that tests a use answers.
use Rattle.std.specs.Prelude.{◌≡◌, Option, None, Result, Ok, Err}
use Rattle.ipdl_uses.specs.Usable.{UseRefusal}
use Rattle.ipdl_uses.specs.Views.{TellsUse}
use Rattle.ipdl_uses.specs.declared.fault.UseFault.{UseFault}

-- it passes where nothing refuses the use, and else tells the refusal
abbrev pub AnswersUse : {X : Type 0} → Result X UseFault → Option UseRefusal → Type 0
AnswersUse (Ok value) refusal = refusal ≡ None
AnswersUse (Err fault) refusal = TellsUse fault refusal
