-- The request to run an item on a tape: which documents it refuses, and what it answers to the others, whatever the order.
use Rattle.std.specs.Prelude.{◌≡◌, ℕ, Bool, List}
use Rattle.ipdl_commands.specs.Running.{AnswersRun, RefusesRun}
use Rattle.ipdl_forms.specs.Documents.{Document}
use Rattle.ipdl_top.specs.Statuses.{bad, Refusal, refusal_of}
use Rattle.ipdl_top.specs.Typed.{IsTypedDocument}

-- what the document has under the name is refused
abbrev pub IsRunRefusal : (name : List ℕ) → (tape : List Bool) → Document → Refusal → Type 0
IsRunRefusal name tape d r = (text : List ℕ) × RefusesRun d name tape text × (r ≡ refusal_of bad text)

-- all items are well typed, and this is what the closed protocol of the name writes on the tape
pub record IsRunAnswer (name : List ℕ) (tape : List Bool) (d : Document) (text : List ℕ) : Type 0 where
  pub typed : IsTypedDocument d
  pub answer : AnswersRun d name tape text
