-- Statuses, refusals, and what is answered: a status with a text.
use Rattle.std.specs.Prelude.{ℕ, List}
use Rattle.ipdl_top.specs.declared.status.Status.{Status}
use Rattle.ipdl_top.specs.declared.status.Status.TheVariants.{Accepted, WrongStep, BadSource, Usage, ReadFault, WriteFault, Memory, OverLimit}

-- a status, and the text that is written with it
pub record Reply : Type 0 where
  pub status : Status
  pub text : List ℕ

abbrev pub reply_of : Status → List ℕ → Reply
reply_of status text = record { status = status; text = text }

-- why a source, or what is asked of it, is refused: a step is wrong, something is of a bad form or ill typed, or a
-- count is over its limit
pub data Kind : Type 0 where
  wrong : Kind
  bad : Kind
  over : Kind

-- a refusal, with the line that says where and why
pub record Refusal : Type 0 where
  pub kind : Kind
  pub text : List ℕ

abbrev pub refusal_of : Kind → List ℕ → Refusal
refusal_of kind text = record { kind = kind; text = text }

abbrev pub kind_status : Kind → Status
kind_status wrong = WrongStep
kind_status bad = BadSource
kind_status over = OverLimit

-- the reply that says why something is refused
abbrev pub refused : Refusal → Reply
refused r = reply_of (kind_status r.kind) r.text

-- the reply that answers with a text
abbrev pub accepted : List ℕ → Reply
accepted text = reply_of Accepted text

abbrev pub status_number : Status → ℕ
status_number Accepted = 0
status_number WrongStep = 1
status_number BadSource = 2
status_number Usage = 3
status_number ReadFault = 4
status_number WriteFault = 5
status_number Memory = 6
status_number OverLimit = 7
