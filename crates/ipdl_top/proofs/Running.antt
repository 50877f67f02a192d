-- There is one reply to the request to run an item of a document whose items are well typed.
use Rattle.std.proofs.Common.{ℕ, Bool, List, ◌⊎◌, refl, sym, ap, ◌∙◌, inl, inr}
use Rattle.ipdl_commands.proofs.Replies.{one_answer, one_refusal, not_both, some_reply}
use Rattle.ipdl_forms.specs.Networks.{network_named}
use Rattle.ipdl_commands.specs.Running.{AnswersRun, RefusesRun}
use Rattle.ipdl_forms.specs.Documents.{Document}
use Rattle.ipdl_top.specs.Running.{IsRunRefusal, IsRunAnswer}
use Rattle.ipdl_top.specs.Statuses.{bad, refusal_of}
use Rattle.ipdl_top.specs.Typed.{IsTypedDocument}
use Rattle.ipdl_top.proofs.Owed.{IsOwed, IsThereOne}

module _ (name : List ℕ) (tape : List Bool) (d : Document) where
  pub run_is_owed : IsOwed (IsRunRefusal name tape d) (IsRunAnswer name tape d)
  run_is_owed = record {
    one_refusal = λ r s e f. e.2 ∙ ap (refusal_of bad) (one_refusal d.symbols name tape (network_named d.entries name) e.0 f.0 e.1 f.1) ∙ sym f.2;
    one_text = λ text other a b. one_answer d.symbols name tape (network_named d.entries name) text other a.answer b.answer;
    not_both = λ r text e a. not_both d.symbols name tape (network_named d.entries name) text e.0 a.answer e.1;
  }

  there_is : IsTypedDocument d → ((text : List ℕ) × AnswersRun d name tape text) ⊎ ((line : List ℕ) × RefusesRun d name tape line) → IsThereOne (IsRunRefusal name tape d) (IsRunAnswer name tape d)
  there_is typed (inl (text, answer)) = inr (text, record { typed = typed; answer = answer })
  there_is typed (inr (line, refuses)) = inl (refusal_of bad line, (line, refuses, refl))

  pub run_is_there : IsTypedDocument d → IsThereOne (IsRunRefusal name tape d) (IsRunAnswer name tape d)
  run_is_there typed = there_is typed (some_reply d.symbols name tape (network_named d.entries name))
