-- There is one reply to the request `check` of a document whose items are well typed.
use Rattle.std.proofs.Common.{◌≡◌, ℕ, List, Option, Some, None, refl, sym, ◌∙◌, inl, inr}
use Rattle.std.proofs.lemmas.Option.{same_Some}
use Rattle.ipdl_forms.specs.Documents.{Document}
use Rattle.ipdl_top.specs.Chains.{proved_text}
use Rattle.ipdl_top.specs.Checking.{IsCheckRefusal, IsCheckAnswer}
use Rattle.ipdl_top.specs.Scripts.{script_refusal}
use Rattle.ipdl_top.specs.Statuses.{Refusal}
use Rattle.ipdl_top.specs.Typed.{IsTypedDocument}
use Rattle.ipdl_top.proofs.Theorems.{IsProvedDocument-none, script_refusal-proved}
use Rattle.ipdl_top.proofs.Named.{HaveSides}
use Rattle.ipdl_top.proofs.Owed.{IsOwed, IsThereOne}

none_and_some : {A : Type 0} {x : Option A} (y : A) → x ≡ None → x ≡ Some y → ⊥
none_and_some y e f = cc

pub check_is_owed : (d : Document) → IsOwed (IsCheckRefusal d) (IsCheckAnswer d)
check_is_owed d = record {
  one_refusal = λ r s e f. same_Some r s (sym e ∙ f);
  one_text = λ text other a b. a.written ∙ sym b.written;
  not_both = λ r text e a. none_and_some r (script_refusal-proved d a.proved a.short) e;
}

-- what is not refused is answered
pub IsCheckAnswer-none : (d : Document) (text : List ℕ) → HaveSides d.entries d.entries → IsTypedDocument d → script_refusal d ≡ None → text ≡ proved_text d → IsCheckAnswer d text
IsCheckAnswer-none d text has typed none written =
    let proved = IsProvedDocument-none d has none in
    record { typed = typed; proved = proved.0; short = proved.1; written = written }

pub check_is_there : (d : Document) → HaveSides d.entries d.entries → IsTypedDocument d → IsThereOne (IsCheckRefusal d) (IsCheckAnswer d)
check_is_there d has typed = by_refusal (script_refusal d) refl
  where
    by_refusal : (refusal : Option Refusal) → script_refusal d ≡ refusal → IsThereOne (IsCheckRefusal d) (IsCheckAnswer d)
    by_refusal (Some r) e = inl (r, e)
    by_refusal None e = inr (proved_text d, IsCheckAnswer-none d (proved_text d) has typed e refl)
