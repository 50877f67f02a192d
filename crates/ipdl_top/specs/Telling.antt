-- The request `types`: it refuses no document whose items are well typed, and says what each item has.
use Rattle.std.specs.Prelude.{◌≡◌, ℕ, List}
use Rattle.ipdl_forms.specs.Documents.{Document}
use Rattle.ipdl_top.specs.Statuses.{Refusal}
use Rattle.ipdl_top.specs.Summaries.{summary_text}
use Rattle.ipdl_top.specs.Typed.{IsTypedDocument}

abbrev pub IsTypesRefusal : Document → Refusal → Type 0
IsTypesRefusal d r = ⊥

-- all items are well typed, and this says what they have
pub record IsTypesAnswer (d : Document) (text : List ℕ) : Type 0 where
  pub typed : IsTypedDocument d
  pub written : text ≡ summary_text d
