-- There is one reply to the request `types` of a document whose items are well typed.
use Rattle.std.proofs.Common.{refl, sym, ◌∙◌, inr}
use Rattle.ipdl_forms.specs.Documents.{Document}
use Rattle.ipdl_top.specs.Summaries.{summary_text}
use Rattle.ipdl_top.specs.Telling.{IsTypesRefusal, IsTypesAnswer}
use Rattle.ipdl_top.specs.Typed.{IsTypedDocument}
use Rattle.ipdl_top.proofs.Owed.{IsOwed, IsThereOne}

pub types_is_owed : (d : Document) → IsOwed (IsTypesRefusal d) (IsTypesAnswer d)
types_is_owed d = record {
  one_refusal = λ r s e f. absurd e;
  one_text = λ text other a b. a.written ∙ sym b.written;
  not_both = λ r text e a. e;
}

pub types_is_there : (d : Document) → IsTypedDocument d → IsThereOne (IsTypesRefusal d) (IsTypesAnswer d)
types_is_there d typed = inr (summary_text d, record { typed = typed; written = refl })
