-- What is accepted is a document with a text that answers the request, and each such document is accepted.
use Rattle.std.proofs.Common.{◌≡◌, ℕ, List, Option, Some, refl, sym, ap, subst, ◌∙◌, inl, inr}
use Rattle.std.specs.Io.KnownBytes.{append_known}
use Rattle.ipdl_tree.specs.Trees.{Located}
use Rattle.ipdl_forms.specs.Documents.{Document}
use Rattle.ipdl_top.specs.declared.status.Status.{Status}
use Rattle.ipdl_top.specs.declared.status.Status.TheVariants.{Accepted}
use Rattle.ipdl_top.specs.Replies.{IsReply}
use Rattle.ipdl_top.specs.Chains.{Claim}
use Rattle.ipdl_top.specs.Meanings.{IsSoOfTheorems}
use Rattle.ipdl_top.specs.Requests.{Request, check, AskFor}
use Rattle.ipdl_top.specs.Runs.{IsReplied, IsAnswered, IsAccepted, IsChecked}
use Rattle.ipdl_top.specs.Statuses.{Reply, accepted}
use Rattle.ipdl_top.specs.Transfers.{Took}
use Rattle.ipdl_top.proofs.Replies.{refused_not_accepted, one_reply}
use Rattle.ipdl_top.proofs.Requests.{same_request}

status_of : {r s : Reply} → r ≡ s → r.status ≡ Accepted → s.status ≡ Accepted
status_of e is = sym (ap (λ (x : Reply). x.status) e) ∙ is

-- the document of a reply that accepts
abbrev HasAnswer : List (List ℕ) → List ℕ → Reply → Type 0
HasAnswer words bytes r =
    (request : Request) × AskFor words request × (t : Located) × (d : Document) × (text : List ℕ)
    × IsAnswered request bytes t d text × (r.text ≡ text)

has_answer : (words : List (List ℕ)) (bytes : List ℕ) (r : Reply) → IsReply words bytes r → r.status ≡ Accepted → HasAnswer words bytes r
has_answer words bytes r (inl usage) e = let usage_accepted = status_of usage.1 e in absurd (cc usage_accepted)
has_answer words bytes r (inr (request, form, inl (a, refuses, is))) e = absurd (refused_not_accepted a.kind (status_of is e))
has_answer words bytes r (inr (request, form, inr (few, (t, d, document, inl (a, refuses, is))))) e =
    absurd (refused_not_accepted a.kind (status_of is e))
has_answer words bytes r (inr (request, form, inr (few, (t, d, document, inr (text, answers, is))))) e =
    (request, form, t, d, text, record { few = few; document = document; answer = answers }, ap (λ (x : Reply). x.text) is)

pub IsAccepted-replied : (request : Request) (words : List (List ℕ)) (result : Status) (left taken taken' : Option (List ℕ)) → AskFor words request → IsReplied words result left taken taken' → result ≡ Accepted → IsAccepted words left taken taken'
IsAccepted-replied request words result left taken taken' form replied is = (
  request,
  form,
  λ bytes e.
      let reply = replied bytes e in
      let found = has_answer words bytes reply.0 reply.1 (sym reply.2 ∙ is) in
      let same : found.0 ≡ request = same_request words found.0 request found.1 form in
      (found.2, found.3, found.4, subst (λ asked. IsAnswered asked bytes found.2 found.3 found.4) same found.5, reply.3 ∙ ap (append_known taken) found.6),
)

-- ---- what was checked

pub IsChecked-accepted : (holds : Claim → Type 0) → ((bytes : List ℕ) (t : Located) (d : Document) (text : List ℕ) → IsAnswered check bytes t d text → IsSoOfTheorems holds d) → (words : List (List ℕ)) (left taken taken' : Option (List ℕ)) → IsAccepted words left taken taken' → IsChecked holds words left taken taken'
IsChecked-accepted holds so words left taken taken' (request, form, given) are bytes e =
    let found = given bytes e in
    let same : request ≡ check = same_request words request check form (are, tt) in
    let answered : IsAnswered check bytes found.0 found.1 found.2 = subst (λ asked. IsAnswered asked bytes found.0 found.1 found.2) same found.3 in
    (found.0, found.1, answered.document, subst (Took taken taken') answered.answer.written found.4, so bytes found.0 found.1 found.2 answered)

-- ---- what is to be accepted

reply_to_answered : (request : Request) (words : List (List ℕ)) (bytes : List ℕ) (t : Located) (d : Document) (text : List ℕ) → IsAnswered request bytes t d text → AskFor words request → IsReply words bytes (accepted text)
reply_to_answered request words bytes t d text answered form =
    inr (request, form, inr (answered.few, (t, d, answered.document, inr (text, answered.answer, refl))))

pub accepted_where_answered : (request : Request) (words : List (List ℕ)) (bytes : List ℕ) (t : Located) (d : Document) (text : List ℕ) (result : Status) (left taken taken' : Option (List ℕ)) → IsAnswered request bytes t d text → AskFor words request → left ≡ Some bytes → IsReplied words result left taken taken' → (result ≡ Accepted) × Took taken taken' text
accepted_where_answered request words bytes t d text result left taken taken' answered form e replied =
    let reply = replied bytes e in
    let one : reply.0 ≡ accepted text = one_reply words bytes reply.0 (accepted text) reply.1 (reply_to_answered request words bytes t d text answered form) in
    (reply.2 ∙ ap (λ (x : Reply). x.status) one, reply.3 ∙ ap (λ (x : Reply). append_known taken x.text) one)
