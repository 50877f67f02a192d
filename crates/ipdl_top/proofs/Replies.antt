-- There is one reply to words and bytes, and what is accepted.
use Rattle.std.proofs.Common.{◌≡◌, ℕ, ◌≤◌, List, length, Option, Some, None, sym, ap, subst, ◌∙◌, ◌⊎◌, inl, inr, arith}
use Rattle.std.proofs.lemmas.Option.{same_Some}
use Rattle.ipdl_tree.specs.Refusals.{Cause}
use Rattle.ipdl_tree.specs.Trees.{Located}
use Rattle.ipdl_tree.proofs.Sources.{one_tree, not_refused-spelled}
use Rattle.ipdl_forms.specs.Documents.{Document}
use Rattle.ipdl_forms.specs.Faults.{form_fault, over_fault, first_fault}
use Rattle.ipdl_forms.specs.Items.{SpellsDocument, document_faults}
use Rattle.ipdl_forms.proofs.CleanItems.{clean_document}
use Rattle.ipdl_forms.proofs.OneItems.{one_document}
use Rattle.ipdl_forms.specs.declared.fault.DocFault.{DocFault}
use Rattle.ipdl_forms.specs.declared.fault.DocFault.TheVariants as F
use Rattle.ipdl_top.specs.declared.status.Status.TheVariants.{Accepted}
use Rattle.ipdl_top.specs.Refusals.{misformed, over_at_byte}
use Rattle.ipdl_top.specs.Replies.{tree_refusal, IsUnspelled, IsMisformed, IsOverLimit, IsTree, IsRefusedWithin, IsRefusedSource, IsDocument, IsRequestRefusal, IsAnswer, IsIll, IsRefusedDocument, IsReplyBy, IsReplyTo, IsReply}
use Rattle.ipdl_top.specs.Requests.{Request, check, types, run_item}
use Rattle.ipdl_top.specs.Statuses.{wrong, bad, over, Kind, kind_status, Refusal, Reply, refused, accepted}
use Rattle.ipdl_top.specs.Transfers.{source_limit}
use Rattle.ipdl_top.specs.Typed.{IsTypedDocument}
use Rattle.ipdl_top.proofs.Checking.{check_is_owed}
use Rattle.ipdl_top.proofs.ItemTypes.{type_refusal-typed}
use Rattle.ipdl_top.proofs.Owed.{IsOwed}
use Rattle.ipdl_top.proofs.Requests.{same_request}
use Rattle.ipdl_top.proofs.Running.{run_is_owed}
use Rattle.ipdl_top.proofs.Telling.{types_is_owed}

-- ---- choices

none_and_some : {A : Type 0} {x : Option A} (y : A) → x ≡ None → x ≡ Some y → ⊥
none_and_some y e f = cc

same_value : {A : Type 0} {x : Option A} (y z : A) → x ≡ Some y → x ≡ Some z → y ≡ z
same_value y z e f = same_Some y z (sym e ∙ f)

-- what refuses is no text
pub refused_not_accepted : (kind : Kind) → kind_status kind ≡ Accepted → ⊥
refused_not_accepted wrong e = cc
refused_not_accepted bad e = cc
refused_not_accepted over e = cc

-- ---- a source has one refusal at most, and then no document

one_unspelled : (bytes : List ℕ) (r s : Refusal) → IsUnspelled bytes r → IsUnspelled bytes s → r ≡ s
one_unspelled bytes r s (offset, cause, e, is) (offset', cause', e', is') =
    is ∙ ap (λ (c : ℕ × Cause). tree_refusal c.0 c.1) (same_value (offset, cause) (offset', cause') e e') ∙ sym is'

pub unspelled_and_tree : (bytes : List ℕ) (r : Refusal) (t : Located) → IsUnspelled bytes r → IsTree t bytes → ⊥
unspelled_and_tree bytes r t (offset, cause, e, is) tree =
    none_and_some (offset, cause) (not_refused-spelled bytes t tree.spelled tree.shallow) e

-- the refusal of a fault
abbrev refusal_of_fault : DocFault → Option Refusal
refusal_of_fault (F.Form pos cause) = Some (misformed pos.0 cause)
refusal_of_fault (F.Over limit pos) = Some (over_at_byte limit pos.0)
refusal_of_fault F.Memory = None

-- a tree that is refused by its first fault
abbrev IsFaulty : Located → Refusal → Type 0
IsFaulty t r = (fault : DocFault) × (first_fault (document_faults t) ≡ Some fault) × (refusal_of_fault fault ≡ Some r)

faulty : (t : Located) (r : Refusal) → IsMisformed t r ⊎ IsOverLimit t r → IsFaulty t r
faulty t r (inl (offset, cause, e, is)) = (form_fault cause offset, e, ap Some (sym is))
faulty t r (inr (offset, limit, e, is)) = (over_fault limit offset, e, ap Some (sym is))

one_faulty : (t : Located) (r s : Refusal) → IsFaulty t r → IsFaulty t s → r ≡ s
one_faulty t r s (f, e, is) (g, e', is') =
    same_Some r s (sym is ∙ ap refusal_of_fault (same_value f g e e') ∙ is')

one_refusal_within : (bytes : List ℕ) (r s : Refusal) → IsRefusedWithin bytes r → IsRefusedWithin bytes s → r ≡ s
one_refusal_within bytes r s (inl un) (inl un') = one_unspelled bytes r s un un'
one_refusal_within bytes r s (inl un) (inr (t, tree, fault)) = absurd (unspelled_and_tree bytes r t un tree)
one_refusal_within bytes r s (inr (t, tree, fault)) (inl un) = absurd (unspelled_and_tree bytes s t un tree)
one_refusal_within bytes r s (inr (t, tree, fault)) (inr (u, tree', fault')) =
    one_faulty t r s (faulty t r fault)
    (subst (λ v. IsFaulty v s) (sym (one_tree t u bytes tree.spelled tree'.spelled)) (faulty u s fault'))

one_refused_source : (bytes : List ℕ) (r s : Refusal) → IsRefusedSource bytes r → IsRefusedSource bytes s → r ≡ s
one_refused_source bytes r s (inl long) (inl long') = long.1 ∙ sym long'.1
one_refused_source bytes r s (inl long) (inr within) = absurd (omega (arith, long.0, within.0))
one_refused_source bytes r s (inr within) (inl long) = absurd (omega (arith, long.0, within.0))
one_refused_source bytes r s (inr within) (inr within') = one_refusal_within bytes r s within.1 within'.1

faulty_and_document : (d : Document) (t u : Located) (bytes : List ℕ) (r : Refusal) → IsFaulty u r → t ≡ u → IsDocument d t bytes → ⊥
faulty_and_document d t u bytes r (fault, e, is) same document =
    none_and_some fault (ap first_fault (ap document_faults (sym same) ∙ clean_document d t document.spelled document.within)) e

within_and_document : (d : Document) (t : Located) (bytes : List ℕ) (r : Refusal) → IsRefusedWithin bytes r → IsDocument d t bytes → ⊥
within_and_document d t bytes r (inl un) document = unspelled_and_tree bytes r t un document.tree
within_and_document d t bytes r (inr (u, tree, fault)) document =
    faulty_and_document d t u bytes r (faulty u r fault) (one_tree t u bytes document.tree.spelled tree.spelled) document

source_and_document : (d : Document) (t : Located) (bytes : List ℕ) (r : Refusal) → IsRefusedSource bytes r → length bytes ≤ source_limit → IsDocument d t bytes → ⊥
source_and_document d t bytes r (inl long) few document = omega (arith, long.0, few)
source_and_document d t bytes r (inr within) few document = within_and_document d t bytes r within.1 document

-- ---- a document has one reply at most

pub request_is_owed : (request : Request) (d : Document) → IsOwed (IsRequestRefusal request d) (IsAnswer request d)
request_is_owed check d = check_is_owed d
request_is_owed types d = types_is_owed d
request_is_owed (run_item name tape order) d = run_is_owed name tape d

typed_answer : (request : Request) (d : Document) (text : List ℕ) → IsAnswer request d text → IsTypedDocument d
typed_answer check d text answer = answer.typed
typed_answer types d text answer = answer.typed
typed_answer (run_item name tape order) d text answer = answer.typed

ill_and_typed : (d : Document) (r : Refusal) → IsIll d r → IsTypedDocument d → ⊥
ill_and_typed d r ill typed = none_and_some r (type_refusal-typed d typed) ill

one_refused_document : (request : Request) (d : Document) (r s : Refusal) → IsRefusedDocument request d r → IsRefusedDocument request d s → r ≡ s
one_refused_document request d r s (inl ill) (inl ill') = same_value r s ill ill'
one_refused_document request d r s (inl ill) (inr (typed, refuses)) = absurd (ill_and_typed d r ill typed)
one_refused_document request d r s (inr (typed, refuses)) (inl ill) = absurd (ill_and_typed d s ill typed)
one_refused_document request d r s (inr (typed, refuses)) (inr (typed', refuses')) =
    (request_is_owed request d).one_refusal r s refuses refuses'

refused_and_answered : (request : Request) (d : Document) (r : Refusal) (text : List ℕ) → IsRefusedDocument request d r → IsAnswer request d text → ⊥
refused_and_answered request d r text (inl ill) answer = ill_and_typed d r ill (typed_answer request d text answer)
refused_and_answered request d r text (inr (typed, refuses)) answer = (request_is_owed request d).not_both r text refuses answer

one_reply_by : (request : Request) (d : Document) (r s : Reply) → IsReplyBy (IsRefusedDocument request d) (IsAnswer request d) r → IsReplyBy (IsRefusedDocument request d) (IsAnswer request d) s → r ≡ s
one_reply_by request d r s (inl (a, refuses, is)) (inl (b, refuses', is')) =
    is ∙ ap refused (one_refused_document request d a b refuses refuses') ∙ sym is'
one_reply_by request d r s (inl (a, refuses, is)) (inr (text, answers, is')) = absurd (refused_and_answered request d a text refuses answers)
one_reply_by request d r s (inr (text, answers, is)) (inl (b, refuses, is')) = absurd (refused_and_answered request d b text refuses answers)
one_reply_by request d r s (inr (text, answers, is)) (inr (other, answers', is')) =
    is ∙ ap accepted ((request_is_owed request d).one_text text other answers answers') ∙ sym is'

-- what is spelled is one tree and one document
one_document_of : (request : Request) (d e : Document) (t u : Located) (bytes : List ℕ) (s : Reply) → IsDocument d t bytes → IsDocument e u bytes → IsReplyBy (IsRefusedDocument request e) (IsAnswer request e) s → IsReplyBy (IsRefusedDocument request d) (IsAnswer request d) s
one_document_of request d e t u bytes s document document' reply =
    let trees : u ≡ t = one_tree u t bytes document'.tree.spelled document.tree.spelled in
    let documents : e ≡ d = one_document e d t (subst (λ v. SpellsDocument e v) trees document'.spelled) document.spelled in
    subst (λ f. IsReplyBy (IsRefusedDocument request f) (IsAnswer request f) s) documents reply

one_reply_to : (request : Request) (bytes : List ℕ) (r s : Reply) → IsReplyTo request bytes r → IsReplyTo request bytes s → r ≡ s
one_reply_to request bytes r s (inl (a, refuses, is)) (inl (b, refuses', is')) =
    is ∙ ap refused (one_refused_source bytes a b refuses refuses') ∙ sym is'
one_reply_to request bytes r s (inl (a, refuses, is)) (inr (few, (t, d, document, reply))) = absurd (source_and_document d t bytes a refuses few document)
one_reply_to request bytes r s (inr (few, (t, d, document, reply))) (inl (b, refuses, is)) = absurd (source_and_document d t bytes b refuses few document)
one_reply_to request bytes r s (inr (few, (t, d, document, reply))) (inr (few', (u, e, document', reply'))) =
    one_reply_by request d r s reply (one_document_of request d e t u bytes s document document' reply')

pub one_reply : (words : List (List ℕ)) (bytes : List ℕ) (r s : Reply) → IsReply words bytes r → IsReply words bytes s → r ≡ s
one_reply words bytes r s (inl usage) (inl usage') = usage.1 ∙ sym usage'.1
one_reply words bytes r s (inl usage) (inr (c, form, reply)) = absurd (usage.0 c form)
one_reply words bytes r s (inr (c, form, reply)) (inl usage) = absurd (usage.0 c form)
one_reply words bytes r s (inr (c, form, reply)) (inr (c', form', reply')) =
    one_reply_to c bytes r s reply (subst (λ d. IsReplyTo d bytes s) (sym (same_request words c c' form form')) reply')
