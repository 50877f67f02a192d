-- There is a reply to any words and bytes.
use Rattle.std.proofs.Common.{◌≡◌, ℕ, ◌<◌, ◌≤◌, List, [], ◌∷◌, length, Option, Some, None, refl, ap, ◌∙◌, ◌⊎◌, inl, inr}
use Rattle.std.proofs.lemmas.Bool.{cases_lt}
use Rattle.ipdl_base.specs.declared.limit.Limit.{Limit}
use Rattle.ipdl_tree.specs.Refusals.{Cause, refusal}
use Rattle.ipdl_tree.specs.Spelling.{SpellsSource}
use Rattle.ipdl_tree.specs.Trees.{Located, IsShallow}
use Rattle.ipdl_tree.proofs.Sources.{spelled-not_refused}
use Rattle.ipdl_forms.specs.Documents.{Document}
use Rattle.ipdl_forms.specs.Faults.{form_fault, over_fault, first_fault}
use Rattle.ipdl_forms.specs.Items.{SpellsDocument, document_faults}
use Rattle.ipdl_forms.specs.Limits.{IsWithinLimits}
use Rattle.ipdl_forms.proofs.PlainFaults.{first_told}
use Rattle.ipdl_forms.proofs.SpelledItems.{document_within}
use Rattle.ipdl_forms.specs.declared.fault.DocFault.{DocFault}
use Rattle.ipdl_forms.specs.declared.fault.FormCause.{FormCause}
use Rattle.ipdl_top.specs.Refusals.{misformed, over_at_byte}
use Rattle.ipdl_top.specs.Replies.{usage_reply, over_source, tree_refusal, IsTree, IsRefusedSource, IsDocument, IsRequestRefusal, IsAnswer, IsRefusedDocument, IsReplyBy, IsReplyTo, IsReply}
use Rattle.ipdl_top.specs.Requests.{Request, check, types, run_item, AskFor, AreOfNoForm}
use Rattle.ipdl_top.specs.Statuses.{Refusal, Reply, refused, accepted}
use Rattle.ipdl_top.specs.Transfers.{source_limit}
use Rattle.ipdl_top.specs.Typed.{type_refusal, IsTypedDocument}
use Rattle.ipdl_top.proofs.Checking.{check_is_there}
use Rattle.ipdl_top.proofs.ItemTypes.{IsTypedDocument-none}
use Rattle.ipdl_top.proofs.Named.{HaveSides-spelled}
use Rattle.ipdl_top.proofs.Owed.{IsThereOne}
use Rattle.ipdl_top.proofs.Requests.{some_request_or_none}
use Rattle.ipdl_top.proofs.Running.{run_is_there}
use Rattle.ipdl_top.proofs.Telling.{types_is_there}

-- some reply to a request
abbrev HasReplyTo : Request → List ℕ → Type 0
HasReplyTo request bytes = (reply : Reply) × IsReplyTo request bytes reply

-- a source that is refused has its reply
refused_source : (request : Request) (bytes : List ℕ) (r : Refusal) → IsRefusedSource bytes r → HasReplyTo request bytes
refused_source request bytes r is = (refused r, inl (r, is, refl))

-- ---- a document

-- what is asked of a document whose items are well typed is refused or answered
asked : (request : Request) (d : Document) (t : Located) (bytes : List ℕ) → IsDocument d t bytes → IsTypedDocument d → IsThereOne (IsRequestRefusal request d) (IsAnswer request d)
asked check d t bytes document typed = check_is_there d (HaveSides-spelled d t document.spelled) typed
asked types d t bytes document typed = types_is_there d typed
asked (run_item name tape order) d t bytes document typed = run_is_there name tape d typed

typed_document : (request : Request) (d : Document) → IsTypedDocument d → IsThereOne (IsRequestRefusal request d) (IsAnswer request d) → (reply : Reply) × IsReplyBy (IsRefusedDocument request d) (IsAnswer request d) reply
typed_document request d typed (inl (r, refuses)) = (refused r, inl (r, inr (typed, refuses), refl))
typed_document request d typed (inr (text, answers)) = (accepted text, inr (text, answers, refl))

document : (request : Request) (d : Document) (t : Located) (bytes : List ℕ) → IsDocument d t bytes → (reply : Reply) × IsReplyBy (IsRefusedDocument request d) (IsAnswer request d) reply
document request d t bytes is = by_type (type_refusal d) refl
  where
    by_type : (ill : Option Refusal) → type_refusal d ≡ ill → (reply : Reply) × IsReplyBy (IsRefusedDocument request d) (IsAnswer request d) reply
    by_type (Some r) e = (refused r, inl (r, inl e, refl))
    by_type None e =
        let typed = IsTypedDocument-none d (HaveSides-spelled d t is.spelled) e in
        typed_document request d typed (asked request d t bytes is typed)

of_document : (request : Request) (d : Document) (t : Located) (bytes : List ℕ) → length bytes ≤ source_limit → IsDocument d t bytes → (reply : Reply) × IsReplyBy (IsRefusedDocument request d) (IsAnswer request d) reply → HasReplyTo request bytes
of_document request d t bytes few is (reply, by) = (reply, inr (few, (t, d, is, by)))

-- ---- a tree

-- what the first fault of a tree tells
abbrev IsTold : DocFault → Type 0
IsTold fault =
    ((offset : ℕ) × (cause : FormCause) × (fault ≡ form_fault cause offset)) ⊎ ((offset : ℕ) × (limit : Limit) × (fault ≡ over_fault limit offset))

faulty_tree : (request : Request) (bytes : List ℕ) (t : Located) (fault : DocFault) → length bytes ≤ source_limit → IsTree t bytes → first_fault (document_faults t) ≡ Some fault → IsTold fault → HasReplyTo request bytes
faulty_tree request bytes t fault few tree e (inl (offset, cause, is)) =
    refused_source request bytes (misformed offset cause) (inr (few, inr (t, tree, inl (offset, cause, e ∙ ap Some is, refl))))
faulty_tree request bytes t fault few tree e (inr (offset, limit, is)) =
    refused_source request bytes (over_at_byte limit offset) (inr (few, inr (t, tree, inr (offset, limit, e ∙ ap Some is, refl))))

no_first_fault : (faults : List DocFault) → first_fault faults ≡ None → faults ≡ []
no_first_fault [] e = refl
no_first_fault (fault ∷ faults) e = cc

tree : (request : Request) (bytes : List ℕ) (t : Located) → length bytes ≤ source_limit → IsTree t bytes → HasReplyTo request bytes
tree request bytes t few is = by_fault (first_fault (document_faults t)) refl
  where
    by_fault : (first : Option DocFault) → first_fault (document_faults t) ≡ first → HasReplyTo request bytes
    by_fault (Some fault) e = faulty_tree request bytes t fault few is e (first_told t fault e)
    by_fault None e = read (document_within t (no_first_fault (document_faults t) e))
      where
        read : (d : Document) × SpellsDocument d t × IsWithinLimits d → HasReplyTo request bytes
        read (d, spelled, within) =
            let is_document : IsDocument d t bytes = record { tree = is; spelled = spelled; within = within } in
            of_document request d t bytes few is_document (document request d t bytes is_document)

-- ---- bytes and words

bytes_within : (request : Request) (bytes : List ℕ) → length bytes ≤ source_limit → HasReplyTo request bytes
bytes_within request bytes few = by_refusal (refusal bytes) refl
  where
    by_refusal : (refused_at : Option (ℕ × Cause)) → refusal bytes ≡ refused_at → HasReplyTo request bytes
    by_refusal (Some (offset, cause)) e =
        refused_source request bytes (tree_refusal offset cause) (inr (few, inl (offset, cause, e, refl)))
    by_refusal None e = spelled (spelled-not_refused bytes e)
      where
        spelled : (t : Located) × SpellsSource t bytes × IsShallow t → HasReplyTo request bytes
        spelled (t, spells, shallow) = tree request bytes t few (record { spelled = spells; shallow = shallow })

all_bytes : (request : Request) (bytes : List ℕ) → HasReplyTo request bytes
all_bytes request bytes = by_length (cases_lt source_limit (length bytes))
  where
    by_length : (source_limit < length bytes) ⊎ (length bytes ≤ source_limit) → HasReplyTo request bytes
    by_length (inl long) = refused_source request bytes over_source (inl (long, refl))
    by_length (inr few) = bytes_within request bytes few

pub some_reply : (words : List (List ℕ)) (bytes : List ℕ) → (reply : Reply) × IsReply words bytes reply
some_reply words bytes = by_words (some_request_or_none words)
  where
    of_request : (request : Request) → AskFor words request → HasReplyTo request bytes → (reply : Reply) × IsReply words bytes reply
    of_request request are (reply, is) = (reply, inr (request, are, is))

    by_words : AreOfNoForm words ⊎ ((request : Request) × AskFor words request) → (reply : Reply) × IsReply words bytes reply
    by_words (inl none) = (usage_reply, inl (none, refl))
    by_words (inr (request, are)) = of_request request are (all_bytes request bytes)
