-- What is answered to words and bytes: the first refusal that applies, or the text that answers the request.
use Rattle.std.specs.Prelude.{◌≡◌, ℕ, ◌<◌, ◌≤◌, List, length, Some, codes, ◌⊎◌}
use Rattle.ipdl_base.specs.Limits.{limit_number}
use Rattle.ipdl_base.specs.declared.limit.Limit.{Limit}
use Rattle.ipdl_base.specs.declared.limit.Limit.TheVariants.{Depth}
use Rattle.ipdl_tree.specs.Refusals.{Cause, bad_byte, bad_name, unclosed, extra, no_text, deep, refusal}
use Rattle.ipdl_tree.specs.declared.fault.SpellCause.TheVariants.{BadByte, BadName, Unclosed, Extra, NoText}
use Rattle.ipdl_tree.specs.Spelling.{SpellsSource}
use Rattle.ipdl_tree.specs.Trees.{Located, depth_of}
use Rattle.ipdl_forms.specs.Documents.{Document}
use Rattle.ipdl_forms.specs.Faults.{form_fault, over_fault, first_fault}
use Rattle.ipdl_forms.specs.Items.{SpellsDocument, document_faults}
use Rattle.ipdl_forms.specs.Limits.{IsWithinLimits}
use Rattle.ipdl_forms.specs.declared.fault.FormCause.{FormCause}
use Rattle.ipdl_top.specs.Checking.{IsCheckRefusal, IsCheckAnswer}
use Rattle.ipdl_top.specs.Refusals.{unspelled, misformed, over_at_byte}
use Rattle.ipdl_top.specs.Requests.{Request, check, types, run_item, AskFor, AreOfNoForm}
use Rattle.ipdl_top.specs.Running.{IsRunRefusal, IsRunAnswer}
use Rattle.ipdl_top.specs.Statuses.{over, Refusal, refusal_of, Reply, reply_of, refused, accepted}
use Rattle.ipdl_top.specs.Telling.{IsTypesRefusal, IsTypesAnswer}
use Rattle.ipdl_top.specs.Transfers.{source_limit}
use Rattle.ipdl_top.specs.Typed.{type_refusal, IsTypedDocument}
use Rattle.ipdl_printing.specs.Texts.{line}
use Rattle.ipdl_top.specs.declared.status.Status.TheVariants.{Usage, ReadFault}

-- words of no form
abbrev pub usage_reply : Reply
usage_reply = reply_of Usage (line (codes "usage"))

-- a source that failed
abbrev pub fault_reply : Reply
fault_reply = reply_of ReadFault (line (codes "fault read"))

-- a source of too many bytes
abbrev pub over_source : Refusal
over_source = refusal_of over (line (codes "limit Source 1048576 at byte 1048576"))

-- ---- a source that is refused, whatever is asked

-- bytes that spell no tree, or one of too many parentheses inside one another
abbrev pub tree_refusal : (offset : ℕ) → Cause → Refusal
tree_refusal offset bad_byte = unspelled offset BadByte
tree_refusal offset bad_name = unspelled offset BadName
tree_refusal offset unclosed = unspelled offset Unclosed
tree_refusal offset extra = unspelled offset Extra
tree_refusal offset no_text = unspelled offset NoText
tree_refusal offset deep = over_at_byte Depth offset

-- the bytes spell no tree within the limit
abbrev pub IsUnspelled : List ℕ → Refusal → Type 0
IsUnspelled bytes r =
    (offset : ℕ) × (cause : Cause) × (refusal bytes ≡ Some (offset, cause)) × (r ≡ tree_refusal offset cause)

-- the first test of the tree that fails is of a form
abbrev pub IsMisformed : Located → Refusal → Type 0
IsMisformed t r =
    (offset : ℕ) × (cause : FormCause) × (first_fault (document_faults t) ≡ Some (form_fault cause offset))
    × (r ≡ misformed offset cause)

-- the first test of the tree that fails is of a limit
abbrev pub IsOverLimit : Located → Refusal → Type 0
IsOverLimit t r =
    (offset : ℕ) × (limit : Limit) × (first_fault (document_faults t) ≡ Some (over_fault limit offset))
    × (r ≡ over_at_byte limit offset)

-- the bytes spell this tree, which is within the limit
pub record IsTree (t : Located) (bytes : List ℕ) : Type 0 where
  pub spelled : SpellsSource t bytes
  pub shallow : depth_of t ≤ limit_number Depth

-- the bytes, which are not too many, are refused before they give a document
abbrev pub IsRefusedWithin : List ℕ → Refusal → Type 0
IsRefusedWithin bytes r =
    IsUnspelled bytes r ⊎ ((t : Located) × IsTree t bytes × (IsMisformed t r ⊎ IsOverLimit t r))

-- all bytes of a source are refused
abbrev pub IsRefusedSource : List ℕ → Refusal → Type 0
IsRefusedSource bytes r =
    ((source_limit < length bytes) × (r ≡ over_source)) ⊎ ((length bytes ≤ source_limit) × IsRefusedWithin bytes r)

-- ---- a source that is a document

-- the bytes spell this tree and the tree this document, and both are within the limits
pub record IsDocument (d : Document) (t : Located) (bytes : List ℕ) : Type 0 where
  pub tree : IsTree t bytes
  pub spelled : SpellsDocument d t
  pub within : IsWithinLimits d

-- what is asked of a document whose items are well typed is refused
abbrev pub IsRequestRefusal : Request → Document → Refusal → Type 0
IsRequestRefusal check d r = IsCheckRefusal d r
IsRequestRefusal types d r = IsTypesRefusal d r
IsRequestRefusal (run_item name tape order) d r = IsRunRefusal name tape d r

-- what is asked of a document is answered by this text
abbrev pub IsAnswer : Request → Document → List ℕ → Type 0
IsAnswer check d text = IsCheckAnswer d text
IsAnswer types d text = IsTypesAnswer d text
IsAnswer (run_item name tape order) d text = IsRunAnswer name tape d text

-- a test of an item fails, and this is the first one
abbrev pub IsIll : Document → Refusal → Type 0
IsIll d r = type_refusal d ≡ Some r

-- a document is refused: an item of it, or what is asked of it
abbrev pub IsRefusedDocument : Request → Document → Refusal → Type 0
IsRefusedDocument request d r = IsIll d r ⊎ (IsTypedDocument d × IsRequestRefusal request d r)

-- ---- the reply

-- a refusal, or else a text
abbrev pub IsReplyBy : (Refusal → Type 0) → (List ℕ → Type 0) → Reply → Type 0
IsReplyBy refuses answers reply =
    ((r : Refusal) × refuses r × (reply ≡ refused r)) ⊎ ((text : List ℕ) × answers text × (reply ≡ accepted text))

-- the reply to a request, to all bytes of a source
abbrev pub IsReplyTo : Request → List ℕ → Reply → Type 0
IsReplyTo request bytes reply =
    ((r : Refusal) × IsRefusedSource bytes r × (reply ≡ refused r))
    ⊎ ((length bytes ≤ source_limit) × ((t : Located) × (d : Document) × IsDocument d t bytes
    × IsReplyBy (IsRefusedDocument request d) (IsAnswer request d) reply))

-- the reply to words, and to all bytes of a source
abbrev pub IsReply : List (List ℕ) → List ℕ → Reply → Type 0
IsReply words bytes reply =
    (AreOfNoForm words × (reply ≡ usage_reply))
    ⊎ ((request : Request) × AskFor words request × IsReplyTo request bytes reply)
