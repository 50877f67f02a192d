-- What a run says of its words, its source and its sink.
use Rattle.std.specs.Prelude.{◌≡◌, ℕ, ◌≤◌, List, length, Option, Some, ◌⊎◌, ⊤}
use Rattle.ipdl_io.specs.Faults.{MayHaveRisen}
use Rattle.ipdl_tree.specs.Trees.{Located}
use Rattle.ipdl_forms.specs.Documents.{Document}
use Rattle.ipdl_top.specs.declared.status.Status.{Status}
use Rattle.ipdl_top.specs.declared.status.Status.TheVariants.{Accepted, WrongStep, BadSource, Usage, ReadFault, WriteFault, Memory, OverLimit}
use Rattle.ipdl_top.specs.Chains.{Claim, proved_text}
use Rattle.ipdl_top.specs.Meanings.{IsSoOfTheorems}
use Rattle.ipdl_top.specs.Replies.{IsDocument, IsAnswer, IsReply}
use Rattle.ipdl_top.specs.Requests.{Request, check, request_words, AskFor, ReadsNothing}
use Rattle.ipdl_top.specs.Statuses.{Reply}
use Rattle.ipdl_top.specs.Transfers.{source_limit, Took, TookFront}

-- a status that the words and the bytes decide
abbrev pub IsVerdict : Status → Type 0
IsVerdict Accepted = ⊤
IsVerdict WrongStep = ⊤
IsVerdict BadSource = ⊤
IsVerdict Usage = ⊤
IsVerdict ReadFault = ⊥
IsVerdict WriteFault = ⊥
IsVerdict Memory = ⊥
IsVerdict OverLimit = ⊤

-- a status that is answered after the last byte of a source
abbrev pub IsAfterSource : Status → Type 0
IsAfterSource Accepted = ⊤
IsAfterSource WrongStep = ⊤
IsAfterSource BadSource = ⊤
IsAfterSource Usage = ⊥
IsAfterSource ReadFault = ⊥
IsAfterSource WriteFault = ⊥
IsAfterSource Memory = ⊥
IsAfterSource OverLimit = ⊥

-- words and a status that want all bytes of the source
abbrev pub IsOfWholeSource : List (List ℕ) → Status → Type 0
IsOfWholeSource words status = IsAfterSource status × (ReadsNothing words → ⊥)

-- the text was written whole and the status is the one planned, or a write failed
pub record IsFinished (planned result : Status) (taken taken' : Option (List ℕ)) (faults faults' : ℕ) (text : List ℕ) : Type 0 where
  pub front : TookFront taken taken' text
  pub never_falls : faults ≤ faults'
  pub outcome : ((result ≡ planned) × Took taken taken' text × (faults' ≡ faults)) ⊎ ((result ≡ WriteFault) × MayHaveRisen faults faults')

-- where the source tells its bytes, the status and the text are those of the reply to the words and to all of them
abbrev pub IsReplied : List (List ℕ) → Status → Option (List ℕ) → Option (List ℕ) → Option (List ℕ) → Type 0
IsReplied words result left taken taken' =
    (bytes : List ℕ) → left ≡ Some bytes → (reply : Reply) × IsReply words bytes reply × (result ≡ reply.status) × Took taken taken' reply.text

-- likewise the front of the reply's text was written
abbrev pub IsRepliedFront : List (List ℕ) → Option (List ℕ) → Option (List ℕ) → Option (List ℕ) → Type 0
IsRepliedFront words left taken taken' =
    (bytes : List ℕ) → left ≡ Some bytes → (reply : Reply) × IsReply words bytes reply × TookFront taken taken' reply.text

-- the bytes are those of a document, and this text answers what is asked of it
pub record IsAnswered (request : Request) (bytes : List ℕ) (t : Located) (d : Document) (text : List ℕ) : Type 0 where
  pub few : length bytes ≤ source_limit
  pub document : IsDocument d t bytes
  pub answer : IsAnswer request d text

-- The words are those of a request, where they are those of any. The bytes that the source told are those of a
-- document, and the text that answers the request was written.
abbrev pub IsAccepted : List (List ℕ) → (left taken taken' : Option (List ℕ)) → Type 0
IsAccepted words left taken taken' =
    (request : Request) × AskFor words request × ((bytes : List ℕ) → left ≡ Some bytes →
    (t : Located) × (d : Document) × (text : List ℕ) × IsAnswered request bytes t d text × Took taken taken' text)

-- Where the words are `check`, the bytes that the source told are those of a document, the text of its chains was written,
-- and this is so of what each of its theorems claims.
abbrev pub IsChecked : (Claim → Type 0) → List (List ℕ) → (left taken taken' : Option (List ℕ)) → Type 0
IsChecked holds words left taken taken' =
    words ≡ request_words check → (bytes : List ℕ) → left ≡ Some bytes →
    (t : Located) × (d : Document) × IsDocument d t bytes × Took taken taken' (proved_text d) × IsSoOfTheorems holds d
