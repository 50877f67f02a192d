-- What a text that was written, or the front of it, says of the reply.
use Rattle.std.proofs.Common.{◌≡◌, ℕ, ◌+◌, List, ◌++◌, length, Option, Some, None, refl, sym, ap, subst, ◌∙◌, ◌⊎◌, inl, inr, append-nil, length-append, arith}
use Rattle.std.specs.Prelude.{⊤}
use Rattle.std.specs.Io.KnownBytes.{prepend_known, IsAtEnd}
use Rattle.ipdl_io.specs.Faults.{MayHaveRisen, DidNotRise}
use Rattle.ipdl_top.specs.declared.status.Status.{Status}
use Rattle.ipdl_top.specs.declared.status.Status.TheVariants.{Accepted, WrongStep, BadSource, Usage, ReadFault, WriteFault, Memory, OverLimit}
use Rattle.ipdl_top.specs.Replies.{over_source, usage_reply, IsReplyTo, IsReply}
use Rattle.ipdl_top.specs.Requests.{Request, AskFor, AreOfNoForm}
use Rattle.ipdl_top.specs.Runs.{IsVerdict, IsFinished, IsReplied, IsRepliedFront}
use Rattle.ipdl_top.specs.Statuses.{wrong, bad, over, Kind, kind_status, Reply, reply_of}
use Rattle.ipdl_top.specs.Transfers.{source_limit, Gave, GaveTooMany}

-- the text that is planned belongs to a reply to the words and to all bytes that the source tells
abbrev pub IsPlanned : List (List ℕ) → Option (List ℕ) → Status → List ℕ → Type 0
IsPlanned words left planned text = (bytes : List ℕ) → left ≡ Some bytes → IsReply words bytes (reply_of planned text)

-- what is written whole is the reply
pub IsReplied-calm : {words : List (List ℕ)} {left : Option (List ℕ)} {planned result : Status} {taken taken' : Option (List ℕ)} {f f' : ℕ} {text : List ℕ} → IsPlanned words left planned text → IsFinished planned result taken taken' f f' text → DidNotRise f f' → IsReplied words result left taken taken'
IsReplied-calm {planned = planned} {f = f} {f' = f'} {text = text} plan finished calm bytes e =
    elim finished.outcome [
      | inl whole ↦ (reply_of planned text, plan bytes e, whole.0, whole.1)
      | inr failed ↦ absurd (omega (arith, failed.1 calm.1, calm.0))
    ]

-- no verdict comes of a write that failed
pub IsReplied-verdict : {words : List (List ℕ)} {left : Option (List ℕ)} {planned result : Status} {taken taken' : Option (List ℕ)} {f f' : ℕ} {text : List ℕ} → IsPlanned words left planned text → IsFinished planned result taken taken' f f' text → IsVerdict result → IsReplied words result left taken taken'
IsReplied-verdict {planned = planned} {text = text} plan finished verdict bytes e =
    elim finished.outcome [
      | inl whole ↦ (reply_of planned text, plan bytes e, whole.0, whole.1)
      | inr failed ↦ absurd (subst IsVerdict failed.0 verdict)
    ]

pub IsRepliedFront-finished : {words : List (List ℕ)} {left : Option (List ℕ)} {planned result : Status} {taken taken' : Option (List ℕ)} {f f' : ℕ} {text : List ℕ} → IsPlanned words left planned text → IsFinished planned result taken taken' f f' text → IsRepliedFront words left taken taken'
IsRepliedFront-finished {planned = planned} {text = text} plan finished bytes e =
    (reply_of planned text, plan bytes e, finished.front)

-- ---- plans

pub IsPlanned-usage : (words : List (List ℕ)) (left : Option (List ℕ)) → AreOfNoForm words → IsPlanned words left Usage usage_reply.text
IsPlanned-usage words left none bytes e = inl (none, refl)

-- what was told at first is what was given and what is told after
told_bytes : (left : Option (List ℕ)) (bytes given : List ℕ) → prepend_known given left ≡ Some bytes → (rest : List ℕ) × (left ≡ Some rest) × (bytes ≡ given ++ rest)
told_bytes None bytes given e = cc
told_bytes (Some rest) bytes given e = (rest, refl, cc)

pub IsPlanned-over : (request : Request) (words : List (List ℕ)) (left left' : Option (List ℕ)) → AskFor words request → GaveTooMany left left' → IsPlanned words left OverLimit over_source.text
IsPlanned-over request words left left' form gave bytes e =
    let told = told_bytes left' bytes gave.0 (sym gave.2 ∙ e) in
    let long : length bytes ≡ length gave.0 + length told.0 = ap length told.2 ∙ length-append gave.0 told.0 in
    let many : length gave.0 ≡ source_limit + 1 = gave.1 in
    inr (request, form, inl (over_source, inl (omega arith, refl), refl))

-- all bytes are those that were given, where nothing is left after them
pub all_bytes : (left left' : Option (List ℕ)) (bytes given : List ℕ) → Gave left left' given → IsAtEnd left' → left ≡ Some bytes → bytes ≡ given
all_bytes left None bytes given gave at_end e = absurd (cc (sym gave ∙ e))
all_bytes left (Some rest) bytes given gave at_end e =
    let told = told_bytes (Some rest) bytes given (sym gave ∙ e) in
    let nothing : told.0 ≡ rest = cc (told.1) in
    told.2 ∙ ap (λ more. given ++ more) (nothing ∙ at_end) ∙ append-nil given

pub IsPlanned-within : (request : Request) (words : List (List ℕ)) (left left' : Option (List ℕ)) (given : List ℕ) (planned : Status) (text : List ℕ) → AskFor words request → Gave left left' given → IsAtEnd left' → IsReplyTo request given (reply_of planned text) → IsPlanned words left planned text
IsPlanned-within request words left left' given planned text form gave at_end reply bytes e =
    let same : bytes ≡ given = all_bytes left left' bytes given gave at_end e in
    let P : List ℕ → Type 0 = λ all. IsReply words all (reply_of planned text) in
    subst P (sym same) (inr (request, form, reply))

-- ---- with what statuses the bytes of a source are answered

abbrev pub IsOfSource : Status → Type 0
IsOfSource Accepted = ⊤
IsOfSource WrongStep = ⊤
IsOfSource BadSource = ⊤
IsOfSource Usage = ⊥
IsOfSource ReadFault = ⊥
IsOfSource WriteFault = ⊥
IsOfSource Memory = ⊥
IsOfSource OverLimit = ⊤

of_kind : (kind : Kind) → IsOfSource (kind_status kind)
of_kind wrong = tt
of_kind bad = tt
of_kind over = tt

of_status : {r s : Reply} → r ≡ s → IsOfSource s.status → IsOfSource r.status
of_status e of = subst (λ (x : Reply). IsOfSource x.status) (sym e) of

pub IsOfSource-replied : (request : Request) (bytes : List ℕ) (r : Reply) → IsReplyTo request bytes r → IsOfSource r.status
IsOfSource-replied request bytes r (inl (a, refuses, is)) = of_status is (of_kind a.kind)
IsOfSource-replied request bytes r (inr (few, (t, d, document, inl (a, refuses, is)))) = of_status is (of_kind a.kind)
IsOfSource-replied request bytes r (inr (few, (t, d, document, inr (text, answers, is)))) = of_status is tt

-- what a run then ends with is one of them, or tells a write that failed
pub of_source : {planned result : Status} {text : List ℕ} {taken taken' : Option (List ℕ)} {f f' : ℕ} → IsOfSource planned → IsFinished planned result taken taken' f f' text → IsOfSource result ⊎ ((result ≡ WriteFault) × MayHaveRisen f f')
of_source of finished =
    elim finished.outcome [
      | inl whole ↦ inl (subst IsOfSource (sym whole.0) of)
      | inr failed ↦ inr failed
    ]

pub no_usage : {result : Status} {f f' : ℕ} → IsOfSource result ⊎ ((result ≡ WriteFault) × MayHaveRisen f f') → result ≡ Usage → ⊥
no_usage (inl of) e = subst IsOfSource e of
no_usage (inr failed) e = let is = failed.0 in cc

pub no_read_fault : {result : Status} {f f' : ℕ} → IsOfSource result ⊎ ((result ≡ WriteFault) × MayHaveRisen f f') → result ≡ ReadFault → ⊥
no_read_fault (inl of) e = subst IsOfSource e of
no_read_fault (inr failed) e = let is = failed.0 in cc

pub no_memory : {result : Status} {f f' : ℕ} → IsOfSource result ⊎ ((result ≡ WriteFault) × MayHaveRisen f f') → result ≡ Memory → ⊥
no_memory (inl of) e = subst IsOfSource e of
no_memory (inr failed) e = let is = failed.0 in cc

pub write_failed : {result : Status} {f f' : ℕ} → IsOfSource result ⊎ ((result ≡ WriteFault) × MayHaveRisen f f') → result ≡ WriteFault → MayHaveRisen f f'
write_failed (inl of) e = absurd (subst IsOfSource e of)
write_failed (inr failed) e = failed.1

-- what was planned for words of no form is no yes
pub usage_not_accepted : {result : Status} {taken taken' : Option (List ℕ)} {f f' : ℕ} {text : List ℕ} → IsFinished Usage result taken taken' f f' text → result ≡ Accepted → ⊥
usage_not_accepted finished e =
    elim finished.outcome [
      | inl whole ↦ cc (sym e ∙ whole.0)
      | inr failed ↦ cc (sym e ∙ failed.0)
    ]
