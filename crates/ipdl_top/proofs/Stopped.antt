-- What a call that stopped, or gave a text, says of the refusals and the text that there are.
use Rattle.std.proofs.Common.{◌≡◌, ◌≢◌, ℕ, ◌≤◌, List, length, Option, Some, None, Result, Ok, Err, refl, sym, subst, inl, inr}
use Rattle.std.specs.Global.{Vec}
use Rattle.std.specs.Prelude.{IfOk, IfErr}
use Rattle.std.proofs.lemmas.Option.{same_Some}
use Rattle.ipdl_base.specs.Limits.{limit_number}
use Rattle.ipdl_base.specs.declared.limit.Limit.TheVariants.{Depth}
use Rattle.ipdl_tree.specs.Faults.{fault_of, IsFaultOf}
use Rattle.ipdl_tree.specs.Refusals.{Cause, bad_byte, bad_name, unclosed, extra, no_text, deep, refusal}
use Rattle.ipdl_tree.specs.Spelling.{SpellsSource}
use Rattle.ipdl_tree.specs.Trees.{Located, depth_of}
use Rattle.ipdl_tree.specs.declared.fault.TreeFault.{TreeFault}
use Rattle.ipdl_tree.specs.declared.fault.TreeFault.TheVariants as T
use Rattle.ipdl_forms.specs.Documents.{Document}
use Rattle.ipdl_forms.specs.Faults.{TellsFirst}
use Rattle.ipdl_forms.specs.Items.{SpellsDocument, document_faults}
use Rattle.ipdl_forms.specs.declared.fault.DocFault.{DocFault}
use Rattle.ipdl_forms.specs.declared.fault.DocFault.TheVariants as F
use Rattle.ipdl_top.specs.Chains.{proved_text}
use Rattle.ipdl_top.specs.Checking.{IsCheckRefusal, IsCheckAnswer}
use Rattle.ipdl_top.specs.Replies.{tree_refusal, IsDocument, IsRefusedWithin, IsRequestRefusal, IsAnswer, IsRefusedDocument, IsReplyTo}
use Rattle.ipdl_top.specs.Requests.{Request}
use Rattle.ipdl_top.specs.Scripts.{script_refusal}
use Rattle.ipdl_top.specs.Statuses.{Refusal, refused, accepted}
use Rattle.ipdl_top.specs.Summaries.{summary_text}
use Rattle.ipdl_top.specs.Telling.{IsTypesRefusal, IsTypesAnswer}
use Rattle.ipdl_top.specs.declared.request.Request.{Request as Asked}
use Rattle.ipdl_top.specs.Told.{request_of, told, tree_stop, document_stop, IsStop, Tests, Settles}
use Rattle.ipdl_top.specs.Transfers.{source_limit}
use Rattle.ipdl_top.specs.Typed.{type_refusal, IsTypedDocument}
use Rattle.ipdl_top.specs.declared.refusal.Stop.{Stop}
use Rattle.ipdl_top.specs.declared.refusal.Stop.TheVariants.{Refused, Memory}
use Rattle.ipdl_top.proofs.Checking.{IsCheckAnswer-none}
use Rattle.ipdl_top.proofs.Named.{HaveSides-spelled}

-- ---- one refusal in place of another

pub Settles-weaker : (result : Result (Vec ℕ) Stop) (P Q : Refusal → Type 0) (A B : List ℕ → Type 0) → ((r : Refusal) → P r → Q r) → ((text : List ℕ) → A text → B text) → Settles result P A → Settles result Q B
Settles-weaker (Ok text) P Q A B f g is = g text.items is
Settles-weaker (Err (Refused held)) P Q A B f g is = f (told held) is
Settles-weaker (Err Memory) P Q A B f g is = tt

-- ---- documents

pub Settles-check : (d : Document) (t : Located) (result : Result (Vec ℕ) Stop) → SpellsDocument d t → IsTypedDocument d → Tests result (script_refusal d) → IfOk result (λ (text : Vec ℕ). text.items ≡ proved_text d) → Settles result (IsCheckRefusal d) (IsCheckAnswer d)
Settles-check d t (Ok text) spelled typed tests written =
    IsCheckAnswer-none d text.items (HaveSides-spelled d t spelled) typed tests written
Settles-check d t (Err (Refused held)) spelled typed tests written = tests
Settles-check d t (Err Memory) spelled typed tests written = tt

pub Settles-types : (d : Document) (result : Result (Vec ℕ) Stop) → IsTypedDocument d → IfOk result (λ (text : Vec ℕ). text.items ≡ summary_text d) → IfErr result (λ stop. stop ≡ Memory) → Settles result (IsTypesRefusal d) (IsTypesAnswer d)
Settles-types d (Ok text) typed written memory = record { typed = typed; written = written }
Settles-types d (Err (Refused held)) typed written memory = absurd (let e = memory in cc)
Settles-types d (Err Memory) typed written memory = tt

-- what is said of one request is said of the same one
pub Settles-at : (asked other : Asked) (d : Document) (result : Result (Vec ℕ) Stop) → asked ≡ other → Settles result (IsRequestRefusal (request_of other) d) (IsAnswer (request_of other) d) → Settles result (IsRequestRefusal (request_of asked) d) (IsAnswer (request_of asked) d)
Settles-at asked other d result e is =
    subst (λ (a : Asked). Settles result (IsRequestRefusal (request_of a) d) (IsAnswer (request_of a) d)) (sym e) is

pub Settles-ill : (request : Request) (d : Document) (stop : Stop) → IsStop stop (type_refusal d) → Settles (Err stop) (IsRefusedDocument request d) (IsAnswer request d)
Settles-ill request d (Refused held) is = inl is
Settles-ill request d Memory is = tt

pub Settles-asked : (request : Request) (d : Document) (result : Result (Vec ℕ) Stop) → IsTypedDocument d → Settles result (IsRequestRefusal request d) (IsAnswer request d) → Settles result (IsRefusedDocument request d) (IsAnswer request d)
Settles-asked request d result typed =
    Settles-weaker result (IsRequestRefusal request d) (IsRefusedDocument request d) (IsAnswer request d) (IsAnswer request d)
    (λ r refuses. inr (typed, refuses)) (λ text answers. answers)

-- ---- sources

-- what is said of the bytes within the limit is a reply
refused_within : (request : Request) (bytes : List ℕ) (r : Refusal) → length bytes ≤ source_limit → IsRefusedWithin bytes r → IsReplyTo request bytes (refused r)
refused_within request bytes r few refuses = inl (r, inr (few, refuses), refl)

-- the refusal of the fault that is told
told_unspelled : (bytes : List ℕ) (c : Option (ℕ × Cause)) (fault : TreeFault) → refusal bytes ≡ c → IsFaultOf c fault → fault ≢ T.Memory → (r : ℕ × Cause) × (refusal bytes ≡ Some r) × (fault_of r ≡ fault)
told_unspelled bytes c T.Memory is told granted = absurd (granted refl)
told_unspelled bytes None (T.Spell pos cause) is told granted = cc
told_unspelled bytes None (T.Deep pos) is told granted = cc
told_unspelled bytes (Some r) (T.Spell pos cause) is told granted = (r, is, same_Some _ _ told)
told_unspelled bytes (Some r) (T.Deep pos) is told granted = (r, is, same_Some _ _ told)

stop_of_cause : (request : Request) (bytes : List ℕ) (offset : ℕ) (cause : Cause) → length bytes ≤ source_limit → refusal bytes ≡ Some (offset, cause) → Settles (Err (tree_stop (fault_of (offset, cause)))) (λ r. IsReplyTo request bytes (refused r)) (λ text. IsReplyTo request bytes (accepted text))
stop_of_cause request bytes offset bad_byte few e = refused_within request bytes (tree_refusal offset bad_byte) few (inl (offset, bad_byte, e, refl))
stop_of_cause request bytes offset bad_name few e = refused_within request bytes (tree_refusal offset bad_name) few (inl (offset, bad_name, e, refl))
stop_of_cause request bytes offset unclosed few e = refused_within request bytes (tree_refusal offset unclosed) few (inl (offset, unclosed, e, refl))
stop_of_cause request bytes offset extra few e = refused_within request bytes (tree_refusal offset extra) few (inl (offset, extra, e, refl))
stop_of_cause request bytes offset no_text few e = refused_within request bytes (tree_refusal offset no_text) few (inl (offset, no_text, e, refl))
stop_of_cause request bytes offset deep few e = refused_within request bytes (tree_refusal offset deep) few (inl (offset, deep, e, refl))

AnswersTo : Request → List ℕ → Result (Vec ℕ) Stop → Type 0
AnswersTo request bytes result = Settles result (λ r. IsReplyTo request bytes (refused r)) (λ text. IsReplyTo request bytes (accepted text))

pub Settles-unspelled : (request : Request) (bytes : List ℕ) (fault : TreeFault) (stop : Stop) → length bytes ≤ source_limit → IsFaultOf (refusal bytes) fault → stop ≡ tree_stop fault → Settles (Err stop) (λ r. IsReplyTo request bytes (refused r)) (λ text. IsReplyTo request bytes (accepted text))
unfolding AnswersTo
Settles-unspelled request bytes fault stop few told e = subst (λ s. AnswersTo request bytes (Err s)) (sym e) (by_fault fault told)
  where
    by_told : (f : TreeFault) → (r : ℕ × Cause) × (refusal bytes ≡ Some r) × (fault_of r ≡ f) → AnswersTo request bytes (Err (tree_stop f))
    by_told f (r, is, same) = subst (λ g. AnswersTo request bytes (Err (tree_stop g))) same (stop_of_cause request bytes r.0 r.1 few is)

    by_fault : (f : TreeFault) → IsFaultOf (refusal bytes) f → AnswersTo request bytes (Err (tree_stop f))
    by_fault T.Memory is = tt
    by_fault (T.Spell pos cause) is = by_told (T.Spell pos cause) (told_unspelled bytes (refusal bytes) (T.Spell pos cause) refl is (λ m. cc))
    by_fault (T.Deep pos) is = by_told (T.Deep pos) (told_unspelled bytes (refusal bytes) (T.Deep pos) refl is (λ m. cc))

pub Settles-faulty : (request : Request) (bytes : List ℕ) (t : Located) (fault : DocFault) (stop : Stop) → length bytes ≤ source_limit → SpellsSource t bytes → depth_of t ≤ limit_number Depth → TellsFirst fault (document_faults t) → stop ≡ document_stop fault → Settles (Err stop) (λ r. IsReplyTo request bytes (refused r)) (λ text. IsReplyTo request bytes (accepted text))
unfolding AnswersTo
Settles-faulty request bytes t fault stop few spelled shallow first e = subst (λ s. AnswersTo request bytes (Err s)) (sym e) (by_fault fault first)
  where
    by_fault : (f : DocFault) → TellsFirst f (document_faults t) → AnswersTo request bytes (Err (document_stop f))
    by_fault F.Memory is = tt
    by_fault (F.Form pos cause) is =
        refused_within request bytes _ few (inr (t, record { spelled = spelled; shallow = shallow }, inl (pos.0, cause, is.told (λ m. cc), refl)))
    by_fault (F.Over limit pos) is =
        refused_within request bytes _ few (inr (t, record { spelled = spelled; shallow = shallow }, inr (pos.0, limit, is.told (λ m. cc), refl)))

pub Settles-document : (request : Request) (bytes : List ℕ) (t : Located) (d : Document) (result : Result (Vec ℕ) Stop) → length bytes ≤ source_limit → IsDocument d t bytes → Settles result (IsRefusedDocument request d) (IsAnswer request d) → Settles result (λ r. IsReplyTo request bytes (refused r)) (λ text. IsReplyTo request bytes (accepted text))
Settles-document request bytes t d result few document =
    Settles-weaker result (IsRefusedDocument request d) (λ r. IsReplyTo request bytes (refused r)) (IsAnswer request d) (λ text. IsReplyTo request bytes (accepted text))
    (λ r refuses. inr (few, (t, d, document, inl (r, refuses, refl))))
    (λ text answers. inr (few, (t, d, document, inr (text, answers, refl))))
