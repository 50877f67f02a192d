-- What the program's own types stand for: requests, refusals, and why a call stopped.
use Rattle.std.specs.Prelude.{◌≡◌, ℕ, List, string_bytes, Option, Some, None, Result, Ok, Err}
use Rattle.std.specs.Global.{Vec}
use Rattle.ipdl_base.specs.Limits.{limit_number}
use Rattle.ipdl_base.specs.declared.limit.Limit.TheVariants.{Depth}
use Rattle.ipdl_tree.specs.declared.fault.TreeFault.{TreeFault}
use Rattle.ipdl_tree.specs.declared.fault.TreeFault.TheVariants as T
use Rattle.ipdl_typing.specs.Answers.{failure_of}
use Rattle.ipdl_forms.specs.declared.fault.DocFault.{DocFault}
use Rattle.ipdl_forms.specs.declared.fault.DocFault.TheVariants as F
use Rattle.ipdl_top.specs.Lines.{at_byte, at_item, at_theorem, at_step, limit_line, wrong_step_line}
use Rattle.ipdl_script.specs.Views.{side_of}
use Rattle.ipdl_top.specs.Refusals.{unspelled, misformed, ill, ends_differ}
use Rattle.ipdl_top.specs.Requests.{Request, check, types, run_item, tape_of}
use Rattle.ipdl_top.specs.Statuses.{wrong, bad, over, Refusal, refusal_of, Reply, reply_of}
use Rattle.ipdl_top.specs.declared.answering.Answer.{Answer}
use Rattle.ipdl_top.specs.declared.refusal.Refusal.{Refusal as Held}
use Rattle.ipdl_top.specs.declared.refusal.Refusal.TheVariants as R
use Rattle.ipdl_top.specs.declared.refusal.Stop.{Stop}
use Rattle.ipdl_top.specs.declared.refusal.Stop.TheVariants.{Refused, Memory}
use Rattle.ipdl_top.specs.declared.refusal.Where.{Where}
use Rattle.ipdl_top.specs.declared.refusal.Where.TheVariants.{Byte, Item, Theorem, Step}
use Rattle.ipdl_top.specs.declared.request.Request.{Request as Asked}
use Rattle.ipdl_top.specs.declared.request.Request.TheVariants as A

abbrev pub request_of : Asked → Request
request_of A.Check = check
request_of A.Types = types
request_of (A.Run name tape order) = run_item name (tape_of tape.now) order

-- ---- refusals

abbrev pub where_words : Where → List (List ℕ)
where_words (Byte pos) = at_byte pos.0
where_words (Item name) = at_item name
where_words (Theorem name) = at_theorem name
where_words (Step theorem side number) = at_step theorem (side_of side) number

abbrev pub told : Held → Refusal
told (R.Spell pos cause) = unspelled pos.0 cause
told (R.Form pos cause) = misformed pos.0 cause
told (R.Limit limit number at) = refusal_of over (limit_line limit number (where_words at))
told (R.Ill item found) = ill item (failure_of found)
told (R.WrongStep theorem side number rule cause) =
    refusal_of wrong (wrong_step_line theorem (side_of side) number (string_bytes rule) cause.items)
told (R.Ends theorem place) = ends_differ theorem place
told (R.Item line) = refusal_of bad line.items

-- the reply that the program's answer stands for
abbrev pub answered : Answer → Reply
answered a = reply_of a.status a.text.items

-- ---- why a call stopped

-- where a call stops at a fault of a tree, and at one of a document
abbrev pub tree_stop : TreeFault → Stop
tree_stop (T.Spell pos cause) = Refused (R.Spell pos cause)
tree_stop (T.Deep pos) = Refused (R.Limit Depth (limit_number Depth) (Byte pos))
tree_stop T.Memory = Memory

abbrev pub document_stop : DocFault → Stop
document_stop (F.Form pos cause) = Refused (R.Form pos cause)
document_stop (F.Over limit pos) = Refused (R.Limit limit (limit_number limit) (Byte pos))
document_stop F.Memory = Memory

-- the stop is this refusal, want of memory apart
abbrev pub IsStop : Stop → Option Refusal → Type 0
IsStop (Refused held) refusal = refusal ≡ Some (told held)
IsStop Memory refusal = Unit {0}

-- a test that says whether there is a refusal, want of memory apart
abbrev pub Tests : {A : Type 0} → Result A Stop → Option Refusal → Type 0
Tests (Ok passed) refusal = refusal ≡ None
Tests (Err stop) refusal = IsStop stop refusal

-- a refusal or a text, want of memory apart
abbrev pub Settles : Result (Vec ℕ) Stop → (Refusal → Type 0) → (List ℕ → Type 0) → Type 0
Settles (Ok text) refuses answers = answers text.items
Settles (Err (Refused held)) refuses answers = refuses (told held)
Settles (Err Memory) refuses answers = Unit {0}
