-- The failures of protocols: which of what is visible they depend on, and what a protocol without failures writes.
use Rattle.std.proofs.Common.{◌≡◌, ℕ, ◌==◌, nat_le, Bool, true, false, ◌||◌, not, if◌then◌else◌, List, [], ◌∷◌, ◌++◌, drop, refl, sym, ap, ap₂, ◌∙◌, subst}
use Rattle.std.specs.Prelude.{unwrap_or, Option, Some, Result, OnOk}
use Rattle.std.proofs.lemmas.Bool.{false≢true}
use Rattle.std.proofs.lemmas.Result.{on_ok_weaker}
use mathlib.Core.Path.{fun_ext}
use Rattle.ipdl_term.specs.Terms.{Channel, Reaction, Protocol, nil, assignment, parallel, hiding}
use Rattle.ipdl_term.specs.Channels.{same_channel, has, union, without, outputs}
use Rattle.ipdl_term.specs.Interpretations.{Signature}
use Rattle.ipdl_term.specs.Typing.{Scope, scope_with}
use Rattle.ipdl_term.proofs.ChannelSets.{same_channel-sound, same_channel-itself, has-without, has-union}
use Rattle.ipdl_typing.specs.Checks.{width, not_output, twice, new_unwritten, checked, child, reaction_width, reaction_failures, gives_width, Writable, writable_with, protocol_failures}
use Rattle.ipdl_typing.specs.Answers.{Tells, TellsFirstFailure, AnswersChecks}
use Rattle.ipdl_typing.specs.Interfaces.{failures_in}
use Rattle.ipdl_typing.specs.declared.fault.TypeFault.{TypeFault}
use Rattle.ipdl_typing.specs.Visible.{Entry, unwritten_entry, innermost, scope_in, writable_in, earlier_in, apart_from, marked}
use Rattle.ipdl_typing.proofs.First.{TellsFirstFailure-in_front, TellsFirstFailure-after, TellsFirstFailure-checked, AnswersChecks-after, clean-append, clean-checked}
use Rattle.ipdl_typing.proofs.Exactly.{append-clean, checked-clean}
use Rattle.ipdl_typing.proofs.VisibleLaws.{passes, writable_in-innermost, has-earlier_in, scope_in-marked, writable_in-marked, marked-twice, has-marked}

-- ---- the channels that were written earlier count as a set

-- two lists of the same channels lead to the same failures
pub protocol_failures-same : (sig : Signature) (scope : Scope) (writable : Writable) (earlier before : List Channel) (path : List ℕ) (p : Protocol) → ((c : Channel) → has earlier c ≡ has before c) → protocol_failures sig scope writable earlier path p ≡ protocol_failures sig scope writable before path p
protocol_failures-same sig scope writable earlier before path nil same = refl
protocol_failures-same sig scope writable earlier before path (assignment c r) same =
    ap (λ b. checked (writable c) path (not_output c) ++ checked (not b) path (twice c) ++ reaction_failures sig scope [] (child path 0) r ++ gives_width sig scope [] (child path 0) r (unwrap_or (scope c) 0)) (same c)
protocol_failures-same sig scope writable earlier before path (parallel p q) same =
    ap₂ (λ fs gs. fs ++ gs) (protocol_failures-same sig scope writable earlier before (child path 0) p same) (protocol_failures-same sig scope writable (union earlier (outputs p)) (union before (outputs p)) (child path 1) q (λ c. has-union earlier (outputs p) c ∙ ap (λ b. b || has (outputs p) c) (same c) ∙ sym (has-union before (outputs p) c)))
protocol_failures-same sig scope writable earlier before path (hiding c w p) same =
    ap (λ fs. checked (nat_le w 128) path (width 128 w) ++ fs ++ checked (has (outputs p) c) path (new_unwritten c)) (protocol_failures-same sig (scope_with c w scope) (writable_with c writable) (without c earlier) (without c before) (child path 0) p (λ d. has-without c earlier d ∙ ap (λ b. if same_channel c d then false else b) (same d) ∙ sym (has-without c before d)))

-- ---- what a protocol without failures writes

-- a member of a union is in one of the two
pub in_union : (cs ds : List Channel) (c : Channel) (P : Type 0) → has (union cs ds) c ≡ true → (has cs c ≡ true → P) → (has ds c ≡ true → P) → P
in_union cs ds c P is left right = go (has cs c) refl (has ds c) refl (sym (has-union cs ds c) ∙ is)
  where
    go : (a : Bool) → has cs c ≡ a → (b : Bool) → has ds c ≡ b → (has cs c || has ds c) ≡ true → P
    go true x b y both = left x
    go false x true y both = right y
    go false x false y both = absurd (false≢true (sym (ap₂ (λ a b. a || b) x y) ∙ both))

-- a channel of a set without another one is another one, and in the set
pub in_without : (c : Channel) (cs : List Channel) (d : Channel) → has (without c cs) d ≡ true → (same_channel c d ≡ false) × (has cs d ≡ true)
in_without c cs d is = go (same_channel c d) refl (sym (has-without c cs d) ∙ is)
  where
    go : (b : Bool) → same_channel c d ≡ b → (if b then false else has cs d) ≡ true → (same_channel c d ≡ false) × (has cs d ≡ true)
    go true same there = absurd (false≢true there)
    go false other there = (other, there)

-- the only channel of an assignment
pub in_one : (c d : Channel) → has (c ∷ []) d ≡ true → c ≡ d
in_one c d is = go (same_channel c d) refl is
  where
    go : (b : Bool) → same_channel c d ≡ b → (b || false) ≡ true → c ≡ d
    go true same there = same_channel-sound c d same
    go false same there = absurd (false≢true there)

-- each output may be written
pub outputs-writable : (sig : Signature) (scope : Scope) (writable : Writable) (earlier : List Channel) (path : List ℕ) (p : Protocol) → protocol_failures sig scope writable earlier path p ≡ [] → (c : Channel) → has (outputs p) c ≡ true → writable c ≡ true
outputs-writable sig scope writable earlier path nil clean = λ c is. absurd (false≢true is)
outputs-writable sig scope writable earlier path (assignment d r) clean = λ c is.
    let front = append-clean (checked (writable d) path (not_output d) ++ checked (not (has earlier d)) path (twice d) ++ reaction_failures sig scope [] (child path 0) r) (gives_width sig scope [] (child path 0) r (unwrap_or (scope d) 0)) clean in
    let next = append-clean (checked (writable d) path (not_output d) ++ checked (not (has earlier d)) path (twice d)) (reaction_failures sig scope [] (child path 0) r) front.0 in
    let first = append-clean (checked (writable d) path (not_output d)) (checked (not (has earlier d)) path (twice d)) next.0 in
    subst (λ x. writable x ≡ true) (in_one d c is) (checked-clean (writable d) path (not_output d) first.0)
outputs-writable sig scope writable earlier path (parallel p q) clean = λ c is.
    let parts = append-clean (protocol_failures sig scope writable earlier (child path 0) p) (protocol_failures sig scope writable (union earlier (outputs p)) (child path 1) q) clean in
    in_union (outputs p) (outputs q) c (writable c ≡ true) is (outputs-writable sig scope writable earlier (child path 0) p parts.0 c) (outputs-writable sig scope writable (union earlier (outputs p)) (child path 1) q parts.1 c)
outputs-writable sig scope writable earlier path (hiding d w p) clean = λ c is.
    let inner = protocol_failures sig (scope_with d w scope) (writable_with d writable) (without d earlier) (child path 0) p in
    let front = append-clean (checked (nat_le w 128) path (width 128 w) ++ inner) (checked (has (outputs p) d) path (new_unwritten d)) clean in
    let parts = append-clean (checked (nat_le w 128) path (width 128 w)) inner front.0 in
    let both = in_without d (outputs p) c is in
    sym (ap (λ b. if b then true else writable c) both.0) ∙ outputs-writable sig (scope_with d w scope) (writable_with d writable) (without d earlier) (child path 0) p parts.1 c both.1

-- ---- the second of two protocols, once the first has written its outputs

-- the failures of the second are those under the outputs of the first
pub failures-written : (sig : Signature) (es now : List Entry) (path : List ℕ) (p q : Protocol) → protocol_failures sig (scope_in es) (writable_in es) (earlier_in es) (child path 0) p ≡ [] → now ≡ marked (has (outputs p)) es → protocol_failures sig (scope_in now) (writable_in now) (earlier_in now) (child path 1) q ≡ protocol_failures sig (scope_in es) (writable_in es) (union (earlier_in es) (outputs p)) (child path 1) q
failures-written sig es now path p q clean written =
    ap (λ l. protocol_failures sig (scope_in l) (writable_in l) (earlier_in l) (child path 1) q) written
    ∙ ap₂ (λ scope writable. protocol_failures sig scope writable (earlier_in (marked (has (outputs p)) es)) (child path 1) q) (scope_in-marked es (has (outputs p))) (writable_in-marked es (has (outputs p)))
    ∙ protocol_failures-same sig (scope_in es) (writable_in es) (earlier_in (marked (has (outputs p)) es)) (union (earlier_in es) (outputs p)) (child path 1) q (λ c. has-marked es (has (outputs p)) c (outputs-writable sig (scope_in es) (writable_in es) (earlier_in es) (child path 0) p clean c) ∙ sym (has-union (earlier_in es) (outputs p) c))

-- both mark what their union marks
pub marked-both : (es now : List Entry) (cs ds : List Channel) → now ≡ marked (has cs) es → marked (has ds) now ≡ marked (has (union cs ds)) es
marked-both es now cs ds written =
    ap (marked (has ds)) written ∙ marked-twice es (has cs) (has ds) ∙ ap (λ test. marked test es) (fun_ext (λ c. sym (has-union cs ds c)))

-- ---- a hidden channel

-- the failures under a hidden channel are those where it is visible
pub failures-hidden : (sig : Signature) (es now : List Entry) (path : List ℕ) (c : Channel) (w : ℕ) (p : Protocol) → now ≡ unwritten_entry c w true ∷ es → protocol_failures sig (scope_in now) (writable_in now) (earlier_in now) path p ≡ protocol_failures sig (scope_with c w (scope_in es)) (writable_with c (writable_in es)) (without c (earlier_in es)) path p
failures-hidden sig es now path c w p is =
    ap (λ l. protocol_failures sig (scope_in l) (writable_in l) (earlier_in l) path p) is

-- whether it was written
pub written-hidden : (es now : List Entry) (c : Channel) (w : ℕ) (cs : List Channel) → now ≡ marked (has cs) (unwritten_entry c w true ∷ es) → has (earlier_in now) c ≡ has cs c
written-hidden es now c w cs is = ap (λ l. has (earlier_in l) c) is ∙ go (has cs c)
  where
    go : (b : Bool) → has (if b then (c ∷ earlier_in (marked (apart_from c (has cs)) es)) else without c (earlier_in (marked (apart_from c (has cs)) es))) c ≡ b
    go true = rw (same_channel-itself c) refl
    go false = has-without c (earlier_in (marked (apart_from c (has cs)) es)) c ∙ rw (same_channel-itself c) refl

-- the channels outside of it
pub marked-outside : (es end : List Entry) (c : Channel) (w : ℕ) (cs : List Channel) → end ≡ marked (has cs) (unwritten_entry c w true ∷ es) → drop 1 end ≡ marked (has (without c cs)) es
marked-outside es end c w cs is =
    ap (drop 1) is ∙ ap (λ test. marked test es) (fun_ext (λ d. sym (has-without c cs d)))

-- ---- what a call answers, from what the calls below it answered

-- a channel that is written a second time
pub channel_twice : (fault : TypeFault) (es : List Entry) (path : List ℕ) (c : Channel) (e : Entry) → Some e ≡ innermost es c → e.writable ≡ true → e.written ≡ true → Tells fault (record { path = path; cause = twice c }) → TellsFirstFailure fault (checked (writable_in es c) path (not_output c) ++ checked (not (has (earlier_in es) c)) path (twice c))
channel_twice fault es path c e is may was tells =
    let allowed = clean-checked (writable_in es c) path (not_output c) (writable_in-innermost es c ∙ ap (passes (λ e. e.writable)) (sym is) ∙ may) in
    let written : not (has (earlier_in es) c) ≡ false = ap not (has-earlier_in es c ∙ ap (passes (λ e. e.written)) (sym is) ∙ was) in
    TellsFirstFailure-after fault (checked (writable_in es c) path (not_output c)) (checked (not (has (earlier_in es) c)) path (twice c)) allowed (TellsFirstFailure-checked fault (not (has (earlier_in es) c)) path (twice c) written tells)

-- a channel that may be written and was not
pub channel_clean : (es : List Entry) (path : List ℕ) (c : Channel) (e : Entry) → Some e ≡ innermost es c → e.writable ≡ true → e.written ≡ false → checked (writable_in es c) path (not_output c) ++ checked (not (has (earlier_in es) c)) path (twice c) ≡ []
channel_clean es path c e is may was =
    clean-append (checked (writable_in es c) path (not_output c)) (checked (not (has (earlier_in es) c)) path (twice c)) (clean-checked (writable_in es c) path (not_output c) (writable_in-innermost es c ∙ ap (passes (λ e. e.writable)) (sym is) ∙ may)) (clean-checked (not (has (earlier_in es) c)) path (twice c) (ap not (has-earlier_in es c ∙ ap (passes (λ e. e.written)) (sym is) ∙ was)))

-- a channel that may not be written
pub channel_refused : (fault : TypeFault) (es : List Entry) (path : List ℕ) (c : Channel) → writable_in es c ≡ false → Tells fault (record { path = path; cause = not_output c }) → TellsFirstFailure fault (checked (writable_in es c) path (not_output c) ++ checked (not (has (earlier_in es) c)) path (twice c))
channel_refused fault es path c none tells =
    TellsFirstFailure-in_front fault (checked (writable_in es c) path (not_output c)) (checked (not (has (earlier_in es) c)) path (twice c)) (TellsFirstFailure-checked fault (writable_in es c) path (not_output c) none tells)

-- an assignment whose channel may not be written
pub assignment_channel : (fault : TypeFault) (sig : Signature) (es : List Entry) (path : List ℕ) (c : Channel) (a : Reaction) → TellsFirstFailure fault (checked (writable_in es c) path (not_output c) ++ checked (not (has (earlier_in es) c)) path (twice c)) → TellsFirstFailure fault (failures_in sig es path (assignment c a))
assignment_channel fault sig es path c a first =
    let front = checked (writable_in es c) path (not_output c) ++ checked (not (has (earlier_in es) c)) path (twice c) in
    let inner = reaction_failures sig (scope_in es) [] (child path 0) a in
    let last = gives_width sig (scope_in es) [] (child path 0) a (unwrap_or (scope_in es c) 0) in
    TellsFirstFailure-in_front fault (front ++ inner) last (TellsFirstFailure-in_front fault front inner first)

-- an assignment whose reaction fails
pub assignment_reaction : (fault : TypeFault) (sig : Signature) (es : List Entry) (path : List ℕ) (c : Channel) (a : Reaction) → checked (writable_in es c) path (not_output c) ++ checked (not (has (earlier_in es) c)) path (twice c) ≡ [] → TellsFirstFailure fault (reaction_failures sig (scope_in es) [] (child path 0) a) → TellsFirstFailure fault (failures_in sig es path (assignment c a))
assignment_reaction fault sig es path c a allowed first =
    let front = checked (writable_in es c) path (not_output c) ++ checked (not (has (earlier_in es) c)) path (twice c) in
    let inner = reaction_failures sig (scope_in es) [] (child path 0) a in
    let last = gives_width sig (scope_in es) [] (child path 0) a (unwrap_or (scope_in es c) 0) in
    TellsFirstFailure-in_front fault (front ++ inner) last (TellsFirstFailure-after fault front inner allowed first)

-- an assignment whose channel may be written, by the width of its reaction
pub assignment_checks : {X : Type 0} (r : Result X TypeFault) (sig : Signature) (es : List Entry) (path : List ℕ) (c : Channel) (a : Reaction) (w got : ℕ) → scope_in es c ≡ Some w → checked (writable_in es c) path (not_output c) ++ checked (not (has (earlier_in es) c)) path (twice c) ≡ [] → got ≡ reaction_width sig (scope_in es) [] a → reaction_failures sig (scope_in es) [] (child path 0) a ≡ [] → AnswersChecks r (checked (got == w) (child path 0) (width w got)) → AnswersChecks r (failures_in sig es path (assignment c a))
assignment_checks r sig es path c a w got visible allowed is clean later =
    let front = checked (writable_in es c) path (not_output c) ++ checked (not (has (earlier_in es) c)) path (twice c) in
    let same : checked (got == w) (child path 0) (width w got) ≡ gives_width sig (scope_in es) [] (child path 0) a (unwrap_or (scope_in es c) 0) = ap₂ (λ g (o : Option ℕ). checked (g == unwrap_or o 0) (child path 0) (width (unwrap_or o 0) g)) is (sym visible) in
    AnswersChecks-after r (front ++ reaction_failures sig (scope_in es) [] (child path 0) a) (gives_width sig (scope_in es) [] (child path 0) a (unwrap_or (scope_in es c) 0)) (clean-append front (reaction_failures sig (scope_in es) [] (child path 0) a) allowed clean) (subst (AnswersChecks r) same later)

-- two protocols mark the outputs of both
pub parallel_written : {T E : Type 0} (r : Result T E) (es now end : List Entry) (t p q : Protocol) → t ≡ parallel p q → now ≡ marked (has (outputs p)) es → OnOk r (end ≡ marked (has (outputs q)) now) → OnOk r (end ≡ marked (has (outputs t)) es)
parallel_written r es now end t p q is written later =
    on_ok_weaker r (λ e. e ∙ marked-both es now (outputs p) (outputs q) written ∙ ap (λ x. marked (has (outputs x)) es) (sym is)) later

-- the first failure of the first protocol
pub parallel_first : (fault : TypeFault) (sig : Signature) (es : List Entry) (path : List ℕ) (t p q : Protocol) → t ≡ parallel p q → TellsFirstFailure fault (failures_in sig es (child path 0) p) → TellsFirstFailure fault (failures_in sig es path t)
parallel_first fault sig es path t p q is first =
    subst (TellsFirstFailure fault) (sym (ap (failures_in sig es path) is)) (TellsFirstFailure-in_front fault (failures_in sig es (child path 0) p) (protocol_failures sig (scope_in es) (writable_in es) (union (earlier_in es) (outputs p)) (child path 1) q) first)

-- the checks of two protocols, by those of the second one
pub parallel_checks : {X : Type 0} (r : Result X TypeFault) (sig : Signature) (es now : List Entry) (path : List ℕ) (t p q : Protocol) → t ≡ parallel p q → now ≡ marked (has (outputs p)) es → failures_in sig es (child path 0) p ≡ [] → AnswersChecks r (failures_in sig now (child path 1) q) → AnswersChecks r (failures_in sig es path t)
parallel_checks r sig es now path t p q is written clean later =
    subst (AnswersChecks r) (sym (ap (failures_in sig es path) is)) (AnswersChecks-after r (failures_in sig es (child path 0) p) (protocol_failures sig (scope_in es) (writable_in es) (union (earlier_in es) (outputs p)) (child path 1) q) clean (subst (AnswersChecks r) (failures-written sig es now path p q clean written) later))

-- a hidden channel of a width that values may not have
pub hiding_width : (fault : TypeFault) (sig : Signature) (es : List Entry) (path : List ℕ) (t p : Protocol) (c : Channel) (w : ℕ) → t ≡ hiding c w p → TellsFirstFailure fault (checked (nat_le w 128) path (width 128 w)) → TellsFirstFailure fault (failures_in sig es path t)
hiding_width fault sig es path t p c w is first =
    let inner = failures_in sig (unwritten_entry c w true ∷ es) (child path 0) p in
    let allowed = checked (nat_le w 128) path (width 128 w) in
    subst (TellsFirstFailure fault) (sym (ap (failures_in sig es path) is)) (TellsFirstFailure-in_front fault (allowed ++ inner) (checked (has (outputs p) c) path (new_unwritten c)) (TellsFirstFailure-in_front fault allowed inner first))

-- the first failure of the protocol under a hidden channel
pub hiding_inner : (fault : TypeFault) (sig : Signature) (es now : List Entry) (path : List ℕ) (t p : Protocol) (c : Channel) (w : ℕ) → t ≡ hiding c w p → now ≡ unwritten_entry c w true ∷ es → checked (nat_le w 128) path (width 128 w) ≡ [] → TellsFirstFailure fault (failures_in sig now (child path 0) p) → TellsFirstFailure fault (failures_in sig es path t)
hiding_inner fault sig es now path t p c w is entered allowed first =
    let inner = failures_in sig (unwritten_entry c w true ∷ es) (child path 0) p in
    subst (TellsFirstFailure fault) (sym (ap (failures_in sig es path) is)) (TellsFirstFailure-in_front fault (checked (nat_le w 128) path (width 128 w) ++ inner) (checked (has (outputs p) c) path (new_unwritten c)) (TellsFirstFailure-after fault (checked (nat_le w 128) path (width 128 w)) inner allowed (subst (λ l. TellsFirstFailure fault (failures_in sig l (child path 0) p)) entered first)))

-- the checks of a protocol under a hidden channel, by the last one
pub hiding_checks : {X : Type 0} (r : Result X TypeFault) (sig : Signature) (es now end : List Entry) (path : List ℕ) (t p : Protocol) (c : Channel) (w : ℕ) → t ≡ hiding c w p → now ≡ unwritten_entry c w true ∷ es → checked (nat_le w 128) path (width 128 w) ≡ [] → failures_in sig now (child path 0) p ≡ [] → end ≡ marked (has (outputs p)) now → AnswersChecks r (checked (has (earlier_in end) c) path (new_unwritten c)) → AnswersChecks r (failures_in sig es path t)
hiding_checks r sig es now end path t p c w is entered allowed clean written later =
    let inner = failures_in sig (unwritten_entry c w true ∷ es) (child path 0) p in
    let none : inner ≡ [] = sym (ap (λ l. failures_in sig l (child path 0) p) entered) ∙ clean in
    let same : has (earlier_in end) c ≡ has (outputs p) c = written-hidden es end c w (outputs p) (written ∙ ap (marked (has (outputs p))) entered) in
    subst (AnswersChecks r) (sym (ap (failures_in sig es path) is)) (AnswersChecks-after r (checked (nat_le w 128) path (width 128 w) ++ inner) (checked (has (outputs p) c) path (new_unwritten c)) (clean-append (checked (nat_le w 128) path (width 128 w)) inner allowed none) (subst (λ b. AnswersChecks r (checked b path (new_unwritten c))) same later))

-- what is marked outside of a hidden channel
pub hiding_written : {X E : Type 0} (r : Result X E) (es now end rest : List Entry) (t p : Protocol) (c : Channel) (w : ℕ) → t ≡ hiding c w p → now ≡ unwritten_entry c w true ∷ es → end ≡ marked (has (outputs p)) now → OnOk r (rest ≡ drop 1 end) → OnOk r (rest ≡ marked (has (outputs t)) es)
hiding_written r es now end rest t p c w is entered written left =
    on_ok_weaker r (λ e. e ∙ marked-outside es end c w (outputs p) (written ∙ ap (marked (has (outputs p))) entered) ∙ ap (λ x. marked (has (outputs x)) es) (sym is)) left
