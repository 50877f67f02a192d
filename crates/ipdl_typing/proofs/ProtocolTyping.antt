-- A protocol has no failure exactly where it is typed, and writes what it may write and what was not written.
use Rattle.std.proofs.Common.{◌≡◌, ℕ, nat_le, Bool, true, false, ◌||◌, not, if◌then◌else◌, List, [], ◌∷◌, ◌++◌, Some, refl, sym, ap, ap₂, ◌∙◌, subst, map, reverse}
use Rattle.std.specs.Prelude.{is_some, unwrap_or, Result}
use Rattle.std.proofs.lemmas.Bool.{false≢true, false_from_ne_true, leb-true}
use Rattle.ipdl_term.specs.Terms.{Channel, Protocol, nil, assignment, parallel, hiding}
use Rattle.ipdl_term.specs.Channels.{same_channel, has, union, without, outputs}
use Rattle.ipdl_term.specs.Interpretations.{Signature}
use Rattle.ipdl_term.specs.Typing.{Scope, scope_with, scope_of, port_names, IsTyped, HasInterface}
use Rattle.ipdl_term.specs.declared.interface.Port.{Port}
use Rattle.ipdl_term.specs.declared.interface.Interface.{Interface}
use Rattle.ipdl_term.proofs.ChannelSets.{same_channel-sound, has-without, has-union}
use Rattle.ipdl_typing.specs.Checks.{Failure, width, not_output, twice, new_unwritten, missing, checked, child, reaction_failures, gives_width, Writable, writable_with, protocol_failures, missing_failures}
use Rattle.ipdl_typing.specs.Answers.{TellsFirstFailure, AnswersChecks}
use Rattle.ipdl_typing.specs.Interfaces.{interface_failures, failures_in, missing_in}
use Rattle.ipdl_typing.specs.Visible.{Entry, port_entry, scope_in, writable_in, earlier_in, marked}
use Rattle.ipdl_typing.specs.declared.fault.TypeFault.{TypeFault}
use Rattle.ipdl_typing.proofs.Exactly.{append-clean, checked-clean, some_from_is_some, gives_width_is, GivesWidth-clean}
use Rattle.ipdl_typing.proofs.First.{TellsFirstFailure-in_front, AnswersChecks-after}
use Rattle.ipdl_typing.proofs.PortScopes.{scope_of-outputs, interface_entries, scope_in-interface, writable_in-interface, earlier_in-interface}
use Rattle.ipdl_typing.proofs.ProtocolLaws.{in_union, in_without, in_one, outputs-writable}
use Rattle.ipdl_typing.proofs.VisibleLaws.{has-marked}

-- ---- from no failure

-- a test whose opposite holds fails
not-true : (b : Bool) → not b ≡ true → b ≡ false
not-true true is = absurd (false≢true is)
not-true false is = refl

-- no output was written earlier
pub outputs-new : (sig : Signature) (scope : Scope) (writable : Writable) (earlier : List Channel) (path : List ℕ) (p : Protocol) → protocol_failures sig scope writable earlier path p ≡ [] → (c : Channel) → has (outputs p) c ≡ true → has earlier c ≡ false
outputs-new sig scope writable earlier path nil clean = λ c is. absurd (false≢true is)
outputs-new sig scope writable earlier path (assignment d r) clean = λ c is.
    let front = append-clean (checked (writable d) path (not_output d) ++ checked (not (has earlier d)) path (twice d) ++ reaction_failures sig scope [] (child path 0) r) (gives_width sig scope [] (child path 0) r (unwrap_or (scope d) 0)) clean in
    let next = append-clean (checked (writable d) path (not_output d) ++ checked (not (has earlier d)) path (twice d)) (reaction_failures sig scope [] (child path 0) r) front.0 in
    let first = append-clean (checked (writable d) path (not_output d)) (checked (not (has earlier d)) path (twice d)) next.0 in
    subst (λ x. has earlier x ≡ false) (in_one d c is) (not-true (has earlier d) (checked-clean (not (has earlier d)) path (twice d) first.1))
outputs-new sig scope writable earlier path (parallel p q) clean = λ c is.
    let parts = append-clean (protocol_failures sig scope writable earlier (child path 0) p) (protocol_failures sig scope writable (union earlier (outputs p)) (child path 1) q) clean in
    in_union (outputs p) (outputs q) c (has earlier c ≡ false) is (outputs-new sig scope writable earlier (child path 0) p parts.0 c) (λ there. neither (has earlier c) (has (outputs p) c) (sym (has-union earlier (outputs p) c) ∙ outputs-new sig scope writable (union earlier (outputs p)) (child path 1) q parts.1 c there))
  where
    neither : (a b : Bool) → (a || b) ≡ false → a ≡ false
    neither true b is = is
    neither false b is = refl
outputs-new sig scope writable earlier path (hiding d w p) clean = λ c is.
    let inner = protocol_failures sig (scope_with d w scope) (writable_with d writable) (without d earlier) (child path 0) p in
    let front = append-clean (checked (nat_le w 128) path (width 128 w) ++ inner) (checked (has (outputs p) d) path (new_unwritten d)) clean in
    let parts = append-clean (checked (nat_le w 128) path (width 128 w)) inner front.0 in
    let both = in_without d (outputs p) c is in
    sym (has-without d earlier c ∙ ap (λ b. if b then false else has earlier c) both.0) ∙ outputs-new sig (scope_with d w scope) (writable_with d writable) (without d earlier) (child path 0) p parts.1 c both.1

-- what may be written is visible
abbrev AreVisible : Writable → Scope → Type 0
AreVisible writable scope = (c : Channel) → writable c ≡ true → is_some (scope c) ≡ true

-- so it is under a hidden channel
visible_with : (c : Channel) (w : ℕ) (writable : Writable) (scope : Scope) → AreVisible writable scope → AreVisible (writable_with c writable) (scope_with c w scope)
visible_with c w writable scope seen d = go (same_channel c d)
  where
    go : (b : Bool) → (if b then true else writable d) ≡ true → is_some (if b then Some w else scope d) ≡ true
    go true is = refl
    go false is = seen d is

-- a protocol without failures is typed
pub IsTyped-clean : (sig : Signature) (scope : Scope) (writable : Writable) (earlier : List Channel) (path : List ℕ) (p : Protocol) → AreVisible writable scope → protocol_failures sig scope writable earlier path p ≡ [] → IsTyped sig scope p
IsTyped-clean sig scope writable earlier path nil seen clean = tt
IsTyped-clean sig scope writable earlier path (assignment d r) seen clean =
    let front = append-clean (checked (writable d) path (not_output d) ++ checked (not (has earlier d)) path (twice d) ++ reaction_failures sig scope [] (child path 0) r) (gives_width sig scope [] (child path 0) r (unwrap_or (scope d) 0)) clean in
    let next = append-clean (checked (writable d) path (not_output d) ++ checked (not (has earlier d)) path (twice d)) (reaction_failures sig scope [] (child path 0) r) front.0 in
    let first = append-clean (checked (writable d) path (not_output d)) (checked (not (has earlier d)) path (twice d)) next.0 in (
      unwrap_or (scope d) 0,
      some_from_is_some (scope d) (seen d (checked-clean (writable d) path (not_output d) first.0)),
      gives_width_is sig scope [] (child path 0) r (unwrap_or (scope d) 0) front.1 (GivesWidth-clean sig scope [] (child path 0) r next.1),
    )
IsTyped-clean sig scope writable earlier path (parallel p q) seen clean =
    let parts = append-clean (protocol_failures sig scope writable earlier (child path 0) p) (protocol_failures sig scope writable (union earlier (outputs p)) (child path 1) q) clean in (
      IsTyped-clean sig scope writable earlier (child path 0) p seen parts.0,
      IsTyped-clean sig scope writable (union earlier (outputs p)) (child path 1) q seen parts.1,
      λ c there. false_from_ne_true (has (outputs q) c) (λ too. both (has earlier c) (has (outputs p) c) there (sym (has-union earlier (outputs p) c) ∙ outputs-new sig scope writable (union earlier (outputs p)) (child path 1) q parts.1 c too)),
    )
  where
    both : (a b : Bool) → b ≡ true → (a || b) ≡ false → ⊥
    both true b is none = false≢true (sym none)
    both false b is none = false≢true (sym none ∙ is)
IsTyped-clean sig scope writable earlier path (hiding d w p) seen clean =
    let inner = protocol_failures sig (scope_with d w scope) (writable_with d writable) (without d earlier) (child path 0) p in
    let front = append-clean (checked (nat_le w 128) path (width 128 w) ++ inner) (checked (has (outputs p) d) path (new_unwritten d)) clean in
    let parts = append-clean (checked (nat_le w 128) path (width 128 w)) inner front.0 in (
      leb-true w 128 (checked-clean (nat_le w 128) path (width 128 w) parts.0),
      IsTyped-clean sig (scope_with d w scope) (writable_with d writable) (without d earlier) (child path 0) p (visible_with d w writable scope seen) parts.1,
      checked-clean (has (outputs p) d) path (new_unwritten d) front.1,
    )

-- ---- the declared outputs

-- where no output is missing, each is written
missing-clean : (cs : List Channel) (p : Protocol) → missing_failures cs p ≡ [] → (c : Channel) → has cs c ≡ true → has (outputs p) c ≡ true
missing-clean [] p clean = λ c is. absurd (false≢true is)
missing-clean (d ∷ cs) p clean = λ c is.
    let parts = append-clean (checked (has (outputs p) d) [] (missing d)) (missing_failures cs p) clean in
    go c (same_channel d c) refl is (checked-clean (has (outputs p) d) [] (missing d) parts.0) (missing-clean cs p parts.1 c)
  where
    go : (c : Channel) (b : Bool) → same_channel d c ≡ b → (b || has cs c) ≡ true → has (outputs p) d ≡ true → (has cs c ≡ true → has (outputs p) c ≡ true) → has (outputs p) c ≡ true
    go c true same is here rest = subst (λ x. has (outputs p) x ≡ true) (same_channel-sound d c same) here
    go c false same is here rest = rest is

-- two tests of which each follows from the other
pub same_tests : (a b : Bool) → (a ≡ true → b ≡ true) → (b ≡ true → a ≡ true) → a ≡ b
same_tests true true f g = refl
same_tests false false f g = refl
same_tests true false f g = absurd (false≢true (f refl))
same_tests false true f g = absurd (false≢true (g refl))

-- a protocol without failures at an interface has it
pub HasInterface-clean : (sig : Signature) (interface : Interface) (p : Protocol) → interface_failures sig interface p ≡ [] → HasInterface sig interface p
HasInterface-clean sig interface p clean =
    let scope = scope_of (interface.inputs ++ interface.outputs) in
    let names = port_names interface.outputs in
    let parts = append-clean (protocol_failures sig scope (has names) [] [] p) (missing_failures names p) clean in
    record {
      typed = IsTyped-clean sig scope (has names) [] [] p (scope_of-outputs interface.inputs interface.outputs) parts.0;
      writes = λ c. same_tests (has (outputs p) c) (has names c) (outputs-writable sig scope (has names) [] [] p parts.0 c) (missing-clean names p parts.1 c);
    }

-- ---- what the check of a protocol at an interface answers

-- the protocol's own failures
own_failures : Signature → Interface → Protocol → List Failure
own_failures sig interface p =
    protocol_failures sig (scope_of (interface.inputs ++ interface.outputs)) (has (port_names interface.outputs)) [] [] p

-- the ports that two calls in a row make visible
pub entered_ports : (none first second : List Entry) (ins outs inputs outputs : List Port) → none ≡ [] → first ≡ reverse (map (port_entry false) ins) ++ none → second ≡ reverse (map (port_entry true) outs) ++ first → ins ≡ inputs → outs ≡ outputs → second ≡ interface_entries inputs outputs
entered_ports none first second ins outs inputs outputs empty one two left right =
    two
    ∙ ap₂ (λ (ports : List Port) es. reverse (map (port_entry true) ports) ++ es) right (one ∙ ap₂ (λ (ports : List Port) es. reverse (map (port_entry false) ports) ++ es) left empty)

-- the failures where the ports are visible are those at the interface
failures-ports : (sig : Signature) (interface : Interface) (es : List Entry) (p : Protocol) → es ≡ interface_entries interface.inputs interface.outputs → failures_in sig es [] p ≡ own_failures sig interface p
unfolding own_failures
failures-ports sig interface es p entered =
    let all = interface_entries interface.inputs interface.outputs in
    let scope = scope_of (interface.inputs ++ interface.outputs) in
    ap (λ l. failures_in sig l [] p) entered
    ∙ ap (λ s. protocol_failures sig s (writable_in all) (earlier_in all) [] p) (scope_in-interface interface.inputs interface.outputs)
    ∙ ap (λ writable. protocol_failures sig scope writable (earlier_in all) [] p) (writable_in-interface interface.inputs interface.outputs)
    ∙ ap (λ earlier. protocol_failures sig scope (has (port_names interface.outputs)) earlier [] p) (earlier_in-interface interface.inputs interface.outputs)

-- what is written in the end
written-ports : (sig : Signature) (interface : Interface) (es end : List Entry) (p : Protocol) → es ≡ interface_entries interface.inputs interface.outputs → failures_in sig es [] p ≡ [] → end ≡ marked (has (outputs p)) es → (c : Channel) → has (earlier_in end) c ≡ has (outputs p) c
written-ports sig interface es end p entered clean written c =
    ap (λ l. has (earlier_in l) c) written
    ∙ has-marked es (has (outputs p)) c (outputs-writable sig (scope_in es) (writable_in es) (earlier_in es) [] p clean c)
    ∙ ap (λ cs. has cs c || has (outputs p) c) (ap earlier_in entered ∙ earlier_in-interface interface.inputs interface.outputs)

-- the ports that were not marked are the outputs that are not written
missing_in-written : (ports : List Port) (es : List Entry) (p : Protocol) → ((c : Channel) → has (earlier_in es) c ≡ has (outputs p) c) → missing_in ports es ≡ missing_failures (port_names ports) p
missing_in-written [] es p written = refl
missing_in-written (q ∷ ports) es p written =
    ap₂ (λ b fs. checked b [] (missing q.name) ++ fs) (written q.name) (missing_in-written ports es p written)

-- a failure of the protocol itself is the first at the interface
pub interface_own : (fault : TypeFault) (sig : Signature) (interface : Interface) (es : List Entry) (p : Protocol) → es ≡ interface_entries interface.inputs interface.outputs → TellsFirstFailure fault (failures_in sig es [] p) → TellsFirstFailure fault (interface_failures sig interface p)
unfolding own_failures
interface_own fault sig interface es p entered first =
    TellsFirstFailure-in_front fault (own_failures sig interface p) (missing_failures (port_names interface.outputs) p) (subst (TellsFirstFailure fault) (failures-ports sig interface es p entered) first)

-- the checks at the interface of a protocol without failures of its own, by those of the missing ports
pub interface_checks : {X : Type 0} (r : Result X TypeFault) (sig : Signature) (interface : Interface) (es end : List Entry) (p : Protocol) → es ≡ interface_entries interface.inputs interface.outputs → failures_in sig es [] p ≡ [] → end ≡ marked (has (outputs p)) es → AnswersChecks r (missing_in interface.outputs end) → AnswersChecks r (interface_failures sig interface p)
unfolding own_failures
interface_checks r sig interface es end p entered clean written later =
    AnswersChecks-after r (own_failures sig interface p) (missing_failures (port_names interface.outputs) p) (sym (failures-ports sig interface es p entered) ∙ clean) (subst (AnswersChecks r) (missing_in-written interface.outputs end p (written-ports sig interface es end p entered clean written)) later)
