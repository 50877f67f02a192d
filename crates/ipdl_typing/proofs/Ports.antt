-- Lists of ports as sets.
use Rattle.std.proofs.Common.{◌≡◌, ℕ, ◌+◌, ◌<◌, ◌==◌, nat_eq, Bool, true, false, ◌&&◌, if◌then◌else◌, List, [], ◌∷◌, ◌++◌, drop, get_or, length, refl, sym, ap, ap₂, ◌∙◌, subst}
use Rattle.std.specs.Prelude.{bytes_eq, Result}
use Rattle.std.specs.Bool.{Decides}
use Rattle.std.specs.Cmp.Lexicographic.{pointwise}
use Rattle.std.proofs.lemmas.Bool.{eqb-true, eq-eqb, false≢true}
use Rattle.std.proofs.lemmas.List.{drop_more}
use Rattle.std.proofs.lemmas.Slice.Eq.{slice_eq-Decides}
use Rattle.ipdl_term.specs.Terms.{Channel}
use Rattle.ipdl_term.specs.Channels.{same_channel}
use Rattle.ipdl_term.specs.declared.interface.Interface.{Interface}
use Rattle.ipdl_term.specs.declared.interface.Port.{Port}
use Rattle.ipdl_term.proofs.ChannelSets.{same_channel-sound, same_channel-itself, bytes_eq-same_channel}
use Rattle.ipdl_typing.specs.Checks.{has_port, lacking, side_failures, interface, checked}
use Rattle.ipdl_typing.specs.Interfaces.{SamePorts}
use Rattle.ipdl_typing.proofs.Exactly.{append-clean, checked-clean}
use Rattle.ipdl_typing.specs.Answers.{AnswersChecks}
use Rattle.ipdl_typing.specs.declared.fault.TypeFault.{TypeFault}
use Rattle.ipdl_typing.proofs.First.{AnswersChecks-after, clean-append, clean-checked}

-- a port more at the end
pub has_port-push : (ports : List Port) (q p : Port) → has_port (ports ++ q ∷ []) p ≡ (if bytes_eq q.name p.name && nat_eq q.width p.width then true else has_port ports p)
has_port-push [] q p = rw (bytes_eq-same_channel q.name p.name) (go (same_channel q.name p.name) (nat_eq q.width p.width))
  where
    go : (a b : Bool) → (if a then (if b then true else false) else false) ≡ (if a && b then true else false)
    go true b = refl
    go false b = refl
has_port-push (r ∷ ports) q p =
    let rest : has_port (ports ++ q ∷ []) p ≡ (if bytes_eq q.name p.name && nat_eq q.width p.width then true else has_port ports p) = has_port-push ports q p in
    rw rest (go (same_channel r.name p.name) (nat_eq r.width p.width) (bytes_eq q.name p.name && nat_eq q.width p.width) (has_port ports p))
  where
    go : (a b t r : Bool) → (if a then (if b then true else (if t then true else r)) else (if t then true else r)) ≡ (if t then true else (if a then (if b then true else r) else r))
    go true true true r = refl
    go true true false r = refl
    go true false t r = refl
    go false b t r = refl

-- a port of a list that another one does not lack is in that one
pub has_port-lacking : (ps qs : List Port) → lacking ps qs ≡ [] → (p : Port) → has_port ps p ≡ true → has_port qs p ≡ true
has_port-lacking [] qs clean = λ p is. absurd (false≢true is)
has_port-lacking (q ∷ ps) qs clean = λ p is.
    let parts = append-clean (checked (has_port qs q) [] (interface q.name)) (lacking ps qs) clean in
    go p (same_channel q.name p.name) refl (q.width == p.width) refl (checked-clean (has_port qs q) [] (interface q.name) parts.0) (has_port-lacking ps qs parts.1 p) is
  where
    go : (p : Port) (a : Bool) → same_channel q.name p.name ≡ a → (b : Bool) → (q.width == p.width) ≡ b → has_port qs q ≡ true → (has_port ps p ≡ true → has_port qs p ≡ true) → (if a then (if b then true else has_port ps p) else has_port ps p) ≡ true → has_port qs p ≡ true
    go p true named true wide here rest is =
        let port : Channel → ℕ → Port = λ name width. record { name = name; width = width } in
        subst (λ r. has_port qs r ≡ true) (ap₂ port (same_channel-sound q.name p.name named) (eqb-true q.width p.width wide)) here
    go p true named false wide here rest is = rest is
    go p false named b wide here rest is = rest is

-- two lists that lack nothing of one another have the same ports
pub SamePorts-lacking : (ps qs : List Port) → lacking ps qs ≡ [] → lacking qs ps ≡ [] → SamePorts ps qs
SamePorts-lacking ps qs there back p = go (has_port ps p) (has_port qs p) refl refl
  where
    go : (a b : Bool) → has_port ps p ≡ a → has_port qs p ≡ b → a ≡ b
    go true true x y = refl
    go false false x y = refl
    go true false x y = absurd (false≢true (sym y ∙ has_port-lacking ps qs there p x))
    go false true x y = absurd (false≢true (sym x ∙ has_port-lacking qs ps back p y))

-- a list whose ports are all in another one lacks nothing there
pub lacking-within : (ps qs : List Port) → ((p : Port) → has_port ps p ≡ true → has_port qs p ≡ true) → lacking ps qs ≡ []
lacking-within [] qs within = refl
lacking-within (q ∷ ps) qs within =
    clean-append (checked (has_port qs q) [] (interface q.name)) (lacking ps qs) (clean-checked (has_port qs q) [] (interface q.name) (within q itself)) (lacking-within ps qs (λ p is. within p (later p (same_channel q.name p.name) (q.width == p.width) is)))
  where
    itself : has_port (q ∷ ps) q ≡ true
    itself = rw (same_channel-itself q.name, eq-eqb q.width q.width refl) refl

    later : (p : Port) (a b : Bool) → has_port ps p ≡ true → (if a then (if b then true else has_port ps p) else has_port ps p) ≡ true
    later p true true is = refl
    later p true false is = is
    later p false b is = is

-- the test of both fields tells whether two ports are equal
port_test-Decides : (p q : Port) → Decides (bytes_eq p.name q.name && nat_eq p.width q.width) (p ≡ q)
port_test-Decides p q = (λ is. go (bytes_eq p.name q.name) (nat_eq p.width q.width) refl refl is, λ same. subst (λ r. (bytes_eq p.name r.name && nat_eq p.width r.width) ≡ true) same itself)
  where
    go : (a b : Bool) → bytes_eq p.name q.name ≡ a → nat_eq p.width q.width ≡ b → (a && b) ≡ true → p ≡ q
    go true true named wide is =
        let port : Channel → ℕ → Port = λ name width. record { name = name; width = width } in
        ap₂ port (same_channel-sound p.name q.name (sym (bytes_eq-same_channel p.name q.name) ∙ named)) (eqb-true p.width q.width wide)
    go true false named wide is = absurd (false≢true is)
    go false b named wide is = absurd (false≢true is)

    itself : (bytes_eq p.name p.name && nat_eq p.width p.width) ≡ true
    itself = rw (bytes_eq-same_channel p.name p.name, same_channel-itself p.name, eq-eqb p.width p.width refl) refl

-- a list lacks nothing of one that is written alike
pub lacking-alike : (ps qs : List Port) (alike : Bool) → alike ≡ pointwise (λ (p q : Port). bytes_eq p.name q.name && nat_eq p.width q.width) ps qs → alike ≡ true → lacking ps qs ≡ []
lacking-alike ps qs alike is equal =
    let same : ps ≡ qs = (slice_eq-Decides port_test-Decides ps qs alike is).0 equal in
    lacking-within ps qs (λ p there. subst (λ list. has_port list p ≡ true) same there)

-- what the rest of a list lacks, from a place on
pub lacking-drop : (ps qs : List Port) (i : ℕ) (p : Port) → i < length ps → get_or ps i p ≡ p → lacking (drop i ps) qs ≡ checked (has_port qs p) [] (interface p.name) ++ lacking (drop (i + 1) ps) qs
lacking-drop ps qs i p within at =
    ap (λ list. lacking list qs) (drop_more ps i p within) ∙ ap (λ q. checked (has_port qs q) [] (interface q.name) ++ lacking (drop (i + 1) ps) qs) at

-- the same ports on both sides lack nothing of one another
pub sides-SamePorts : (left right : Interface) → SamePorts left.inputs right.inputs → SamePorts left.outputs right.outputs → side_failures left right ≡ []
sides-SamePorts left right inputs outputs =
    clean-append (lacking left.inputs right.inputs ++ lacking left.outputs right.outputs ++ lacking right.inputs left.inputs) (lacking right.outputs left.outputs) (clean-append (lacking left.inputs right.inputs ++ lacking left.outputs right.outputs) (lacking right.inputs left.inputs) (clean-append (lacking left.inputs right.inputs) (lacking left.outputs right.outputs) (lacking-within left.inputs right.inputs (λ p is. sym (inputs p) ∙ is)) (lacking-within left.outputs right.outputs (λ p is. sym (outputs p) ∙ is))) (lacking-within right.inputs left.inputs (λ p is. inputs p ∙ is))) (lacking-within right.outputs left.outputs (λ p is. outputs p ∙ is))

-- sides that lack nothing have the same ports
pub SamePorts-sides : (left right : Interface) → side_failures left right ≡ [] → SamePorts left.inputs right.inputs × SamePorts left.outputs right.outputs
SamePorts-sides left right clean =
    let last = append-clean (lacking left.inputs right.inputs ++ lacking left.outputs right.outputs ++ lacking right.inputs left.inputs) (lacking right.outputs left.outputs) clean in
    let third = append-clean (lacking left.inputs right.inputs ++ lacking left.outputs right.outputs) (lacking right.inputs left.inputs) last.0 in
    let front = append-clean (lacking left.inputs right.inputs) (lacking left.outputs right.outputs) third.0 in
    (SamePorts-lacking left.inputs right.inputs front.0 third.1, SamePorts-lacking left.outputs right.outputs front.1 last.1)

-- the checks of the sides, by the last of them
pub sides_checks : {X : Type 0} (r : Result X TypeFault) (left right : Interface) → lacking left.inputs right.inputs ≡ [] → lacking left.outputs right.outputs ≡ [] → lacking right.inputs left.inputs ≡ [] → AnswersChecks r (lacking right.outputs left.outputs) → AnswersChecks r (side_failures left right)
sides_checks r left right one two three last =
    AnswersChecks-after r (lacking left.inputs right.inputs ++ lacking left.outputs right.outputs ++ lacking right.inputs left.inputs) (lacking right.outputs left.outputs) (clean-append (lacking left.inputs right.inputs ++ lacking left.outputs right.outputs) (lacking right.inputs left.inputs) (clean-append (lacking left.inputs right.inputs) (lacking left.outputs right.outputs) one two) three) last
