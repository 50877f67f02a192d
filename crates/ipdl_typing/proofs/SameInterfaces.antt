-- A protocol that has an interface has each one with the same ports.
use Rattle.std.proofs.Common.{◌≡◌, ℕ, ◌==◌, Bool, true, false, ◌||◌, if◌then◌else◌, List, [], ◌∷◌, ◌++◌, Option, Some, None, refl, sym, ap, ap₂, ◌∙◌, subst}
use Rattle.std.specs.Prelude.{is_some}
use Rattle.std.proofs.lemmas.Bool.{eqb-true, eq-eqb, false≢true}
use mathlib.Core.Path.{fun_ext}
use Rattle.ipdl_term.specs.Terms.{Channel, Protocol}
use Rattle.ipdl_term.specs.Channels.{same_channel, has}
use Rattle.ipdl_term.specs.Interpretations.{Signature}
use Rattle.ipdl_term.specs.Typing.{scope_of, port_names, IsTyped, HasInterface}
use Rattle.ipdl_term.specs.declared.interface.Interface.{Interface}
use Rattle.ipdl_term.specs.declared.interface.Port.{Port}
use Rattle.ipdl_term.proofs.ChannelSets.{same_channel-sound}
use Rattle.ipdl_typing.specs.Checks.{has_port}
use Rattle.ipdl_typing.specs.Interfaces.{SamePorts, HasEachNameOnce}
use Rattle.ipdl_typing.proofs.PortScopes.{scope_of-named}
use Rattle.ipdl_typing.proofs.ProtocolTyping.{same_tests}

-- the port of this name and width
abbrev a_port : Channel → ℕ → Port
a_port c w = record { name = c; width = w }

-- ---- lists of ports

-- the ports of two lists
has_port-append : (ps qs : List Port) (p : Port) → has_port (ps ++ qs) p ≡ (has_port ps p || has_port qs p)
has_port-append [] qs p = refl
has_port-append (q ∷ ps) qs p =
    rw (has_port-append ps qs p) (go (same_channel q.name p.name) (q.width == p.width) (has_port ps p) (has_port qs p))
  where
    go : (a b x y : Bool) → (if a then (if b then true else (x || y)) else (x || y)) ≡ ((if a then (if b then true else x) else x) || y)
    go true true x y = refl
    go true false x y = refl
    go false b x y = refl

-- two pairs of lists with the same ports
SamePorts-append : (ps qs rs ss : List Port) → SamePorts ps rs → SamePorts qs ss → SamePorts (ps ++ qs) (rs ++ ss)
SamePorts-append ps qs rs ss left right p =
    has_port-append ps qs p ∙ ap₂ (λ a b. a || b) (left p) (right p) ∙ sym (has_port-append rs ss p)

-- a port of a list gives its name
has_port-named : (ports : List Port) (c : Channel) (w : ℕ) → has_port ports (a_port c w) ≡ true → has (port_names ports) c ≡ true
has_port-named [] c w is = absurd (false≢true is)
has_port-named (p ∷ ports) c w is = go (same_channel p.name c) (p.width == w) is (has_port-named ports c w)
  where
    go : (a b : Bool) → (if a then (if b then true else has_port ports (a_port c w)) else has_port ports (a_port c w)) ≡ true → (has_port ports (a_port c w) ≡ true → has (port_names ports) c ≡ true) → (a || has (port_names ports) c) ≡ true
    go true b is rest = refl
    go false b is rest = rest is

-- the width that a scope tells is that of a port
scope_of-has_port : (ports : List Port) (c : Channel) (w : ℕ) → scope_of ports c ≡ Some w → has_port ports (a_port c w) ≡ true
scope_of-has_port [] c w is = cc
scope_of-has_port (p ∷ ports) c w is = go (scope_of ports c) refl (same_channel p.name c) refl is (scope_of-has_port ports c w)
  where
    later : (a b x : Bool) → x ≡ true → (if a then (if b then true else x) else x) ≡ true
    later true true x is = refl
    later true false x is = is
    later false b x is = is

    go : (o : Option ℕ) → scope_of ports c ≡ o → (b : Bool) → same_channel p.name c ≡ b → scope_of (p ∷ ports) c ≡ Some w → (scope_of ports c ≡ Some w → has_port ports (a_port c w) ≡ true) → (if same_channel p.name c then (if p.width == w then true else has_port ports (a_port c w)) else has_port ports (a_port c w)) ≡ true
    go (Some v) there b same is rest =
        later (same_channel p.name c) (p.width == w) (has_port ports (a_port c w)) (rest (there ∙ (rw there at is)))
    go None there true same is rest =
        let told = rw (there, same) at is in
        let wide : p.width ≡ w = cc in
        rw (same, eq-eqb p.width w wide) refl
    go None there false same is rest = let told = rw (there, same) at is in cc

-- a name that is there once has one width
one_port : (ports : List Port) (c : Channel) (v w : ℕ) → HasEachNameOnce ports → has_port ports (a_port c v) ≡ true → has_port ports (a_port c w) ≡ true → v ≡ w
one_port [] c v w once first second = absurd (false≢true first)
one_port (p ∷ ports) c v w once first second =
    go (same_channel p.name c) refl (p.width == v) refl (p.width == w) refl first second (one_port ports c v w once.1)
  where
    other : (u : ℕ) → same_channel p.name c ≡ true → has_port ports (a_port c u) ≡ true → ⊥
    other u same there =
        false≢true (sym once.0 ∙ ap (has (port_names ports)) (same_channel-sound p.name c same) ∙ has_port-named ports c u there)

    go : (a : Bool) → same_channel p.name c ≡ a → (x : Bool) → (p.width == v) ≡ x → (y : Bool) → (p.width == w) ≡ y → (if a then (if x then true else has_port ports (a_port c v)) else has_port ports (a_port c v)) ≡ true → (if a then (if y then true else has_port ports (a_port c w)) else has_port ports (a_port c w)) ≡ true → (has_port ports (a_port c v) ≡ true → has_port ports (a_port c w) ≡ true → v ≡ w) → v ≡ w
    go true same true x true y first second rest = sym (eqb-true p.width v x) ∙ eqb-true p.width w y
    go true same false x b y first second rest = absurd (other v same first)
    go true same true x false y first second rest = absurd (other w same second)
    go false same a x b y first second rest = rest first second

-- ---- scopes

-- a port makes its name visible
has_port-visible : (ports : List Port) (c : Channel) (w : ℕ) → has_port ports (a_port c w) ≡ true → is_some (scope_of ports c) ≡ true
has_port-visible ports c w is = scope_of-named ports c (has_port-named ports c w is)

-- the same ports, each name of which is there once, make the same channels visible
scope_of-same : (ps qs : List Port) → SamePorts ps qs → HasEachNameOnce qs → (c : Channel) → scope_of ps c ≡ scope_of qs c
scope_of-same ps qs same once c = go (scope_of ps c) (scope_of qs c) refl refl
  where
    go : (a b : Option ℕ) → scope_of ps c ≡ a → scope_of qs c ≡ b → a ≡ b
    go None None x y = refl
    go (Some v) (Some w) x y =
        ap Some (one_port qs c v w once (sym (same (a_port c v)) ∙ scope_of-has_port ps c v x) (scope_of-has_port qs c w y))
    go (Some v) None x y =
        absurd (false≢true (sym (ap is_some y) ∙ has_port-visible qs c v (sym (same (a_port c v)) ∙ scope_of-has_port ps c v x)))
    go None (Some w) x y =
        absurd (false≢true (sym (ap is_some x) ∙ has_port-visible ps c w (same (a_port c w) ∙ scope_of-has_port qs c w y)))

-- a name of the one list is a name of the other
named_within : (ps qs : List Port) → SamePorts ps qs → (c : Channel) → has (port_names ps) c ≡ true → has (port_names qs) c ≡ true
named_within ps qs same c named = go (scope_of ps c) refl (scope_of-named ps c named)
  where
    go : (o : Option ℕ) → scope_of ps c ≡ o → is_some o ≡ true → has (port_names qs) c ≡ true
    go None x is = absurd (false≢true is)
    go (Some w) x is = has_port-named qs c w (sym (same (a_port c w)) ∙ scope_of-has_port ps c w x)

-- a protocol that has the one interface has the other
pub HasInterface-same : (sig : Signature) (left right : Interface) (p : Protocol) → HasEachNameOnce (right.inputs ++ right.outputs) → SamePorts left.inputs right.inputs → SamePorts left.outputs right.outputs → HasInterface sig left p → HasInterface sig right p
HasInterface-same sig left right p once inputs outputs t =
    let all = SamePorts-append left.inputs left.outputs right.inputs right.outputs inputs outputs in
    let scopes = fun_ext (scope_of-same (left.inputs ++ left.outputs) (right.inputs ++ right.outputs) all once) in
    record {
      typed = subst (λ scope. IsTyped sig scope p) scopes t.typed;
      writes = λ c. t.writes c ∙ same_tests (has (port_names left.outputs) c) (has (port_names right.outputs) c) (named_within left.outputs right.outputs outputs c) (named_within right.outputs left.outputs (λ q. sym (outputs q)) c);
    }
