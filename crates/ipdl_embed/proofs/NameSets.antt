-- Sets of names, one name more or less, and what pairs give.
use Rattle.std.proofs.Common.{◌≡◌, ℕ, ◌+◌, ◌<◌, Bool, true, false, ◌||◌, if◌then◌else◌, List, [], ◌∷◌, ◌++◌, take, length, get_or, Bor, Option, Some, None, is_some, refl, sym, ap, ◌∙◌}
use Rattle.std.specs.Prelude.{bytes_eq}
use Rattle.std.proofs.lemmas.Bool.{false≢true}
use Rattle.std.proofs.lemmas.List.{map_push, take_more}
use Rattle.ipdl_term.specs.Channels.{same_channel, has}
use Rattle.ipdl_term.specs.Terms.{Channel}
use Rattle.ipdl_term.specs.Typing.{port_names}
use Rattle.ipdl_term.specs.declared.interface.Port.{Port}
use Rattle.ipdl_term.proofs.ChannelSets.{same_channel-sound, bytes_eq-same_channel, has-append}
use Rattle.ipdl_embed.specs.Pairs.{Pairs, new_name}

-- a reference to a name, for a look-up
abbrev pub a_name : Channel → Bor (List ℕ)
a_name c = record { ref_ptr = (0, 0); now = c }

-- a set with a name more
pub entered : (name d : Channel) (old : Bool) → (if bytes_eq name d then true else old) ≡ (same_channel name d || old)
entered name d old = ap (λ b. if b then true else old) (bytes_eq-same_channel name d) ∙ go (same_channel name d)
  where
    go : (b : Bool) → (if b then true else old) ≡ (b || old)
    go true = refl
    go false = refl

-- the ports so far, and one more
pub port_names-more : (ports : List Port) (i : ℕ) (x : Port) → i < length ports → get_or ports i x ≡ x → port_names (take (i + 1) ports) ≡ port_names (take i ports) ++ x.name ∷ []
port_names-more ports i x within at =
    ap port_names (take_more ports i x within)
    ∙ map_push (λ (port : Port). port.name) (take i ports) (get_or ports i x)
    ∙ ap (λ (port : Port). port_names (take i ports) ++ port.name ∷ []) at

-- a member more
pub has-more : (names more : List Channel) (name c : Channel) (old new start : Bool) → new ≡ (same_channel name c || old) → old ≡ (has names c || start) → more ≡ names ++ name ∷ [] → new ≡ (has more c || start)
has-more names more name c old new start put before is =
    put
    ∙ ap (λ b. same_channel name c || b) before
    ∙ go (same_channel name c) (has names c) start
    ∙ ap (λ b. b || start) (sym (has-append names (name ∷ []) c))
    ∙ ap (λ list. has list c || start) (sym is)
  where
    go : (p q r : Bool) → (p || (q || r)) ≡ ((q || (p || false)) || r)
    go true true r = refl
    go true false r = refl
    go false true r = refl
    go false false r = refl

-- what the pairs give, with those that come after
pub new_name-append : (pairs rest : Pairs) (c : Channel) → new_name (pairs ++ rest) c ≡ (if is_some (new_name pairs c) then new_name pairs c else new_name rest c)
new_name-append [] rest c = refl
new_name-append (pair ∷ pairs) rest c = go (same_channel pair.0 c) (new_name-append pairs rest c)
  where
    go : (b : Bool) → new_name (pairs ++ rest) c ≡ (if is_some (new_name pairs c) then new_name pairs c else new_name rest c) → (if b then Some pair.1 else new_name (pairs ++ rest) c) ≡ (if is_some (if b then Some pair.1 else new_name pairs c) then (if b then Some pair.1 else new_name pairs c) else new_name rest c)
    go true more = refl
    go false more = more

-- a pair that is not given, as its name has one
pub given_before : (a b c : Channel) (old : Channel → Option Channel) → is_some (old a) ≡ true → old c ≡ (if is_some (old c) then old c else new_name ((a, b) ∷ []) c)
given_before a b c old there = go (same_channel a c) (old c) refl refl
  where
    go : (p : Bool) (o : Option Channel) → same_channel a c ≡ p → old c ≡ o → o ≡ (if is_some o then o else (if p then Some b else None))
    go p (Some d) e is = refl
    go false None e is = refl
    go true None e is = absurd (false≢true (sym (ap is_some is) ∙ ap (λ d. is_some (old d)) (sym (same_channel-sound a c e)) ∙ there))

-- a pair that is given
pub given_now : (a b c : Channel) (old : Channel → Option Channel) (new : Option Channel) → is_some (old a) ≡ false → new ≡ (if bytes_eq a c then Some b else old c) → new ≡ (if is_some (old c) then old c else new_name ((a, b) ∷ []) c)
given_now a b c old new absent put = put ∙ ap (λ t. if t then Some b else old c) (bytes_eq-same_channel a c) ∙ go (same_channel a c) (old c) refl refl
  where
    go : (p : Bool) (o : Option Channel) → same_channel a c ≡ p → old c ≡ o → (if p then Some b else o) ≡ (if is_some o then o else (if p then Some b else None))
    go true (Some d) e is = absurd (false≢true (sym absent ∙ ap (λ d. is_some (old d)) (same_channel-sound a c e) ∙ ap is_some is))
    go true None e is = refl
    go false (Some d) e is = refl
    go false None e is = refl
