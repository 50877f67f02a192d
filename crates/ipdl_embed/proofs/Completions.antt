-- Channels with new names, and the faults of pairs.
use Rattle.std.proofs.Common.{◌≡◌, ℕ, ◌+◌, ◌<◌, Bool, true, false, ◌||◌, not, if◌then◌else◌, List, [], ◌∷◌, ◌++◌, take, drop, length, get_or, slice_get, Some, None, is_some, refl, sym, ap, ◌∙◌}
use Rattle.std.specs.Map.{keys_of, values_of}
use Rattle.std.specs.Option.{unwrap_or}
use Rattle.std.proofs.lemmas.Bool.{false≢true}
use Rattle.std.proofs.lemmas.List.{map-append, take-append-drop, at_drop_more}
use mathlib.Core.Path.{fun_ext}
use Rattle.ipdl_term.specs.Channels.{same_channel, has}
use Rattle.ipdl_term.specs.Renaming.{Renaming, renaming_of}
use Rattle.ipdl_term.specs.Terms.{Channel}
use Rattle.ipdl_term.specs.Typing.{port_names}
use Rattle.ipdl_term.specs.declared.interface.Interface.{Interface}
use Rattle.ipdl_term.specs.declared.interface.Port.{Port}
use Rattle.ipdl_term.proofs.ChannelSets.{same_channel-sound, same_channel-itself, has-append}
use Rattle.ipdl_embed.specs.Completing.{channels_of, completed, unknown_channels, IsFirstClash, TellsUnknown, TellsClash, TellsNoRenaming}
use Rattle.ipdl_embed.specs.Pairs.{Pairs, named, new_name, old_name}
use Rattle.ipdl_embed.specs.declared.fault.EmbedFault.{EmbedFault}
use Rattle.ipdl_embed.specs.declared.fault.EmbedFault.TheVariants.{NoChannel, NotInjective, Capture, Memory}
use Rattle.ipdl_embed.proofs.PairLaws.{is_some-old_name}
use Rattle.ipdl_embed.proofs.NameSets.{port_names-more}

-- ---- channels with new names

pub keys_of-named : (f : Renaming) (cs : List Channel) → keys_of (named f cs) ≡ cs
keys_of-named f [] = refl
keys_of-named f (c ∷ cs) = ap (λ ds. c ∷ ds) (keys_of-named f cs)

pub named-append : (f : Renaming) (cs ds : List Channel) → named f (cs ++ ds) ≡ named f cs ++ named f ds
named-append f cs ds = map-append (λ (c : Channel). (c, f c)) cs ds

-- pairs of channels with new names, and more of them
pub named-keys : (f : Renaming) (start more : Pairs) (cs : List Channel) → start ≡ named f (keys_of start) → more ≡ start ++ named f cs → more ≡ named f (keys_of more)
named-keys f start more cs before is =
    let all : more ≡ named f (keys_of start ++ cs) = is ∙ ap (λ pairs. pairs ++ named f cs) before ∙ sym (named-append f (keys_of start) cs) in
    all ∙ ap (named f) (sym (ap keys_of all ∙ keys_of-named f (keys_of start ++ cs)))

-- a channel of the list has its new name there
has-new_name : (f : Renaming) (cs : List Channel) (c : Channel) → has cs c ≡ true → has (values_of (named f cs)) (f c) ≡ true
has-new_name f [] c there = absurd (false≢true there)
has-new_name f (d ∷ cs) c there = go (same_channel d c) refl there (has-new_name f cs c)
  where
    or_true : (b : Bool) → (b || true) ≡ true
    or_true true = refl
    or_true false = refl

    go : (b : Bool) → same_channel d c ≡ b → (b || has cs c) ≡ true → (has cs c ≡ true → has (values_of (named f cs)) (f c) ≡ true) → (same_channel (f d) (f c) || has (values_of (named f cs)) (f c)) ≡ true
    go true e h rest = ap (λ b. b || has (values_of (named f cs)) (f c)) (ap (λ x. same_channel (f d) (f x)) (sym (same_channel-sound d c e)) ∙ same_channel-itself (f d))
    go false e h rest = ap (λ b. same_channel (f d) (f c) || b) (rest h) ∙ or_true (same_channel (f d) (f c))

-- no channel has the name
pub name_is_free : (pairs : Pairs) (d : Channel) → None ≡ old_name pairs d → has (values_of pairs) d ≡ false
name_is_free pairs d none = sym (is_some-old_name pairs d) ∙ ap is_some (sym none)

-- and so its channel is another one than those before
pub channel_is_other : (f : Renaming) (pairs : Pairs) (c : Channel) → pairs ≡ named f (keys_of pairs) → has (values_of pairs) (f c) ≡ false → has (keys_of pairs) c ≡ false
channel_is_other f pairs c made free = go (has (keys_of pairs) c) refl
  where
    go : (b : Bool) → has (keys_of pairs) c ≡ b → b ≡ false
    go false e = refl
    go true e = absurd (false≢true (sym free ∙ ap (λ list. has (values_of list) (f c)) made ∙ has-new_name f (keys_of pairs) c e))

-- ---- clashes

-- the first clash stays the first where pairs come after
pub IsFirstClash-append : (pairs rest all : Pairs) (c d : Channel) → all ≡ pairs ++ rest → IsFirstClash pairs c d → IsFirstClash all c d
IsFirstClash-append pairs rest all c d is clash = record {
  before = clash.before;
  after = clash.after ++ rest;
  target = clash.target;
  second_pair = is ∙ ap (λ list. list ++ rest) clash.second_pair ∙ append-assoc clash.before ((d, clash.target) ∷ clash.after) rest;
  first_pair = clash.first_pair;
  distinct = clash.distinct;
}
  where
    append-assoc : (xs ys zs : Pairs) → (xs ++ ys) ++ zs ≡ xs ++ (ys ++ zs)
    append-assoc [] ys zs = refl
    append-assoc (x ∷ xs) ys zs = ap (λ list. x ∷ list) (append-assoc xs ys zs)

pub TellsClash-append : (pairs rest all : Pairs) (fault : EmbedFault) → all ≡ pairs ++ rest → TellsClash pairs fault → TellsClash all fault
TellsClash-append pairs rest all (NoChannel c) is tells = tells
TellsClash-append pairs rest all (NotInjective c d) is tells = IsFirstClash-append pairs rest all c d is tells
TellsClash-append pairs rest all (Capture c) is tells = tells
TellsClash-append pairs rest all Memory is tells = tells

-- the clash at a port is that of all ports
pub TellsClash-ports : (f : Renaming) (start now : Pairs) (ports : List Port) (i : ℕ) (x : Port) (fault : EmbedFault) → i < length ports → get_or ports i x ≡ x → now ≡ start ++ named f (port_names (take i ports)) → TellsClash (now ++ named f (x.name ∷ [])) fault → TellsClash (start ++ named f (port_names ports)) fault
TellsClash-ports f start now ports i x fault within at is tells =
    TellsClash-append (now ++ named f (x.name ∷ [])) (named f (port_names (drop (i + 1) ports))) (start ++ named f (port_names ports)) fault
    (sym (ap (λ list. (list ++ named f (x.name ∷ [])) ++ rest) is ∙ regroup start (named f (port_names (take i ports))) (named f (x.name ∷ [])) rest ∙ ap (λ list. start ++ list) whole)) tells
  where
    rest : Pairs
    rest = named f (port_names (drop (i + 1) ports))

    append-assoc : (xs ys zs : Pairs) → (xs ++ ys) ++ zs ≡ xs ++ (ys ++ zs)
    append-assoc [] ys zs = refl
    append-assoc (y ∷ xs) ys zs = ap (λ list. y ∷ list) (append-assoc xs ys zs)

    regroup : (xs ys zs ws : Pairs) → ((xs ++ ys) ++ zs) ++ ws ≡ xs ++ ((ys ++ zs) ++ ws)
    regroup xs ys zs ws = ap (λ list. list ++ ws) (append-assoc xs ys zs) ∙ append-assoc xs (ys ++ zs) ws

    whole : (named f (port_names (take i ports)) ++ named f (x.name ∷ [])) ++ rest ≡ named f (port_names ports)
    whole =
        ap (λ list. list ++ rest) (sym (named-append f (port_names (take i ports)) (x.name ∷ [])) ∙ ap (named f) (sym (port_names-more ports i x within at)))
        ∙ sym (named-append f (port_names (take (i + 1) ports)) (port_names (drop (i + 1) ports)))
        ∙ ap (named f) (sym (map-append (λ (port : Port). port.name) (take (i + 1) ports) (drop (i + 1) ports)) ∙ ap port_names (take-append-drop (i + 1) ports))

-- ---- unknown channels

pub has-channels_of : (i : Interface) (c : Channel) → has (channels_of i) c ≡ (has (port_names i.inputs) c || has (port_names i.outputs) c)
has-channels_of i c =
    ap (λ cs. has cs c) (map-append (λ (port : Port). port.name) i.inputs i.outputs) ∙ has-append (port_names i.inputs) (port_names i.outputs) c

-- the rest of the pairs, from the one that is looked at
unknown-drop : (i : Interface) (pairs : Pairs) (n : ℕ) (pair : Channel × Channel) (b : Bool) → n < length pairs → get_or pairs n pair ≡ pair → has (channels_of i) pair.0 ≡ b → unknown_channels i (drop n pairs) ≡ (if not b then (pair.0 ∷ unknown_channels i (drop (n + 1) pairs)) else unknown_channels i (drop (n + 1) pairs))
unknown-drop i pairs n pair b within at is =
    at_drop_more (unknown_channels i) pairs n pair within
    ∙ ap (λ p. unknown_channels i (p ∷ drop (n + 1) pairs)) at
    ∙ ap (λ t. if not t then (pair.0 ∷ unknown_channels i (drop (n + 1) pairs)) else unknown_channels i (drop (n + 1) pairs)) is

pub unknown-first : (i : Interface) (pairs : Pairs) (n : ℕ) (pair : Channel × Channel) → n < length pairs → get_or pairs n pair ≡ pair → has (channels_of i) pair.0 ≡ false → unknown_channels i pairs ≡ unknown_channels i (drop n pairs) → slice_get (unknown_channels i pairs) 0 ≡ Some pair.0
unknown-first i pairs n pair within at absent same =
    ap (λ cs. slice_get cs 0) (same ∙ unknown-drop i pairs n pair false within at absent)

pub unknown-next : (i : Interface) (pairs : Pairs) (n : ℕ) (pair : Channel × Channel) → n < length pairs → get_or pairs n pair ≡ pair → has (channels_of i) pair.0 ≡ true → unknown_channels i pairs ≡ unknown_channels i (drop n pairs) → unknown_channels i pairs ≡ unknown_channels i (drop (n + 1) pairs)
unknown-next i pairs n pair within at there same = same ∙ unknown-drop i pairs n pair true within at there

-- a look-up in a set of the interface's names
pub looked_up : (i : Interface) (c : Channel) (found inputs all : Bool) → found ≡ all → all ≡ (has (port_names i.outputs) c || inputs) → inputs ≡ (has (port_names i.inputs) c || false) → has (channels_of i) c ≡ found
looked_up i c found inputs all is outputs_too from_inputs =
    has-channels_of i c ∙ go (has (port_names i.inputs) c) (has (port_names i.outputs) c) ∙ sym (is ∙ outputs_too ∙ ap (λ b. has (port_names i.outputs) c || b) from_inputs)
  where
    go : (p q : Bool) → (p || q) ≡ (q || (p || false))
    go true true = refl
    go true false = refl
    go false true = refl
    go false false = refl

-- ---- the whole

-- the renaming that is given is that of the pairs
pub renaming_of-given : (pairs : Pairs) (c : Channel) → unwrap_or (new_name pairs c) c ≡ renaming_of pairs c
renaming_of-given [] c = refl
renaming_of-given (pair ∷ pairs) c = go (same_channel pair.0 c) (renaming_of-given pairs c)
  where
    go : (b : Bool) → unwrap_or (new_name pairs c) c ≡ renaming_of pairs c → unwrap_or (if b then Some pair.1 else new_name pairs c) c ≡ (if b then pair.1 else renaming_of pairs c)
    go true rest = refl
    go false rest = rest

-- the inputs with their new names and then the outputs are the whole
pub completed-parts : (i : Interface) (pairs : Pairs) (f : Renaming) (start first : Pairs) (inputs outputs : List Port) → ((c : Channel) → f c ≡ renaming_of pairs c) → start ≡ [] → first ≡ start ++ named f (port_names inputs) → inputs ≡ i.inputs → outputs ≡ i.outputs → first ++ named f (port_names outputs) ≡ completed i pairs
completed-parts i pairs f start first inputs outputs given none is ins outs =
    ap (λ list. list ++ named f (port_names outputs)) (is ∙ ap (λ list. list ++ named f (port_names inputs)) none)
    ∙ sym (named-append f (port_names inputs) (port_names outputs))
    ∙ ap (named f) (sym (map-append (λ (port : Port). port.name) inputs outputs) ∙ ap (λ ports. port_names (ports ++ outputs)) ins ∙ ap (λ ports. port_names (i.inputs ++ ports)) outs)
    ∙ ap (λ g. named g (channels_of i)) (fun_ext given)

-- the fault of a clash is that of the pairs where no channel is unknown
pub TellsNoRenaming-clash : (i : Interface) (pairs : Pairs) (fault : EmbedFault) → unknown_channels i pairs ≡ [] → TellsClash (completed i pairs) fault → TellsNoRenaming i pairs fault
TellsNoRenaming-clash i pairs (NoChannel c) known tells = absurd tells
TellsNoRenaming-clash i pairs (NotInjective c d) known tells = (known, tells)
TellsNoRenaming-clash i pairs (Capture c) known tells = tells
TellsNoRenaming-clash i pairs Memory known tells = tells

pub TellsNoRenaming-unknown : (i : Interface) (pairs : Pairs) (fault : EmbedFault) → TellsUnknown i pairs fault → TellsNoRenaming i pairs fault
TellsNoRenaming-unknown i pairs (NoChannel c) tells = tells
TellsNoRenaming-unknown i pairs (NotInjective c d) tells = absurd tells
TellsNoRenaming-unknown i pairs (Capture c) tells = tells
TellsNoRenaming-unknown i pairs Memory tells = tells
