-- What may be used at a place, and why something may not.
use Rattle.std.specs.List.{IsDistinct}
use Rattle.std.specs.Map.{values_of}
use Rattle.std.specs.Option.{option_or}
use Rattle.std.specs.Prelude.{◌≡◌, [], ◌∷◌, ◌++◌, slice_get, Option, Some, None, option_map, if◌then◌else◌}
use Rattle.ipdl_embed.specs.Captures.{first_captured_target}
use Rattle.ipdl_embed.specs.Completing.{completed, unknown_channels}
use Rattle.ipdl_embed.specs.Fitting.{first_unfit}
use Rattle.ipdl_embed.specs.Pairs.{Pairs, old_name}
use Rattle.ipdl_term.specs.Channels.{same_channel, AreDisjoint}
use Rattle.ipdl_term.specs.Renaming.{renamed, renaming_of}
use Rattle.ipdl_term.specs.Same.{same_protocol}
use Rattle.ipdl_term.specs.Steps.{Direction}
use Rattle.ipdl_term.specs.Terms.{Channel, Protocol}
use Rattle.ipdl_term.specs.Typing.{Scope}
use Rattle.ipdl_term.specs.declared.interface.Interface.{Interface}
use Rattle.ipdl_term.specs.declared.interface.Port.{Port}
use Rattle.ipdl_uses.specs.Lemmas.{Lemma, hidden_in_chain}
use Rattle.ipdl_uses.specs.Uses.{from_side}

-- The lemma may be used in this direction at a place where this protocol stands and these channels are visible, under these
-- pairs. Each first name is a channel of the interface, different channels have different new names, none of these is hidden
-- in a term of the chain, the protocol is the side in the new names, and each of these is visible with its channel's width.
pub record IsUsable (lemma : Lemma) (direction : Direction) (part : Protocol) (scope : Scope) (pairs : Pairs) : Type 0 where
  pub known : unknown_channels lemma.interface pairs ≡ []
  pub distinct : IsDistinct same_channel (values_of (completed lemma.interface pairs))
  pub free : AreDisjoint (values_of (completed lemma.interface pairs)) (hidden_in_chain lemma.chain)
  pub side : part ≡ renamed (renaming_of (completed lemma.interface pairs)) (from_side direction lemma.chain)
  pub fits : first_unfit scope (renaming_of (completed lemma.interface pairs)) (lemma.interface.inputs ++ lemma.interface.outputs) ≡ None

-- ---- why it may not

pub data UseRefusal : Type 0 where
  -- a pair is for what is no channel of the interface
  no_channel : Channel → UseRefusal
  -- two channels of the interface have one new name
  not_injective : (first second : Channel) → UseRefusal
  -- a new name is hidden in a term of the chain
  captured : Channel → UseRefusal
  -- the place has no protocol, or another one than the side in the new names
  not_side : UseRefusal
  -- a new name is not visible with its channel's width
  no_port : Channel → UseRefusal

-- the earliest channel that has the new name of one before it, as the second one; the pairs before have different ones
abbrev pub clash_after : (before pairs : Pairs) → Option (Channel × Channel)
clash_after before [] = None
clash_after before (pair ∷ pairs) =
    option_or (option_map (λ c. (c, pair.0)) (old_name before pair.1)) (clash_after (before ++ pair ∷ []) pairs)

-- the new name of a port, if there is one
abbrev pub new_name_of : Pairs → Option Port → Channel
new_name_of pairs None = []
new_name_of pairs (Some port) = renaming_of pairs port.name

abbrev pub channel_refusal : Interface → Pairs → Option UseRefusal
channel_refusal i pairs = option_map no_channel (slice_get (unknown_channels i pairs) 0)

abbrev pub clash_refusal : Pairs → Option UseRefusal
clash_refusal pairs = option_map (λ clash. not_injective clash.0 clash.1) (clash_after [] pairs)

abbrev pub capture_refusal : Lemma → Pairs → Option UseRefusal
capture_refusal lemma pairs = option_map captured (first_captured_target pairs (hidden_in_chain lemma.chain))

abbrev pub side_refusal : (part : Option Protocol) → Protocol → Option UseRefusal
side_refusal None side = Some not_side
side_refusal (Some part) side = if same_protocol part side then None else Some not_side

abbrev pub port_refusal : Interface → Scope → Pairs → Option UseRefusal
port_refusal i scope pairs =
    option_map (λ n. no_port (new_name_of pairs (slice_get (i.inputs ++ i.outputs) n)))
    (first_unfit scope (renaming_of pairs) (i.inputs ++ i.outputs))

-- the first that applies, in this order; there may be no protocol at the place
abbrev pub use_refusal : Lemma → Direction → (part : Option Protocol) → Scope → Pairs → Option UseRefusal
use_refusal lemma direction part scope pairs =
    let all = completed lemma.interface pairs in
    option_or (channel_refusal lemma.interface pairs)
    (option_or (clash_refusal all)
    (option_or (capture_refusal lemma all)
    (option_or (side_refusal part (renamed (renaming_of all) (from_side direction lemma.chain)))
    (port_refusal lemma.interface scope all))))
