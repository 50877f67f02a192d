-- Protocols of an interface in the names of the place where they are used.
use Rattle.std.specs.Map.{values_of}
use Rattle.std.specs.Prelude.{◌≡◌}
use Rattle.ipdl_term.specs.Channels.{AreDisjoint}
use Rattle.ipdl_term.specs.Renaming.{renamed, renaming_of, hidden_channels}
use Rattle.ipdl_term.specs.Terms.{Protocol}
use Rattle.ipdl_embed.specs.Pairs.{Pairs}

-- the protocol with its free channels renamed by the pairs, of whose new names none is hidden in it
pub record IsInstance (pairs : Pairs) (p instance : Protocol) : Type 0 where
  pub is_renamed : instance ≡ renamed (renaming_of pairs) p
  pub captures_none : AreDisjoint (values_of pairs) (hidden_channels p)
