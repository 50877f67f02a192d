-- New names that are hidden in no term of a chain.
use Rattle.std.proofs.Common.{List}
use Rattle.ipdl_chain.specs.Chains.{Chain, terms_of}
use Rattle.ipdl_term.specs.Channels.{AreDisjoint}
use Rattle.ipdl_term.specs.Renaming.{hidden_channels}
use Rattle.ipdl_term.specs.Steps.{Direction, lr, rl}
use Rattle.ipdl_term.specs.Terms.{Channel}
use Rattle.ipdl_uses.proofs.Chains.{all_at_last}
use Rattle.ipdl_uses.proofs.Sites.{hidden_in_none}
use Rattle.ipdl_uses.specs.Lemmas.{hidden_in_chain}
use Rattle.ipdl_uses.specs.Uses.{from_side}

-- nor are they in a side
pub side_is_free : (names : List Channel) (chain : Chain) (direction : Direction) → AreDisjoint names (hidden_in_chain chain) → AreDisjoint names (hidden_channels (from_side direction chain))
side_is_free names chain lr free =
    let all = hidden_in_none names (terms_of chain) free in all.0
side_is_free names chain rl free =
    let all = hidden_in_none names (terms_of chain) free in
    all_at_last (λ term. AreDisjoint names (hidden_channels term)) chain.first chain.links all.0 all.1
