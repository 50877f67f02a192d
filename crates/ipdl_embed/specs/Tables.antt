-- What the tables of the program hold of names.
use Rattle.std.specs.Borrow.{Bor}
use Rattle.std.specs.HashMap.{HashMap, get_by}
use Rattle.std.specs.HashSet.{HashSet, contains_by}
use Rattle.std.specs.List.{IsDistinct}
use Rattle.std.specs.Map.{keys_of, values_of}
use Rattle.std.specs.Option.{unwrap_or}
use Rattle.std.specs.Prelude.{◌≡◌, Bool, ℕ, List, Option, bytes_eq, if◌then◌else◌}
use Rattle.ipdl_term.specs.Channels.{same_channel}
use Rattle.ipdl_term.specs.Renaming.{Renaming}
use Rattle.ipdl_term.specs.Terms.{Channel}
use Rattle.ipdl_embed.specs.Pairs.{Pairs, new_name, old_name}

-- what the map has under a name
abbrev pub found_in : {S : Type 0} → HashMap (List ℕ) (List ℕ) S → Channel → Option Channel
found_in table c = get_by (λ key. bytes_eq c key) table

-- the renaming that a map is: what it does not have keeps its name
abbrev pub renaming_in : {S : Type 0} → HashMap (List ℕ) (List ℕ) S → Renaming
renaming_in table = λ c. unwrap_or (found_in table c) c

-- whether the set has a name
abbrev pub holds : {S : Type 0} → HashSet (Bor (List ℕ)) S → Channel → Bool
holds names c = contains_by (λ key. bytes_eq c key.now) names

-- the width that the table has under a name
abbrev pub seen_in : {S : Type 0} → HashMap (Bor (List ℕ)) ℕ S → Channel → Option ℕ
seen_in table c = get_by (λ key. bytes_eq c key.now) table

-- the channels of a set keep their names
abbrev pub keeping_all : (Channel → Bool) → Renaming → Renaming
keeping_all kept f = λ c. if kept c then c else f c

-- the tables find the pairs by either name, and no name comes twice on its side
pub record IsIndexed (pairs : Pairs) (targets sources : Channel → Option Channel) : Type 0 where
  pub finds : (c : Channel) → targets c ≡ new_name pairs c
  pub finds_back : (d : Channel) → sources d ≡ old_name pairs d
  pub each_once : IsDistinct same_channel (keys_of pairs)
  pub distinct : IsDistinct same_channel (values_of pairs)
