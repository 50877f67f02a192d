-- Pairs that are followed by a renaming, and the channels that are hidden where they are used.
use Rattle.std.specs.Borrow.{Bor}
use Rattle.std.specs.Prelude.{ℕ, zero, suc, List, [], ◌∷◌, map, if◌then◌else◌}
use Rattle.ipdl_term.specs.Channels.{has}
use Rattle.ipdl_term.specs.Renaming.{renaming_of}
use Rattle.ipdl_term.specs.Terms.{Channel, Protocol, parallel, hiding}
use Rattle.ipdl_embed.specs.Pairs.{Pairs}

-- the names that references are to
abbrev pub names_of : List (Bor (List ℕ)) → List Channel
names_of references = map (λ (reference : Bor (List ℕ)). reference.now) references

-- the inner pairs, whose new names are renamed by the outer pairs, except those that are hidden
abbrev pub followed : (hidden : List Channel) → (outer inner : Pairs) → Pairs
followed hidden outer inner =
    map (λ (pair : Channel × Channel). (pair.0, (if has hidden pair.1 then pair.1 else renaming_of outer pair.1))) inner

-- the channels that are hidden around a place of a protocol
abbrev pub hidden_on_way : Protocol → (place : List ℕ) → List Channel
hidden_on_way (parallel p q) (zero ∷ place) = hidden_on_way p place
hidden_on_way (parallel p q) (suc zero ∷ place) = hidden_on_way q place
hidden_on_way (hiding c w p) (zero ∷ place) = c ∷ hidden_on_way p place
hidden_on_way _ _ = []
