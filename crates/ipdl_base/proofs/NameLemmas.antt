-- Names, read one character after the other.
use Rattle.std.proofs.Common.{◌≡◌, ℕ, ◌+◌, ◌<◌, ◌&&◌, Bool, true, false, if◌then◌else◌, List, [], ◌∷◌, length, get_or, drop, refl, sym, ap, ◌∙◌}
use Rattle.std.specs.List.{list_all}
use Rattle.std.proofs.lemmas.List.{at_drop_more}
use Rattle.ipdl_base.specs.Names.{starts_name, continues_name, spells_name}

-- whether the characters spell what is left of a name that has started, or a whole name
abbrev pub spells_from : Bool → List ℕ → Bool
spells_from true cs = list_all continues_name cs
spells_from false cs = spells_name cs

-- nothing is left exactly where something was read
pub spells_from-nil : (started : Bool) → started ≡ spells_from started []
spells_from-nil true = refl
spells_from-nil false = refl

-- one character and the rest
spells_from-cons : (started : Bool) (c : ℕ) (cs : List ℕ) → spells_from started (c ∷ cs) ≡ ((if started then continues_name c else starts_name c) && spells_from true cs)
spells_from-cons true c cs = refl
spells_from-cons false c cs = refl

-- the next character is tested, and the rest goes on from it
pub spells_from-drop : (started : Bool) (cs : List ℕ) (n c : ℕ) → (n < length cs) × (c ≡ get_or cs n c) → spells_from started (drop n cs) ≡ ((if started then continues_name c else starts_name c) && spells_from true (drop (n + 1) cs))
spells_from-drop started cs n c next =
    at_drop_more (spells_from started) cs n c next.0
    ∙ spells_from-cons started (get_or cs n c) (drop (n + 1) cs)
    ∙ ap (λ x. (if started then continues_name x else starts_name x) && spells_from true (drop (n + 1) cs)) (sym next.1)
