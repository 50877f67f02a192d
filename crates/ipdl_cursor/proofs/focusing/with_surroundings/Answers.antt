use Rattle.std.proofs.Common.{◌≡◌, List, [], ◌∷◌, ◌++◌, refl, map, reverse, ap, sym, ◌∙◌}
use Rattle.std.proofs.lemmas.List.{reverse-append, map-append}
use Rattle.ipdl_term.specs.Surroundings.{condition_of}
use Rattle.ipdl_cursor.proofs.focusing.with_surroundings.Goals as goal

map-reverse : {A B : Type 0} (f : A → B) (xs : List A) → map f (reverse xs) ≡ reverse (map f xs)
map-reverse f [] = refl
map-reverse f (x ∷ xs) =
    ap (map f) (reverse-append (x ∷ []) xs)
    ∙ map-append f (reverse xs) (x ∷ [])
    ∙ ap (λ ys. ys ++ f x ∷ []) (map-reverse f xs)
    ∙ sym (reverse-append (f x ∷ []) (map f xs))

pub returns-clause-conditions : goal.returns-clause-conditions
returns-clause-conditions c =
    ap (map condition_of) (c.from_vec.ensures ∙ c.reverse.ensures.items)
    ∙ map-reverse condition_of c.in_ok-conditions.conditions.items
    ∙ ap reverse c.in_ok-conditions.ensures
