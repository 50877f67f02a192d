-- How texts are put together: lines, words with one blank between two of them, and places.
use Rattle.std.specs.Prelude.{ℕ, List, [], ◌∷◌, ◌++◌, map, codes}
use Rattle.std.specs.Fmt.{decimal}

-- a text and the line feed that ends its line
abbrev pub line : List ℕ → List ℕ
line text = text ++ codes "\n"

-- texts with one blank between two neighbours
abbrev pub spaced : List (List ℕ) → List ℕ
spaced [] = []
spaced (text ∷ []) = text
spaced (text ∷ next ∷ texts) = text ++ codes " " ++ spaced (next ∷ texts)

abbrev pub in_parentheses : List (List ℕ) → List ℕ
in_parentheses parts = codes "(" ++ spaced parts ++ codes ")"

-- a place, as it is printed
abbrev pub place_text : List ℕ → List ℕ
place_text place = in_parentheses (map decimal place)
