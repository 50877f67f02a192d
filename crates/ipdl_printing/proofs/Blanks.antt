-- Texts with one blank before each, as a loop writes those that stand after a first one.
use Rattle.std.proofs.Common.{◌≡◌, ℕ, ◌-◌, ◌≤◌, List, [], ◌∷◌, ◌++◌, length, map, take, drop, get_or, sym, append-nil, append_assoc, arith}
use Rattle.std.proofs.lemmas.List.{take_all}
use Rattle.std.specs.Prelude.{codes}
use Rattle.std.specs.Fmt.{decimal}
use Rattle.ipdl_printing.specs.Texts.{spaced}

abbrev pub with_blanks : List (List ℕ) → List ℕ
with_blanks [] = []
with_blanks (text ∷ texts) = codes " " ++ text ++ with_blanks texts

pub spaced-cons : (text : List ℕ) (texts : List (List ℕ)) → spaced (text ∷ texts) ≡ text ++ with_blanks texts
spaced-cons text [] = sym (append-nil text)
spaced-cons text (next ∷ texts) = simp (spaced-cons next texts, append_assoc)

-- what is written is the first number
pub first_written : (numbers old written : List ℕ) → 1 ≤ length numbers → written ≡ old ++ decimal (get_or numbers 0 0) → written ++ with_blanks (map decimal (take (length numbers - 1) (drop 1 numbers))) ≡ old ++ spaced (map decimal numbers)
first_written [] old written some e = absurd (omega arith)
first_written (number ∷ numbers) old written some e =
    let rest = take_all (length (number ∷ numbers) - 1) numbers (omega arith) in
    simp (e, rest, spaced-cons (decimal number) (map decimal numbers), append_assoc)
