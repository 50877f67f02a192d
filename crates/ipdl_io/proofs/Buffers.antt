-- Bytes at the front of a buffer.
use Rattle.std.proofs.Common.{◌≡◌, ℕ, ◌+◌, ◌≤◌, List, ◌++◌, length, take, drop, sym, ap, ◌∙◌, arith, length-append}
use Rattle.std.proofs.lemmas.List.{length-take-le, drop-drop, take-append-drop}
use Rattle.std.proofs.Math.Seq.{take-append_seam}

-- a list that is copied to the front of a buffer is what the buffer begins with
pub take-front : (front rest xs : List ℕ) (count : ℕ) → front ≡ take count xs → count ≤ length xs → take count (front ++ rest) ≡ take count xs
take-front front rest xs count copied within =
    let long : length front ≡ count = ap length copied ∙ length-take-le count xs within in
    ap (λ n. take n (front ++ rest)) (sym long) ∙ take-append_seam front rest ∙ copied

-- a buffer has as much as was copied to its front
pub length-front : (front rest xs : List ℕ) (count : ℕ) → front ≡ take count xs → count ≤ length xs → count ≤ length (front ++ rest)
length-front front rest xs count copied within =
    let long : length front ≡ count = ap length copied ∙ length-take-le count xs within in
    omega (arith, length-append front rest)

-- what is left is what comes next and then the rest
pub take-drop-drop : (xs : List ℕ) (given count : ℕ) → take count (drop given xs) ++ drop (given + count) xs ≡ drop given xs
take-drop-drop xs given count = rw (← drop-drop count given xs) (take-append-drop count (drop given xs))
