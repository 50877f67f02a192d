-- One more call of a source or a sink after others.
use Rattle.std.proofs.Common.{◌≡◌, ℕ, ◌+◌, ◌≤◌, List, ◌++◌, length, take, drop, Option, Some, None, refl, sym, ap, ◌∙◌, append_assoc, length-append, arith}
use Rattle.std.proofs.lemmas.List.{length-take-le}
use Rattle.std.specs.Io.KnownBytes.{prepend_known, append_known}
use Rattle.std.proofs.Math.Seq.{take-add}
use Rattle.ipdl_top.specs.Transfers.{Gave, Took}

append_known-append : (known : Option (List ℕ)) (xs ys : List ℕ) → append_known (append_known known xs) ys ≡ append_known known (xs ++ ys)
append_known-append None xs ys = refl
append_known-append (Some bytes) xs ys = ap Some (append_assoc bytes xs ys)

prepend_known-append : (known : Option (List ℕ)) (xs ys : List ℕ) → prepend_known xs (prepend_known ys known) ≡ prepend_known (xs ++ ys) known
prepend_known-append None xs ys = refl
prepend_known-append (Some bytes) xs ys = ap Some (sym (append_assoc xs ys bytes))

-- what was given before, and then the front of a buffer
pub Gave-next : (first before after : Option (List ℕ)) (bytes into : List ℕ) (n : ℕ) → Gave first before bytes → n ≤ length into → before ≡ prepend_known (take n into) after → Gave first after (bytes ++ take n into) × (length (bytes ++ take n into) ≡ length bytes + n)
Gave-next first before after bytes into n given inside e = (
  given ∙ ap (prepend_known bytes) e ∙ prepend_known-append after bytes (take n into),
  omega (arith, length-append bytes (take n into), length-take-le n into inside),
)

-- what was taken before, and then one piece more of the text
pub Took-next : (first before after : Option (List ℕ)) (text : List ℕ) (done n : ℕ) → Took first before (take done text) → after ≡ append_known before (take n (drop done text)) → Took first after (take (done + n) text)
Took-next first before after text done n taken e =
    e
    ∙ ap (λ known. append_known known (take n (drop done text))) taken
    ∙ append_known-append first (take done text) (take n (drop done text))
    ∙ ap (append_known first) (sym (take-add done n text))
