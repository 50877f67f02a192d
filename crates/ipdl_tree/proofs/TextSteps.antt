-- A text that is read character by character: one step, and the end.
use Rattle.std.proofs.Common.{◌≡◌, ℕ, ◌+◌, ◌<◌, ◌≤◌, List, ◌∷◌, ◌++◌, length, get_or, take, drop, take-add, Option, Some, None, Result, Ok, refl, sym, ap, ◌∙◌, subst, arith}
use Rattle.std.specs.Char.{len_utf8, encode_utf8}
use Rattle.std.specs.Str.{encode_utf8_all}
use Rattle.std.proofs.Math.Seq.{take-append_seam}
use Rattle.std.proofs.lemmas.List.{at_drop_more, length-drop, length-append}
use Rattle.std.proofs.lemmas.Str.{length-encode}
use Rattle.ipdl_tree.specs.declared.fault.TreeFault.{TreeFault}
use Rattle.ipdl_tree.specs.declared.fault.TreeFault.TheVariants.{Spell, Deep, Memory}
use Rattle.ipdl_tree.specs.Causes.{Cause}
use Rattle.ipdl_tree.specs.Reading.{Reading, refusal_of, after, unless, read_on, ◌>>=◌}
use Rattle.ipdl_tree.specs.Faults.{Fails}

-- the next character begins what is left
pub next_character : (text cs : List ℕ) (at n c : ℕ) → drop at text ≡ encode_utf8_all (drop n cs) → n < length cs → c ≡ get_or cs n c → drop at text ≡ encode_utf8 c ++ encode_utf8_all (drop (n + 1) cs)
next_character text cs at n c rest below here =
    rest ∙ at_drop_more encode_utf8_all cs n c below ∙ ap (λ x. encode_utf8 x ++ encode_utf8_all (drop (n + 1) cs)) (sym here)

-- the text before a character and the character
pub take-past_char : (text rest : List ℕ) (at c : ℕ) → drop at text ≡ encode_utf8 c ++ rest → take (at + len_utf8 c) text ≡ take at text ++ encode_utf8 c
take-past_char text rest at c e =
    let one : take (len_utf8 c) (encode_utf8 c ++ rest) ≡ encode_utf8 c = ap (λ k. take k (encode_utf8 c ++ rest)) (sym (length-encode c)) ∙ take-append_seam (encode_utf8 c) rest in
    take-add at (len_utf8 c) text ∙ ap (λ x. take at text ++ x) (ap (take (len_utf8 c)) e ∙ one)

-- the text goes on past the next character
pub within-past_char : (text rest : List ℕ) (at c : ℕ) → at ≤ length text → drop at text ≡ encode_utf8 c ++ rest → at + len_utf8 c ≤ length text
within-past_char text rest at c within e =
    omega (arith, length-drop at text, ap length e, length-append (encode_utf8 c) rest, length-encode c)

abbrev pub End : Type 0
End = Reading → ℕ → Result Reading (ℕ × Cause)

-- what is left is read from the state after the next character
pub read_on-step : (r q : Reading) (at : ℕ) (cs : List ℕ) (n c : ℕ) (at_end : End) → n < length cs → c ≡ get_or cs n c → unless (refusal_of r c) at (after r at c) ≡ Ok q → read_on refusal_of r at (drop n cs) at_end ≡ read_on refusal_of q (at + len_utf8 c) (drop (n + 1) cs) at_end
read_on-step r q at cs n c at_end below here step =
    at_drop_more (λ xs. read_on refusal_of r at xs at_end) cs n c below
    ∙ ap (λ x. read_on refusal_of r at (x ∷ drop (n + 1) cs) at_end) (sym here)
    ∙ ap (λ s. s >>= λ next. read_on refusal_of next (at + len_utf8 c) (drop (n + 1) cs) at_end) step

Fails-after : {A B : Type 0} (e : TreeFault) (r : Result A (ℕ × Cause)) (f : A → Result B (ℕ × Cause)) → Fails e r → Fails e (r >>= f)
Fails-after (Spell p cause) r f h = ap (λ s. s >>= f) h
Fails-after (Deep p) r f h = ap (λ s. s >>= f) h
Fails-after Memory r f h = tt

-- or it is refused there
pub Fails-step : (e : TreeFault) (r : Reading) (at : ℕ) (cs : List ℕ) (n c : ℕ) (at_end : End) → n < length cs → c ≡ get_or cs n c → Fails e (unless (refusal_of r c) at (after r at c)) → Fails e (read_on refusal_of r at (drop n cs) at_end)
Fails-step e r at cs n c at_end below here refused =
    let P : Result Reading (ℕ × Cause) → Type 0 = Fails e in
    let same = at_drop_more (λ xs. read_on refusal_of r at xs at_end) cs n c below ∙ ap (λ x. read_on refusal_of r at (x ∷ drop (n + 1) cs) at_end) (sym here) in
    subst P (sym same) (Fails-after e (unless (refusal_of r c) at (after r at c)) (λ next. read_on refusal_of next (at + len_utf8 c) (drop (n + 1) cs) at_end) refused)

-- a character that was taken was not refused
pub unless-Ok : (refusal : Option Cause) (at : ℕ) (r q : Reading) → unless refusal at r ≡ Ok q → (refusal ≡ None) × (r ≡ q)
unless-Ok None at r q e = (refl, cc)
unless-Ok (Some cause) at r q e = (cc, cc)
