-- Texts that are put together piece by piece, and the worked one.
use Rattle.std.proofs.Common.{◌≡◌, ℕ, ◌-◌, ◌<◌, ◌≤◌, List, [], ◌∷◌, ◌++◌, length, map, take, drop, get_or, refl, ap, ap₂, ◌∙◌, append_assoc, arith}
use Rattle.std.proofs.lemmas.Fmt.{decimal_digit}
use Rattle.std.proofs.lemmas.List.{take_all}
use Rattle.std.specs.Prelude.{codes}
use Rattle.std.specs.Fmt.{decimal}
use Rattle.ipdl_embed.specs.Pairs.{Pairs}
use Rattle.ipdl_printing.proofs.Blanks.{with_blanks, spaced-cons}
use Rattle.ipdl_printing.specs.Texts.{line, spaced}
use Rattle.ipdl_sig.specs.declared.symbol.Symbol.{Symbol}
use Rattle.ipdl_term.specs.declared.protocol.Proto.{Proto}
use Rattle.ipdl_term.specs.Terms.{Channel, Protocol}
use Rattle.ipdl_term.specs.Views.{protocol_of}
use Rattle.ipdl_chain.specs.Chains.{Chain, neighbour_count, exact_count, assumed_count}
use Rattle.ipdl_chain.specs.ChainTexts.{pair_text, theorem_line, term_line, links_text, count_line, assumption_lines, chain_text, accepted_line}
use Rattle.ipdl_chain.specs.Views.{first_of}
use Rattle.ipdl_chain.specs.Worked.{worked_chain, worked_uses}
use Rattle.ipdl_chain.proofs.Counts.{neighbour_count-sum}

pub accepted_line-pieces : (theorems neighbours : ℕ) (s₀ s₁ s₂ s₃ s₄ s₅ : List ℕ) → s₁ ≡ s₀ ++ codes "accepted theorems " → s₂ ≡ s₁ ++ decimal theorems → s₃ ≡ s₂ ++ codes " neighbours " → s₄ ≡ s₃ ++ decimal neighbours → s₅ ≡ s₄ ++ codes "\n" → s₅ ≡ s₀ ++ accepted_line theorems neighbours
accepted_line-pieces theorems neighbours s₀ s₁ s₂ s₃ s₄ s₅ e₁ e₂ e₃ e₄ e₅ = e₅ ∙ rw (e₄, e₃, e₂, e₁) (simp append_assoc)

-- what is written is the first pair
pub first_pair_written : (pairs : Pairs) (first : Channel × Channel) (old written : List ℕ) → 1 ≤ length pairs → first ≡ get_or pairs 0 first → written ≡ old ++ pair_text first → written ++ with_blanks (map pair_text (take (length pairs - 1) (drop 1 pairs))) ≡ old ++ spaced (map pair_text pairs)
first_pair_written [] first old written some is e = absurd (omega arith)
first_pair_written (pair ∷ pairs) first old written some is e =
    let rest = take_all (length (pair ∷ pairs) - 1) pairs (omega arith) in
    let is_pair : first ≡ pair = is in
    rw (e, is_pair, rest, spaced-cons (pair_text pair) (map pair_text pairs)) (append_assoc old (pair_text pair) (with_blanks (map pair_text pairs)))

-- five pieces, one after the other
five_pieces : (s₀ a b c d e s₁ s₂ s₃ s₄ s₅ : List ℕ) → s₁ ≡ s₀ ++ a → s₂ ≡ s₁ ++ b → s₃ ≡ s₂ ++ c → s₄ ≡ s₃ ++ d → s₅ ≡ s₄ ++ e → s₅ ≡ s₀ ++ (a ++ b ++ c ++ d ++ e)
five_pieces s₀ a b c d e s₁ s₂ s₃ s₄ s₅ e₁ e₂ e₃ e₄ e₅ = e₅ ∙ rw (e₄, e₃, e₂, e₁) (simp append_assoc)

pub first_of-get_or : (terms : List Proto) (term : Proto) → 0 < length terms → term ≡ get_or terms 0 term → protocol_of term ≡ first_of terms
first_of-get_or [] term some is = absurd (omega arith)
first_of-get_or (first ∷ terms) term some is = ap protocol_of is

-- ---- marks: the words, and what comes after a blank each

pub rule_mark-pieces : (by direction name place s₀ s₁ s₂ : List ℕ) → s₁ ≡ s₀ ++ spaced (by ∷ direction ∷ name ∷ place ∷ []) → s₂ ≡ s₁ ++ codes "\n" → s₂ ≡ s₀ ++ line (spaced (by ∷ direction ∷ name ∷ place ∷ []))
rule_mark-pieces by direction name place s₀ s₁ s₂ e₁ e₂ = e₂ ∙ rw e₁ (simp append_assoc)

pub theorem_mark-pieces : (by direction name place renaming s₀ s₁ s₂ s₃ : List ℕ) → s₁ ≡ s₀ ++ spaced (by ∷ direction ∷ name ∷ place ∷ []) → s₂ ≡ s₁ ++ codes " " ++ renaming → s₃ ≡ s₂ ++ codes "\n" → s₃ ≡ s₀ ++ line (spaced (by ∷ direction ∷ name ∷ place ∷ renaming ∷ []))
theorem_mark-pieces by direction name place renaming s₀ s₁ s₂ s₃ e₁ e₂ e₃ = e₃ ∙ rw (e₂, e₁) (simp append_assoc)

pub assumption_mark-pieces : (by direction name place renaming context s₀ s₁ s₂ s₃ s₄ : List ℕ) → s₁ ≡ s₀ ++ spaced (by ∷ direction ∷ name ∷ place ∷ []) → s₂ ≡ s₁ ++ codes " " ++ renaming → s₃ ≡ s₂ ++ codes " " ++ context → s₄ ≡ s₃ ++ codes "\n" → s₄ ≡ s₀ ++ line (spaced (by ∷ direction ∷ name ∷ place ∷ renaming ∷ context ∷ []))
assumption_mark-pieces by direction name place renaming context s₀ s₁ s₂ s₃ s₄ e₁ e₂ e₃ e₄ = e₄ ∙ rw (e₃, e₂, e₁) (simp append_assoc)

-- ---- chains

-- the lines of a chain
pub chain_text-pieces : (symbols : List Symbol) (assumptions : List (List ℕ)) (theorem left right : List ℕ) (chain : Chain) (first : Protocol) (exact neighbours : ℕ) (s₀ s₁ s₂ s₃ s₄ s₅ : List ℕ) → first ≡ chain.first → exact ≡ exact_count chain.links → neighbours ≡ neighbour_count chain.links → s₁ ≡ s₀ ++ theorem_line theorem left right → s₂ ≡ s₁ ++ term_line symbols 0 first → s₃ ≡ s₂ ++ links_text symbols 1 chain.links → s₄ ≡ s₃ ++ count_line exact (neighbours - exact) → s₅ ≡ s₄ ++ assumption_lines assumptions chain.links → s₅ ≡ s₀ ++ chain_text symbols assumptions theorem left right chain
unfolding chain_text
chain_text-pieces symbols assumptions theorem left right chain first exact neighbours s₀ s₁ s₂ s₃ s₄ s₅ is_first is_exact is_neighbours e₁ e₂ e₃ e₄ e₅ =
    let links = chain.links in
    let is_assumed : neighbours - exact ≡ assumed_count links = omega (arith, neighbour_count-sum links) in
    five_pieces s₀ (theorem_line theorem left right) (term_line symbols 0 chain.first) (links_text symbols 1 links) (count_line (exact_count links) (assumed_count links)) (assumption_lines assumptions links) s₁ s₂ s₃ s₄ s₅
    e₁ (e₂ ∙ ap (λ p. s₁ ++ term_line symbols 0 p) is_first) e₃
    (e₄ ∙ ap₂ (λ m n. s₃ ++ count_line m n) is_exact is_assumed) e₅

pub worked_text : chain_text [] [] (codes "t") (codes "A") (codes "B") worked_chain ≡
    codes "theorem t A B\n0 (par (out a (ret #0)) (out b (ret #1)))\nby rule lr comm ()\n1 (par (out b (ret #1)) (out a (ret #0)))\nexact 1 assumed 0\n"
unfolding chain_text
worked_text = rw (decimal_digit 0 (omega arith), decimal_digit 1 (omega arith)) refl

pub worked_uses_text : chain_text [] (codes "other" ∷ codes "same" ∷ []) (codes "t") (codes "A") (codes "B") worked_uses ≡
    codes "theorem t A B\n0 (par (out a (ret #0)) (out b (ret #1)))\nby theorem lr swap () ((x a) (y b))\n1 (par (out b (ret #1)) (out a (ret #0)))\nby assume rl same (1) ((x a)) (par (out b (ret #1)) (hole))\n2 (par (out b (ret #1)) (out a (ret #1)))\nexact 1 assumed 1\nassume same 1\n"
unfolding chain_text
worked_uses_text = rw (decimal_digit 0 (omega arith), decimal_digit 1 (omega arith), decimal_digit 2 (omega arith)) refl
