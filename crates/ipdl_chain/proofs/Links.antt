-- The links of a chain one after the other, and their texts.
use Rattle.std.proofs.Common.{◌≡◌, ℕ, zero, suc, ◌+◌, ◌<◌, List, [], ◌∷◌, ◌++◌, length, drop, get_or, refl, sym, ap, ap₂, subst, ◌∙◌, append_assoc, arith}
use Rattle.ipdl_sig.specs.declared.symbol.Symbol.{Symbol}
use Rattle.ipdl_term.specs.declared.protocol.Proto.{Proto}
use Rattle.ipdl_term.specs.Views.{protocol_of}
use Rattle.ipdl_chain.specs.Chains.{Link}
use Rattle.ipdl_chain.specs.ChainTexts.{mark_line, term_line, links_text}
use Rattle.ipdl_chain.specs.declared.chain.Mark.{Mark as HeldMark}
use Rattle.ipdl_chain.specs.Views.{mark_of, others_of, links_of}

pub links_text-append : (symbols : List Symbol) (number : ℕ) (links later : List Link) → links_text symbols number (links ++ later) ≡ links_text symbols number links ++ links_text symbols (number + length links) later
links_text-append symbols number [] later =
    let same : number ≡ number + 0 = omega arith in
    ap (λ n. links_text symbols n later) same
links_text-append symbols number (link ∷ links) later =
    let same : suc number + length links ≡ number + suc (length links) = omega arith in
    let here = mark_line symbols link.mark ++ term_line symbols number link.term in
    ap (λ text. here ++ text) (links_text-append symbols (suc number) links later)
    ∙ sym (append_assoc here (links_text symbols (suc number) links) (links_text symbols (suc number + length links) later))
    ∙ ap (λ n. (here ++ links_text symbols (suc number) links) ++ links_text symbols n later) same

-- the next link is of the next mark and the term after as many terms and one more
links_of-drop : (marks : List HeldMark) (terms : List Proto) (i : ℕ) (m : HeldMark) (t : Proto) → i < length marks → suc i < length terms → links_of (drop i marks) (others_of (drop i terms)) ≡ record { mark = mark_of (get_or marks i m); term = protocol_of (get_or terms (suc i) t) } ∷ links_of (drop (suc i) marks) (others_of (drop (suc i) terms))
links_of-drop [] terms i m t some enough = absurd (omega arith)
links_of-drop (mark ∷ marks) [] i m t some enough = absurd (omega arith)
links_of-drop (mark ∷ marks) (first ∷ []) i m t some enough = absurd (omega arith)
links_of-drop (mark ∷ marks) (first ∷ term ∷ terms) zero m t some enough = refl
links_of-drop (mark ∷ marks) (first ∷ term ∷ terms) (suc i) m t some enough =
    links_of-drop marks (term ∷ terms) i m t (omega arith) (omega arith)

links_written-suc : (symbols : List Symbol) (marks : List HeldMark) (terms : List Proto) (i : ℕ) (mark : HeldMark) (term : Proto) (whole s₁ s₂ s₃ : List ℕ) → i < length marks → suc i < length terms → mark ≡ get_or marks i mark → term ≡ get_or terms (suc i) term → s₁ ++ links_text symbols (suc i) (links_of (drop i marks) (others_of (drop i terms))) ≡ whole → s₂ ≡ s₁ ++ mark_line symbols (mark_of mark) → s₃ ≡ s₂ ++ term_line symbols (suc i) (protocol_of term) → s₃ ++ links_text symbols (suc (suc i)) (links_of (drop (suc i) marks) (others_of (drop (suc i) terms))) ≡ whole
links_written-suc symbols marks terms i mark term whole s₁ s₂ s₃ some enough at_mark at_term written e₂ e₃ =
    let rest = links_of (drop (suc i) marks) (others_of (drop (suc i) terms)) in
    let later = links_text symbols (suc (suc i)) rest in
    let first = mark_line symbols (mark_of mark) in
    let second = term_line symbols (suc i) (protocol_of term) in
    let link = λ (m : HeldMark) (t : Proto). let l : Link = record { mark = mark_of m; term = protocol_of t } in l in
    let here : links_of (drop i marks) (others_of (drop i terms)) ≡ link mark term ∷ rest =
    links_of-drop marks terms i mark term some enough ∙ ap₂ (λ m t. link m t ∷ rest) (sym at_mark) (sym at_term) in
    ap (λ s. s ++ later) (e₃ ∙ ap (λ s. s ++ second) e₂ ∙ append_assoc s₁ first second)
    ∙ append_assoc s₁ (first ++ second) later
    ∙ ap (λ ls. s₁ ++ links_text symbols (suc i) ls) (sym here)
    ∙ written

-- What is written, and the links to come, are the text. So it is once the next mark and term are written.
pub links_written : (symbols : List Symbol) (marks : List HeldMark) (terms : List Proto) (i next : ℕ) (mark : HeldMark) (term : Proto) (whole s₁ s₂ s₃ : List ℕ) → next ≡ suc i → i < length marks → next < length terms → mark ≡ get_or marks i mark → term ≡ get_or terms next term → s₁ ++ links_text symbols (suc i) (links_of (drop i marks) (others_of (drop i terms))) ≡ whole → s₂ ≡ s₁ ++ mark_line symbols (mark_of mark) → s₃ ≡ s₂ ++ term_line symbols next (protocol_of term) → s₃ ++ links_text symbols (suc next) (links_of (drop next marks) (others_of (drop next terms))) ≡ whole
links_written symbols marks terms i next mark term whole s₁ s₂ s₃ is_next some enough at_mark at_term written e₂ e₃ =
    subst (λ n. n < length terms → term ≡ get_or terms n term → s₃ ≡ s₂ ++ term_line symbols n (protocol_of term) → s₃ ++ links_text symbols (suc n) (links_of (drop n marks) (others_of (drop n terms))) ≡ whole) (sym is_next)
    (λ enough at_term e₃. links_written-suc symbols marks terms i mark term whole s₁ s₂ s₃ some enough at_mark at_term written e₂ e₃)
    enough at_term e₃
