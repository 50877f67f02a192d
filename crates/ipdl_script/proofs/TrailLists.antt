-- Trails as lists: what further terms add, what is at the end, and the way back.
use Rattle.std.proofs.Common.{◌≡◌, ℕ, zero, suc, ◌+◌, List, [], ◌∷◌, ◌++◌, length, get_or, take, refl, sym, ap, ap₂, ◌∙◌, append_assoc, arith}
use Rattle.std.proofs.lemmas.List.{length-append}
use Rattle.ipdl_chain.specs.Chains.{Mark as MarkOf, Link, last_of, turned_links, turned_mark}
use Rattle.ipdl_chain.specs.Views.{mark_of, first_of, others_of, links_of}
use Rattle.ipdl_chain.specs.declared.chain.Mark.{Mark}
use Rattle.ipdl_script.specs.Trails.{back_links}
use Rattle.ipdl_term.specs.Terms.{Protocol}
use Rattle.ipdl_term.specs.Views.{protocol_of}
use Rattle.ipdl_term.specs.declared.protocol.Proto.{Proto}

-- ---- how many

pub length-links_of : (marks : List Mark) (terms : List Proto) → length (links_of marks terms) ≡ length marks
length-links_of [] terms = refl
length-links_of (m ∷ ms) terms = ap suc (length-links_of ms (others_of terms))

pub length-turned_links : (term : Protocol) (links : List Link) → length (turned_links term links) ≡ length links
length-turned_links term [] = refl
length-turned_links term (link ∷ links) =
    let inner = length-turned_links link.term links in
    let all = length-append (turned_links link.term links) (record { mark = turned_mark link.mark; term = term } ∷ []) in
    omega (arith, inner, all)

-- ---- further terms

abbrev pub link_of : Mark → Proto → Link
link_of mark term = record { mark = mark_of mark; term = protocol_of term }

links_of-append : (marks more : List Mark) (terms others : List Proto) → length terms ≡ length marks →
    links_of (marks ++ more) (terms ++ others) ≡ links_of marks terms ++ links_of more others
links_of-append [] more [] others h = refl
links_of-append [] more (t ∷ ts) others h = absurd (omega arith)
links_of-append (m ∷ ms) more [] others h = absurd (omega arith)
links_of-append (m ∷ ms) more (t ∷ ts) others h =
    let k : length ts ≡ length ms = omega arith in ap (λ links. link_of m t ∷ links) (links_of-append ms more ts others k)

pub trail_links-append : (marks more : List Mark) (terms others : List Proto) → length terms ≡ suc (length marks) →
    links_of (marks ++ more) (others_of (terms ++ others)) ≡ links_of marks (others_of terms) ++ links_of more others
trail_links-append marks more [] others h = absurd (omega arith)
trail_links-append marks more (t ∷ ts) others h = let k : length ts ≡ length marks = omega arith in links_of-append marks more ts others k

pub trail_first-append : (terms others : List Proto) (n : ℕ) → length terms ≡ suc n → first_of (terms ++ others) ≡ first_of terms
trail_first-append [] others n h = absurd (omega arith)
trail_first-append (t ∷ ts) others n h = refl

-- ---- the end

pub end_is : (marks : List Mark) (terms : List Proto) (k : ℕ) (d : Proto) → length terms ≡ suc (length marks) → k ≡ length marks →
    protocol_of (get_or terms k d) ≡ last_of (first_of terms) (links_of marks (others_of terms))
end_is [] [] k d h e = absurd (omega arith)
end_is [] (t ∷ []) zero d h e = refl
end_is [] (t ∷ []) (suc k) d h e = absurd (omega arith)
end_is [] (t ∷ u ∷ us) k d h e = absurd (omega arith)
end_is (m ∷ ms) [] k d h e = absurd (omega arith)
end_is (m ∷ ms) (t ∷ []) k d h e = absurd (omega arith)
end_is (m ∷ ms) (t ∷ u ∷ us) zero d h e = absurd (omega arith)
end_is (m ∷ ms) (t ∷ u ∷ us) (suc k) d h e =
    let paired : length (u ∷ us) ≡ suc (length ms) = omega arith in
    let at : k ≡ length ms = omega arith in end_is ms (u ∷ us) k d paired at

-- ---- the way back

pub back_links-turned : (marks : List Mark) (terms : List Proto) → turned_links (first_of terms) (links_of marks (others_of terms)) ≡ back_links marks terms
back_links-turned [] terms = refl
back_links-turned (m ∷ ms) terms =
    ap (λ links. links ++ record { mark = turned_mark (mark_of m); term = first_of terms } ∷ []) (back_links-turned ms (others_of terms))

-- the last one is not looked at
pub back_links-take : (marks : List Mark) (terms : List Proto) → back_links marks (take (length marks) terms) ≡ back_links marks terms
back_links-take [] terms = refl
back_links-take (m ∷ ms) [] = refl
back_links-take (m ∷ ms) (t ∷ ts) =
    ap (λ links. links ++ record { mark = turned_mark (mark_of m); term = protocol_of t } ∷ []) (back_links-take ms ts)

pub back_links-push : (marks : List Mark) (terms : List Proto) (mark : Mark) (term : Proto) → length terms ≡ length marks →
    back_links (marks ++ mark ∷ []) (terms ++ term ∷ []) ≡ record { mark = turned_mark (mark_of mark); term = protocol_of term } ∷ back_links marks terms
back_links-push [] [] mark term h = refl
back_links-push [] (t ∷ ts) mark term h = absurd (omega arith)
back_links-push (m ∷ ms) [] mark term h = absurd (omega arith)
back_links-push (m ∷ ms) (t ∷ ts) mark term h =
    let k : length ts ≡ length ms = omega arith in
    ap (λ links. links ++ record { mark = turned_mark (mark_of m); term = protocol_of t } ∷ []) (back_links-push ms ts mark term k)

pub length-push : {X : Type 0} (xs ys : List X) (x : X) → xs ≡ ys ++ x ∷ [] → length xs ≡ length ys + 1
length-push xs ys x e = ap length e ∙ length-append ys (x ∷ [])

-- a mark and a term go from the ends of those that are left to the new links
pub back_step : (old new all : List Link) (ms rest : List Mark) (ts others : List Proto) (mark : Mark) (term : Proto) (turned : MarkOf) →
    ms ≡ rest ++ mark ∷ [] → ts ≡ others ++ term ∷ [] → length others ≡ length rest → turned ≡ turned_mark (mark_of mark) →
    new ≡ old ++ record { mark = turned; term = protocol_of term } ∷ [] → old ++ back_links ms ts ≡ all → new ++ back_links rest others ≡ all
back_step old new all ms rest ts others mark term turned m t paired is pushed so_far =
    let back : back_links ms ts ≡ record { mark = turned_mark (mark_of mark); term = protocol_of term } ∷ back_links rest others =
    ap₂ back_links m t ∙ back_links-push rest others mark term paired in
    ap (λ links. links ++ back_links rest others) pushed
    ∙ append_assoc old (record { mark = turned; term = protocol_of term } ∷ []) (back_links rest others)
    ∙ ap (λ t. old ++ record { mark = t; term = protocol_of term } ∷ back_links rest others) is
    ∙ ap (λ links. old ++ links) (sym back)
    ∙ so_far
