-- What is seen of the chains of the program.
use Rattle.std.proofs.Common.{◌≡◌, suc, List, [], ◌∷◌, length, map, refl, ap, arith}
use Rattle.ipdl_term.specs.declared.protocol.Proto.{Proto}
use Rattle.ipdl_term.specs.Terms.{Protocol}
use Rattle.ipdl_term.specs.Views.{protocol_of}
use Rattle.ipdl_chain.specs.Chains.{Mark, Link, terms_of}
use Rattle.ipdl_chain.specs.declared.chain.Chain.{Chain as Held}
use Rattle.ipdl_chain.specs.declared.chain.Mark.{Mark as HeldMark}
use Rattle.ipdl_chain.specs.Views.{mark_of, first_of, others_of, links_of, chain_of, HasOneTermMore}

abbrev linked_terms : List Link → List Protocol
linked_terms = map (λ (link : Link). link.term)

abbrev linked_marks : List Link → List Mark
linked_marks = map (λ (link : Link). link.mark)

marks-links_of : (marks : List HeldMark) (terms : List Proto) → linked_marks (links_of marks terms) ≡ map mark_of marks
marks-links_of [] terms = refl
marks-links_of (mark ∷ marks) terms = ap (λ ms. mark_of mark ∷ ms) (marks-links_of marks (others_of terms))

terms-links_of : (marks : List HeldMark) (terms : List Proto) → length terms ≡ length marks → linked_terms (links_of marks terms) ≡ map protocol_of terms
terms-links_of [] [] same = refl
terms-links_of [] (term ∷ terms) same = absurd (omega arith)
terms-links_of (mark ∷ marks) [] same = absurd (omega arith)
terms-links_of (mark ∷ marks) (term ∷ terms) same =
    ap (λ ts. protocol_of term ∷ ts) (terms-links_of marks terms (omega arith))

all_terms : (marks : List HeldMark) (terms : List Proto) → length terms ≡ suc (length marks) → first_of terms ∷ linked_terms (links_of marks (others_of terms)) ≡ map protocol_of terms
all_terms marks [] more = absurd (omega arith)
all_terms marks (term ∷ terms) more =
    ap (λ ts. protocol_of term ∷ ts) (terms-links_of marks terms (omega arith))

pub seen_whole : (chain : Held) → HasOneTermMore chain → (terms_of (chain_of chain) ≡ map protocol_of chain.terms) × (map (λ (link : Link). link.mark) (chain_of chain).links ≡ map mark_of chain.marks)
seen_whole chain more = (all_terms chain.marks chain.terms more, marks-links_of chain.marks (others_of chain.terms))
