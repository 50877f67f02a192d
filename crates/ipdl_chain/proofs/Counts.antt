-- The counts of a chain, from its marks alone.
use Rattle.std.proofs.Common.{◌≡◌, ℕ, suc, ◌+◌, List, [], ◌∷◌, length, refl, sym, ap, ◌∙◌, arith}
use Rattle.std.proofs.lemmas.List.Sums.{sum_by-cons}
use Rattle.std.specs.List.{sum_by}
use Rattle.ipdl_term.specs.declared.protocol.Proto.{Proto}
use Rattle.ipdl_chain.specs.Chains.{Mark, by_rule, by_theorem, by_assumption, Link, neighbour_count, exact_in, assumed_in, count_in, exact_count, assumed_count, count_of}
use Rattle.ipdl_chain.specs.declared.chain.Mark.{Mark as HeldMark}
use Rattle.ipdl_chain.specs.Views.{mark_of, others_of, links_of}

-- each mark is exact or an assumption
one_each : (mark : Mark) → exact_in mark + assumed_in mark ≡ 1
one_each (by_rule direction word place) = refl
one_each (by_theorem direction name place pairs) = refl
one_each (by_assumption direction name place pairs C) = refl

pub neighbour_count-sum : (links : List Link) → neighbour_count links ≡ exact_count links + assumed_count links
neighbour_count-sum [] = refl
neighbour_count-sum (link ∷ links) = omega (arith, one_each link.mark, neighbour_count-sum links)

-- ---- the chains of the program

pub length-links_of : (marks : List HeldMark) (terms : List Proto) → length (links_of marks terms) ≡ length marks
length-links_of [] terms = refl
length-links_of (mark ∷ marks) terms = ap suc (length-links_of marks (others_of terms))

pub exact_count-links_of : (marks : List HeldMark) (terms : List Proto) → exact_count (links_of marks terms) ≡ sum_by (λ mark. exact_in (mark_of mark)) marks
exact_count-links_of [] terms = refl
exact_count-links_of (mark ∷ marks) terms =
    ap (λ n. exact_in (mark_of mark) + n) (exact_count-links_of marks (others_of terms))
    ∙ sym (sum_by-cons (λ m. exact_in (mark_of m)) mark marks)

pub count_of-links_of : (assumption : List ℕ) (marks : List HeldMark) (terms : List Proto) → count_of assumption (links_of marks terms) ≡ sum_by (λ mark. count_in assumption (mark_of mark)) marks
count_of-links_of assumption [] terms = refl
count_of-links_of assumption (mark ∷ marks) terms =
    ap (λ n. count_in assumption (mark_of mark) + n) (count_of-links_of assumption marks (others_of terms))
    ∙ sym (sum_by-cons (λ m. count_in assumption (mark_of m)) mark marks)
