-- The marks that are made one after the other, and the links that are made from the last one back.
use Rattle.std.proofs.Common.{◌≡◌, ℕ, zero, suc, ◌+◌, ◌<◌, List, [], ◌∷◌, ◌++◌, length, map, drop, get_or, refl, sym, ap, ap₂, ◌∙◌, subst, append_assoc, arith}
use Rattle.std.proofs.lemmas.Bool.{false≢true}
use Rattle.std.proofs.lemmas.List.{length-append, map_push}
use Rattle.std.specs.Borrow.{Bor}
use Rattle.ipdl_chain.specs.Chains.{Mark, Link, turned_mark}
use Rattle.ipdl_chain.specs.Views.{IsMarkWithin, mark_of, first_of, others_of, links_of}
use Rattle.ipdl_chain.specs.declared.chain.Mark.{Mark as HeldMark}
use Rattle.ipdl_chain.specs.declared.chain.Mark.TheVariants.{ByRule, ByTheorem, ByAssumption}
use Rattle.ipdl_term.specs.Views.{protocol_of, context_of}
use Rattle.ipdl_term.specs.Within.{IsContextWithin}
use Rattle.ipdl_term.specs.declared.protocol.Proto.{Proto}
use Rattle.ipdl_uses.specs.Adding.{lent_terms, terms_at, links_by, carried_marks, links_back}
use Rattle.ipdl_uses.specs.Uses.{Use, instance_of, instance_mark}

-- ---- the marks so far

carried-drop : (u : Use) (marks : List HeldMark) (terms : List Proto) (i : ℕ) (m : HeldMark) (t : Proto) → i < length marks → length terms ≡ suc (length marks) →
    carried_marks u (first_of (drop i terms)) (links_of (drop i marks) (others_of (drop i terms)))
    ≡ instance_mark u (protocol_of (get_or terms i t)) (mark_of (get_or marks i m)) ∷ carried_marks u (first_of (drop (suc i) terms)) (links_of (drop (suc i) marks) (others_of (drop (suc i) terms)))
carried-drop u [] terms i m t some paired = absurd (omega arith)
carried-drop u (mark ∷ marks) [] i m t some paired = absurd (omega arith)
carried-drop u (mark ∷ marks) (first ∷ []) i m t some paired = absurd (omega arith)
carried-drop u (mark ∷ marks) (first ∷ term ∷ terms) zero m t some paired = refl
carried-drop u (mark ∷ marks) (first ∷ term ∷ terms) (suc i) m t some paired =
    carried-drop u marks (term ∷ terms) i m t (omega arith) (omega arith)

-- a mark more is made
pub carried_step : (u : Use) (marks : List HeldMark) (terms : List Proto) (i next : ℕ) (mark new : HeldMark) (term : Proto) (made made' : List HeldMark) (all : List Mark) → next ≡ suc i → i < length marks → length terms ≡ suc (length marks) →
    mark ≡ get_or marks i mark → term ≡ get_or terms i term → mark_of new ≡ instance_mark u (protocol_of term) (mark_of mark) → made' ≡ made ++ new ∷ [] →
    map mark_of made ++ carried_marks u (first_of (drop i terms)) (links_of (drop i marks) (others_of (drop i terms))) ≡ all →
    map mark_of made' ++ carried_marks u (first_of (drop next terms)) (links_of (drop next marks) (others_of (drop next terms))) ≡ all
carried_step u marks terms i next mark new term made made' all is_next some paired at_mark at_term is pushed so_far =
    let later : ℕ → List Mark = λ n. carried_marks u (first_of (drop n terms)) (links_of (drop n marks) (others_of (drop n terms))) in
    let here : later i ≡ mark_of new ∷ later (suc i) =
    carried-drop u marks terms i mark term some paired
    ∙ ap₂ (λ t m. instance_mark u (protocol_of t) (mark_of m) ∷ later (suc i)) (sym at_term) (sym at_mark)
    ∙ ap (λ m. m ∷ later (suc i)) (sym is) in
    ap₂ (λ ms n. map mark_of ms ++ later n) pushed is_next
    ∙ ap (λ ms. ms ++ later (suc i)) (map_push mark_of made new)
    ∙ append_assoc (map mark_of made) (mark_of new ∷ []) (later (suc i))
    ∙ ap (λ ms. map mark_of made ++ ms) (sym here)
    ∙ so_far

-- ---- one link more, and one less

pub length-push : {X : Type 0} (xs ys : List X) (x : X) → xs ≡ ys ++ x ∷ [] → length xs ≡ length ys + 1
length-push xs ys x e = ap length e ∙ length-append ys (x ∷ [])

links_by-push : (u : Use) (marks : List HeldMark) (references : List (Bor Proto)) (mark : HeldMark) (reference : Bor Proto) → length references ≡ length marks →
    links_by (marks ++ mark ∷ []) (terms_at u (lent_terms (references ++ reference ∷ []))) ≡ links_by marks (terms_at u (lent_terms references)) ++ record { mark = mark_of mark; term = instance_of u (protocol_of reference.now) } ∷ []
links_by-push u [] [] mark reference same = refl
links_by-push u [] (r ∷ references) mark reference same = absurd (omega arith)
links_by-push u (m ∷ marks) [] mark reference same = absurd (omega arith)
links_by-push u (m ∷ marks) (r ∷ references) mark reference same =
    ap (λ links. record { mark = mark_of m; term = instance_of u (protocol_of r.now) } ∷ links) (links_by-push u marks references mark reference (omega arith))

links_back-push : (u : Use) (marks : List HeldMark) (references : List (Bor Proto)) (mark : HeldMark) (reference : Bor Proto) → length references ≡ length marks →
    links_back (marks ++ mark ∷ []) (terms_at u (lent_terms (references ++ reference ∷ []))) ≡ record { mark = turned_mark (mark_of mark); term = instance_of u (protocol_of reference.now) } ∷ links_back marks (terms_at u (lent_terms references))
links_back-push u [] [] mark reference same = refl
links_back-push u [] (r ∷ references) mark reference same = absurd (omega arith)
links_back-push u (m ∷ marks) [] mark reference same = absurd (omega arith)
links_back-push u (m ∷ marks) (r ∷ references) mark reference same =
    ap (λ links. links ++ record { mark = turned_mark (mark_of m); term = instance_of u (protocol_of r.now) } ∷ []) (links_back-push u marks references mark reference (omega arith))

-- a mark that is turned has the same context
pub within_turned : (symbols : ℕ) (mark turned : HeldMark) → mark_of turned ≡ turned_mark (mark_of mark) → IsMarkWithin symbols mark → IsMarkWithin symbols turned
within_turned symbols mark (ByRule dir word path) is within = tt
within_turned symbols mark (ByTheorem dir name path renaming) is within = tt
within_turned symbols (ByRule dir word path) (ByAssumption dir' name' path' renaming' ctx') is within = absurd (false≢true cc)
within_turned symbols (ByTheorem dir name path renaming) (ByAssumption dir' name' path' renaming' ctx') is within = absurd (false≢true cc)
within_turned symbols (ByAssumption dir name path renaming ctx) (ByAssumption dir' name' path' renaming' ctx') is within =
    let same : context_of ctx ≡ context_of ctx' = cc in subst (IsContextWithin symbols) same within

-- a mark and a term go from the ends of those that are left to the links so far
pub back_step : (u : Use) (marks rest turned turned' : List HeldMark) (uppers others lower lower' : List (Bor Proto)) (mark back : HeldMark) (upper : Bor Proto) (all : List Link) →
    marks ≡ rest ++ mark ∷ [] → uppers ≡ others ++ upper ∷ [] → turned' ≡ turned ++ back ∷ [] → lower' ≡ lower ++ upper ∷ [] → mark_of back ≡ turned_mark (mark_of mark) →
    length others ≡ length rest → length lower ≡ length turned →
    links_by turned (terms_at u (lent_terms lower)) ++ links_back marks (terms_at u (lent_terms uppers)) ≡ all →
    links_by turned' (terms_at u (lent_terms lower')) ++ links_back rest (terms_at u (lent_terms others)) ≡ all
back_step u marks rest turned turned' uppers others lower lower' mark back upper all m t b l is paired same so_far =
    let made = links_by turned (terms_at u (lent_terms lower)) in
    let left = links_back rest (terms_at u (lent_terms others)) in
    let term = instance_of u (protocol_of upper.now) in
    ap₂ (λ ms ts. links_by ms (terms_at u (lent_terms ts)) ++ left) b l
    ∙ ap (λ links. links ++ left) (links_by-push u turned lower back upper same)
    ∙ append_assoc made (record { mark = mark_of back; term = term } ∷ []) left
    ∙ ap (λ link_mark. made ++ record { mark = link_mark; term = term } ∷ left) is
    ∙ ap (λ links. made ++ links) (sym (ap₂ (λ ms ts. links_back ms (terms_at u (lent_terms ts))) m t ∙ links_back-push u rest others mark upper paired))
    ∙ so_far
